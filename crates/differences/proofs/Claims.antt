-- What holds of every list of differences. Assumes nothing.
use Prim.Native.Nat.{ℕ, zero, suc, ◌+◌, ◌-◌, ◌*◌, ◌/◌, ◌%◌, ◌≤◌, ◌<◌}
use mathlib.Core.Path.{◌≡◌, refl, sym, ap, ◌∙◌, subst}
use mathlib.Core.Logic.{◌⊎◌, inl, inr}
use mathlib.Core.Bool.{Bool, true, false}
use mathlib.Core.List.{List, [], ◌∷◌, ◌++◌}
use native.Mathlib.Omega.{arith}
use lib.Dec.{ltb, eqb}
use borrow.Author.Tests.{ltb-true, ltb-false, eqb-true, eqb-false}
use Rattle.steps.proofs.Choice.{pick_true, pick_ne, pick_any}
use Rattle.steps.specs.Items.{nth}
use Rattle.value.specs.declared.FormulaResult.TheVariants as result
use Rattle.value.specs.declared.CellValue.{CellValue}
use Rattle.value.specs.declared.CellValue.TheVariants as value
use Rattle.reading.specs.Reading.{SheetReading, Reading}
use Rattle.differences.specs.Differences.{same, shown, alike, Held, nothing, holds, held_at, Difference, none, name, only_first, only_second, unequal, between, cells_in, cell_difference, chars_of, names_between, name_difference, sheet_keys, addresses, name_key, cell_key, difference_in, difference_at, words_of, words_from, keys_of, differences}
use Rattle.differences.specs.Claims.{Among, AscendFrom, Ascending, NothingElse, AllTold, Exactly, CellsListed, NamesListed, SameNothing, SameShown, Plain, FormulasApart, AddressesApart}
use Rattle.differences.proofs.Laws.{words_none, at_name, at_cell, at_past, same_refl, same_eq}

-- ---- among
among_left : (w : ℕ) (l m : List ℕ) → Among w l → Among w (l ++ m)
among_left w [] m h = absurd h
among_left w (x ∷ l) m (inl e) = inl e
among_left w (x ∷ l) m (inr h) = inr (among_left w l m h)

among_right : (w : ℕ) (l m : List ℕ) → Among w m → Among w (l ++ m)
among_right w [] m h = h
among_right w (x ∷ l) m h = inr (among_right w l m h)

among_either : (w : ℕ) (l m : List ℕ) → Among w (l ++ m) → Among w l ⊎ Among w m
among_either w [] m h = inr h
among_either w (x ∷ l) m (inl e) = inl (inl e)
among_either w (x ∷ l) m (inr h) = by (among_either w l m h)
  where
    by : Among w l ⊎ Among w m → ((w ≡ x) ⊎ Among w l) ⊎ Among w m
    by (inl i) = inl (inr i)
    by (inr i) = inr i

-- ---- ascending
ascend_low : (j k : ℕ) (l : List ℕ) → j ≤ k → AscendFrom k l → AscendFrom j l
ascend_low j k [] h a = tt
ascend_low j k (w ∷ l) h a = (omega arith, a.1)

ascend_words : (k : ℕ) (d : Difference) (l : List ℕ) → AscendFrom (k + 1) l → AscendFrom k (words_of k d ++ l)
ascend_words k none l h = ascend_low k (k + 1) l (omega arith) h
ascend_words k name l h = (omega arith, ascend_low (k * 4 / 4 + 1) (k + 1) l (omega arith) h)
ascend_words k only_first l h = (omega arith, ascend_low ((k * 4 + 1) / 4 + 1) (k + 1) l (omega arith) h)
ascend_words k only_second l h = (omega arith, ascend_low ((k * 4 + 2) / 4 + 1) (k + 1) l (omega arith) h)
ascend_words k unequal l h = (omega arith, ascend_low ((k * 4 + 3) / 4 + 1) (k + 1) l (omega arith) h)

ascends : (d : ℕ → Difference) (n k : ℕ) → AscendFrom k (words_from d k n)
unfolding words_from
ascends d zero k = tt
ascends d (suc n) k = ascend_words k (d k) (words_from d (k + 1) n) (ascends d n (k + 1))

pub ascending : Ascending
unfolding differences
ascending x y from = ascends (difference_at x y) (keys_of x y - from) from

-- ---- nothing else, and all
pub record At (d : ℕ → Difference) (k n w : ℕ) : Type 0 where
  pub key : ℕ
  pub low : k ≤ key
  pub high : key < k + n
  pub word : Among w (words_of key (d key))

at_next : (d : ℕ → Difference) (n k w : ℕ) → At d (k + 1) n w → At d k (suc n) w
at_next d n k w t = record { key = t.key; low = let a = t.low in omega arith; high = let a = t.high in omega arith; word = t.word }

told_either : (d : ℕ → Difference) (n k w : ℕ) → (Among w (words_from d (k + 1) n) → At d (k + 1) n w) → Among w (words_of k (d k)) ⊎ Among w (words_from d (k + 1) n) → At d k (suc n) w
told_either d n k w f (inl i) = record { key = k; low = omega arith; high = omega arith; word = i }
told_either d n k w f (inr i) = at_next d n k w (f i)

told_by : (d : ℕ → Difference) (n k w : ℕ) → Among w (words_from d k n) → At d k n w
unfolding words_from
told_by d zero k w h = absurd h
told_by d (suc n) k w h = told_either d n k w (told_by d n (k + 1) w) (among_either w (words_of k (d k)) (words_from d (k + 1) n) h)

all_either : (d : ℕ → Difference) (n k w j : ℕ) → k ≤ j → Among w (words_of j (d j)) → (k + 1 ≤ j → Among w (words_from d (k + 1) n)) → (b : Bool) → eqb k j ≡ b → Among w (words_of k (d k) ++ words_from d (k + 1) n)
all_either d n k w j l h f true i = let e : j ≡ k = omega (arith, eqb-true k j i) in among_left w (words_of k (d k)) (words_from d (k + 1) n) (subst (λ (z : ℕ). Among w (words_of z (d z))) e h)
all_either d n k w j l h f false i = let o = eqb-false k j i in among_right w (words_of k (d k)) (words_from d (k + 1) n) (f (omega arith))

all_by : (d : ℕ → Difference) (n k w j : ℕ) → k ≤ j → j < k + n → Among w (words_of j (d j)) → Among w (words_from d k n)
unfolding words_from
all_by d zero k w j l m h = absurd (omega arith)
all_by d (suc n) k w j l m h = all_either d n k w j l h (λ o. all_by d n (k + 1) w j o (omega arith) h) (eqb k j) refl

pub nothing_else : NothingElse
unfolding differences
nothing_else x y from w h = let t = told_by (difference_at x y) (keys_of x y - from) from w h in record { key = t.key; onward = t.low; word = t.word }

pub all_told : AllTold
unfolding differences
all_told x y from w t = by (ltb t.key (keys_of x y)) refl
  where
    by : (b : Bool) → ltb t.key (keys_of x y) ≡ b → Among w (words_from (difference_at x y) from (keys_of x y - from))
    by true i =
        let l = ltb-true t.key (keys_of x y) i in
        let o = t.onward in
        all_by (difference_at x y) (keys_of x y - from) from w t.key o (omega arith) t.word
    by false i = absurd (subst (λ (d : Difference). Among w (words_of t.key d)) (at_past x y t.key (ltb-false t.key (keys_of x y) i)) t.word)

-- ---- a word tells its key and its kind
kind_name : (j k : ℕ) (d : Difference) → Among (j * 4) (words_of k d) → (k ≡ j) × (d ≡ name)
kind_name j k none h = absurd h
kind_name j k name (inl e) = (omega arith, refl)
kind_name j k only_first (inl e) = absurd (omega arith)
kind_name j k only_second (inl e) = absurd (omega arith)
kind_name j k unequal (inl e) = absurd (omega arith)
kind_name j k name (inr x') = elim x' [ ]
kind_name j k only_first (inr x'') = elim x'' [ ]
kind_name j k only_second (inr x3) = elim x3 [ ]
kind_name j k unequal (inr x4) = elim x4 [ ]

kind_first : (j k : ℕ) (d : Difference) → Among (j * 4 + 1) (words_of k d) → (k ≡ j) × (d ≡ only_first)
kind_first j k none h = absurd h
kind_first j k name (inl e) = absurd (omega arith)
kind_first j k only_first (inl e) = (omega arith, refl)
kind_first j k only_second (inl e) = absurd (omega arith)
kind_first j k unequal (inl e) = absurd (omega arith)
kind_first j k name (inr x') = elim x' [ ]
kind_first j k only_first (inr x'') = elim x'' [ ]
kind_first j k only_second (inr x3) = elim x3 [ ]
kind_first j k unequal (inr x4) = elim x4 [ ]

kind_second : (j k : ℕ) (d : Difference) → Among (j * 4 + 2) (words_of k d) → (k ≡ j) × (d ≡ only_second)
kind_second j k none h = absurd h
kind_second j k name (inl e) = absurd (omega arith)
kind_second j k only_first (inl e) = absurd (omega arith)
kind_second j k only_second (inl e) = (omega arith, refl)
kind_second j k unequal (inl e) = absurd (omega arith)
kind_second j k name (inr x') = elim x' [ ]
kind_second j k only_first (inr x'') = elim x'' [ ]
kind_second j k only_second (inr x3) = elim x3 [ ]
kind_second j k unequal (inr x4) = elim x4 [ ]

kind_unequal : (j k : ℕ) (d : Difference) → Among (j * 4 + 3) (words_of k d) → (k ≡ j) × (d ≡ unequal)
kind_unequal j k none h = absurd h
kind_unequal j k name (inl e) = absurd (omega arith)
kind_unequal j k only_first (inl e) = absurd (omega arith)
kind_unequal j k only_second (inl e) = absurd (omega arith)
kind_unequal j k unequal (inl e) = (omega arith, refl)
kind_unequal j k name (inr x') = elim x' [ ]
kind_unequal j k only_first (inr x'') = elim x'' [ ]
kind_unequal j k only_second (inr x3) = elim x3 [ ]
kind_unequal j k unequal (inr x4) = elim x4 [ ]

-- a difference that only w tells is listed exactly when it is there
exactly : (x y : Reading) (k w : ℕ) (d : Difference) → Among w (words_of k d) → ((j : ℕ) (e : Difference) → Among w (words_of j e) → (j ≡ k) × (e ≡ d)) → Exactly (difference_at x y k ≡ d) (Among w (differences x y 0))
exactly x y k w d h only = record {
  to = λ i. all_told x y 0 w (record { key = k; onward = omega arith; word = subst (λ (z : Difference). Among w (words_of k z)) (sym i) h });
  back = λ i. let t = nothing_else x y 0 w i in let o = only t.key (difference_at x y t.key) t.word in ap (difference_at x y) (sym o.0) ∙ o.1;
}

exactly_by : {B : Type 0} (x : Difference) (y d : Difference) → x ≡ y → Exactly (x ≡ d) B → Exactly (y ≡ d) B
exactly_by x y d e h = record { to = λ i. h.to (e ∙ i); back = λ i. sym e ∙ h.back i }

pub cells_listed : CellsListed
cells_listed x y n a l = (
  exactly_by _ _ only_first (at_cell x y n a l) (exactly x y (cell_key n a) (cell_key n a * 4 + 1) only_first (inl refl) (λ j e i. kind_first (cell_key n a) j e i)),
  exactly_by _ _ only_second (at_cell x y n a l) (exactly x y (cell_key n a) (cell_key n a * 4 + 2) only_second (inl refl) (λ j e i. kind_second (cell_key n a) j e i)),
  exactly_by _ _ unequal (at_cell x y n a l) (exactly x y (cell_key n a) (cell_key n a * 4 + 3) unequal (inl refl) (λ j e i. kind_unequal (cell_key n a) j e i)),
)

pub names_listed : NamesListed
names_listed x y n = exactly_by _ _ name (at_name x y n) (exactly x y (name_key n) (name_key n * 4) name (inl refl) (λ j e i. kind_name (name_key n) j e i))

-- ---- a reading compared with itself
alike_same : (p : List (List ℕ)) (v : CellValue) (us : List ℕ) → alike p v us p v us ≡ true
unfolding alike
alike_same p v us = sym (pick_true true _ false (same (shown p v) (shown p v)) (same_refl (shown p v)) (sym (same_refl us)))

between_same : (p : List (List ℕ)) (h : Held) → between p p h h ≡ none
between_same p nothing = refl
between_same p (holds v us) = sym (pick_true none none unequal (alike p v us p v us) (alike_same p v us) refl)

names_same : (l : List SheetReading) (n : ℕ) → nth l n (λ (p : SheetReading). nth l n (λ (q : SheetReading). names_between p q) none) none ≡ none
unfolding nth
names_same l n = by l n
  where
    by : (m : List SheetReading) (k : ℕ) → nth m k (λ (p : SheetReading). nth m k (λ (q : SheetReading). names_between p q) none) none ≡ none
    by [] k = refl
    by (x ∷ m) zero = sym (pick_true none none name (same (chars_of x.name x.width) (chars_of x.name x.width)) (same_refl (chars_of x.name x.width)) refl)
    by (x ∷ m) (suc k) = by m k

in_same : (x : Reading) (n k : ℕ) → difference_in x x n k ≡ none
unfolding difference_in cell_difference name_difference
in_same x n k =
    pick_any (λ (d : Difference). d ≡ none) _ (names_same x.sheets n)
    (pick_any (λ (d : Difference). d ≡ none) _ refl (between_same x.strings (held_at (k - addresses) (cells_in x n))))

pub same_nothing : SameNothing
unfolding differences difference_at
same_nothing x from = words_none (difference_at x x) (keys_of x x - from) from (λ j l m. in_same x (j / sheet_keys) (j % sheet_keys))

-- ---- values
pub same_shown : SameShown
same_shown l m = record { to = same_eq l m; back = λ e. subst (λ (z : List ℕ). same l z ≡ true) e (same_refl l) }

kinds_apart : (a b : ℕ) (l m : List ℕ) → (a ≡ b → ⊥) → same (a ∷ l) (b ∷ m) ≡ false
unfolding same
kinds_apart a b l m h = sym (pick_ne false _ false a b h refl)

apart : (a : ℕ) (l : List ℕ) (q : List (List ℕ)) (v : CellValue) → 5 ≤ a → Plain v → same (a ∷ l) (shown q v) ≡ false
apart a l q value.Blank h p = kinds_apart a 0 l _ (λ i. omega arith)
apart a l q (value.Number x) h p = kinds_apart a 1 l _ (λ i. omega arith)
apart a l q (value.NotNumber b) h p = kinds_apart a 1 l _ (λ i. omega arith)
apart a l q (value.Text j) h p = kinds_apart a 2 l _ (λ i. omega arith)
apart a l q (value.Truth t) h p = kinds_apart a 3 l _ (λ i. omega arith)
apart a l q (value.Error e) h p = kinds_apart a 4 l _ (λ i. omega arith)
apart a l q (value.Formula r) h p = absurd p

pub formulas_apart : FormulasApart
formulas_apart p q (result.Number x) v h = apart 5 _ q v (omega arith) h
formulas_apart p q (result.NotNumber b) v h = apart 5 _ q v (omega arith) h
formulas_apart p q result.Text v h = apart 6 _ q v (omega arith) h
formulas_apart p q (result.Truth t) v h = apart 7 _ q v (omega arith) h
formulas_apart p q (result.Error e) v h = apart 8 _ q v (omega arith) h
formulas_apart p q result.Empty v h = apart 9 _ q v (omega arith) h

pub addresses_apart : AddressesApart
addresses_apart c d i j e = (omega arith, omega arith)
