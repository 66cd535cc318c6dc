-- Compared in the other order. Assumes nothing.
use Prim.Native.Nat.{ℕ, zero, suc, ◌+◌, ◌-◌, ◌*◌, ◌/◌, ◌%◌, max}
use mathlib.Core.Path.{◌≡◌, refl, sym, ap, ◌∙◌}
use mathlib.Core.Bool.{Bool, true, false}
use mathlib.Core.List.{List, [], ◌∷◌, ◌++◌, map, map-append}
use native.Mathlib.Omega.{arith}
use lib.ListN.{length, drop}
use lib.Dec.{ltb, eqb}
use borrow.Author.Tests.{eqb-true, eqb-false, eq-eqb, ne_eqb}
use Rattle.steps.specs.Choice.{pick}
use Rattle.steps.proofs.Choice.{pick_eq, pick_ne, never}
use Rattle.steps.specs.Items.{nth}
use Rattle.std.specs.Prelude.{Ok, Err}
use Rattle.workbook.specs.Check.{Checked, checked_of, on_checked}
use Rattle.value.specs.declared.CellValue.{CellValue}
use Rattle.reading.specs.Reading.{SheetReading, Reading, reading_of}
use Rattle.differences.specs.Differences.{same, shown, chars_of, Held, nothing, holds, held_at, Difference, none, name, only_first, only_second, unequal, alike, between, cells_in, cell_difference, names_between, name_difference, addresses, sheet_keys, difference_in, difference_at, words_of, words_from, keys_of, twice_in, differences}
use Rattle.compare.specs.declared.Side.TheVariants as side
use Rattle.compare.specs.Comparison.{Comparison, refuses, lists, comparison_of}
use Rattle.compare_claims.specs.Claims.{other_word, OtherOrder}

-- ---- the difference at one place
abbrev swap : Difference → Difference
swap none = none
swap name = name
swap only_first = only_second
swap only_second = only_first
swap unequal = unequal

swap_pick : (b : Bool) (x y : Difference) → swap (pick b x y) ≡ pick b (swap x) (swap y)
unfolding pick
swap_pick true x y = refl
swap_pick false x y = refl

eqb_other : (a b : ℕ) → eqb a b ≡ eqb b a
eqb_other a b = by (eqb a b) refl
  where
    by : (t : Bool) → eqb a b ≡ t → eqb a b ≡ eqb b a
    by true h = h ∙ sym (eq-eqb b a (sym (eqb-true a b h)))
    by false h = h ∙ sym (ne_eqb b a (λ e. eqb-false a b h (sym e)))

same_other : (l m : List ℕ) → same l m ≡ same m l
unfolding same
same_other [] [] = refl
same_other [] (y ∷ m) = refl
same_other (x ∷ l) [] = refl
same_other (x ∷ l) (y ∷ m) = let e = eqb_other x y in let i = same_other l m in λ k. pick (e k) (i k) false

alike_other : (p : List (List ℕ)) (v : CellValue) (us : List ℕ) (q : List (List ℕ)) (w : CellValue) (vs : List ℕ) → alike q w vs p v us ≡ alike p v us q w vs
unfolding alike
alike_other p v us q w vs = let e = same_other (shown q w) (shown p v) in let i = same_other vs us in λ k. pick (e k) (i k) false

between_other : (p q : List (List ℕ)) (h g : Held) → between q p g h ≡ swap (between p q h g)
between_other p q nothing nothing = refl
between_other p q (holds v us) nothing = refl
between_other p q nothing (holds w vs) = refl
between_other p q (holds v us) (holds w vs) = ap (λ (b : Bool). pick b none unequal) (alike_other p v us q w vs) ∙ sym (swap_pick (alike p v us q w vs) none unequal)

-- what f says of the first of a list
abbrev firstly : {A B : Type 0} → (A → B) → B → List A → B
firstly f d [] = d
firstly f d (x ∷ l) = f x

nth_drop : {A B : Type 0} (f : A → B) (d : B) (l : List A) (n : ℕ) → nth l n f d ≡ firstly f d (drop n l)
unfolding nth
nth_drop f d [] zero = refl
nth_drop f d [] (suc n) = refl
nth_drop f d (x ∷ l) zero = refl
nth_drop f d (x ∷ l) (suc n) = nth_drop f d l n

names_other : (p q : SheetReading) → names_between q p ≡ swap (names_between p q)
names_other p q =
    ap (λ (b : Bool). pick b none name) (same_other (chars_of q.name q.width) (chars_of p.name p.width))
    ∙ sym (swap_pick (same (chars_of p.name p.width) (chars_of q.name q.width)) none name)

firsts_other : (l m : List SheetReading) → firstly (λ (q : SheetReading). firstly (λ (p : SheetReading). names_between q p) none l) none m ≡ swap (firstly (λ (p : SheetReading). firstly (λ (q : SheetReading). names_between p q) none m) none l)
firsts_other [] [] = refl
firsts_other [] (q ∷ m) = refl
firsts_other (p ∷ l) [] = refl
firsts_other (p ∷ l) (q ∷ m) = names_other p q

module _ (x y : Reading) where
  name_firsts : (x y : Reading) (n : ℕ) → name_difference x y n ≡ firstly (λ (p : SheetReading). firstly (λ (q : SheetReading). names_between p q) none (drop n y.sheets)) none (drop n x.sheets)
  unfolding name_difference
  name_firsts x y n =
      nth_drop (λ (p : SheetReading). nth y.sheets n (λ (q : SheetReading). names_between p q) none) none x.sheets n
      ∙ ap (λ (f : SheetReading → Difference). firstly f none (drop n x.sheets)) (λ i p. nth_drop (λ (q : SheetReading). names_between p q) none y.sheets n i)

  in_other : (n k : ℕ) → difference_in y x n k ≡ swap (difference_in x y n k)
  unfolding difference_in cell_difference
  in_other n k =
      let e = name_firsts y x n ∙ firsts_other (drop n x.sheets) (drop n y.sheets) ∙ ap swap (sym (name_firsts x y n)) in
      let i = between_other x.strings y.strings (held_at (k - addresses) (cells_in x n)) (held_at (k - addresses) (cells_in y n)) in
      (λ j. pick (eqb k 0) (e j) (pick (ltb k addresses) none (i j)))
      ∙ ap (pick (eqb k 0) (swap (name_difference x y n))) (sym (swap_pick (ltb k addresses) none (cell_difference x y n (k - addresses))))
      ∙ sym (swap_pick (eqb k 0) (name_difference x y n) (pick (ltb k addresses) none (cell_difference x y n (k - addresses))))

-- ---- the words
word_other : (k : ℕ) (d : Difference) → words_of k (swap d) ≡ map other_word (words_of k d)
unfolding other_word
word_other k none = refl
word_other k name = ap (λ (w : ℕ). w ∷ []) (pick_ne _ _ _ (k * 4 % 4) 1 (λ e. omega arith) (pick_ne _ _ _ (k * 4 % 4) 2 (λ e. omega arith) refl))
word_other k only_first = ap (λ (w : ℕ). w ∷ []) (pick_eq _ _ _ ((k * 4 + 1) % 4) 1 (omega arith) (omega arith))
word_other k only_second = ap (λ (w : ℕ). w ∷ []) (pick_ne _ _ _ ((k * 4 + 2) % 4) 1 (λ e. omega arith) (pick_eq _ _ _ ((k * 4 + 2) % 4) 2 (omega arith) (omega arith)))
word_other k unequal = ap (λ (w : ℕ). w ∷ []) (pick_ne _ _ _ ((k * 4 + 3) % 4) 1 (λ e. omega arith) (pick_ne _ _ _ ((k * 4 + 3) % 4) 2 (λ e. omega arith) refl))

words_other : (d e : ℕ → Difference) (n k : ℕ) → ((j : ℕ) → e j ≡ swap (d j)) → words_from e k n ≡ map other_word (words_from d k n)
unfolding words_from
words_other d e zero k h = refl
words_other d e (suc n) k h =
    (let i = ap (words_of k) (h k) ∙ word_other k (d k) in let j = words_other d e n (k + 1) h in λ z. i z ++ j z)
    ∙ sym (map-append other_word (words_of k (d k)) (words_from d (k + 1) n))

differences_other : (x y : Reading) (from : ℕ) → differences y x from ≡ map other_word (differences x y from)
unfolding differences difference_at keys_of
differences_other x y from =
    let e : max (length y.sheets) (length x.sheets) ≡ max (length x.sheets) (length y.sheets) = omega arith in
    ap (λ (n : ℕ). words_from (difference_at y x) from (n * sheet_keys - from)) e
    ∙ words_other (difference_at x y) (difference_at y x) (max (length x.sheets) (length y.sheets) * sheet_keys - from) from (λ j. in_other x y (j / sheet_keys) (j % sheet_keys))

-- ---- the whole
abbrev judged : List ℕ → List ℕ → ℕ → Bool → Bool → Comparison
judged s t from x y = pick x (refuses side.First 16 0) (pick y (refuses side.Second 16 0) (lists (differences (reading_of s 0) (reading_of t 0) from)))

module _ (s t : List ℕ) (from : ℕ) (l : List ℕ) where
  by_twice : (x y : Bool) → judged s t from x y ≡ lists l → judged t s from y x ≡ lists (map other_word l)
  unfolding pick
  by_twice true y h = never (cc)
  by_twice false true h = never (cc)
  by_twice false false h = let e : differences (reading_of s 0) (reading_of t 0) from ≡ l = cc in ap lists (differences_other (reading_of s 0) (reading_of t 0) from ∙ ap (map other_word) e)

  by_checks : (x y : Bool) (a b : Checked) → on_checked (refuses side.First) (λ _. on_checked (refuses side.Second) (λ _. judged s t from x y) b) a ≡ lists l
      → on_checked (refuses side.First) (λ _. on_checked (refuses side.Second) (λ _. judged t s from y x) a) b ≡ lists (map other_word l)
  by_checks x y (Ok g) (Ok h) e = by_twice x y e
  by_checks x y (Ok g) (Err r) e = never (cc)
  by_checks x y (Err r) b e = never (cc)

pub other_order : OtherOrder
unfolding comparison_of
other_order s t from l h = by_checks s t from l (twice_in (reading_of s 0).sheets) (twice_in (reading_of t 0).sheets) (checked_of s 0) (checked_of t 0) h
