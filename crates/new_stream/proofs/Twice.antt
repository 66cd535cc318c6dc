-- Doing it twice changes nothing. Assumes nothing.
use Prim.Native.Nat.{ℕ, zero, suc, ◌+◌, ◌^◌, ◌≤◌, ◌<◌}
use mathlib.Core.Path.{◌≡◌, refl, sym, ap, ap₂, ◌∙◌}
use mathlib.Core.List.{List, [], ◌∷◌, ◌++◌, map, append-nil, append_assoc}
use mathlib.Core.Bool.{Bool, true, false, ◌||◌}
use mathlib.Core.Logic.{◌⊎◌, inl, inr}
use native.Mathlib.Omega.{arith}
use lib.ListN.{length, take, drop, take-append-drop, length-append, length-map}
use lib.Seq.{sets, sets-eq, length-sets, length-take-le, take_at, drop_at, drop-drop}
use lib.Dec.{ltb, eqb}
use borrow.Author.Tests.{eqb-true, eqb-false, eq-eqb}
use Rattle.steps.specs.Choice.{pick}
use Rattle.steps.proofs.Choice.{pick_by, pick_lt, pick_nlt}
use Rattle.steps.proofs.Bools.{or_cases, or_left, or_right}
use Rattle.byte_numbers.specs.Bytes.{u32_at, bytes_at, bytes_of}
use Rattle.byte_numbers.proofs.Laws.{length_bytes}
use Rattle.new_stream.specs.declared.Fate.{Fate}
use Rattle.new_stream.specs.declared.Entry.{Entry}
use Rattle.new_stream.specs.declared.Fate.TheVariants.{Stays, Goes, Table, Text, Sheet}
use Rattle.new_stream.specs.Entries.{entries_of}
use Rattle.new_stream.specs.Compact.{written, new_size, place_in, texts_in, uses, used_below, index_in, compact_with}
use Rattle.globals.specs.declared.Globals.{Globals}
use Rattle.workbook.specs.Check.{Right, checked_of}
use Rattle.new_stream.specs.Parts.{Given, given_of}
use Rattle.new_stream.proofs.Echoed.{Echoes, none, rest, gone, part, kept, label, bound, tabled}
use Rattle.new_stream.specs.Claims.{used_of, TableOf, CompactTwice, CountsAgain}
use Rattle.new_stream.proofs.Check.{echoed}
use Rattle.new_stream.proofs.Places.{index_none, index_some}

-- ---- storing the same again
sets_twice : (a v : List ℕ) (i : ℕ) → i + length v ≤ length a → sets (sets a i v) i v ≡ sets a i v
sets_twice a v i h =
    let first : length (take i a) ≡ i = length-take-le i a (omega arith) in
    let x-is : sets a i v ≡ take i a ++ v ++ drop (i + length v) a = sets-eq v a i h in
    let low : i + length v ≤ length (sets a i v) = let l = length-sets a i v in omega arith in
    let both : length (take i a ++ v) ≡ i + length v = length-append (take i a) v ∙ ap (λ (k : ℕ). k + length v) first in
    let before : take i (sets a i v) ≡ take i a = ap (take i) (x-is ∙ append_assoc (take i a) v (drop (i + length v) a)) ∙ take_at (take i a) (v ++ drop (i + length v) a) i first in
    let after : drop (i + length v) (sets a i v) ≡ drop (i + length v) a = ap (drop (i + length v)) x-is ∙ drop_at (take i a ++ v) (drop (i + length v) a) (i + length v) both in
    sets-eq v (sets a i v) i low ∙ ap₂ (λ (b c : List ℕ). b ++ v ++ c) before after ∙ sym x-is

-- ---- places
module _ (m : Given) where
  none_place : (q x : ℕ) → place_in m.T [] (q + place_in m.T [] x) ≡ place_in m.T [] x
  unfolding place_in
  none_place q x = refl

  -- over an entry that goes, in the old or in the new stream
  gone_place : (q p n : ℕ) (l r : List Entry) (x : ℕ) → place_in m.T r q ≡ 0 → place_in m.T r (q + place_in m.T l x) ≡ place_in m.T l x
      → place_in m.T r (q + place_in m.T (record { at = p; size = n; fate = Goes } ∷ l) x) ≡ place_in m.T (record { at = p; size = n; fate = Goes } ∷ l) x
  unfolding place_in
  gone_place q p n l r x zero-place h =
      pick_by (λ (y : ℕ). place_in m.T r (q + y) ≡ y) (ltb p x)
      (λ _. let e : 0 + place_in m.T l x ≡ place_in m.T l x = omega arith in rw e h)
      (λ _. let e : q + 0 ≡ q = omega arith in rw e zero-place)

  part_place : (q p n : ℕ) (l r : List Entry) (x : ℕ) → p < q → place_in m.T r (q + place_in m.T l x) ≡ place_in m.T l x
      → place_in m.T (record { at = p; size = n; fate = Goes } ∷ r) (q + place_in m.T l x) ≡ place_in m.T l x
  unfolding place_in
  part_place q p n l r x b h = sym (pick_lt (place_in m.T l x) _ _ p (q + place_in m.T l x) (omega arith) (omega arith))

  -- nothing stands before q
  place_none : {q : ℕ} {l r : List Entry} → Echoes m q l r → place_in m.T r q ≡ 0
  unfolding place_in
  place_none (none d) = refl
  place_none {q} (rest n b) = sym (pick_nlt 0 _ _ q q (omega arith) refl)
  place_none (gone e) = place_none e
  place_none {q} (part {p = p} b e) = sym (pick_lt 0 _ _ p q b (let i = place_none e in omega arith))
  place_none {q} (kept n e) = sym (pick_nlt 0 _ _ q q (omega arith) refl)
  place_none {q} (label a n b c d e) = sym (pick_nlt 0 _ _ q q (omega arith) refl)
  place_none {q} (bound a n b c d e) = sym (pick_nlt 0 _ _ q q (omega arith) refl)
  place_none {q} (tabled a n b e) = sym (pick_nlt 0 _ _ q q (omega arith) refl)

  -- over an entry of both streams, of n bytes in the new one
  place_both : (q p a b n : ℕ) (f : Fate) (l r : List Entry) → new_size m.T a f ≡ n → new_size m.T b f ≡ n → 0 < n
      → ((x : ℕ) → place_in m.T r (q + n + place_in m.T l x) ≡ place_in m.T l x)
      → (x : ℕ) → place_in m.T (record { at = q; size = b; fate = f } ∷ r) (q + place_in m.T (record { at = p; size = a; fate = f } ∷ l) x) ≡ place_in m.T (record { at = p; size = a; fate = f } ∷ l) x
  unfolding place_in
  place_both q p a b n f l r i j some ih x =
      pick_by (λ (y : ℕ). pick (ltb q (q + y)) (new_size m.T b f + place_in m.T r (q + y)) 0 ≡ y) (ltb p x)
      (λ _.
      let e : q + (new_size m.T a f + place_in m.T l x) ≡ q + n + place_in m.T l x = omega arith in
      let k = ih x in
      sym (pick_lt (new_size m.T a f + place_in m.T l x) _ _ q (q + (new_size m.T a f + place_in m.T l x)) (omega arith) (rw e (omega arith))))
      (λ _. sym (pick_nlt 0 _ _ q (q + 0) (omega arith) refl))

  -- a place of the new stream stays
  pub place_twice : {q : ℕ} {l r : List Entry} → Echoes m q l r → (x : ℕ) → place_in m.T r (q + place_in m.T l x) ≡ place_in m.T l x
  place_twice {q} (none d) x = none_place q x
  place_twice {q} (rest {p = p} {n = n} some b) x = place_both q p n n n Stays [] [] refl refl some (λ y. none_place (q + n) y) x
  place_twice {q} (gone {p = p} {n = n} {l = l} {r = r} e) x = gone_place q p n l r x (place_none e) (place_twice e x)
  place_twice {q} (part {p = p} {n = n} {l = l} {r = r} b e) x = part_place q p n l r x b (place_twice e x)
  place_twice {q} (kept {p = p} {n = n} {l = l} {r = r} some e) x = place_both q p n n n Stays l r refl refl some (λ y. place_twice e y) x
  place_twice {q} (label {p = p} {n = n} {l = l} {r = r} a some b c d e) x = place_both q p n n n Text l r refl refl some (λ y. place_twice e y) x
  place_twice {q} (bound {p = p} {n = n} {l = l} {r = r} a some b c d e) x = place_both q p n n n Sheet l r refl refl some (λ y. place_twice e y) x
  place_twice {q} (tabled {p = p} {n = n} {k = k} {l = l} {r = r} a some b e) x = place_both q p n k (length m.T) Table l r refl refl some (λ y. place_twice e y) x

  -- ---- the indices of the text cells
  pub texts_echo : {q : ℕ} {l r : List Entry} → Echoes m q l r → texts_in m.t r ≡ map m.index (texts_in m.s l)
  unfolding texts_in
  texts_echo (none d) = refl
  texts_echo (rest n b) = refl
  texts_echo (gone e) = texts_echo e
  texts_echo (part b e) = texts_echo e
  texts_echo (kept n e) = texts_echo e
  texts_echo (label a n b c d e) = ap₂ (λ (x : ℕ) (y : List ℕ). x ∷ y) d (texts_echo e)
  texts_echo (bound a n b c d e) = texts_echo e
  texts_echo (tabled a n b e) = texts_echo e

  -- ---- the bytes
  module _ (index₂ place₂ : ℕ → ℕ) (same_index : (i : ℕ) → index₂ (m.index i) ≡ m.index i) (same_place : (p : ℕ) → place₂ (m.place p) ≡ m.place p) where
    take_on : (q n : ℕ) (r : List ℕ) → r ≡ drop (q + n) m.t → bytes_at m.t q n ++ r ≡ drop q m.t
    unfolding bytes_at
    take_on q n r e = ap (λ (y : List ℕ). take n (drop q m.t) ++ y) (e ∙ sym (drop-drop n q m.t)) ∙ take-append-drop n (drop q m.t)

    again : (b a : List ℕ) (i x y : ℕ) → b ≡ sets a i (bytes_of 4 x) → i + 4 ≤ length a → y ≡ x → sets b i (bytes_of 4 y) ≡ b
    again b a i x y e h f =
        ap₂ (λ (c : List ℕ) (n : ℕ). sets c i (bytes_of 4 n)) e f
        ∙ sets_twice a (bytes_of 4 x) i (let l = length_bytes 4 x in omega arith) ∙ sym e

    pub written_echo : {q : ℕ} {l r : List Entry} → Echoes m q l r → written m.t m.T index₂ place₂ r ≡ drop q m.t
    unfolding written
    written_echo (none d) = sym d
    written_echo {q} (rest {n = n} some b) = append-nil (bytes_at m.t q n) ∙ b
    written_echo (gone e) = written_echo e
    written_echo (part b e) = written_echo e
    written_echo {q} (kept {n = n} some e) = take_on q n _ (written_echo e)
    written_echo {q} (label {p = p} {n = n} a some b c d e) =
        ap₂ (λ (y z : List ℕ). y ++ z) (again (bytes_at m.t q n) a 10 (m.index (u32_at m.s (p + 10))) _ c (omega arith) (ap index₂ d ∙ same_index (u32_at m.s (p + 10)))) (written_echo e) ∙ take_on q n _ refl
    written_echo {q} (bound {p = p} {n = n} a some b c d e) =
        ap₂ (λ (y z : List ℕ). y ++ z) (again (bytes_at m.t q n) a 4 (m.place (u32_at m.s (p + 4))) _ c (omega arith) (ap place₂ d ∙ same_place (u32_at m.s (p + 4)))) (written_echo e) ∙ take_on q n _ refl
    written_echo {q} (tabled a some b e) =
        ap (λ (y : List ℕ). m.T ++ y) (written_echo e ∙ sym (drop-drop (length m.T) q m.t) ∙ ap (drop (length m.T)) b ∙ drop_at m.T a (length m.T) refl) ∙ sym b

-- ---- the new index of a new index
uses_map : (f : ℕ → ℕ) (l : List ℕ) (i : ℕ) → uses l i ≡ true → uses (map f l) (f i) ≡ true
unfolding uses
uses_map f [] i h = h
uses_map f (x ∷ l) i h = by (λ j. uses_map f l i j) (or_cases (eqb x i) (uses l i) h)
  where
    by : (uses l i ≡ true → uses (map f l) (f i) ≡ true) → (eqb x i ≡ true) ⊎ (uses l i ≡ true) → eqb (f x) (f i) || uses (map f l) (f i) ≡ true
    by g (inl j) = or_left (eqb (f x) (f i)) (uses (map f l) (f i)) (eq-eqb (f x) (f i) (ap f (eqb-true x i j)))
    by g (inr j) = or_right (eqb (f x) (f i)) (uses (map f l) (f i)) (g j)

below_up : (l : List ℕ) (i : ℕ) → uses l i ≡ true → used_below l (suc i) ≡ suc (used_below l i)
unfolding used_below pick
below_up l i h = rw h (omega arith)

below_same : (l : List ℕ) (i : ℕ) → uses l i ≡ false → used_below l (suc i) ≡ used_below l i
unfolding used_below pick
below_same l i h = rw h (omega arith)

below_zero : (l : List ℕ) → used_below l 0 ≡ 0
unfolding used_below
below_zero l = refl

below_twice : (l k : List ℕ) → k ≡ map (used_below l) l → (i : ℕ) → used_below k (used_below l i) ≡ used_below l i
below_twice l k e zero = ap (used_below k) (below_zero l) ∙ below_zero k ∙ sym (below_zero l)
below_twice l k e (suc i) = by (uses l i) refl (below_twice l k e i)
  where
    by : (b : Bool) → uses l i ≡ b → used_below k (used_below l i) ≡ used_below l i → used_below k (used_below l (suc i)) ≡ used_below l (suc i)
    by true h ih = ap (used_below k) (below_up l i h) ∙ below_up k (used_below l i) (ap (λ (y : List ℕ). uses y (used_below l i)) e ∙ uses_map (used_below l) l i h) ∙ ap suc ih ∙ sym (below_up l i h)
    by false h ih = ap (used_below k) (below_same l i h) ∙ ih ∙ sym (below_same l i h)

-- each number below is the new index of a used one
below_all : (l : List ℕ) (n i : ℕ) → i < used_below l n → uses (map (used_below l) l) i ≡ true
below_all l zero i h = let z = below_zero l in absurd (omega arith)
below_all l (suc n) i h = by (uses l n) refl (λ x. below_all l n i x) (eqb i (used_below l n)) refl
  where
    by : (b : Bool) → uses l n ≡ b → (i < used_below l n → uses (map (used_below l) l) i ≡ true) → (c : Bool) → eqb i (used_below l n) ≡ c → uses (map (used_below l) l) i ≡ true
    by true u ih true e = ap (uses (map (used_below l) l)) (eqb-true i (used_below l n) e) ∙ uses_map (used_below l) l n u
    by true u ih false e = ih (let a = below_up l n u in let b = eqb-false i (used_below l n) e in less i (used_below l n) (omega arith) b)
      where
        less : (a b : ℕ) → a < suc b → (a ≡ b → ⊥) → a < b
        less a b x y = omega arith
    by false u ih c e = ih (let a = below_same l n u in omega arith)

map_same : (f g : ℕ → ℕ) (l : List ℕ) → ((i : ℕ) → f i ≡ g i) → map f l ≡ map g l
map_same f g [] h = refl
map_same f g (x ∷ l) h = ap₂ (λ (y : ℕ) (z : List ℕ). y ∷ z) (h x) (map_same f g l h)

-- ---- the whole
compact_is : (x T : List ℕ) → compact_with x T ≡ written x T (index_in x T (entries_of x)) (place_in T (entries_of x)) (entries_of x)
unfolding compact_with
compact_is x T = refl

module _ (s T : List ℕ) (u : ℕ) (g : Globals) (few : u ≤ 256 ^ 4) (ok : checked_of s u ≡ Right g) (tab : TableOf s T g) (short : length (compact_with s T) ≤ 16777216) where
  abbrev t : List ℕ
  t = compact_with s T

  echoes : Echoes (given_of s T) 0 (entries_of s) (entries_of t)
  echoes = echoed s T u g few ok tab short

  index_twice : (b : Bool) → eqb g.table 0 ≡ b → (i : ℕ) → index_in t T (entries_of t) (index_in s T (entries_of s) i) ≡ index_in s T (entries_of s) i
  index_twice true e i = index_none t T (entries_of t) (index_in s T (entries_of s) i) (tab.nothing (eqb-true g.table 0 e))
  index_twice false e i =
      let some = (tab.table (eqb-false g.table 0 e)).some in
      let a : index_in s T (entries_of s) i ≡ used_below (texts_in s (entries_of s)) i = index_some s T (entries_of s) i some in
      let k : texts_in t (entries_of t) ≡ map (used_below (texts_in s (entries_of s))) (texts_in s (entries_of s)) =
      texts_echo (given_of s T) echoes ∙ map_same (index_in s T (entries_of s)) (used_below (texts_in s (entries_of s))) (texts_in s (entries_of s)) (λ j. index_some s T (entries_of s) j some) in
      index_some t T (entries_of t) (index_in s T (entries_of s) i) some ∙ ap (used_below (texts_in t (entries_of t))) a ∙ below_twice (texts_in s (entries_of s)) (texts_in t (entries_of t)) k i ∙ sym a

  place_again : (p : ℕ) → place_in T (entries_of t) (place_in T (entries_of s) p) ≡ place_in T (entries_of s) p
  place_again p = ap (place_in T (entries_of t)) (let e : place_in T (entries_of s) p ≡ 0 + place_in T (entries_of s) p = omega arith in e) ∙ place_twice (given_of s T) echoes p

  twice_by : compact_with t T ≡ t
  twice_by = compact_is t T ∙ written_echo (given_of s T) (index_in t T (entries_of t)) (place_in T (entries_of t)) (λ i. index_twice (eqb g.table 0) refl i) place_again echoes

  texts_are : 4 ≤ length T → texts_in t (entries_of t) ≡ map (used_below (texts_in s (entries_of s))) (texts_in s (entries_of s))
  texts_are some = texts_echo (given_of s T) echoes ∙ map_same (index_in s T (entries_of s)) (used_below (texts_in s (entries_of s))) (texts_in s (entries_of s)) (λ j. index_some s T (entries_of s) j some)

  counts_by : (length (texts_in t (entries_of t)) ≡ length (texts_in s (entries_of s))) × ((g.table ≡ 0 → ⊥) → (i : ℕ) → i < used_of s g → uses (texts_in t (entries_of t)) i ≡ true)
  counts_by = (
    ap length (texts_echo (given_of s T) echoes) ∙ length-map (texts_in s (entries_of s)) (index_in s T (entries_of s)),
    (λ n i h. ap (λ (l : List ℕ). uses l i) (texts_are (tab.table n).some) ∙ below_all (texts_in s (entries_of s)) g.unique i h),
  )

pub counts_again : CountsAgain
counts_again s T u g few ok tab short = counts_by s T u g few ok tab short

pub compact_twice : CompactTwice
compact_twice s T u g few ok tab short = twice_by s T u g few ok tab short
