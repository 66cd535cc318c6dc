-- What holds of every comparison of two streams. Assumes nothing.
use Prim.Native.Nat.{ℕ, zero, suc, ◌+◌, ◌-◌, ◌*◌, ◌/◌}
use mathlib.Core.Path.{◌≡◌, refl, sym, ap, ap₂, ◌∙◌, subst}
use mathlib.Core.Bool.{Bool, true, false}
use mathlib.Core.List.{List, [], ◌∷◌, ◌++◌}
use native.Mathlib.Omega.{arith}
use Rattle.steps.specs.Choice.{pick}
use Rattle.steps.proofs.Choice.{pick_false, never}
use Rattle.globals.specs.declared.Globals.{Globals}
use Rattle.std.specs.Prelude.{Ok, Err}
use Rattle.workbook.specs.Check.{Checked, Right, checked_of, on_checked}
use Rattle.reading.specs.Reading.{reading_of}
use Rattle.differences.specs.Differences.{Difference, none, name, only_first, only_second, unequal, difference_at, words_of, words_from, keys_of, twice_in, differences}
use Rattle.differences.specs.Claims.{AscendFrom}
use Rattle.differences.proofs.Claims.{ascending, same_nothing}
use Rattle.compare.specs.declared.Side.TheVariants as side
use Rattle.compare.specs.Comparison.{Comparison, refuses, lists, comparison_of}
use Rattle.compare_claims.specs.Claims.{WithItself, Listed, ListsDifferences, GoesOn}

abbrev judged : List ℕ → List ℕ → ℕ → Bool → Bool → Comparison
judged s t from x y = pick x (refuses side.First 16 0) (pick y (refuses side.Second 16 0) (lists (differences (reading_of s 0) (reading_of t 0) from)))

-- two streams that pass, neither with an address twice
pub both_pass : (s t : List ℕ) (g g' : Globals) (from : ℕ) → checked_of s 0 ≡ Right g → checked_of t 0 ≡ Right g' → twice_in (reading_of s 0).sheets ≡ false → twice_in (reading_of t 0).sheets ≡ false
    → comparison_of s t from ≡ lists (differences (reading_of s 0) (reading_of t 0) from)
unfolding comparison_of
both_pass s t g g' from h i once again =
    ap₂ (λ (a b : Checked). on_checked (refuses side.First) (λ _. on_checked (refuses side.Second) (λ _. judged s t from (twice_in (reading_of s 0).sheets) (twice_in (reading_of t 0).sheets)) b) a) h i
    ∙ sym (pick_false _ _ _ (twice_in (reading_of s 0).sheets) once (pick_false _ _ _ (twice_in (reading_of t 0).sheets) again refl))

pub with_itself : WithItself
with_itself s g from h once = both_pass s s g g from h h once once ∙ ap lists (same_nothing (reading_of s 0) from)

module _ (s t : List ℕ) (from : ℕ) (l : List ℕ) where
  by_twice : (x y : Bool) → twice_in (reading_of s 0).sheets ≡ x → twice_in (reading_of t 0).sheets ≡ y → judged s t from x y ≡ lists l → Listed s t from l
  unfolding pick
  by_twice true y i j h = never (cc)
  by_twice false true i j h = never (cc)
  by_twice false false i j h =
      let e : differences (reading_of s 0) (reading_of t 0) from ≡ l = cc in
      record { once_first = i; once_second = j; all = sym e; ascend = subst (AscendFrom from) e (ascending (reading_of s 0) (reading_of t 0) from) }

  by_second : (r : Checked) → on_checked (refuses side.Second) (λ _. judged s t from (twice_in (reading_of s 0).sheets) (twice_in (reading_of t 0).sheets)) r ≡ lists l → Listed s t from l
  by_second (Ok g) h = by_twice (twice_in (reading_of s 0).sheets) (twice_in (reading_of t 0).sheets) refl refl h
  by_second (Err r) h = never (cc)

  by_first : (r : Checked) → on_checked (refuses side.First) (λ _. on_checked (refuses side.Second) (λ _. judged s t from (twice_in (reading_of s 0).sheets) (twice_in (reading_of t 0).sheets)) (checked_of t 0)) r ≡ lists l → Listed s t from l
  by_first (Ok g) h = by_second (checked_of t 0) h
  by_first (Err r) h = never (cc)

pub lists_differences : ListsDifferences
unfolding comparison_of
lists_differences s t from l h = by_first s t from l (checked_of s 0) h

-- ---- going on
module _ (d : ℕ → Difference) where
  one_word : (n k v w : ℕ) (l m : List ℕ) → v / 4 ≡ k → v ∷ words_from d (k + 1) n ≡ l ++ (w ∷ m)
      → ((l : List ℕ) → words_from d (k + 1) n ≡ l ++ (w ∷ m) → words_from d (w / 4 + 1) (k + 1 + n - (w / 4 + 1)) ≡ m) → words_from d (w / 4 + 1) (k + suc n - (w / 4 + 1)) ≡ m
  one_word n k v w [] m q e ih =
      let a : v ≡ w = cc in
      let b : words_from d (k + 1) n ≡ m = cc in
      let f : w / 4 + 1 ≡ k + 1 = ap (λ (z : ℕ). z / 4 + 1) (sym a) ∙ ap (λ (z : ℕ). z + 1) q in
      let g : k + suc n - (w / 4 + 1) ≡ n = omega arith in
      (λ i. words_from d (f i) (g i)) ∙ b
  one_word n k v w (u ∷ l) m q e ih =
      let b : words_from d (k + 1) n ≡ l ++ (w ∷ m) = cc in
      let g : k + suc n - (w / 4 + 1) ≡ k + 1 + n - (w / 4 + 1) = omega arith in
      ap (words_from d (w / 4 + 1)) g ∙ ih l b

  by_kind : (n k w : ℕ) (l m : List ℕ) (x : Difference) → words_of k x ++ words_from d (k + 1) n ≡ l ++ (w ∷ m)
      → ((l : List ℕ) → words_from d (k + 1) n ≡ l ++ (w ∷ m) → words_from d (w / 4 + 1) (k + 1 + n - (w / 4 + 1)) ≡ m) → words_from d (w / 4 + 1) (k + suc n - (w / 4 + 1)) ≡ m
  by_kind n k w l m none e ih = let g : k + suc n - (w / 4 + 1) ≡ k + 1 + n - (w / 4 + 1) = omega arith in ap (words_from d (w / 4 + 1)) g ∙ ih l e
  by_kind n k w l m name e ih = one_word n k (k * 4) w l m (omega arith) e ih
  by_kind n k w l m only_first e ih = one_word n k (k * 4 + 1) w l m (omega arith) e ih
  by_kind n k w l m only_second e ih = one_word n k (k * 4 + 2) w l m (omega arith) e ih
  by_kind n k w l m unequal e ih = one_word n k (k * 4 + 3) w l m (omega arith) e ih

  no_words : (l m : List ℕ) (w : ℕ) (A : Type 0) → [] ≡ l ++ (w ∷ m) → A
  no_words [] m w A e = never (cc)
  no_words (x ∷ l) m w A e = never (cc)

  words_on : (n k w : ℕ) (l m : List ℕ) → words_from d k n ≡ l ++ (w ∷ m) → words_from d (w / 4 + 1) (k + n - (w / 4 + 1)) ≡ m
  unfolding words_from
  words_on zero k w l m e = no_words l m w _ e
  words_on (suc n) k w l m e = by_kind n k w l m (d k) e (λ l' e'. words_on n (k + 1) w l' m e')

pub goes_on : GoesOn
unfolding differences words_from
goes_on x y from w l m e = by_size (keys_of x y - from) refl
  where
    by_size : (n : ℕ) → keys_of x y - from ≡ n → words_from (difference_at x y) (w / 4 + 1) (keys_of x y - (w / 4 + 1)) ≡ m
    by_size zero h = no_words (difference_at x y) l m w _ (sym (ap (words_from (difference_at x y) from) h) ∙ e)
    by_size (suc n) h =
        let g : keys_of x y - (w / 4 + 1) ≡ from + (keys_of x y - from) - (w / 4 + 1) = omega arith in
        ap (words_from (difference_at x y) (w / 4 + 1)) g ∙ words_on (difference_at x y) (keys_of x y - from) from w l m e
