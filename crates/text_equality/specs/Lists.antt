-- What the contracts speak of: lists of characters.
use Rattle.std.specs.Prelude.{ℕ, ◌≤◌, ◌<◌, ◌≡◌, List, ◌∷◌, length, get_or}
use mathlib.Core.HLevel.{Unit-prop, ⊥_prop}
use Rattle.std.specs.declared.cmp.Ordering.{Ordering}
use Rattle.std.specs.Ordering.{nat_cmp}
use Rattle.std.specs.Cmp.Lexicographic.{slice_cmp}
use Rattle.segments.specs.Segments.{Got, got, refused}
use Rattle.segments.specs.Parts.{Passes}

-- the first r are the same in both
pub record Alike (l m : List ℕ) (r : ℕ) : Type 0 where
  pub few : r ≤ length l
  pub same : (i : ℕ) → i < r → get_or l i 0 ≡ get_or m i 0

-- which of two strings comes first: the one with fewer characters, else by the first that differs
unfoldable pub rank_of : List ℕ → List ℕ → Ordering
rank_of l m = slice_cmp nat_cmp (length l ∷ l) (length m ∷ m)

-- that nothing was refused is said in one way
pub Passes-prop : {A : Type 0} (x : Got A) → IsProp (Passes x)
Passes-prop (got a c) = Unit-prop
Passes-prop (refused n o) = ⊥_prop
