-- New places, by the size of the new table. Assumes nothing.
use Prim.Native.Nat.{ℕ, ◌+◌}
use mathlib.Core.Path.{◌≡◌, refl, ap₂}
use mathlib.Core.List.{List, [], ◌∷◌}
use lib.ListN.{length}
use lib.Dec.{ltb}
use Rattle.steps.specs.Choice.{pick}
use Rattle.new_stream.specs.declared.Entry.{Entry}
use Rattle.new_stream.specs.Compact.{place_in}
use Rattle.new_places.specs.Places.{place_for}
use Rattle.new_places.proofs.Whole.{size_is}

pub place_same : (T : List ℕ) (l : List Entry) (p : ℕ) → place_in T l p ≡ place_for (length T) l p
unfolding place_in place_for
place_same T [] p = refl
place_same T (x ∷ l) p = ap₂ (λ (a b : ℕ). pick (ltb x.at p) (a + b) 0) (size_is T x.size x.fate) (place_same T l p)
