-- Places and sizes, entry by entry. Assumes nothing.
use Prim.Native.Nat.{ℕ, ◌+◌, ◌≤◌, ◌<◌}
use mathlib.Core.Path.{◌≡◌, refl, sym, ap, ◌∙◌}
use mathlib.Core.List.{List, [], ◌∷◌}
use Rattle.steps.proofs.Choice.{pick_lt, pick_nlt}
use Rattle.new_stream.specs.declared.Entry.{Entry}
use Rattle.new_stream.specs.Entries.{size_for}
use Rattle.new_places.specs.Places.{sizes, place_for}

module _ (n : ℕ) (l : List Entry) where
  pub sizes_none : l ≡ [] → sizes n l ≡ 0
  unfolding sizes
  sizes_none e = ap (sizes n) e

  pub place_none : (p : ℕ) → l ≡ [] → place_for n l p ≡ 0
  unfolding place_for
  place_none p e = ap (λ (k : List Entry). place_for n k p) e

  module _ (x : Entry) (l' : List Entry) (e : l ≡ x ∷ l') where
    pub sizes_more : sizes n l ≡ size_for n x.size x.fate + sizes n l'
    unfolding sizes
    sizes_more = ap (sizes n) e

    pub place_here : (p : ℕ) → p ≤ x.at → place_for n l p ≡ 0
    unfolding place_for
    place_here p h = ap (λ (k : List Entry). place_for n k p) e ∙ sym (pick_nlt 0 _ _ x.at p h refl)

    pub place_more : (p : ℕ) → x.at < p → place_for n l p ≡ size_for n x.size x.fate + place_for n l' p
    unfolding place_for
    place_more p h = ap (λ (k : List Entry). place_for n k p) e ∙ sym (pick_lt _ _ _ x.at p h refl)

pub ruleset entry_by_entry = (sizes_none, place_none, sizes_more, place_here, place_more)
