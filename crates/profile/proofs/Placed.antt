-- The listed cells with their records. Assumes nothing.
use Prim.Native.Nat.{ℕ, zero, suc}
use mathlib.Core.Path.{◌≡◌, refl, ap, ◌∙◌}
use mathlib.Core.List.{List, [], ◌∷◌, map}
use Rattle.steps.specs.Items.{Item, gives, skips, ends, onto, collect_f, collect}
use Rattle.steps.proofs.Items.{Nearer, collect_step}
use Rattle.cell.specs.declared.Cell.{Cell}
use Rattle.reading.specs.declared.Place.{Place}
use Rattle.reading.specs.Cells.{cell_item, remaining, listed_from}
use Rattle.reading.specs.Scan.{PastFrom}
use Rattle.reading.proofs.Laws.{item_near}
use Rattle.reading.proofs.Scanning.{leads_same}
use Rattle.listing.specs.Listing.{next_of}
use Rattle.listing.proofs.Laws.{next_gives, next_over, next_skips, less_skips}
use Rattle.profile.specs.Placed.{Placed, with_header, placed_item, placed_from}

near_with : (s : List ℕ) (v : Place) (at : ℕ) (x : Item Place Cell) → Nearer (remaining s) v x → Nearer (remaining s) v (with_header at x)
near_with s v at (gives c t) n = n
near_with s v at (skips t) n = n
near_with s v at ends n = n

placed_near : (s : List ℕ) (v : Place) → Nearer (remaining s) v (placed_item s v)
unfolding placed_item
placed_near s v = near_with s v v.at (cell_item s v) (item_near s v)

-- one step of the list
pub placed_step : (s : List ℕ) (v : Place) → placed_from s v ≡ onto (placed_item s v) (λ t. placed_from s t)
unfolding placed_from
placed_step s v = collect_step (placed_item s) (remaining s) (placed_near s) v

-- they are the listed cells
cells_with : (s : List ℕ) (n at : ℕ) (x : Item Place Cell) → ((t : Place) → map (λ (y : Placed). y.cell) (collect_f (placed_item s) n t) ≡ collect_f (cell_item s) n t)
    → map (λ (y : Placed). y.cell) (onto (with_header at x) (λ t. collect_f (placed_item s) n t)) ≡ onto x (λ t. collect_f (cell_item s) n t)
cells_with s n at (gives c t) h = ap (λ (l : List Cell). c ∷ l) (h t)
cells_with s n at (skips t) h = h t
cells_with s n at ends h = refl

cells_same : (s : List ℕ) (n : ℕ) (v : Place) → map (λ (y : Placed). y.cell) (collect_f (placed_item s) n v) ≡ collect_f (cell_item s) n v
unfolding collect_f placed_item
cells_same s zero v = refl
cells_same s (suc n) v = cells_with s n v.at (cell_item s v) (cells_same s n)

pub placed_cells : (s : List ℕ) (v : Place) → map (λ (y : Placed). y.cell) (placed_from s v) ≡ listed_from s v
unfolding placed_from listed_from collect
placed_cells s v = cells_same s (suc (remaining s v)) v

-- ---- the list by the step at its head
module _ (s : List ℕ) (v : Place) where
  placed_by : {x : Item Place Cell} → cell_item s v ≡ x → placed_from s v ≡ onto (with_header v.at x) (λ t. placed_from s t)
  unfolding placed_item
  placed_by h = placed_step s v ∙ ap (λ (y : Item Place Cell). onto (with_header v.at y) (λ t. placed_from s t)) h

  pub placed_gives : (c : Cell) (w : Place) → cell_item s v ≡ gives c w → placed_from s v ≡ record { at = v.at; cell = c } ∷ placed_from s w
  placed_gives c w h = placed_by h

  pub placed_over : cell_item s v ≡ ends → placed_from s v ≡ []
  placed_over h = placed_by h

pub placed_skips : (s : List ℕ) (v w d : Place) → cell_item s v ≡ skips w → PastFrom s w d → placed_from s v ≡ placed_from s d
placed_skips s v w d h p = placed_by s v h ∙ leads_same s (placed_from s) (λ u x e. placed_by s u e) w d p.leads

-- the next of them, as the code seeks it: from v on the list is as from where it began
abbrev pub Along : List ℕ → Place → Place → Type 0
Along s v₀ v = (next_of s v₀ ≡ next_of s v) × (placed_from s v₀ ≡ placed_from s v)

pub ruleset placed_laws = (placed_gives, placed_over, placed_skips, next_gives, next_over, next_skips, less_skips)
