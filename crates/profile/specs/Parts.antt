-- What the contracts of the inner functions speak of.
use Rattle.std.specs.Prelude.{ℕ, ◌≡◌, List, [], ◌∷◌, Option, Some, None, ◌⊎◌}
use Rattle.refusal.specs.declared.Refusal.{Refusal}
use Rattle.cell.specs.declared.Cell.{Cell}
use Rattle.listing.specs.declared.Listed.{Listed}
use Rattle.profile.specs.declared.NextPlaced.{NextPlaced}
use Rattle.profile.specs.declared.Columns.{Columns}
use Rattle.profile.specs.declared.Columns.TheVariants.{Two, Three}
use Rattle.profile.specs.Placed.{Placed, placed_from}

-- what `next_with_record` gives, without the record's offset
abbrev pub listed_in : Option NextPlaced → Option Listed
listed_in (Some x) = Some (record { cell = x.cell; next = x.next })
listed_in None = None

-- and the cells with their records by it
abbrev pub on_placed : List ℕ → Option NextPlaced → List Placed
on_placed s (Some x) = record { at = x.at; cell = x.cell } ∷ placed_from s x.next
on_placed s None = []

-- there are two columns or three
abbrev pub TwoOrThree : ℕ → Type 0
TwoOrThree k = (k ≡ 2) ⊎ (k ≡ 3)

abbrev pub count_of : Columns → ℕ
count_of Two = 2
count_of Three = 3

abbrev pub third_cell : List Cell → Option Cell
third_cell [] = None
third_cell (a ∷ []) = None
third_cell (a ∷ b ∷ []) = None
third_cell (a ∷ b ∷ c ∷ l) = Some c

abbrev pub outside : ℕ → Refusal
outside o = record { number = 20; offset = o }
