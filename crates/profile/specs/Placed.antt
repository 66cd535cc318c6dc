-- The listed cells of a sheet, each with the offset of its record's header.
use Rattle.std.specs.Prelude.{ℕ, List}
use Rattle.steps.specs.Items.{Item, gives, skips, ends, collect}
use Rattle.cell.specs.declared.Cell.{Cell}
use Rattle.reading.specs.declared.Place.{Place}
use Rattle.reading.specs.Cells.{cell_item, remaining}

pub record Placed : Type 0 where
  pub at : ℕ
  pub cell : Cell

abbrev pub with_header : ℕ → Item Place Cell → Item Place Placed
with_header at (gives c t) = gives (record { at = at; cell = c }) t
with_header at (skips t) = skips t
with_header at ends = ends

-- a step of the listing: a cell that it gives stands in the record at which the step is taken
unfoldable pub placed_item : List ℕ → Place → Item Place Placed
placed_item s v = with_header v.at (cell_item s v)

unfoldable pub placed_from : List ℕ → Place → List Placed
placed_from s v = collect (placed_item s) (remaining s) v
