-- The cells with their records that an iterator has left.
use Rattle.std.specs.Prelude.{List}
use Rattle.profile.specs.declared.NextPlaced.{NextPlaced}
use Rattle.profile.specs.declared.PlacedCells.{PlacedCells}
use Rattle.profile.specs.Placed.{Placed, placed_from}

abbrev pub placed : NextPlaced → Placed
placed x = record { at = x.at; cell = x.cell }

abbrev pub left : PlacedCells → List Placed
left e = placed_from e.stream.now e.place
