-- The cells that an iterator has left.
use Rattle.std.specs.Prelude.{List}
use Rattle.cell.specs.declared.Cell.{Cell}
use Rattle.reading.specs.Cells.{listed_from}
use Rattle.listing.specs.declared.ListedCells.{ListedCells}

abbrev pub left : ListedCells → List Cell
left e = listed_from e.stream.now e.place
