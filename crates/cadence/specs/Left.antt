-- The pairs that an iterator has left.
use Rattle.std.specs.Prelude.{List}
use Rattle.cadence.specs.declared.Cadence.{Cadence}
use Rattle.cadence.specs.declared.RowPairs.{RowPairs}
use Rattle.cadence.specs.Steps.{pairs_from}

abbrev pub left : RowPairs → List Cadence
left e = pairs_from e.stream.now e.position
