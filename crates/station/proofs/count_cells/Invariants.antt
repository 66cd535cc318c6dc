use Rattle.reading.specs.Cells.{remaining}
use Rattle.station.proofs.Laws.{CellsCounted}
use Rattle.station.proofs.count_cells.Given as goal

abbrev pub invariant-loop-listed : goal.invariant-loop-listed
invariant-loop-listed l = CellsCounted l.s l.initial.place l.n l.place

abbrev pub decreases-loop-listed : goal.decreases-loop-listed
decreases-loop-listed l = remaining l.s l.place
