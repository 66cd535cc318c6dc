use Rattle.reading.specs.Cells.{remaining}
use Rattle.station.proofs.print_cells.Given as goal

abbrev pub decreases-loop-listed : goal.decreases-loop-listed
decreases-loop-listed l = remaining l.s l.place
