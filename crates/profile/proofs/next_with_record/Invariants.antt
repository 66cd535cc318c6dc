use Rattle.reading.specs.Cells.{remaining}
use Rattle.profile.proofs.Placed.{Along}
use Rattle.profile.proofs.next_with_record.Given as goal

abbrev pub invariant-loop-cell : goal.invariant-loop-cell
invariant-loop-cell l =
    Along l.s l.initial.v l.v

abbrev pub decreases-loop-cell : goal.decreases-loop-cell
decreases-loop-cell l =
    remaining l.s l.v
