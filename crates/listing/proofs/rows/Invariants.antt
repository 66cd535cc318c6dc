use Rattle.listing.proofs.RowCount.{Counted}
use Rattle.reading.specs.Cells.{remaining}
use Rattle.listing.proofs.rows.Given as goal

abbrev pub invariant-loop-step : goal.invariant-loop-step
invariant-loop-step l =
    Counted l.s l.initial.v l.most l.v

abbrev pub decreases-loop-step : goal.decreases-loop-step
decreases-loop-step l =
    remaining l.s l.v
