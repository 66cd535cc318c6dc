use Rattle.reading.specs.Cells.{remaining}
use Rattle.listing.specs.Listing.{next_of}
use mathlib.Core.Path.{◌≡◌}
use Rattle.listing.proofs.next_cell.Given as goal

abbrev pub invariant-loop-cell : goal.invariant-loop-cell
invariant-loop-cell l =
    next_of l.s l.initial.v ≡ next_of l.s l.v

abbrev pub decreases-loop-cell : goal.decreases-loop-cell
decreases-loop-cell l =
    remaining l.s l.v
