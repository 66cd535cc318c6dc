use Rattle.std.proofs.Common.{◌-◌, ◌≤◌, length}
use Rattle.station.proofs.print_sheets.Given as goal

abbrev pub invariant-loop-sheet : goal.invariant-loop-sheet
invariant-loop-sheet l = l.n ≤ l.place

abbrev pub decreases-loop-sheet : goal.decreases-loop-sheet
decreases-loop-sheet l = length l.s - l.place
