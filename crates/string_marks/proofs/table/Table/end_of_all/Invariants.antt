use Rattle.std.proofs.Common.{◌-◌, ◌≤◌, length}
use Rattle.string_marks.proofs.table.Table.end_of_all.Given as goal

abbrev pub invariant-loop-end : goal.invariant-loop-end
invariant-loop-end l =
    (l.e ≤ l.p) × (l.p ≤ length l.s)

abbrev pub decreases-loop-end : goal.decreases-loop-end
decreases-loop-end l =
    length l.s - l.p
