use Rattle.std.proofs.Common.{length, ◌-◌, ◌≤◌}
use Rattle.station.proofs.read_full.Given as goal

abbrev pub invariant-loop-n : goal.invariant-loop-n
invariant-loop-n l = l.n ≤ length l.into

abbrev pub decreases-loop-n : goal.decreases-loop-n
decreases-loop-n l = length l.into - l.n
