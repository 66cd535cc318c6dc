use Rattle.std.proofs.Common.{◌≡◌, ◌-◌, length}
use Rattle.reading.specs.Scan.{Past}
use Rattle.reading.proofs.past_others.Given as goal

abbrev pub invariant-loop-kind : goal.invariant-loop-kind
invariant-loop-kind l = (l.level ≡ 0) × Past l.s l.level l.from l.at

abbrev pub decreases-loop-kind : goal.decreases-loop-kind
decreases-loop-kind l = length l.s - l.at
