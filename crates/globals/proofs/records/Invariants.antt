use Rattle.std.proofs.Common.{◌≡◌, ◌-◌, length}
use Rattle.globals.specs.Globals.{records_from}
use Rattle.globals.proofs.records.Given as goal

abbrev pub invariant-loop-next : goal.invariant-loop-next
invariant-loop-next l = records_from l.s l.initial.v ≡ records_from l.s l.v

abbrev pub decreases-loop-next : goal.decreases-loop-next
decreases-loop-next l = length l.s - l.v.at
