use Rattle.std.proofs.Common.{◌-◌, length}
use Rattle.top_level.proofs.Laws.{Going}
use Rattle.top_level.proofs.by_slots.Given as goal

abbrev pub invariant-loop-next : goal.invariant-loop-next
invariant-loop-next l = Going l.s l.unique l.from l.lo l.at l.fault l.free

abbrev pub decreases-loop-next : goal.decreases-loop-next
decreases-loop-next l = length l.s - l.lo
