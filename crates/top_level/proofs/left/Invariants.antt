use Rattle.std.proofs.Common.{◌-◌, length}
use Rattle.top_level.proofs.Laws.{Leaving}
use Rattle.top_level.proofs.left.Given as goal

abbrev pub invariant-loop-hi : goal.invariant-loop-hi
invariant-loop-hi l = Leaving l.s l.unique l.initial.at l.lo l.hi l.at

abbrev pub decreases-loop-hi : goal.decreases-loop-hi
decreases-loop-hi l = length l.s - l.at
