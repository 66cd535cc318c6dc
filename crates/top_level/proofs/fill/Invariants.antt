use Rattle.std.proofs.Common.{◌≡◌, ◌-◌, length}
use Rattle.top_level.proofs.Laws.{Filling}
use Rattle.top_level.proofs.fill.Given as goal

abbrev pub invariant-loop-at : goal.invariant-loop-at
invariant-loop-at l = (length l.slots ≡ 53248) × Filling l.s l.unique l.initial.at l.lo l.slots l.at

abbrev pub decreases-loop-at : goal.decreases-loop-at
decreases-loop-at l = length l.s - l.at
