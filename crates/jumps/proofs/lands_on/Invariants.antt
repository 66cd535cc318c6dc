use Rattle.std.proofs.Common.{◌-◌, length}
use Rattle.jumps.proofs.Laws.{Reached}
use Rattle.jumps.proofs.lands_on.Given as goal

abbrev pub invariant-loop-at : goal.invariant-loop-at
invariant-loop-at l = Reached l.place.bytes.now l.place.offset l.place.depth l.target l.at

abbrev pub decreases-loop-at : goal.decreases-loop-at
decreases-loop-at l = length l.place.bytes.now - l.at
