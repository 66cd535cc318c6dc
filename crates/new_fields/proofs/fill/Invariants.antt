use Rattle.std.proofs.Common.{◌-◌, length}
use Rattle.new_fields.proofs.Slots.{Filled}
use Rattle.new_fields.proofs.fill.Given as goal

abbrev pub invariant-loop-entry : goal.invariant-loop-entry
invariant-loop-entry l = Filled l.s l.table l.fn.slots l.spot l.place l.filling.count l.slots

abbrev pub decreases-loop-entry : goal.decreases-loop-entry
decreases-loop-entry l = length l.s - l.spot.at
