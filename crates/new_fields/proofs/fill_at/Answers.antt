use Rattle.std.proofs.Common.{arith}
use Rattle.new_fields.proofs.Slots.{grown_top}
use Rattle.new_fields.proofs.fill_at.Goals as goal

pub returns-then-f-eq0 : goal.returns-then-f-eq0
returns-then-f-eq0 c = grown_top _ _ _ _ _ _ (omega arith) c.keep.ensures
