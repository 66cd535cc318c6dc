use Rattle.std.proofs.Common.{arith}
use Rattle.used_strings.proofs.Marks.{one_before}
use Rattle.used_strings.proofs.mark_one.Goals as goal

pub returns-in_default : goal.returns-in_default
returns-in_default c = one_before _ _ _ (omega (arith, c.in_default.ensures))
