use Rattle.flags.proofs.Laws.{one_in}
use Rattle.flags.proofs.set_flag.Goals as goal

pub returns-then-i-flags : goal.returns-then-i-flags
returns-then-i-flags c = one_in _ _ c.if-i-flags.true
