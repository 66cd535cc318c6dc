use Rattle.std.proofs.Common.{sym, ◌∙◌}
use lib.ListN.{length-set}
use Rattle.byte_numbers.proofs.Laws.{copy_step, copy_end}
use Rattle.byte_numbers.proofs.copy.Goals as goal

pub loop-i-preserved : goal.loop-i-preserved
loop-i-preserved c = (length-set _ _ _ ∙ c.loop-i.invariant.0, c.loop-i.invariant.1 ∙ copy_step _ _ _ _ _ _ c.loop-i-test.true c.requires.0)

pub returns : goal.returns
returns c = sym (c.loop-i.invariant.1 ∙ copy_end _ _ _ _ _ _ c.loop-i-test.false)
