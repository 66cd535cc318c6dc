use Rattle.text_equality.proofs.Runs.{eight_on}
use Rattle.text_equality.proofs.standing.Run.same_eights.Goals as goal

pub loop-i-preserved : goal.loop-i-preserved
loop-i-preserved c = eight_on _ _ _ _ c.requires.0 c.requires.1 c.requires.2 _ c.loop-i-test.true c.loop-i.invariant (c.same_eight.ensures c.if-not-same_eight.false)
