use mathlib.Core.Path.{refl}
use Rattle.text_equality.proofs.Runs.{word_on}
use Rattle.text_equality.proofs.standing.Run.same_words.Goals as goal

pub loop-i-preserved : goal.loop-i-preserved
loop-i-preserved c =
    word_on _ _ _ _ c.args.self.now.some c.args.self.now.small c.requires.0 c.requires.1 _ _ _ c.count.ensures refl c.loop-i-test.true c.loop-i.invariant (c.same_word.ensures c.if-not-same_word.false)
