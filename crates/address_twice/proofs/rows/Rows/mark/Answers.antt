use Rattle.address_twice.proofs.Laws.{mark_turn, mark_done}
use borrow.Author.Rules.{rules}
use Rattle.address_twice.proofs.rows.Rows.mark.Goals as goal

pub loop-k-preserved : goal.loop-k-preserved
loop-k-preserved c = mark_turn _ _ _ _ _ _ c.loop-k.invariant c.requires (search rules) c.loop-k-test.true _ c.flag_at.ensures c.if-flag_at-ne0.false _ c.set_flag.ensures

pub returns : goal.returns
returns c = mark_done _ _ _ _ _ _ c.loop-k.invariant c.loop-k-test.false
