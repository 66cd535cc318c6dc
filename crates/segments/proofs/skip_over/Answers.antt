use Rattle.segments.proofs.Laws.{skip_laws}
use borrow.Author.Rules.{rules}
use Rattle.segments.proofs.skip_over.Goals as goal

pub fit_items-k-requires : goal.fit_items-k-requires
fit_items-k-requires c = search (skip_laws, rules, c.in_ok-width.was)

pub loop-left-preserved : goal.loop-left-preserved
loop-left-preserved c = search (skip_laws, rules, c.in_ok-width.was)
