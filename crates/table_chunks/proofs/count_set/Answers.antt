use borrow.Author.Rules.{rules}
use Rattle.table_chunks.proofs.Laws.{tally_laws}
use Rattle.table_chunks.proofs.count_set.Goals as goal

pub loop-i-init : goal.loop-i-init
loop-i-init c = search (tally_laws, rules)

pub overflow_add-r : goal.overflow_add-r
overflow_add-r c = search (tally_laws, rules)

pub loop-i-preserved : goal.loop-i-preserved
loop-i-preserved c = search (tally_laws, rules)
