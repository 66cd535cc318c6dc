use borrow.Author.Rules.{rules}
use Rattle.table_size.proofs.Counting.{turns_laws}
use Rattle.table_size.proofs.size_texts.Goals as goal

pub loop-i-preserved : goal.loop-i-preserved
loop-i-preserved c = search (turns_laws, rules)
