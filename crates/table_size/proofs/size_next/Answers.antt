use borrow.Author.Rules.{rules}
use Rattle.table_writer.proofs.Many.{next_laws}
use Rattle.table_size.proofs.Counting.{next_sized}
use Rattle.table_size.proofs.size_next.Goals as goal

pub size_text-requires : goal.size_text-requires
size_text-requires c = search (next_laws, rules)

pub returns : goal.returns
returns c = search (next_sized, rules)
