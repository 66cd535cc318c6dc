use borrow.Author.Rules.{rules}
use Rattle.table_writer.proofs.Many.{next_laws}
use Rattle.table_writer.proofs.put_next.Goals as goal

pub put_text-requires : goal.put_text-requires
put_text-requires c = search (next_laws, rules)
