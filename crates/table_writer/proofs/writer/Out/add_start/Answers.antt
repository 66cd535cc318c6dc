use borrow.Author.Rules.{rules}
use Rattle.table_writer.proofs.Starts.{first_laws}
use Rattle.table_writer.proofs.writer.Out.add_start.Goals as goal

pub add-requires : goal.add-requires
add-requires c = search (first_laws, rules)
