use borrow.Author.Rules.{rules}
use Rattle.table_writer.proofs.Starts.{start_laws}
use Rattle.table_writer.proofs.writer.Out.put_start.Goals as goal

pub add_start-requires-else-self-size : goal.add_start-requires-else-self-size
add_start-requires-else-self-size c = search (start_laws, rules)

pub returns-else-self-size : goal.returns-else-self-size
returns-else-self-size c = search (start_laws, rules)
