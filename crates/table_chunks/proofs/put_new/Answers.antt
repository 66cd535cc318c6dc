use borrow.Author.Rules.{rules}
use Rattle.table_writer.proofs.Finish.{all_laws, table_laws}
use Rattle.table_chunks.proofs.put_new.Goals as goal

pub open_table-out-requires : goal.open_table-out-requires
open_table-out-requires c = search (table_laws, rules)

pub returns-clause-buf_after : goal.returns-clause-buf_after
returns-clause-buf_after c = search (table_laws, all_laws, rules)
