use borrow.Author.Rules.{rules}
use Rattle.table_chunks.proofs.Laws.{chunk_laws}
use Rattle.table_chunks.proofs.put_chunk.Goals as goal

pub returns-clause-out_after : goal.returns-clause-out_after
returns-clause-out_after c = search (chunk_laws, rules)
