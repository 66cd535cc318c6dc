use borrow.Author.Rules.{rules}
use Rattle.table_chunks.proofs.Laws.{chunk_laws}
use Rattle.table_chunks.proofs.size_chunk.Goals as goal

pub returns-clause-span_value : goal.returns-clause-span_value
returns-clause-span_value c = search (chunk_laws, rules)
