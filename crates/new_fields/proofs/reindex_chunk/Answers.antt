use Rattle.std.proofs.Common.{rules}
use Rattle.new_fields.proofs.Indices.{chunk_laws, start_low}
use Rattle.new_fields.proofs.reindex_chunk.Goals as goal

pub rank_words-next-requires : goal.rank_words-next-requires
rank_words-next-requires c = (search (chunk_laws, rules), search (start_low, rules), search (chunk_laws, rules))

pub invariant_of-chunk : goal.invariant_of-chunk
invariant_of-chunk c = record { ranked = search rules; low = search (start_low, rules); few = search (chunk_laws, rules) }

pub returns-clause-out_after : goal.returns-clause-out_after
returns-clause-out_after c = (search (chunk_laws, rules), search (chunk_laws, rules), search (chunk_laws, rules))
