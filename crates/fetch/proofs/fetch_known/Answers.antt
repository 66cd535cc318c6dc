use Rattle.std.proofs.Common.{rules}
use Rattle.fetch.proofs.Laws.{known_laws}
use Rattle.fetch.proofs.fetch_known.Goals as goal

pub returns-then-n-index-clause-value : goal.returns-then-n-index-clause-value
returns-then-n-index-clause-value c = search (known_laws, rules)

pub returns-then-n-index-clause-buf_after : goal.returns-then-n-index-clause-buf_after
returns-then-n-index-clause-buf_after c = search (known_laws, rules)

pub returns-clause-value : goal.returns-clause-value
returns-clause-value c = search (known_laws, rules)

pub returns-clause-buf_after : goal.returns-clause-buf_after
returns-clause-buf_after c = search (known_laws, rules)
