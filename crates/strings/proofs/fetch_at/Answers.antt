use Rattle.strings.proofs.Laws.{fetch_laws, inside_laws}
use borrow.Author.Rules.{rules}
use Rattle.strings.proofs.fetch_at.Goals as goal

pub unwrap-requires : goal.unwrap-requires
unwrap-requires c = search fetch_laws

pub returns-then-buf-head-clause-value : goal.returns-then-buf-head-clause-value
returns-then-buf-head-clause-value c = search fetch_laws

pub returns-then-buf-head-clause-buf_after : goal.returns-then-buf-head-clause-buf_after
returns-then-buf-head-clause-buf_after c = search fetch_laws

pub copy_chars-requires : goal.copy_chars-requires
copy_chars-requires c = search (inside_laws, fetch_laws, rules)

pub returns-clause-value : goal.returns-clause-value
returns-clause-value c = search fetch_laws

pub returns-clause-buf_after : goal.returns-clause-buf_after
returns-clause-buf_after c = search fetch_laws
