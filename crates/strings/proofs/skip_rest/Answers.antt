use Rattle.strings.proofs.Laws.{inside_laws}
use borrow.Author.Rules.{rules}
use Rattle.strings.proofs.skip_rest.Goals as goal

pub skip_items-requires-2 : goal.skip_items-requires-2
skip_items-requires-2 c = search (inside_laws, rules, c.in_ok-d.was)
