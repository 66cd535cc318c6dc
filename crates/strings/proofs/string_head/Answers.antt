use Rattle.strings.proofs.Laws.{head_within}
use borrow.Author.Rules.{rules}
use Rattle.strings.proofs.string_head.Goals as goal

pub head_at-requires : goal.head_at-requires
head_at-requires c = search (head_within, rules)
