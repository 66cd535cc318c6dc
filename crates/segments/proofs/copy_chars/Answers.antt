use Rattle.segments.proofs.Laws.{chars_laws, chars_refused}
use borrow.Author.Rules.{rules}
use Rattle.segments.proofs.copy_chars.Goals as goal

pub returns-in_default : goal.returns-in_default
returns-in_default c = absurd (search chars_refused)

pub copy_here-k-requires : goal.copy_here-k-requires
copy_here-k-requires c = search (chars_laws, rules)

pub loop-j-preserved : goal.loop-j-preserved
loop-j-preserved c = search (chars_laws, rules)
