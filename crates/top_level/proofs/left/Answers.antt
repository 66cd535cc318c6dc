use Rattle.std.proofs.Common.{rules}
use Rattle.top_level.proofs.Laws.{left_laws}
use Rattle.top_level.proofs.left.Goals as goal

pub returns-in_default : goal.returns-in_default
returns-in_default c = search (left_laws, c.requires.1, rules)

pub loop-hi-preserved : goal.loop-hi-preserved
loop-hi-preserved c = search (left_laws, c.requires.2, rules)
