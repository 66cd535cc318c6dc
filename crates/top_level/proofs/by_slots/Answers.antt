use Rattle.std.proofs.Common.{rules}
use Rattle.top_level.proofs.Laws.{going_laws}
use Rattle.top_level.proofs.by_slots.Goals as goal

pub loop-next-preserved : goal.loop-next-preserved
loop-next-preserved c = search (going_laws, rules)
