use Rattle.jumps.proofs.Laws.{on_token_lem}
use Rattle.jumps.proofs.lands_on.Goals as goal

pub overflow_add-at : goal.overflow_add-at
overflow_add-at c = search on_token_lem

pub loop-at-preserved : goal.loop-at-preserved
loop-at-preserved c = search on_token_lem
