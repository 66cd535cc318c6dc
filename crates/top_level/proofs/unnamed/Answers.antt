use Rattle.top_level.proofs.Laws.{none_each}
use Rattle.top_level.proofs.unnamed.Goals as goal

pub returns-then-none_left : goal.returns-then-none_left
returns-then-none_left c = rw c.unwrap_or.ensures (c.requires.3 (none_each _ _ _ _ _ _ c.requires.2 (c.none_left.ensures c.if-none_left.true)))
