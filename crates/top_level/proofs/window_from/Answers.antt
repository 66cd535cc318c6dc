use Rattle.sheet_agreement.proofs.Laws.{no_marks}
use Rattle.top_level.proofs.window_from.Goals as goal

pub with_slots-requires : goal.with_slots-requires
with_slots-requires c = (no_marks 53248, c.requires)
