use Rattle.cell_equality.proofs.Laws.{plains_same}
use Rattle.cell_equality.proofs.same_value.Goals as goal

pub returns-in_default : goal.returns-in_default
returns-in_default c = plains_same _ _ _ _ _ _ (c.value_of.ensures _) (c.value_of-in_default.ensures _) c.in_default.not-Text _ c.eq.ensures
