use Rattle.cell_text.proofs.Laws.{spot_in}
use Rattle.cell_text.proofs.spot_in.Goals as goal

pub returns : goal.returns
returns c = spot_in _ _ _ _ _ _ _ c.first_place-start.ensures c.find_first.ensures
