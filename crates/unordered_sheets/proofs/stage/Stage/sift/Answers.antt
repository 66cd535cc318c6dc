use Rattle.unordered_sheets.proofs.Laws.{tells_kept}
use Rattle.unordered_sheets.proofs.stage.Stage.sift.Goals as goal

pub returns : goal.returns
returns g c = λ l m h o. c.next.ensures l m (tells_kept _ _ _ _ _ _ h.first) (tells_kept _ _ _ _ _ _ h.second) o
