use Rattle.ascending_sheets.proofs.Laws.{next_past}
use Rattle.ascending_sheets.proofs.abreast.AbreastSides.next_both.Goals as goal

pub returns : goal.returns
returns c = next_past c.args.self.now.s.now c.args.self.now.t.now _ c.args.first c.args.second _ _ _ _ _ c.pass_same-on.ensures c.seek-x.ensures c.seek-y.ensures
