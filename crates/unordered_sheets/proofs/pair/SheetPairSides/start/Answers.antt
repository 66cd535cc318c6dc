use Rattle.unordered_sheets.proofs.Laws.{start_when}
use Rattle.reading.specs.Cells.{place_at}
use Rattle.unordered_sheets.proofs.pair.SheetPairSides.start.Goals as goal

pub advance-requires : goal.advance-requires
unfolding place_at
advance-requires c = (c.requires.0, start_when _ (place_at c.args.self.now.first.from 0) _ _ c.args.self.now.first.ascends)

pub advance-requires-2 : goal.advance-requires-2
unfolding place_at
advance-requires-2 c = (c.requires.0, start_when _ (place_at c.args.self.now.second.from 0) _ _ c.args.self.now.second.ascends)
