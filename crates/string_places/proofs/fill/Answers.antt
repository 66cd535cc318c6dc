use Rattle.workbook.proofs.Laws.{short}
use Rattle.string_places.proofs.Filling.{table_at}
use Rattle.string_places.proofs.fill.Goals as goal

pub fill_checked-requires : goal.fill_checked-requires
fill_checked-requires c = (short _ _ _ c.check_with.ensures c.in_ok-g.was, table_at _ _ c.check_with.ensures _ c.in_ok-g.was _ c.count_of.ensures)
