use Rattle.station.proofs.Laws.{all_start, all_more, all_fit, all_done, sheet_less}
use Rattle.station.proofs.count_all.Goals as goal

pub loop-sheet-init : goal.loop-sheet-init
loop-sheet-init c = all_start _ _

pub overflow_add-n : goal.overflow_add-n
overflow_add-n c = record { fits = all_fit c.loop-sheet.invariant c.next_sheet.ensures _ c.in-Some.is _ c.count_cells-n.ensures c.requires }

pub loop-sheet-smaller : goal.loop-sheet-smaller
loop-sheet-smaller c = sheet_less _ _ c.next_sheet.ensures _ c.in-Some.is

pub loop-sheet-preserved : goal.loop-sheet-preserved
loop-sheet-preserved c = all_more c.loop-sheet.invariant c.next_sheet.ensures _ c.in-Some.is _ c.count_cells-n.ensures

pub returns : goal.returns
returns c = all_done c.loop-sheet.invariant c.next_sheet.ensures c.in_default.is
