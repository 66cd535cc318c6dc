use native.Mathlib.Omega.{arith}
use Rattle.station.proofs.Laws.{sheet_less, sheet_low}
use Rattle.station.proofs.print_sheets.Goals as goal

pub overflow_add-n : goal.overflow_add-n
overflow_add-n c = let low = sheet_low _ _ c.next_sheet.ensures _ c.in-Some.is _ c.loop-sheet.invariant in record { fits = omega arith }

pub loop-sheet-smaller : goal.loop-sheet-smaller
loop-sheet-smaller c = sheet_less _ _ c.next_sheet.ensures _ c.in-Some.is

pub loop-sheet-preserved : goal.loop-sheet-preserved
loop-sheet-preserved c = sheet_low _ _ c.next_sheet.ensures _ c.in-Some.is _ c.loop-sheet.invariant
