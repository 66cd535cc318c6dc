use Rattle.std.proofs.Common.{◌≡◌, ◌-◌, length}
use Rattle.globals.specs.Sheets.{next_sheet_of}
use Rattle.globals.proofs.next_sheet.Given as goal

abbrev pub invariant-loop-sheet : goal.invariant-loop-sheet
invariant-loop-sheet l = next_sheet_of l.s l.from ≡ next_sheet_of l.s l.p

abbrev pub decreases-loop-sheet : goal.decreases-loop-sheet
decreases-loop-sheet l = length l.s - l.p
