use Rattle.std.proofs.Common.{◌≡◌, Some}
use Rattle.reading.specs.declared.Scanned.TheVariants.{Cells}
use Rattle.reading.specs.Scan.{scan_of}
use Rattle.correction.proofs.Laws.{row_again}
use Rattle.correction.proofs.find.Goals as goal

pub loop-scanned-preserved-in-Cells : goal.loop-scanned-preserved-in-Cells
loop-scanned-preserved-in-Cells c =
    let s = c.args.s.now in
    let scanned : scan_of s c.loop-scanned.at c.loop-scanned.level ≡ Some (Cells c.in-Cells.cells) = cc in
    row_again s c.loop-scanned.at c.loop-scanned.level c.in-Cells.cells scanned c.args.from c.args.row c.args.column c.loop-scanned.found _ c.loop-scanned.invariant c.with_cell-found.ensures
