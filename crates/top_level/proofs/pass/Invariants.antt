use Rattle.std.proofs.Common.{◌≡◌, length}
use Rattle.globals.specs.Sheets.{sheets_of}
use Rattle.globals.specs.Left.{left}
use Rattle.top_level.proofs.Laws.{Passing}
use Rattle.top_level.proofs.pass.Given as goal

abbrev pub invariant-loop-sheet : goal.invariant-loop-sheet
invariant-loop-sheet l = (length l.slots ≡ 53248) × Passing l.initial.slots l.slots l.lo l.hi (sheets_of l.s) (left l.sheet-iterator)
