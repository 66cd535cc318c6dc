use Rattle.compare.specs.Parts.{AllAscend}
use Rattle.globals.specs.Sheets.{sheets_from, sheets_of}
use lib.ListN.{length}
use Prim.Native.Nat.{◌-◌}
use Rattle.compare.proofs.all_ascend.Given as goal

abbrev pub invariant-loop-sheet : goal.invariant-loop-sheet
invariant-loop-sheet l =
    AllAscend l.s (sheets_from l.s l.from) → AllAscend l.s (sheets_of l.s)

abbrev pub decreases-loop-sheet : goal.decreases-loop-sheet
decreases-loop-sheet l =
    length l.s - l.from
