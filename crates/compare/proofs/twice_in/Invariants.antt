use Rattle.compare.proofs.Laws.{TwiceFrom}
use lib.ListN.{length}
use Prim.Native.Nat.{◌-◌}
use Rattle.compare.proofs.twice_in.Given as goal

abbrev pub invariant-loop-sheet : goal.invariant-loop-sheet
invariant-loop-sheet l =
    TwiceFrom l.s l.from

abbrev pub decreases-loop-sheet : goal.decreases-loop-sheet
decreases-loop-sheet l =
    length l.s - l.from
