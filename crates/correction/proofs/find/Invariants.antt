use Rattle.correction.proofs.Laws.{Finding}
use Prim.Native.Nat.{◌-◌}
use lib.ListN.{length}
use Rattle.correction.proofs.find.Given as goal

abbrev pub invariant-loop-scanned : goal.invariant-loop-scanned
invariant-loop-scanned l =
    Finding l.s l.from l.row l.column l.at l.level l.found

abbrev pub decreases-loop-scanned : goal.decreases-loop-scanned
decreases-loop-scanned l =
    length l.s - l.at
