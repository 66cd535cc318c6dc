use Rattle.reading.specs.Cells.{place_at, listed_from}
use Rattle.address_twice.proofs.Laws.{OnceBelow}
use Prim.Native.Nat.{◌-◌}
use Rattle.address_twice.proofs.twice.Given as goal

abbrev pub invariant-loop-low : goal.invariant-loop-low
invariant-loop-low l =
    OnceBelow (listed_from l.s (place_at l.from 0)) l.low

abbrev pub decreases-loop-low : goal.decreases-loop-low
decreases-loop-low l =
    4294967296 - l.low
