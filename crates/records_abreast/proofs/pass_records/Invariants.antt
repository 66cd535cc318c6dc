use Rattle.records_abreast.specs.Abreast.{Ahead}
use Rattle.reading.specs.Cells.{place_at, listed_from}
use lib.ListN.{length}
use Prim.Native.Nat.{◌+◌, ◌-◌}
use Rattle.records_abreast.proofs.pass_records.Given as goal

abbrev pub invariant-loop-size : goal.invariant-loop-size
invariant-loop-size l =
    Ahead l.s l.t l.common (listed_from l.s (place_at l.a 0)) (listed_from l.t (place_at l.b 0)) (listed_from l.s (place_at l.x 0)) (listed_from l.t (place_at l.y 0))

abbrev pub decreases-loop-size : goal.decreases-loop-size
decreases-loop-size l =
    (length l.s - l.x) + (length l.t - l.y)
