use Rattle.reading.specs.Cells.{place_at, listed_from}
use Rattle.address_twice.proofs.Laws.{Passing}
use lib.ListN.{length}
use Prim.Native.Nat.{◌-◌}
use Rattle.address_twice.proofs.rows.Rows.pass.Given as goal

abbrev pub invariant-loop-scanned : goal.invariant-loop-scanned
invariant-loop-scanned l =
    Passing l.s (listed_from l.s (place_at l.from 0)) l.self.low l.flags l.at l.level l.next

abbrev pub decreases-loop-scanned : goal.decreases-loop-scanned
decreases-loop-scanned l =
    length l.s - l.at
