use Rattle.compare.proofs.Laws.{Listing}
use lib.ListN.{length}
use Prim.Native.Nat.{◌+◌, ◌-◌}
use Rattle.compare.proofs.Together.list.Given as goal

abbrev pub invariant-loop-j : goal.invariant-loop-j
invariant-loop-j l =
    Listing l.s l.self.tables.first.table.place l.t l.self.tables.second.table.place l.from l.initial.out l.out l.a l.b l.number l.j

abbrev pub decreases-loop-j : goal.decreases-loop-j
decreases-loop-j l =
    (length l.s - l.a) + (length l.t - l.b)
