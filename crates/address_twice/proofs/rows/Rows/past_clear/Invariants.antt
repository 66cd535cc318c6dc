use Rattle.address_twice.specs.Doubles.{PastClear}
use mathlib.Core.Path.{◌≡◌}
use lib.ListN.{length}
use Prim.Native.Nat.{◌-◌}
use Rattle.address_twice.proofs.rows.Rows.past_clear.Given as goal

abbrev pub invariant-loop-kind : goal.invariant-loop-kind
invariant-loop-kind l =
    (l.level ≡ 0) × PastClear l.s l.level l.from l.self.low l.high l.at

abbrev pub decreases-loop-kind : goal.decreases-loop-kind
decreases-loop-kind l =
    length l.s - l.at
