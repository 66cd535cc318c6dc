use Rattle.leading_strings.specs.Leading.{Reached, Shared}
use Prim.Native.Nat.{◌<◌}
use Rattle.leading_strings.proofs.in_common.Given as goal

abbrev pub invariant-loop-i : goal.invariant-loop-i
invariant-loop-i l =
    record { first : l.i < l.few → Reached l.x l.i l.c; second : l.i < l.few → Reached l.y l.i l.d; same : Shared l.x l.y l.i }
