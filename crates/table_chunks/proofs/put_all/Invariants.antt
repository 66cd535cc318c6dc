use Rattle.table_chunks.proofs.Laws.{Ahead, Putting}
use Prim.Native.Nat.{◌-◌}
use mathlib.Core.Path.{◌≡◌}
use lib.ListN.{length}
use Rattle.table_chunks.proofs.put_all.Given as goal

abbrev pub invariant-loop-base : goal.invariant-loop-base
invariant-loop-base l =
    Ahead l.stream l.unique l.base l.place × Putting l.stream l.unique l.initial.place l.initial.buf l.initial.o l.base l.place l.buf l.o × (length l.flags ≡ length l.initial.flags)

abbrev pub decreases-loop-base : goal.decreases-loop-base
decreases-loop-base l =
    l.unique - l.base
