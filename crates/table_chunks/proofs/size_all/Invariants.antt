use Rattle.table_chunks.proofs.Laws.{Ahead, Sizing}
use Prim.Native.Nat.{◌-◌}
use mathlib.Core.Path.{◌≡◌}
use lib.ListN.{length}
use Rattle.table_chunks.proofs.size_all.Given as goal

abbrev pub invariant-loop-base : goal.invariant-loop-base
invariant-loop-base l =
    Ahead l.stream l.unique l.base l.place × Sizing l.stream l.unique l.initial.place l.base l.count l.place l.span × (length l.flags ≡ length l.initial.flags)

abbrev pub decreases-loop-base : goal.decreases-loop-base
decreases-loop-base l =
    l.unique - l.base
