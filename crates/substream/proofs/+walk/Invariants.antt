use Rattle.substream.specs.Substream.{records_from, substream_in}
use mathlib.Core.Path.{◌≡◌}
use lib.ListN.{length}
use Prim.Native.Nat.{◌-◌}
use Rattle.substream.proofs.+walk.Given as goal

abbrev pub decreases-walk : goal.decreases-walk
decreases-walk l = l.allowance

abbrev pub invariant-loop-next : goal.invariant-loop-next
invariant-loop-next l =
    (l.allowance ≡ 0 → ⊥) × (substream_in l.allowance l.s l.unique l.kind l.from ≡ records_from (substream_in (l.allowance - 1) l.s l.unique 0x0020) l.s l.kind l.unique l.v)

abbrev pub decreases-loop-next : goal.decreases-loop-next
decreases-loop-next l = length l.s - l.v.at
