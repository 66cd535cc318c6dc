use Rattle.segments.specs.Segments.{items}
use Rattle.segments.specs.Parts.{Inside, ends}
use mathlib.Core.Path.{◌≡◌}
use Prim.Native.Nat.{◌≤◌}
use Rattle.segments.proofs.skip_over.Given as goal

abbrev pub invariant-loop-left : goal.invariant-loop-left
invariant-loop-left l =
    Inside l.s l.d × (1 ≤ l.size) × (ends (items l.number l.s l.flagged l.initial.size l.initial.left l.initial.d) ≡ ends (items l.number l.s l.flagged l.size l.left l.d))

abbrev pub decreases-loop-left : goal.decreases-loop-left
decreases-loop-left l =
    l.left
