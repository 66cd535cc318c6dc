use Rattle.segments.specs.Segments.{items, list_of}
use Rattle.segments.specs.Parts.{Inside, Passes, stored}
use Prim.Native.Nat.{◌≤◌, ◌-◌}
use lib.ListN.{length}
use mathlib.Core.Bool.{true}
use mathlib.Core.Path.{◌≡◌}
use Rattle.segments.proofs.copy_chars.Given as goal

abbrev pub invariant-loop-j : goal.invariant-loop-j
invariant-loop-j l =
    Inside l.s l.d × (1 ≤ l.v) × (l.v ≤ 2) × (l.n ≤ length l.buf) × (length l.buf ≡ length l.initial.buf) × Passes (items l.number l.s true l.v (l.n - l.j) l.d) × (stored l.initial.buf l.initial.j (list_of (items l.number l.s true l.initial.v (l.n - l.initial.j) l.initial.d)) ≡ stored l.buf l.j (list_of (items l.number l.s true l.v (l.n - l.j) l.d)))

abbrev pub decreases-loop-j : goal.decreases-loop-j
decreases-loop-j l =
    l.n - l.j
