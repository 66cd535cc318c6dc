use Rattle.segments.specs.Parts.{nums, stored}
use Prim.Native.Nat.{◌+◌}
use mathlib.Core.Path.{◌≡◌}
use Rattle.segments.proofs.copy_units.Given as goal

abbrev pub invariant-loop-byte : goal.invariant-loop-byte
invariant-loop-byte l = (l.to ≡ l.j + l.byte-index) × (l.buf ≡ stored l.initial.buf l.j (nums l.s 1 l.byte-index l.p))

abbrev pub invariant-loop-i : goal.invariant-loop-i
invariant-loop-i l = l.buf ≡ stored l.initial.buf l.j (nums l.s 2 l.i l.p)
