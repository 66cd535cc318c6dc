use Prim.Native.Nat.{◌-◌}
use mathlib.Core.Path.{◌≡◌}
use Rattle.segments.specs.Parts.{Inside, ends}
use Rattle.strings.specs.Table.{strings}
use Rattle.strings.proofs.skip_strings.Given as goal

abbrev pub invariant-loop : goal.invariant-loop
invariant-loop l = Inside l.s l.d × (ends (strings l.s l.n l.initial.d) ≡ ends (strings l.s (l.n - l.counter) l.d))
