use Prim.Native.Nat.{◌-◌}
use mathlib.Core.Path.{◌≡◌}
use Rattle.table_size.specs.Sizing.{sized_items}
use Rattle.table_size.proofs.span.Span.pieces_over.Given as goal

abbrev pub invariant-loop : goal.invariant-loop
invariant-loop l = sized_items l.initial.e l.p.opening l.p.body l.m ≡ sized_items l.e l.p.opening l.p.body (l.m - l.counter)
