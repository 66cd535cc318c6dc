use Prim.Native.Nat.{◌-◌}
use mathlib.Core.Path.{◌≡◌}
use Rattle.segments.specs.Parts.{Inside, ends, Passes}
use Rattle.strings.specs.Table.{strings}
use Rattle.table_writer.specs.Writing.{left_pieces}
use Rattle.table_size.specs.Sizing.{sized}
use Rattle.table_size.proofs.size_texts.Given as goal

abbrev pub invariant-loop-i : goal.invariant-loop-i
invariant-loop-i l =
    Inside l.stream l.place × Passes (strings l.stream (l.i-end - l.i) l.place) × (ends (strings l.stream (l.i-end - 0) l.initial.place) ≡ ends (strings l.stream (l.i-end - l.i) l.place))
    × (sized l.initial.span (left_pieces l.stream l.flags l.i-end 0 l.initial.place) ≡ sized l.span (left_pieces l.stream l.flags l.i-end l.i l.place))
