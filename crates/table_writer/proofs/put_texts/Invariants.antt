use Prim.Native.Nat.{◌-◌}
use mathlib.Core.Path.{◌≡◌}
use lib.ListN.{length}
use Rattle.segments.specs.Parts.{Inside, ends, Passes}
use Rattle.strings.specs.Table.{strings}
use Rattle.table_writer.specs.Writing.{state, wrote, Long, left_pieces}
use Rattle.table_writer.proofs.put_texts.Given as goal

abbrev pub invariant-loop-i : goal.invariant-loop-i
invariant-loop-i l =
    Inside l.stream l.place × (length l.buf ≡ length l.initial.buf) × Passes (strings l.stream (l.i-end - l.i) l.place) × Long (state l.buf l.o) (left_pieces l.stream l.flags l.i-end l.i l.place)
    × (ends (strings l.stream (l.i-end - 0) l.initial.place) ≡ ends (strings l.stream (l.i-end - l.i) l.place))
    × (wrote (state l.initial.buf l.initial.o) (left_pieces l.stream l.flags l.i-end 0 l.initial.place) ≡ wrote (state l.buf l.o) (left_pieces l.stream l.flags l.i-end l.i l.place))
