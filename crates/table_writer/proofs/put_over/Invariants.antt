use Prim.Native.Nat.{◌-◌}
use mathlib.Core.Path.{◌≡◌}
use lib.ListN.{length}
use Rattle.segments.specs.Segments.{list_of, items}
use Rattle.segments.specs.Parts.{Inside, ends, Passes}
use Rattle.table_texts.specs.Written.{item_pieces}
use Rattle.table_writer.specs.Writing.{state, wrote, Long, Item, written}
use Rattle.table_writer.proofs.put_over.Given as goal

abbrev pub invariant-loop : goal.invariant-loop
invariant-loop l =
    Inside l.s l.c × Item l.flagged l.size × (length l.buf ≡ length l.initial.buf) × Passes (items 8 l.s l.flagged l.size (l.n - l.counter) l.c)
    × Long (state l.buf l.o) (item_pieces l.flagged l.v (list_of (items 8 l.s l.flagged l.size (l.n - l.counter) l.c))) × (ends (items 8 l.s l.flagged l.initial.size l.n l.initial.c) ≡ ends (items 8 l.s l.flagged l.size (l.n - l.counter) l.c))
    × (wrote (state l.initial.buf l.initial.o) (written l.flagged l.v (items 8 l.s l.flagged l.initial.size l.n l.initial.c)) ≡ wrote (state l.buf l.o) (item_pieces l.flagged l.v (list_of (items 8 l.s l.flagged l.size (l.n - l.counter) l.c))))
