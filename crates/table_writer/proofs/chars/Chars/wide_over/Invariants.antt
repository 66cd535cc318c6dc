use Prim.Native.Nat.{◌-◌}
use mathlib.Core.Path.{◌≡◌}
use mathlib.Core.Bool.{true}
use Rattle.segments.specs.Segments.{list_of, items}
use Rattle.segments.specs.Parts.{Inside, Passes}
use Rattle.table_texts.specs.Written.{wide_bit}
use Rattle.table_writer.specs.Writing.{Item}
use Rattle.table_writer.specs.Reading.{units_in}
use Rattle.table_writer.proofs.chars.Chars.wide_over.Given as goal

abbrev pub invariant-loop : goal.invariant-loop
invariant-loop l =
    Inside l.stream l.place × Item true l.size × Passes (items 8 l.stream true l.size (l.self.head.chars - l.counter) l.place)
    × (wide_bit (units_in l.self) ≡ wide_bit (list_of (items 8 l.stream true l.size (l.self.head.chars - l.counter) l.place)))
