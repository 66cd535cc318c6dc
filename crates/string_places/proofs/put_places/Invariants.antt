use Prim.Native.Nat.{◌*◌, ◌-◌}
use mathlib.Core.Path.{◌≡◌}
use lib.ListN.{length}
use Rattle.segments.specs.Segments.{list_of}
use Rattle.segments.specs.Parts.{Inside, Passes, stored}
use Rattle.strings.specs.Table.{strings}
use Rattle.string_places.specs.Places.{numbers_of}
use Rattle.string_places.specs.Parts.{Segment}
use Rattle.string_places.proofs.put_places.Given as goal

abbrev pub invariant-loop-i : goal.invariant-loop-i
invariant-loop-i l =
    Inside l.s l.d × Segment l.s l.d × (length l.table ≡ length l.initial.table) × Passes (strings l.s (l.n - l.i) l.d)
    × (stored l.initial.table 0 (numbers_of (list_of (strings l.s l.n l.initial.d))) ≡ stored l.table (2 * l.i) (numbers_of (list_of (strings l.s (l.n - l.i) l.d))))
