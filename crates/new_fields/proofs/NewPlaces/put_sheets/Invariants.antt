use Rattle.new_stream.specs.Entries.{entries_of}
use Rattle.new_places.specs.Left.{left}
use Rattle.new_places.specs.Places.{place_for}
use Rattle.copied_records.proofs.Editing.{Editing}
use Rattle.new_fields.specs.Edited.{sheet_change, Good}
use Rattle.new_fields.proofs.NewPlaces.put_sheets.Given as goal

abbrev pub invariant-loop-x : goal.invariant-loop-x
invariant-loop-x l =
    let s = l.self.stream.now in
    Editing (Good s) (sheet_change s (place_for l.self.table (entries_of s))) l.self.table (entries_of s) l.initial.out (left l.x-iterator) l.place l.out
