use Rattle.new_stream.specs.Entries.{entries_of}
use Rattle.new_places.specs.Left.{left}
use Rattle.copied_records.proofs.Editing.{Editing}
use Rattle.new_fields.specs.Edited.{table_change, Good}
use Rattle.compact.specs.Parts.{bytes_for}
use Rattle.compact.proofs.plan.Plan.put_tables.Given as goal

abbrev pub invariant-loop-x : goal.invariant-loop-x
invariant-loop-x l =
    let s = l.self.texts.stream.now in
    Editing (Good s) (table_change (bytes_for l.self)) l.self.size (entries_of s) l.initial.out (left l.x-iterator) l.place l.out
