use Rattle.new_stream.specs.Entries.{entries_of}
use Rattle.new_places.specs.Left.{left}
use Rattle.copied_records.specs.Copied.{copied_entry}
use Rattle.copied_records.proofs.Editing.{Editing}
use Rattle.copied_records.proofs.Kept.{Lies}
use Rattle.copied_records.proofs.copy_kept.Given as goal

abbrev pub invariant-loop-x : goal.invariant-loop-x
invariant-loop-x l = Editing (Lies l.s) (copied_entry l.s) l.table (entries_of l.s) l.initial.out (left l.x-iterator) l.place l.out
