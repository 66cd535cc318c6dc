use Rattle.std.proofs.Common.{◌*◌, length}
use Rattle.new_stream.specs.Entries.{entries_of}
use Rattle.new_places.specs.Left.{left}
use Rattle.copied_records.proofs.Editing.{Editing}
use Rattle.new_fields.specs.Edited.{text_change, Good}
use Rattle.new_fields.specs.Ranks.{rank_in}
use Rattle.new_fields.proofs.put_indices.Given as goal

abbrev pub invariant-loop-x : goal.invariant-loop-x
invariant-loop-x l =
    let c = l.fn.chunk in
    Editing (Good l.s) (text_change l.s (rank_in c.flags.now c.start c.base) c.base (length c.flags.now * 64)) l.table (entries_of l.s) l.initial.out (left l.x-iterator) l.place l.out
