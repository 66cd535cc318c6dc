use Rattle.std.proofs.Common.{ap, ◌∙◌, arith}
use Rattle.new_places.specs.Left.{left}
use Rattle.copied_records.proofs.Editing.{editing_here, editing_room, editing_next}
use Rattle.copied_records.proofs.Kept.{copying_start, copied_room}
use Rattle.copied_records.proofs.copy_kept.Goals as goal

pub loop-x-init : goal.loop-x-init
loop-x-init c = copying_start _ _ _ _ (ap left c.into_iter-x-iterator.ensures.into_iter_gives ∙ c.of-x-items.ensures) c.requires.2

pub copy_entry-requires : goal.copy_entry-requires
copy_entry-requires c =
    let g = c.loop-x.invariant in
    let e = c.in-Some.ensures.steps in
    (editing_here g _ _ e, omega (arith, editing_room g _ _ e, copied_room c.args.table c.in-Some.x.size c.in-Some.x.fate))

pub loop-x-preserved : goal.loop-x-preserved
loop-x-preserved c = editing_next c.loop-x.invariant _ _ c.in-Some.ensures.steps _ _ c.new_size-place.ensures c.copy_entry.ensures
