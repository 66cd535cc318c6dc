use Rattle.std.proofs.Common.{ap, ◌∙◌}
use Rattle.new_places.specs.Left.{left}
use Rattle.copied_records.proofs.Editing.{editing_next, editing_end}
use Rattle.new_fields.proofs.Laws.{sheets_start, place_low, place_sheet}
use Rattle.new_fields.proofs.NewPlaces.put_sheets.Goals as goal

pub loop-x-init : goal.loop-x-init
loop-x-init c = sheets_start _ _ _ _ (ap left c.into_iter-x-iterator.ensures.into_iter_gives ∙ c.of-x-items.ensures) c.requires

pub put_position-requires : goal.put_position-requires
put_position-requires c =
    let g = c.loop-x.invariant in
    let e = c.in-Some.ensures.steps in
    (place_low g c.requires.short _ _ e, place_sheet g c.requires.short _ _ e)

pub loop-x-preserved : goal.loop-x-preserved
loop-x-preserved c = editing_next c.loop-x.invariant _ _ c.in-Some.ensures.steps _ _ c.new_size-place.ensures c.put_position.ensures

pub returns : goal.returns
returns c = editing_end c.loop-x.invariant c.in-None.ensures.steps.0
