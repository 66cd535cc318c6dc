use Rattle.std.proofs.Common.{ap, ◌∙◌}
use Rattle.new_places.specs.Left.{left}
use Rattle.copied_records.proofs.Editing.{editing_next, editing_end}
use Rattle.new_fields.proofs.Laws.{place_table}
use Rattle.compact.proofs.Laws.{tables_start}
use Rattle.compact.proofs.plan.Plan.put_tables.Goals as goal

pub loop-x-init : goal.loop-x-init
loop-x-init c = tables_start c.args.self.now _ _ (ap left c.into_iter-x-iterator.ensures.into_iter_gives ∙ c.of-x-items.ensures) c.requires

pub put_table-requires : goal.put_table-requires
put_table-requires c = place_table c.loop-x.invariant c.args.self.now.texts.short _ _ c.in-Some.ensures.steps

pub loop-x-preserved : goal.loop-x-preserved
loop-x-preserved c = editing_next c.loop-x.invariant _ _ c.in-Some.ensures.steps _ _ c.new_size-place.ensures c.put_table.ensures

pub returns : goal.returns
returns c = editing_end c.loop-x.invariant c.in-None.ensures.steps.0
