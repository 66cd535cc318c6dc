use Rattle.std.proofs.Common.{ap, ◌∙◌}
use Rattle.new_places.specs.Left.{left}
use Rattle.new_fields.proofs.Indices.{counting_start, count_total, count_top, count_text, count_other}
use Rattle.new_fields.proofs.count_texts.Goals as goal

pub loop-x-init : goal.loop-x-init
loop-x-init c = counting_start _ _ c.requires (ap left c.into_iter-x-iterator.ensures.into_iter_gives ∙ c.of-x-items.ensures)

pub loop-x-preserved-in-Some-text_index : goal.loop-x-preserved-in-Some-text_index
loop-x-preserved-in-Some-text_index c = count_text c.loop-x.invariant _ _ c.in-Some.ensures.steps c.text_index.ensures _ _ c.in-Some-text_index.is c.max-top.ensures

pub loop-x-preserved : goal.loop-x-preserved
loop-x-preserved c = count_other c.loop-x.invariant _ _ c.in-Some.ensures.steps c.text_index.ensures c.in_default.is

pub returns : goal.returns
returns c = (count_total c.loop-x.invariant c.in-None.ensures.steps.0, count_top c.loop-x.invariant c.in-None.ensures.steps.0)
