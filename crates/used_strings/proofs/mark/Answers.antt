use Rattle.std.proofs.Common.{ap, ◌∙◌}
use Rattle.new_places.specs.Left.{left}
use Rattle.used_strings.proofs.Marks.{marking_start, marking_next, marking_other, marking_end}
use Rattle.used_strings.proofs.mark.Goals as goal

pub loop-x-init : goal.loop-x-init
loop-x-init c = marking_start _ _ _ _ _ c.requires (ap left c.into_iter-x-iterator.ensures.into_iter_gives ∙ c.of-x-items.ensures) c.clear.ensures

pub loop-x-preserved-in-Some-text_index : goal.loop-x-preserved-in-Some-text_index
loop-x-preserved-in-Some-text_index c = marking_next c.loop-x.invariant _ _ c.in-Some.ensures.steps _ _ c.text_index.ensures c.in-Some-text_index.is c.mark_one.ensures

pub loop-x-preserved : goal.loop-x-preserved
loop-x-preserved c = marking_other c.loop-x.invariant _ _ c.in-Some.ensures.steps c.text_index.ensures c.in_default.is

pub returns : goal.returns
returns c = marking_end c.loop-x.invariant c.in-None.ensures.steps.0
