use Rattle.std.proofs.Common.{◌∙◌}
use Rattle.std.proofs.lemmas.List.{length-set}
use Rattle.top_level.proofs.Laws.{pass_low, pass_slot, pass_fault, pass_again}
use Rattle.top_level.proofs.pass.Goals as goal

pub returns-then-not-slot_has : goal.returns-then-not-slot_has
returns-then-not-slot_has c = pass_fault c.loop-sheet.invariant.1 c.in-Some.sheet _ c.in-Some.ensures.steps _ c.in_window.ensures c.if-in_window.true _ c.slot_has.ensures c.if-not-slot_has.true

pub overflow_sub-slots : goal.overflow_sub-slots
overflow_sub-slots c = pass_low c.loop-sheet.invariant.1 c.in-Some.sheet _ c.in-Some.ensures.steps _ c.in_window.ensures c.if-in_window.true _ c.slot_has.ensures c.if-not-slot_has.false

pub bounds-slots-q : goal.bounds-slots-q
bounds-slots-q c = pass_slot c.loop-sheet.invariant.1 c.in-Some.sheet _ c.in-Some.ensures.steps _ c.in_window.ensures c.if-in_window.true _ c.slot_has.ensures c.if-not-slot_has.false

pub loop-sheet-preserved-then-in_window : goal.loop-sheet-preserved-then-in_window
loop-sheet-preserved-then-in_window c = (
  length-set _ _ _ ∙ c.loop-sheet.invariant.0,
  pass_again c.loop-sheet.invariant.1 c.in-Some.sheet _ c.in-Some.ensures.steps _ c.in_window.ensures c.if-in_window.true _ c.slot_has.ensures c.if-not-slot_has.false c.loop-sheet.invariant.0,
)
