use Rattle.std.proofs.Common.{arith}
use Rattle.new_fields.proofs.Slots.{filled_low, filled_less, filled_sum, filled_next}
use Rattle.new_fields.proofs.fill.Goals as goal

pub overflow_add-place : goal.overflow_add-place
overflow_add-place c = omega (arith, filled_sum c.loop-entry.invariant c.step_at.ensures _ c.in-Some.is, c.new_size-place.ensures)

pub fill_at-filling-requires : goal.fill_at-filling-requires
fill_at-filling-requires c = filled_low c.loop-entry.invariant c.step_at.ensures _ c.in-Some.is

pub loop-entry-smaller : goal.loop-entry-smaller
loop-entry-smaller c = filled_less c.loop-entry.invariant c.step_at.ensures _ c.in-Some.is

pub loop-entry-preserved : goal.loop-entry-preserved
loop-entry-preserved c = filled_next c.loop-entry.invariant c.step_at.ensures _ c.in-Some.is _ _ _ c.new_size-place.ensures c.fill_at-filling.ensures
