use mathlib.Core.Path.{sym, ◌∙◌}
use Rattle.text_equality.proofs.Lists.{order_here, alike_on, order_all}
use Rattle.text_equality.proofs.standing.Run.order.Goals as goal

pub returns-then-is_ne : goal.returns-then-is_ne
returns-then-is_ne c =
    order_here _ _ _ (sym c.count-i-end.ensures) (sym (c.count-i-end.ensures ∙ c.requires)) _ c.loop-i.invariant c.loop-i-test.true _ _ c.unit.ensures c.unit-in-loop-i.ensures _ c.cmp-found.ensures _ c.is_ne.ensures c.if-is_ne.true

pub loop-i-preserved : goal.loop-i-preserved
loop-i-preserved c =
    alike_on _ _ _ (sym c.count-i-end.ensures) (sym (c.count-i-end.ensures ∙ c.requires)) _ c.loop-i.invariant c.loop-i-test.true _ _ c.unit.ensures c.unit-in-loop-i.ensures _ c.cmp-found.ensures _ c.is_ne.ensures c.if-is_ne.false

pub returns : goal.returns
returns c = order_all _ _ _ (sym c.count-i-end.ensures) (sym (c.count-i-end.ensures ∙ c.requires)) _ c.loop-i.invariant c.loop-i-test.false
