use mathlib.Core.Path.{sym, ◌∙◌}
use native.Mathlib.Omega.{arith}
use Rattle.text_equality.proofs.Lists.{parted_stop, parted_on, rank_apart_by, rank_even, rank_end}
use Rattle.text_equality.proofs.Segments.{units_length}
use Rattle.text_equality.proofs.standing.Chars.order.Goals as goal

pub returns-then-self-other : goal.returns-then-self-other
returns-then-self-other c =
    rank_apart_by _ _ _ _ (units_length _ _ _ _ c.args.self.now.passes) (units_length _ _ _ _ c.args.other.now.passes) _ c.cmp.ensures c.if-self-other.true

pub loop-x-init : goal.loop-x-init
loop-x-init c =
    (c.if-self-other.false, rank_even _ _ _ _ (units_length _ _ _ _ c.args.self.now.passes) (units_length _ _ _ _ c.args.other.now.passes) c.if-self-other.false)

pub order-found-requires : goal.order-found-requires
order-found-requires c = c.split.ensures.first ∙ sym c.split-in-loop-x.ensures.first

pub returns-then-is_ne : goal.returns-then-is_ne
returns-then-is_ne c =
    parted_stop _ _ _ _ _ _ (c.entered-a.ensures.units ∙ c.split.ensures.units) (c.entered-b.ensures.units ∙ c.split-in-loop-x.ensures.units) (c.split.ensures.first ∙ sym c.split-in-loop-x.ensures.first) _ c.order-found.ensures _ c.is_ne.ensures c.if-is_ne.true
    ∙ sym c.loop-x.invariant.1

pub loop-x-preserved : goal.loop-x-preserved
loop-x-preserved c = (
  omega arith,
  c.loop-x.invariant.1
      ∙ parted_on _ _ _ _ _ _ (c.entered-a.ensures.units ∙ c.split.ensures.units) (c.entered-b.ensures.units ∙ c.split-in-loop-x.ensures.units) (c.split.ensures.first ∙ sym c.split-in-loop-x.ensures.first) _ c.order-found.ensures _ c.is_ne.ensures
      c.if-is_ne.false,
)

pub returns : goal.returns
returns c =
    rank_end _ _ _ c.loop-x.invariant.1 (units_length _ _ _ _ c.loop-x.x.passes ∙ c.loop-x-test.false) (units_length _ _ _ _ c.loop-x.y.passes ∙ sym c.loop-x.invariant.0 ∙ c.loop-x-test.false)
