use Rattle.address_twice.proofs.Laws.{past_whole, past_nearer, past_turn}
use Rattle.address_twice.proofs.rows.Rows.past_clear.Goals as goal

pub is_clear-requires : goal.is_clear-requires
is_clear-requires c = past_whole _ _ _ _ _ _ c.loop-kind.invariant.1 c.loop-kind.invariant.0 c.header_at.ensures _ _ _ c.in-Record.is

pub loop-kind-smaller : goal.loop-kind-smaller
loop-kind-smaller c = past_nearer _ _ _ _ _ _ c.loop-kind.invariant.1 c.loop-kind.invariant.0 c.header_at.ensures _ _ _ c.in-Record.is

pub loop-kind-preserved : goal.loop-kind-preserved
loop-kind-preserved c =
    (c.loop-kind.invariant.0, past_turn _ _ _ _ _ _ c.loop-kind.invariant.1 c.loop-kind.invariant.0 c.header_at.ensures _ _ _ c.in-Record.is c.if-kind-eq2057.false c.if-kind-eq10.false _ c.is_clear.ensures c.if-not-is_clear.false)
