use Rattle.std.proofs.Common.{arith}
use Rattle.top_level.proofs.Laws.{window_fault, window_left, window_free, window_named}
use Rattle.top_level.proofs.with_slots.Goals as goal

pub returns-then-is_some : goal.returns-then-is_some
returns-then-is_some c = window_fault _ _ _ _ _ _ _ c.fill-next.ensures _ c.pass-fault.ensures _ c.unwrap_or-end.ensures (grind arith)

pub unnamed-requires : goal.unnamed-requires
unnamed-requires c = (
  c.requires.1,
  λ h e. (c.fill-next.ensures.far h e).1,
  window_left _ _ _ _ _ _ _ c.fill-next.ensures _ c.pass-fault.ensures (grind arith),
  c.fill-next.ensures.named,
)

pub returns-in-Named : goal.returns-in-Named
returns-in-Named c = window_named _ _ _ _ _ _ _ c.fill-next.ensures _ c.pass-fault.ensures (grind arith) _ c.in-Named.ensures

pub returns-in-Free : goal.returns-in-Free
returns-in-Free c = window_free _ _ _ _ _ _ _ c.fill-next.ensures _ c.pass-fault.ensures (grind arith) _ c.unwrap_or-end.ensures _ c.in-Free.ensures
