use native.Mathlib.Omega.{arith}
use Rattle.segments.proofs.Laws.{items_inside}
use Rattle.text_result.proofs.skip_parts.Goals as goal

pub ends_with_segments-requires : goal.ends_with_segments-requires
ends_with_segments-requires c = items_inside _ _ _ _ _ _ _ _ c.skip_over.ensures c.in_ok-d.was (omega arith, omega arith)
