use native.Mathlib.Omega.{arith}
use Rattle.strings.proofs.Laws.{strings_inside}
use Rattle.strings.proofs.check_strings.Goals as goal

pub ends_with_segments-requires : goal.ends_with_segments-requires
ends_with_segments-requires c = strings_inside _ _ _ _ _ c.skip_strings.ensures c.in_ok-last.was (omega arith, omega arith)
