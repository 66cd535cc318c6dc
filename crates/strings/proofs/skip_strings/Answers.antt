use native.Mathlib.Omega.{arith}
use Rattle.strings.proofs.Laws.{next_inside, strings_left}
use Rattle.strings.proofs.skip_strings.Goals as goal

pub loop-preserved : goal.loop-preserved
loop-preserved c = (search (next_inside, c.in_ok-d.was), grind (arith, strings_left))
