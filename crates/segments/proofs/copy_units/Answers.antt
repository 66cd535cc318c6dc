use Rattle.std.proofs.Common.{arith, get_or-drop, get_or-take}
use Rattle.std.proofs.lemmas.Grind.{common_steps}
use Rattle.segments.proofs.Laws.{stored_byte}
use Rattle.segments.proofs.copy_units.Goals as goal

pub loop-byte-preserved : goal.loop-byte-preserved
loop-byte-preserved c = (omega arith, grind (arith, common_steps, stored_byte, get_or-drop, get_or-take))
