use Rattle.std.proofs.Common.{arith}
use Rattle.substream.proofs.Laws.{open_room}
use Rattle.substream.proofs.+walk.Goals as goal

pub walk-requires : goal.walk-requires
walk-requires t c = (omega arith, grind (arith, open_room))
