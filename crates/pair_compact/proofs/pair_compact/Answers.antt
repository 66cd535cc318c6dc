use Rattle.pair_compact.proofs.Laws.{session_passed}
use Rattle.pair_compact.proofs.pair_compact.Goals as goal

pub compact_checked-requires : goal.compact_checked-requires
compact_checked-requires c = session_passed _ _ c.type_inv.template c.type_inv.session _ c.in_ok-own.ensures
