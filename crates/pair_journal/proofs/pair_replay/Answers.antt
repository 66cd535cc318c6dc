use Rattle.pair_journal.proofs.Laws.{session_passes}
use Rattle.pair_journal.proofs.pair_replay.Goals as goal

pub replay_in-requires : goal.replay_in-requires
replay_in-requires c = session_passes _ _ _ c.in_ok-unique.ensures
