use Rattle.address_twice.proofs.Laws.{no_flags}
use Rattle.address_twice.proofs.rows.Rows.fresh.Goals as goal

pub pass-requires : goal.pass-requires
pass-requires c = no_flags 6144
