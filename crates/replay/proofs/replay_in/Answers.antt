use Rattle.replay.proofs.Running.{whole_room}
use Rattle.replay.proofs.Laws.{formed_by}
use Rattle.replay.proofs.replay_in.Goals as goal

pub invariant_of-entries : goal.invariant_of-entries
invariant_of-entries c = record { whole = whole_room c.args.j.now _ _ c.journal_fits.result c.journal_fits.ensures c.if-not-journal_fits.false c.u32_at.result c.u32_at.ensures }

pub run-requires : goal.run-requires
run-requires c = (c.requires, formed_by c.args.j.now _ _ c.journal_fits.ensures c.if-not-journal_fits.false (λ i. (c.type_inv.j i).fits) c.u32_at.ensures)
