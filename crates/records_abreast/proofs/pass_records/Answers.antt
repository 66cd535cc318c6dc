use Rattle.records_abreast.proofs.Laws.{pass_same, pass_laws}
use Rattle.records_abreast.proofs.pass_records.Goals as goal

pub loop-size-preserved-in-Some : goal.loop-size-preserved-in-Some
loop-size-preserved-in-Some c = pass_same _ _ _ _ _ _ _ c.loop-size.invariant _ c.in-Some.ensures

pub loop-size-preserved : goal.loop-size-preserved
loop-size-preserved c = search pass_laws
