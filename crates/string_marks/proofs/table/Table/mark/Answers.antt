use native.Mathlib.Omega.{arith}
use Rattle.string_marks.proofs.Laws.{whole_table, start_passed, passed_low, passed_short, passed_small, standing_none, standing_on}
use Rattle.string_marks.proofs.table.Table.mark.Goals as goal

pub loop-mark-init : goal.loop-mark-init
loop-mark-init c = (start_passed _ _ _ (whole_table c.args.self.now (omega arith)) _ _ c.end-end.ensures.0, standing_none _ _ _)

pub after-requires : goal.after-requires
after-requires c =
    let w = whole_table c.args.self.now (omega arith) in
    let h = c.loop-mark.invariant.0.here in
    (omega (arith, c.loop-mark.invariant.0.few), passed_small _ _ _ w _ _ h c.requires.1, passed_low _ _ _ w _ _ h, passed_short _ _ _ w _ _ h (omega (arith, c.end-end.ensures.0, c.end-end.ensures.1)))

pub loop-mark-preserved : goal.loop-mark-preserved
loop-mark-preserved c =
    (c.pass-passed.ensures, standing_on _ _ _ (whole_table c.args.self.now (omega arith)) _ _ _ _ _ _ c.loop-mark.invariant.1 c.loop-mark.invariant.0.here c.after.ensures.0 (omega (arith, c.loop-mark.auto.marks)))
