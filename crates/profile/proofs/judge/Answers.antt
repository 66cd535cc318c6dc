use Rattle.std.proofs.Common.{◌≡◌, sym, ap, ◌∙◌, Err}
use Rattle.std.proofs.lemmas.Result.{err_from_is_err_and}
use Rattle.profile.specs.Placed.{placed_from}
use Rattle.profile.specs.declared.PlacedCells.{PlacedCells}
use Rattle.profile.specs.Left.{left}
use Rattle.profile.specs.Parts.{count_of}
use Rattle.profile.specs.Profile.{judged_from}
use Rattle.profile.proofs.Laws.{ok_or_wrong, judged_wrong}
use Rattle.profile.proofs.judge.Goals as goal

pub returns-in_err-n : goal.returns-in_err-n
returns-in_err-n c =
    let w = ok_or_wrong c.amount_at.result c.outside.result _ (sym c.ok_or.ensures.value ∙ c.in_err-n.was) in
    let e = judged_wrong _ _ _ _ c.in-Some.placed _ c.in-Some.ensures.steps c.amount_at.ensures.value w.0 in
    let g : judged_from (count_of c.args.columns) 0 0 (left c.into_iter-placed-iterator.result) ≡ judged_from (count_of c.args.columns) 0 0 (placed_from c.args.s.now c.args.from) =
    ap (λ (y : PlacedCells). judged_from (count_of c.args.columns) 0 0 (left y)) c.into_iter-placed-iterator.ensures.into_iter_gives in
    let i : judged_from (count_of c.args.columns) 0 0 (left c.into_iter-placed-iterator.result) ≡ judged_from (count_of c.args.columns) c.loop-placed.i c.loop-placed.seconds (left c.loop-placed.placed-iterator) = c.loop-placed.invariant in
    let h : Err c.in_err-n.field-0.0 ≡ judged_from (count_of c.args.columns) 0 0 (placed_from c.args.s.now c.args.from) = cc (w.1, e, g, i, c.outside.ensures) in
    let p = err_from_is_err_and c.from_residual.result c.from_residual.ensures.1 in
    cc (p.1, p.2, h)
