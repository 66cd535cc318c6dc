use Rattle.std.proofs.lemmas.Result.{err_from_is_err_and}
use Rattle.address_twice.proofs.Laws.{pass_start, row_nearer, pass_on, pass_stop, over_on, over_nearer, none_end}
use borrow.Author.Rules.{rules}
use Rattle.address_twice.proofs.rows.Rows.pass.Goals as goal

pub loop-scanned-init : goal.loop-scanned-init
loop-scanned-init c = pass_start _ _ _ _ (search rules) c.requires

pub returns-in_err-next-in-Cells : goal.returns-in_err-next-in-Cells
returns-in_err-next-in-Cells c =
    let p = err_from_is_err_and c.from_residual.result c.from_residual.ensures.1 in
    rw (p.1, p.2)
    (pass_stop _ _ _ _ _ _ _ c.loop-scanned.invariant _ c.past_clear.ensures _ c.scan.ensures _ c.in-Some.is _ c.in-Cells.is _ _ c.look.ensures _ c.in_err-next-in-Cells.was)

pub loop-scanned-smaller-in-Cells : goal.loop-scanned-smaller-in-Cells
loop-scanned-smaller-in-Cells c = row_nearer _ _ _ _ _ _ _ c.loop-scanned.invariant _ c.past_clear.ensures _ c.scan.ensures _ c.in-Some.is _ c.in-Cells.is

pub loop-scanned-preserved-in-Cells : goal.loop-scanned-preserved-in-Cells
loop-scanned-preserved-in-Cells c =
    pass_on _ _ _ _ _ _ _ c.loop-scanned.invariant _ c.past_clear.ensures _ c.scan.ensures _ c.in-Some.is _ c.in-Cells.is _ _ c.look.ensures _ c.in_ok-next-in-Cells.was

pub loop-scanned-smaller : goal.loop-scanned-smaller
loop-scanned-smaller c = over_nearer _ _ _ _ _ _ _ c.loop-scanned.invariant _ c.past_clear.ensures _ c.scan.ensures _ c.in-Some.is _ c.in-Past.is

pub loop-scanned-preserved : goal.loop-scanned-preserved
loop-scanned-preserved c = over_on _ _ _ _ _ _ _ c.loop-scanned.invariant _ c.past_clear.ensures _ c.scan.ensures _ c.in-Some.is _ c.in-Past.is

pub returns : goal.returns
returns c = none_end _ _ _ _ _ _ _ c.loop-scanned.invariant _ c.past_clear.ensures _ c.scan.ensures c.in_default.is
