use Rattle.std.proofs.Common.{◌≡◌, ◌+◌, ◌*◌, true, sym, ◌∙◌, arith}
use Rattle.steps.specs.Choice.{pick}
use Rattle.value.specs.Value.{value_fits}
use Rattle.cell.specs.Cells.{part_of, field_at}
use Rattle.cell.proofs.Judging.{fits_from}
use Rattle.cell.proofs.fields_fit.Goals as goal

pub loop-i-preserved : goal.loop-i-preserved
unfolding pick
loop-i-preserved c =
    let f = c.args.f in
    let right : value_fits f (field_at f c.args.s.now (c.args.q + c.loop-i.i * part_of f)) ≡ true = rw (← c.from.ensures, ← c.part_of.ensures) (sym c.value_fits.ensures ∙ c.if-not-value_fits.false) in
    c.loop-i.invariant ∙ fits_from f c.args.s.now c.args.q c.args.n c.loop-i.i (omega arith) ∙ rw right
