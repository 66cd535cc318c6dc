use mathlib.Core.Path.{subst⁻¹}
use native.Mathlib.Omega.{arith}
use lib.ListN.{length}
use Prim.Native.Nat.{◌+◌, ◌<◌}
use Rattle.string_links.specs.Links.{Linked, ordered_at}
use Rattle.string_links.proofs.Laws.{linked_idle, linked_on}
use Rattle.string_links.proofs.tables.link_second.Goals as goal
use Rattle.string_links.proofs.tables.link_second.Goals.{then-marks-j-ne0, else-marks-j-ne0}

pub loop-j-preserved : goal.loop-j-preserved
loop-j-preserved c =
    let o = c.args.first.now in
    let room : c.loop-j.j < length c.loop-j.marks = omega (arith, c.loop-j.auto.marks) in
    elim c.if-marks-j-ne0.branch [
      | then-marks-j-ne0 w ↦
          subst⁻¹ (λ m. Linked (ordered_at o.table.table o.table.marks.now o.marks.now) (length o.marks.now) c.args.table.now c.args.marks.now m (c.loop-j.j + 1)) w.marks-is
          (linked_on _ _ _ _ _ _ c.loop-j.invariant room _ _ w.chars_before.ensures w.link-link.ensures)
      | else-marks-j-ne0 w ↦
          subst⁻¹ (λ m. Linked (ordered_at o.table.table o.table.marks.now o.marks.now) (length o.marks.now) c.args.table.now c.args.marks.now m (c.loop-j.j + 1)) w.marks-is
          (linked_idle _ _ _ _ _ _ c.loop-j.invariant w.if-marks-j-ne0.false)
    ]
