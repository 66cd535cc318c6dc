use Rattle.std.proofs.Common.{◌≡◌, ◌+◌, ◌-◌, ◌*◌}
use Rattle.cell.specs.Cells.{part_of, fields_fit}
use Rattle.cell.proofs.fields_fit.Given as goal

abbrev pub invariant-loop-i : goal.invariant-loop-i
invariant-loop-i l = fields_fit l.f l.s l.q l.n ≡ fields_fit l.f l.s (l.q + l.i * part_of l.f) (l.n - l.i)
