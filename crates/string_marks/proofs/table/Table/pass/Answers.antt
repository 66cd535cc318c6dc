use native.Mathlib.Omega.{arith}
use Rattle.string_marks.proofs.Laws.{whole_table, passed_inside, passed_on}
use Rattle.string_marks.proofs.table.Table.pass.Goals as goal

pub skip_next-requires : goal.skip_next-requires
skip_next-requires c = passed_inside _ _ _ (whole_table c.args.self.now (omega arith)) _ _ c.loop-here.invariant.here

pub loop-here-preserved : goal.loop-here-preserved
loop-here-preserved c = record {
  few = omega arith;
  here = passed_on _ _ _ (whole_table c.args.self.now (omega arith)) _ _ c.loop-here.invariant.here _ _ c.skip_next.ensures c.in-Ok.is;
}
