use Rattle.std.proofs.Common.{rules, arith, length, ◌+◌, ◌*◌, ◌≤◌}
use Rattle.new_fields.proofs.Indices.{runs_laws, runs_next, runs_done}
use Rattle.new_fields.proofs.reindex.Goals as goal

pub loop-base-init : goal.loop-base-init
loop-base-init c = search (runs_laws, rules)

pub loop-base-preserved : goal.loop-base-preserved
loop-base-preserved c = search (runs_laws, rules)

pub returns-2 : goal.returns-2
returns-2 c =
    let last : c.args.top ≤ c.loop-base.base + length c.args.flags.now * 64 = omega arith in
    let next = c.reindex_chunk-start.ensures in
    runs_done _ _ _ _ _ _ _ _ _ _ _ (runs_next _ _ _ _ _ _ _ _ _ _ _ c.loop-base.invariant _ _ _ _ next.out_after.1 next.out_after.2 next.value next.out_after.0) _ last
