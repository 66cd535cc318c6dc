use Prim.Native.Nat.{◌+◌, ◌≤◌}
use native.Mathlib.Omega.{arith}
use borrow.Author.Rules.{rules}
use Rattle.table_chunks.proofs.Laws.{putting_next, putting_done, put_laws, word_laws}
use Rattle.table_chunks.proofs.put_all.Goals as goal

pub loop-base-init : goal.loop-base-init
loop-base-init c = search (put_laws, rules)

pub loop-base-preserved : goal.loop-base-preserved
loop-base-preserved c = search (put_laws, word_laws, rules)

pub returns-2-clause-out_after : goal.returns-2-clause-out_after
returns-2-clause-out_after c =
    let last : c.args.texts.now.count ≤ c.loop-base.base + c.saturating_mul-n.result = omega arith in
    let next = c.put_chunk-place.ensures in
    putting_done _ _ _ _ _ _ _ _ _ (putting_next _ _ _ _ _ _ _ _ _ c.loop-base.invariant.1 c.loop-base.invariant.0 _ _ c.min.ensures c.loop-base-test.true _ next.place_after _ _ next.out_after) last
