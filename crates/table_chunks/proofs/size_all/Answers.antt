use Prim.Native.Nat.{◌+◌, ◌*◌, ◌≤◌}
use mathlib.Core.Path.{◌∙◌}
use lib.ListN.{length}
use native.Mathlib.Omega.{arith}
use borrow.Author.Rules.{rules}
use Rattle.table_chunks.proofs.Laws.{ahead_next, sizing_next, sizing_tally, sizing_done, size_laws}
use Rattle.table_chunks.proofs.size_all.Goals as goal

pub loop-base-init : goal.loop-base-init
loop-base-init c = search (size_laws, rules)

pub loop-base-preserved : goal.loop-base-preserved
loop-base-preserved c =
    let held : c.min-k.result ≤ length c.loop-base.flags * 64 = omega arith in
    let next = c.size_chunk.ensures in
    let ahead = c.loop-base.invariant.0 in (
      ahead_next _ _ _ _ ahead _ _ c.min-k.ensures c.loop-base-test.true _ next.place_after,
      sizing_next _ _ _ _ _ _ _ c.loop-base.invariant.1 c.loop-base-test.true ahead _ _ c.min-k.ensures _ _ _ _ _ next.place_after next.span_value next.flags_after held c.count_set-count.ensures,
      next.flags_after.size ∙ c.loop-base.invariant.2,
    )

pub returns-clause-counted : goal.returns-clause-counted
returns-clause-counted c = search (size_laws, rules)

pub returns-2-clause-counted : goal.returns-2-clause-counted
returns-2-clause-counted c =
    let held : c.min-k.result ≤ length c.loop-base.flags * 64 = omega arith in
    let last : c.args.texts.now.count ≤ c.loop-base.base + c.saturating_mul-n.result = omega arith in
    let next = c.size_chunk.ensures in
    sizing_done _ _ _ _ _ _ _
    (sizing_next _ _ _ _ _ _ _ c.loop-base.invariant.1 c.loop-base-test.true c.loop-base.invariant.0 _ _ c.min-k.ensures _ _ _ _ _ next.place_after next.span_value next.flags_after held c.count_set-count.ensures) last

pub returns-2-clause-count_value : goal.returns-2-clause-count_value
returns-2-clause-count_value c =
    let held : c.min-k.result ≤ length c.loop-base.flags * 64 = omega arith in
    let last : c.args.texts.now.count ≤ c.loop-base.base + c.saturating_mul-n.result = omega arith in
    let next = c.size_chunk.ensures in (
      sizing_tally _ _ _ _ _ _ _
          (sizing_next _ _ _ _ _ _ _ c.loop-base.invariant.1 c.loop-base-test.true c.loop-base.invariant.0 _ _ c.min-k.ensures _ _ _ _ _ next.place_after next.span_value next.flags_after held c.count_set-count.ensures) last,
      next.flags_after.size ∙ c.loop-base.invariant.2,
    )
