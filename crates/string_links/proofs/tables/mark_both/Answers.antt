use mathlib.Core.Path.{◌∙◌}
use native.Mathlib.Omega.{arith}
use Rattle.string_links.proofs.Laws.{ascends_kept, taken_count, taken_ascends, both_marked}
use Rattle.string_links.proofs.tables.mark_both.Goals as goal

pub number-requires : goal.number-requires
number-requires c =
    let s = c.sort-count.ensures in
    (c.mark.ensures.0, taken_ascends _ _ _ _ s.1 s.0, omega (arith, s.2, s.1, taken_count c.args.first.now c.args.x.now _ _ s.1))

pub invariant_of-ordered : goal.invariant_of-ordered
invariant_of-ordered c =
    let s = c.sort-count.ensures in
    let n = c.number.ensures in
    record { few = omega (arith, s.2, s.1, taken_count c.args.first.now c.args.x.now _ _ s.1); ascends = ascends_kept _ _ _ _ n.kept _ n.ascends }

pub returns : goal.returns
returns c =
    let s = c.sort-count.ensures in
    let n = c.number.ensures in (
      both_marked c.args.first.now _ _ _ _ n (omega (arith, s.2, s.1, taken_count c.args.first.now c.args.x.now _ _ s.1)) c.mark.ensures.0 c.args.second.now _ _ c.mark-2.ensures.0 c.link_second.ensures,
      n.kept.size ∙ c.mark.ensures.1,
      c.link_second.ensures.kept.size ∙ c.mark-2.ensures.1,
    )
