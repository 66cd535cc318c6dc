use Rattle.cell_differences.proofs.Laws.{is_less, is_greater, is_equal, going_first, going_second, going_both, second_both, going_end, going_full}
use native.Mathlib.Omega.{arith}
use Rattle.cell_differences.proofs.merge.Goals as goal

pub loop-j-preserved-in-Less : goal.loop-j-preserved-in-Less
loop-j-preserved-in-Less g c =
    let h = c.loop-j.invariant in going_first h (is_less c.cmp.ensures c.in-Less.is) c.put-j.ensures.value c.put-j.ensures.out_after (c.next_first-x.ensures h.one h.first_next)

pub loop-j-preserved-in-Greater : goal.loop-j-preserved-in-Greater
loop-j-preserved-in-Greater g c =
    let h = c.loop-j.invariant in going_second h (is_greater c.cmp.ensures c.in-Greater.is) c.put-j-in-Greater.ensures.value c.put-j-in-Greater.ensures.out_after (c.next_second-y.ensures h.two h.second_next)

pub loop-j-smaller : goal.loop-j-smaller
loop-j-smaller g c =
    let h = c.loop-j.invariant in
    let e = is_equal c.cmp.ensures c.in-Equal.is in
    let n = c.next_both.ensures _ _ _ _ c.requires.3 h.one h.two h.first_next (second_both h e) in
    let a = n.first.low in let b = n.second.low in omega arith

pub loop-j-preserved : goal.loop-j-preserved
loop-j-preserved g c =
    let h = c.loop-j.invariant in
    let e = is_equal c.cmp.ensures c.in-Equal.is in
    going_both h e (omega arith) c.put_unequal-j.ensures.value c.put_unequal-j.ensures.out_after (c.next_both.ensures _ _ _ _ c.requires.3 h.one h.two h.first_next (second_both h e))

pub returns-in-Equal-2 : goal.returns-in-Equal-2
returns-in-Equal-2 g c =
    let h = going_end c.loop-j.invariant (is_equal c.cmp.ensures c.in-Equal-2.is) (omega arith) in record { value = h.0; out_after = h.1 }

pub returns : goal.returns
returns g c = let h = going_full c.loop-j.invariant c.loop-j-test.false in record { value = h.0; out_after = h.1 }
