use Rattle.unordered_sheets.proofs.Laws.{range_full, range_end, range_window, all_later}
use Rattle.unordered_sheets.proofs.merge_windows.Goals as goal

pub loop-lo-preserved : goal.loop-lo-preserved
loop-lo-preserved c =
    let g = c.loop-lo.invariant in let o = c.if-high-lo.false in let h = c.next.ensures in record {
      words = range_window g.words h.near o c.sides-sides.ensures c.merge-j.ensures.value c.merge-j.ensures.out_after;
      hold = all_later o h;
      low = h.near.first.top;
    }

pub returns-else-j-out : goal.returns-else-j-out
returns-else-j-out c = let h = range_full c.loop-lo.invariant.words c.if-j-out.false in record { value = h.0; out_after = h.1 }

pub returns-after-loop-lo : goal.returns-after-loop-lo
returns-after-loop-lo c = let h = range_end c.loop-lo.invariant.words c.loop-lo-test.false in record { value = h.0; out_after = h.1 }
