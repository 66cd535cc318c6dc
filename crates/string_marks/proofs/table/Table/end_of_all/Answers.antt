use Rattle.string_marks.proofs.Laws.{end_within, end_later, end_less}
use Rattle.string_marks.proofs.table.Table.end_of_all.Goals as goal

pub loop-end-smaller : goal.loop-end-smaller
loop-end-smaller c = end_less _ _ _ _ _ _ c.header_at.ensures c.in-Record-eq60-default-default.is

pub loop-end-preserved : goal.loop-end-preserved
loop-end-preserved c =
    (end_later _ _ _ _ _ _ c.header_at.ensures c.in-Record-eq60-default-default.is _ c.loop-end.invariant.0, end_within _ _ _ _ _ _ c.header_at.ensures c.in-Record-eq60-default-default.is)
