use Rattle.pair_texts.proofs.Filling.{template_ready, session_ready}
use Rattle.pair_texts.proofs.pair_fill.Goals as goal

pub fill_checked-requires : goal.fill_checked-requires
fill_checked-requires c = template_ready _ _ _ c.in_ok-both.ensures _ c.count_of-n.ensures

pub fill_checked-requires-2 : goal.fill_checked-requires-2
fill_checked-requires-2 c = session_ready _ _ _ c.in_ok-both.ensures _ c.count_of-m.ensures
