use lib.ListN.{length}
use Rattle.replay.proofs.Laws.{passes_short, entry_room, running_stop, running_left, running_again, running_all, running_final}
use Rattle.replay.proofs.run.Goals as goal

pub refill-requires : goal.refill-requires
refill-requires c = let i = c.loop-done.invariant in (passes_short _ _ i.passes, i.within, i.knows)

pub take_entry-requires : goal.take_entry-requires
take_entry-requires c =
    let j = c.args.entries in
    (entry_room j.count (length j.journal.now) c.entry_at-at.ensures c.turn-entry.ensures.upper_bound j.whole, passes_short _ _ c.loop-done.invariant.passes, c.refill.ensures)

pub returns-in-Err-clause-value : goal.returns-in-Err-clause-value
returns-in-Err-clause-value c =
    running_stop _ _ _ _ _ _ _ _ _ c.loop-done.invariant c.loop-done-test.true c.turn-entry.ensures.value c.entry_at-at.ensures c.take_entry.ensures.value c.take_entry.ensures.s_after _ c.in-Err.is

pub returns-in-Err-clause-s_after : goal.returns-in-Err-clause-s_after
returns-in-Err-clause-s_after c =
    running_left _ _ _ _ _ _ _ _ _ c.loop-done.invariant c.loop-done-test.true c.turn-entry.ensures.value c.entry_at-at.ensures c.take_entry.ensures.value c.take_entry.ensures.s_after _ c.in-Err.is

pub loop-done-preserved : goal.loop-done-preserved
loop-done-preserved c =
    running_again _ _ _ _ _ _ _ _ _ c.loop-done.invariant c.loop-done-test.true c.turn-entry.ensures.value c.entry_at-at.ensures c.take_entry.ensures.value c.take_entry.ensures.s_after c.in_default.is c.requires.1 c.turn-entry.ensures.upper_bound _ c.refill.ensures

pub returns-clause-value : goal.returns-clause-value
returns-clause-value c = running_all _ _ _ _ _ _ _ _ _ c.loop-done.invariant c.loop-done-test.false

pub returns-clause-s_after : goal.returns-clause-s_after
returns-clause-s_after c = running_final _ _ _ _ _ _ _ _ _ c.loop-done.invariant c.loop-done-test.false
