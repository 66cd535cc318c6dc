use Rattle.replay.proofs.Laws.{Running}
use Rattle.replay.proofs.run.Given as goal

abbrev pub invariant-loop-done : goal.invariant-loop-done
invariant-loop-done l = Running l.way.back l.way.unique l.way.sheets l.entries.journal.now l.entries.count l.initial.s l.s l.lookup l.done
