use Rattle.table_chunks.proofs.Laws.{Tallied}
use Rattle.table_chunks.proofs.count_set.Given as goal

abbrev pub invariant-loop-i : goal.invariant-loop-i
invariant-loop-i l =
    Tallied l.flags l.n l.i l.r
