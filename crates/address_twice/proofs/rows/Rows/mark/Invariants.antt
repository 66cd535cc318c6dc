use Rattle.address_twice.proofs.Laws.{Marking}
use Rattle.address_twice.proofs.rows.Rows.mark.Given as goal

abbrev pub invariant-loop-k : goal.invariant-loop-k
invariant-loop-k l =
    Marking l.initial.flags l.self.low l.a l.n l.flags l.k
