use Rattle.text_equality.proofs.Runs.{Lanes}
use Rattle.text_equality.proofs.standing.same_eight.Given as goal

abbrev pub invariant-loop-i : goal.invariant-loop-i
invariant-loop-i l =
    Lanes l.narrow l.a l.wide l.b l.i l.differing
