use Rattle.records_abreast.specs.Pairs.{SameWords}
use Rattle.records_abreast.proofs.pair.Pair.same_words.Given as goal

abbrev pub invariant-loop-i : goal.invariant-loop-i
invariant-loop-i l =
    SameWords l.self l.i
