use Rattle.std.proofs.Common.{◌*◌, ◌/◌}
use Rattle.text_equality.specs.Characters.{units_of}
use Rattle.text_equality.specs.Lists.{Alike}
use Rattle.text_equality.proofs.standing.Run.same_words.Given as goal

abbrev pub invariant-loop-i : goal.invariant-loop-i
invariant-loop-i l =
    Alike (units_of l.self) (units_of l.other) (8 * l.i / l.self.width)
