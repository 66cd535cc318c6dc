use Rattle.std.proofs.Common.{length}
use Rattle.new_places.specs.Left.{left}
use Rattle.used_strings.proofs.Marks.{Marking}
use Rattle.used_strings.proofs.mark.Given as goal

abbrev pub invariant-loop-x : goal.invariant-loop-x
invariant-loop-x l = Marking l.s l.base (length l.fn.flags) (left l.x-iterator) l.flags
