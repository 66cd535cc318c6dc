use Rattle.new_places.specs.Left.{left}
use Rattle.new_fields.proofs.Indices.{Counting}
use Rattle.new_fields.proofs.count_texts.Given as goal

abbrev pub invariant-loop-x : goal.invariant-loop-x
invariant-loop-x l = Counting l.s (left l.x-iterator) l.total l.top
