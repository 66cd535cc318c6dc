use Rattle.std.proofs.Common.{◌≡◌}
use Rattle.std.specs.Ordering.{nat_cmp}
use Rattle.std.specs.Cmp.Lexicographic.{slice_cmp}
use Rattle.text_equality.specs.Lists.{rank_of}
use Rattle.text_equality.specs.Characters.{units_in}
use Rattle.text_equality.proofs.standing.Chars.order.Given as goal

abbrev pub invariant-loop-x : goal.invariant-loop-x
invariant-loop-x l =
    (l.x.count ≡ l.y.count) × (rank_of (units_in l.self) (units_in l.other) ≡ slice_cmp nat_cmp (units_in l.x) (units_in l.y))

abbrev pub decreases-loop-x : goal.decreases-loop-x
decreases-loop-x l =
    l.x.count
