use Rattle.std.proofs.Common.{◌≡◌}
use Rattle.profile.specs.Left.{left}
use Rattle.profile.specs.Parts.{count_of}
use Rattle.profile.specs.Profile.{judged_from}
use Rattle.profile.proofs.judge.Given as goal

abbrev pub invariant-loop-placed : goal.invariant-loop-placed
invariant-loop-placed l =
    judged_from (count_of l.columns) 0 0 (left l.initial.placed-iterator) ≡ judged_from (count_of l.columns) l.i l.seconds (left l.placed-iterator)
