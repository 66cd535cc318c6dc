use Rattle.std.proofs.Common.{◌-◌}
use Rattle.string_marks.specs.Marks.{Passes}
use Rattle.string_marks.proofs.table.Table.pass.Given as goal

abbrev pub invariant-loop-here : goal.invariant-loop-here
invariant-loop-here l =
    Passes l.s l.self.place l.self.count l.here

abbrev pub decreases-loop-here : goal.decreases-loop-here
decreases-loop-here l =
    l.self.count - l.here.count
