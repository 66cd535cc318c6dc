use Rattle.string_marks.specs.Marks.{Passes}
use Rattle.string_marks.proofs.Laws.{Standing}
use Rattle.string_marks.proofs.table.Table.mark.Given as goal

abbrev pub invariant-loop-mark : goal.invariant-loop-mark
invariant-loop-mark l =
    Passes l.self.stream.now l.self.place l.self.count l.passed × Standing l.self.stream.now l.self.place l.marks l.mark-index l.passed.count
