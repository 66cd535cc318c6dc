use Rattle.cell_words.proofs.Laws.{Filling}
use Rattle.reading.specs.Cells.{remaining}
use Rattle.cell_words.proofs.fill.Given as goal

abbrev pub invariant-loop-here : goal.invariant-loop-here
invariant-loop-here l = Filling l.s l.initial.words l.fn.from l.room l.words l.here.place l.here.cells

abbrev pub decreases-loop-here : goal.decreases-loop-here
decreases-loop-here l = remaining l.s l.here.place
