use Rattle.station.proofs.Laws.{cells_start, cells_more, cells_fit, cells_less, cells_done, cells_few}
use Rattle.station.proofs.count_cells.Goals as goal

pub loop-listed-init : goal.loop-listed-init
loop-listed-init c = cells_start _ _

pub overflow_add-n : goal.overflow_add-n
overflow_add-n c = record { fits = cells_fit c.loop-listed.invariant c.next_cell.ensures _ c.in-Some.is c.requires }

pub loop-listed-smaller : goal.loop-listed-smaller
loop-listed-smaller c = cells_less c.loop-listed.invariant c.next_cell.ensures _ c.in-Some.is

pub loop-listed-preserved : goal.loop-listed-preserved
loop-listed-preserved c = cells_more c.loop-listed.invariant c.next_cell.ensures _ c.in-Some.is

pub returns : goal.returns
returns c = (cells_done c.loop-listed.invariant c.next_cell.ensures c.in_default.is, cells_few c.loop-listed.invariant c.requires)
