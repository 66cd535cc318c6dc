use Rattle.std.proofs.Common.{sym, ◌∙◌}
use Rattle.listing.proofs.Laws.{next_nearer}
use Rattle.station.proofs.print_cells.Goals as goal

pub loop-listed-smaller : goal.loop-listed-smaller
loop-listed-smaller c = next_nearer _ _ _ (sym c.next_cell.ensures ∙ c.in-Some.is)
