use Rattle.cell_differences.proofs.Laws.{Going}
use Rattle.string_links.specs.Links.{strings_in}
use Prim.Native.Nat.{◌+◌, ◌-◌}
use Rattle.cell_differences.proofs.merge.Given as goal

abbrev pub invariant-loop-j : goal.invariant-loop-j
invariant-loop-j g l =
    Going (g.S.Sides.first_on l.sides) (g.S.Sides.second_on l.sides) l.tables.first.table.stream.now l.tables.second.table.stream.now (strings_in l.tables.first.table) (strings_in l.tables.second.table) (g.S.Sides.first_cells l.sides) (g.S.Sides.second_cells l.sides) l.base l.from l.i l.initial.out l.out l.x l.y l.j

abbrev pub decreases-loop-j : goal.decreases-loop-j
decreases-loop-j g l = (4294967296 - l.x.address) + (4294967296 - l.y.address)
