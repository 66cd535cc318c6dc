use Rattle.std.proofs.Common.{length}
use Rattle.string_links.specs.Links.{ordered_at, Linked}
use Rattle.string_links.proofs.tables.link_second.Given as goal

abbrev pub invariant-loop-j : goal.invariant-loop-j
invariant-loop-j l =
    Linked (ordered_at l.first.table.table l.first.table.marks.now l.first.marks.now) (length l.first.marks.now) l.table l.initial.marks l.marks l.j
