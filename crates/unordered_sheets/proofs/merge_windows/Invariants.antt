use Rattle.unordered_sheets.proofs.Laws.{Ranging}
use Rattle.unordered_sheets.specs.Staged.{AllHold}
use Rattle.string_links.specs.Links.{strings_in}
use Rattle.reading.specs.Cells.{place_at, listed_from}
use Prim.Native.Nat.{◌-◌, ◌≤◌}
use Rattle.unordered_sheets.proofs.merge_windows.Given as goal

abbrev pub invariant-loop-lo : goal.invariant-loop-lo
invariant-loop-lo l = record {
  words : Ranging l.s l.t (strings_in l.tables.first.table) (strings_in l.tables.second.table) l.base (listed_from l.s (place_at l.v 0)) (listed_from l.t (place_at l.w 0)) l.from l.i l.initial.out l.out l.lo l.j;
  hold : AllHold l.s l.t (listed_from l.s (place_at l.v 0)) (listed_from l.t (place_at l.w 0)) l.lo l.stages;
  low : l.lo ≤ 4294967296;
}

abbrev pub decreases-loop-lo : goal.decreases-loop-lo
decreases-loop-lo l =
    4294967296 - l.lo
