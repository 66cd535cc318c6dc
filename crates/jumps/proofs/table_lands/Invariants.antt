use Rattle.std.proofs.Common.{◌≡◌, ◌+◌, ◌-◌, ◌*◌}
use Rattle.jumps.specs.Jumps.{table_of, all_land}
use Rattle.jumps.proofs.table_lands.Given as goal

abbrev pub invariant-loop-i : goal.invariant-loop-i
invariant-loop-i l = all_land l.place.bytes.now l.place.offset l.place.depth (table_of (l.words - l.i) l.place.bytes.now (4 + 2 * l.i)) ≡ all_land l.place.bytes.now l.place.offset l.place.depth (table_of l.words l.place.bytes.now 4)
