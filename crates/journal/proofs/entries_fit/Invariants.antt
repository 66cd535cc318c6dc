use Rattle.std.proofs.Common.{◌≡◌, ◌-◌}
use Rattle.journal.specs.Entries.{entry_at, entries_fit}
use Rattle.journal.proofs.entries_fit.Given as goal

abbrev pub invariant-loop-i : goal.invariant-loop-i
invariant-loop-i l = entries_fit l.j (entry_at l.i) (l.count - l.i) ≡ entries_fit l.j 16 l.count
