use Rattle.std.proofs.Common.{◌≡◌, ◌+◌, ◌-◌, length}
use Rattle.std.proofs.lemmas.List.Edits.{sets}
use Rattle.byte_numbers.specs.Bytes.{bytes_at}
use Rattle.byte_numbers.proofs.copy.Given as goal

abbrev pub invariant-loop-i : goal.invariant-loop-i
invariant-loop-i l = (length l.out ≡ length l.initial.out) × (sets l.initial.out l.at (bytes_at l.s l.p l.n) ≡ sets l.out (l.at + l.i) (bytes_at l.s (l.p + l.i) (l.n - l.i)))
