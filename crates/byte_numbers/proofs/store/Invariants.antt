use Rattle.std.proofs.Common.{◌≡◌, ◌-◌}
use Rattle.std.proofs.lemmas.List.Edits.{sets}
use Rattle.byte_numbers.specs.Bytes.{bytes_of}
use Rattle.byte_numbers.proofs.store.Given as goal

abbrev pub invariant-loop-to : goal.invariant-loop-to
invariant-loop-to l = sets l.initial.s l.at (bytes_of l.w l.n) ≡ sets l.s l.to (bytes_of (l.to-end - l.to) l.rest)
