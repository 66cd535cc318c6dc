-- What the contracts of the inner functions speak of.
use Rattle.std.specs.Prelude.{ℕ, Bool, true, false, List, Result, Ok, Err}
use Rattle.refusal.specs.declared.Refusal.{Refusal}
use Rattle.journal.specs.declared.Entry.{Entry}
use Rattle.correction.specs.declared.Aim.{Aim}
use Rattle.correction.specs.Parts.{aim_in}
use Rattle.correction.specs.Correction.{Correction, refuses, writes}
use Rattle.replay_entry.specs.Steps.{make_at, undo_at}
use Rattle.replay_entry.specs.declared.Write.{Write}

abbrev pub entry_aimed : ℕ → ℕ → Entry → List ℕ → Result Aim Refusal
entry_aimed unique t x s = aim_in s unique t x.sheet x.row x.column

-- made again, or undone where `back` is true, in the cell that the entry names
abbrev pub step_of : Bool → Entry → Result Aim Refusal → List ℕ → Correction
step_of true x a s = undo_at s x a
step_of false x a s = make_at s x a

-- what the functions give, in the definitions' terms
abbrev pub step_is : Result Write ℕ → Correction
step_is (Ok w) = writes w.kind w.field w.number
step_is (Err n) = refuses n 0
