-- What the contracts of the inner functions speak of.
use Rattle.std.specs.Prelude.{ℕ, ◌+◌, ◌≤◌, List, Result, Ok, Err, length}
use Rattle.value.specs.Value.{width_of}
use Rattle.correction.specs.declared.Aim.{Aim}
use Rattle.refusal.specs.declared.Refusal.{Refusal}
use Rattle.journal.specs.EntryParts.{Room}

-- the value field lies within the stream, and one entry more within the journal
abbrev pub SpotWithin : List ℕ → List ℕ → Result Aim Refusal → Type 0
SpotWithin s j (Ok a) = (a.field + width_of a.kind ≤ length s) × Room j
SpotWithin s j (Err r) = Unit {0}
