-- What the contracts of the inner functions speak of.
use Rattle.std.specs.Prelude.{◌+◌, ◌≤◌, ◌<◌, ℕ, Bool, true, false, List, length}
use Rattle.journal.specs.Entries.{count_in, entry_at}

-- one entry more lies within the journal
pub record Room (j : List ℕ) : Type 0 where
  pub least : 16 ≤ length j
  pub count : count_in j < 4294967295
  pub entry : entry_at (count_in j + 1) ≤ length j

abbrev pub RoomIf : List ℕ → Bool → Type 0
RoomIf j true = Room j
RoomIf j false = Unit {0}
