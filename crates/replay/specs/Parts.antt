-- What the contracts of the inner functions speak of.
use Rattle.std.specs.Prelude.{ℕ, ◌-◌, ◌<◌, ◌≡◌, Bool, true, false, List, Result, Ok, Err}
use Rattle.globals.specs.declared.Globals.{Globals}
use Rattle.workbook.specs.Check.{Right, checked_of}
use Rattle.journal.specs.declared.Entry.{Entry}
use Rattle.journal.specs.Entries.{entry_at, entry_in}
use Rattle.journal_claims.specs.Replayed.{Bytes, Well}
use Rattle.correction.specs.Correction.{Correction, refuses, writes}
use Rattle.replay_entry.specs.Parts.{entry_aimed, step_of}
use Rattle.replay_entry.specs.Replay.{Ran, forwards, backwards}

-- the stream passes the check, with this unique count of strings
pub record Passes (s : List ℕ) (unique : ℕ) : Type 0 where
  pub lent : ℕ
  pub globals : Globals
  pub checked : checked_of s lent ≡ Right globals
  pub strings : globals.unique ≡ unique

-- the journal's bytes are bytes, and its entries are well-formed
pub record Formed (j : List ℕ) (count : ℕ) : Type 0 where
  pub bytes : Bytes j
  pub each : (i : ℕ) → i < count → Well (entry_in j (entry_at i))

-- an entry made again, or undone where `back` is true, in its cell
abbrev pub step_in : Bool → ℕ → ℕ → Entry → List ℕ → Correction
step_in back unique t x s = step_of back x (entry_aimed unique t x s) s

-- what it gives
abbrev pub done_of : Correction → Result (Unit {0}) ℕ
done_of (refuses n o) = Err n
done_of (writes f p b) = Ok tt

-- so many entries, backwards where `back` is true
abbrev pub runs_by : Bool → ℕ → ℕ → List ℕ → ℕ → List ℕ → Ran
runs_by true unique t j n s = backwards unique t j n s
runs_by false unique t j n s = forwards unique t j 0 n s

-- the entry that comes after so many
abbrev pub turn_of : Bool → ℕ → ℕ → ℕ
turn_of true count done = count - 1 - done
turn_of false count done = done
