-- Replay of a journal, forwards and backwards: one entry after the other, until one is refused.
-- t is how many sheets the template has, 0 without one; unique is the unique count of strings.
use Rattle.std.specs.Prelude.{ℕ, zero, suc, ◌+◌, Bool, true, false, List, Result, Ok, length}
use Rattle.steps.specs.Choice.{pick}
use Rattle.refusal.specs.declared.Refusal.{Refusal}
use Rattle.refusal.specs.Refused.{refuse}
use Rattle.globals.specs.declared.Globals.{Globals}
use Rattle.workbook.specs.Check.{checked_of, on_checked}
use Rattle.correction.specs.Correction.{Correction, refuses, writes, stream_after}
use Rattle.journal.specs.Entries.{count_in, entry_at, entry_in, journal_fits}
use Rattle.replay_entry.specs.Steps.{make_of, undo_of}
use Rattle.replay_entry.specs.declared.Replayed.{Replayed}
use Rattle.replay_entry.specs.declared.Replayed.TheVariants as answer

-- all are made, or one is refused: its refusal's number, and its number in the journal. The stream is as those before it left it
pub data Ran : Type 0 where
  all : List ℕ → Ran
  stopped : ℕ → ℕ → List ℕ → Ran

abbrev pub on_step : List ℕ → ℕ → Correction → (List ℕ → Ran) → Ran
on_step s i (refuses n o) k = stopped n i s
on_step s i (writes f p b) k = k (stream_after s (writes f p b))

-- n entries from the i-th on
unfoldable pub forwards : ℕ → ℕ → List ℕ → ℕ → ℕ → List ℕ → Ran
forwards unique t j i zero s = all s
forwards unique t j i (suc n) s = on_step s i (make_of unique t (entry_in j (entry_at i)) s) (λ r. forwards unique t j (i + 1) n r)

-- the first n entries, from the last of them to the first
unfoldable pub backwards : ℕ → ℕ → List ℕ → ℕ → List ℕ → Ran
backwards unique t j zero s = all s
backwards unique t j (suc n) s = on_step s n (undo_of unique t (entry_in j (entry_at n)) s) (λ r. backwards unique t j n r)

-- ---- the answer
pub data Replay : Type 0 where
  declined : ℕ → ℕ → Replay
  ran : Ran → Replay

abbrev pub runs : Bool → ℕ → ℕ → List ℕ → List ℕ → Ran
runs true unique t j s = backwards unique t j (count_in j) s
runs false unique t j s = forwards unique t j 0 (count_in j) s

-- in a stream that passes: 21; then the entries, backwards where `back` is true
unfoldable pub replay_in : List ℕ → ℕ → ℕ → List ℕ → Bool → Replay
replay_in s unique t j back = pick (journal_fits j (length s) unique) (ran (runs back unique t j s)) (declined 21 0)

-- any refusal that the check would give comes first; u is the unique count where the stream has no SST
unfoldable pub replay_of : List ℕ → ℕ → ℕ → List ℕ → Bool → Replay
replay_of s u t j back = on_checked declined (λ (g : Globals). replay_in s g.unique t j back) (checked_of s u)

abbrev pub stream_ran : Ran → List ℕ
stream_ran (all s) = s
stream_ran (stopped n i s) = s

abbrev pub stream_replayed : List ℕ → Replay → List ℕ
stream_replayed s (declined n o) = s
stream_replayed s (ran r) = stream_ran r

abbrev pub answer_ran : ℕ → Ran → Replayed
answer_ran count (all s) = answer.All count
answer_ran count (stopped n i s) = answer.Stopped n i

-- how many entries the journal has, where all are made
abbrev pub answer_replayed : ℕ → Replay → Result Replayed Refusal
answer_replayed count (declined n o) = refuse n o
answer_replayed count (ran r) = Ok (answer_ran count r)
