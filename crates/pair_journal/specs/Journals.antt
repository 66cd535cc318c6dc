-- Journal and replay of a session over a template: the same definitions, with the unique count of the table that the session's text indices resolve in,
-- and with how many sheets the template has. t is the template, s the session.
use Rattle.std.specs.Prelude.{ℕ, Bool, List, length, Result, Ok}
use Rattle.new_value.specs.declared.NewValue.{NewValue}
use Rattle.globals.specs.Sheets.{sheets_of}
use Rattle.correction.specs.Correction as correction
use Rattle.pair.specs.declared.Of.{Of}
use Rattle.pair.specs.declared.Of.TheVariants as of
use Rattle.pair.specs.declared.PairRefusal.{PairRefusal}
use Rattle.pair.specs.Refused.{refuse_of}
use Rattle.pair.specs.Pair.{pair_of, on_pair, PairCorrection, refuses, writes, asked}
use Rattle.journal.specs.Journal as journal
use Rattle.journal.specs.Journal.{Start, start_in, started_journal, journalled_in, journal_after}
use Rattle.replay_entry.specs.declared.Replayed.{Replayed}
use Rattle.replay_entry.specs.Replay as replay
use Rattle.replay_entry.specs.Replay.{Ran, Replay, replay_in, stream_ran, answer_ran}

-- ---- starting
pub data PairStart : Type 0 where
  declines : Of → ℕ → ℕ → PairStart
  begins : ℕ → PairStart

abbrev pub start_asked : Start → PairStart
start_asked (journal.declines n o) = declines of.Question n o
start_asked (journal.begins unique) = begins unique

-- n is how many bytes are lent
unfoldable pub pair_start_of : List ℕ → List ℕ → ℕ → PairStart
pair_start_of t s n = on_pair declines (λ _ h. start_asked (start_in h.unique n)) (pair_of t s)

abbrev pub start_answer : PairStart → Result (Unit {0}) PairRefusal
start_answer (declines w n o) = refuse_of w n o
start_answer (begins unique) = Ok tt

abbrev pub journal_started : List ℕ → List ℕ → PairStart → List ℕ
journal_started s j (declines w n o) = j
journal_started s j (begins unique) = started_journal s j (journal.begins unique)

-- ---- a journalled correction; its answer and the session after it are those of a correction
unfoldable pub pair_journalled_of : List ℕ → List ℕ → List ℕ → ℕ → ℕ → ℕ → NewValue → PairCorrection
pair_journalled_of t s j n row column v = on_pair refuses (λ _ h. asked (journalled_in s h.unique (length (sheets_of t)) j n row column v)) (pair_of t s)

abbrev pub pair_journal_after : List ℕ → List ℕ → ℕ → ℕ → ℕ → NewValue → PairCorrection → List ℕ
pair_journal_after s j n row column v (refuses w m o) = j
pair_journal_after s j n row column v (writes f p b) = journal_after s j n row column v (correction.writes f p b)

-- ---- replay
pub data PairReplay : Type 0 where
  declined : Of → ℕ → ℕ → PairReplay
  ran : Ran → PairReplay

abbrev pub replay_asked : Replay → PairReplay
replay_asked (replay.declined n o) = declined of.Question n o
replay_asked (replay.ran r) = ran r

unfoldable pub pair_replay_of : List ℕ → List ℕ → List ℕ → Bool → PairReplay
pair_replay_of t s j back = on_pair declined (λ _ h. replay_asked (replay_in s h.unique (length (sheets_of t)) j back)) (pair_of t s)

abbrev pub session_replayed : List ℕ → PairReplay → List ℕ
session_replayed s (declined w n o) = s
session_replayed s (ran r) = stream_ran r

-- count is how many entries the journal has
abbrev pub pair_replay_answer : ℕ → PairReplay → Result Replayed PairRefusal
pair_replay_answer count (declined w n o) = refuse_of w n o
pair_replay_answer count (ran r) = Ok (answer_ran count r)
