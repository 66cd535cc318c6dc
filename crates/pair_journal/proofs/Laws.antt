-- The laws of a session's journal: what a question over the pair comes to is what that of the session does. Assumes nothing.
use Prim.Native.Nat.{ℕ}
use mathlib.Core.Path.{◌≡◌, refl}
use mathlib.Core.List.{List}
use Rattle.std.specs.Prelude.{Ok}
use Rattle.new_value.specs.declared.NewValue.{NewValue}
use Rattle.correction.specs.Correction as correction
use Rattle.correction.specs.Correction.{Correction}
use Rattle.journal.specs.Journal as journal
use Rattle.journal.specs.Journal.{Start, started_journal, journal_after}
use Rattle.replay_entry.specs.Replay as replay
use Rattle.replay_entry.specs.Replay.{all, stopped, Replay}
use Rattle.replay.specs.Parts.{Passes}
use Rattle.pair.specs.declared.PairChecked.{PairChecked}
use Rattle.pair.specs.Pair.{pair_of, asked}
use Rattle.pair.proofs.Laws.{both, session_short}
use Rattle.pair.specs.Refused.{questioned}
use Rattle.pair.proofs.Correcting.{answer_asked, asked_stream}
use Rattle.pair_journal.specs.Journals.{start_asked, start_answer, journal_started, pair_journal_after, replay_asked, session_replayed, pair_replay_answer}

-- ---- starting
pub start_told : (x : Start) → start_answer (start_asked x) ≡ questioned (journal.start_answer x)
start_told (journal.declines n o) = refl
start_told (journal.begins u) = refl

pub start_same : (s j : List ℕ) (x : Start) → journal_started s j (start_asked x) ≡ started_journal s j x
start_same s j (journal.declines n o) = refl
start_same s j (journal.begins u) = refl

pub ruleset start_laws = (start_told, start_same, session_short)

-- ---- a journalled correction
pub journal_asked : (s j : List ℕ) (n row column : ℕ) (v : NewValue) (x : Correction) → pair_journal_after s j n row column v (asked x) ≡ journal_after s j n row column v x
journal_asked s j n row column v (correction.refuses m o) = refl
journal_asked s j n row column v (correction.writes f p b) = refl

pub ruleset journalled_laws = (answer_asked, asked_stream, journal_asked, session_short)

-- ---- replay
pub replay_same : (count : ℕ) (x : Replay) → pair_replay_answer count (replay_asked x) ≡ questioned (replay.answer_replayed count x)
replay_same count (replay.declined n o) = refl
replay_same count (replay.ran (all s)) = refl
replay_same count (replay.ran (stopped n i s)) = refl

pub session_same : (s : List ℕ) (x : Replay) → session_replayed s (replay_asked x) ≡ replay.stream_replayed s x
session_same s (replay.declined n o) = refl
session_same s (replay.ran r) = refl

-- the session passes, with the unique count that the check found
pub session_passes : (t s : List ℕ) (c : PairChecked) → Ok c ≡ pair_of t s → Passes s c.session.unique
session_passes t s c is = record { lent = c.template.unique; globals = c.session; checked = (both t s c is).session; strings = refl }

pub ruleset replay_laws = (replay_same, session_same)
