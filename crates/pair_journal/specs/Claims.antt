-- What holds of a session's journal over a template t.
use Rattle.std.specs.Prelude.{ℕ, ◌≡◌, List, Bool, true, false, length}
use Rattle.globals.specs.declared.Globals.{Globals}
use Rattle.globals.specs.Sheets.{sheets_of}
use Rattle.pair.specs.Pair.{Passes, PairCorrection, asked, session_after}
use Rattle.either_order.specs.Apart.{Asked}
use Rattle.journal.specs.Journal.{start_of, journalled_of}
use Rattle.replay_entry.specs.Replay.{all, replay_of}
use Rattle.journal_claims.specs.Replayed.{Bytes, Sent}
use Rattle.pair_journal.specs.Journals.{begins, start_asked, pair_start_of, journal_started, pair_journalled_of, pair_journal_after, ran, replay_asked, pair_replay_of}

abbrev pub journalled : List ℕ → List ℕ → List ℕ → Asked → PairCorrection
journalled t s j x = pair_journalled_of t s j x.sheet x.row x.column x.value

abbrev pub journal_next : List ℕ → List ℕ → List ℕ → Asked → List ℕ
journal_next t s j x = pair_journal_after s j x.sheet x.row x.column x.value (journalled t s j x)

-- where both pass, all three are what they are with the template's two numbers, g's unique count of strings and how many sheets it has: so what is said of
-- those (the crate `journal_claims`) holds over the pair
abbrev pub StartIs : Type 0
StartIs = (t s : List ℕ) (g h : Globals) → Passes t s g h → (n : ℕ) → pair_start_of t s n ≡ start_asked (start_of s g.unique n)

abbrev pub JournalledIs : Type 0
JournalledIs =
    (t s : List ℕ) (g h : Globals) → Passes t s g h → (j : List ℕ) (x : Asked)
    → journalled t s j x ≡ asked (journalled_of s g.unique (length (sheets_of t)) j x.sheet x.row x.column x.value)

abbrev pub ReplayIs : Type 0
ReplayIs = (t s : List ℕ) (g h : Globals) → Passes t s g h → (j : List ℕ) (back : Bool) → pair_replay_of t s j back ≡ replay_asked (replay_of s g.unique (length (sheets_of t)) j back)

-- the session s and the journal j, since a journal was started in j₀ on the session s₀: corrections were asked for, granted or refused, and nothing else wrote to either
pub data PairSince (t s₀ j₀ : List ℕ) : List ℕ → List ℕ → Type 0 where
  begun : {unique : ℕ} → pair_start_of t s₀ (length j₀) ≡ begins unique → PairSince t s₀ j₀ s₀ (journal_started s₀ j₀ (begins unique))
  asks : {s j : List ℕ} → PairSince t s₀ j₀ s j → (x : Asked) → Sent x → PairSince t s₀ j₀ (session_after s (journalled t s j x)) (journal_next t s j x)

-- replay on the original gives the final session, and backwards from the final the original, byte for byte
abbrev pub PairRoundTrip : Type 0
PairRoundTrip =
    (t s₀ j₀ s j : List ℕ) → Bytes t → Bytes s₀ → PairSince t s₀ j₀ s j
    → (pair_replay_of t s₀ j false ≡ ran (all s)) × (pair_replay_of t s j true ≡ ran (all s₀))
