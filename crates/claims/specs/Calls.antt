-- The calls of session owners over one template: what each answers and what it leaves in the memory that its owner lends. Each answer and each memory is
-- what the contract of the function says.
use Rattle.std.specs.Prelude.{ℕ, List, [], ◌∷◌, Bool, length, eqb, Option, Result}
use Rattle.steps.specs.Choice.{pick}
use Rattle.new_value.specs.declared.NewValue.{NewValue}
use Rattle.reading.specs.declared.Place.{Place}
use Rattle.listing.specs.declared.Listed.{Listed}
use Rattle.listing.specs.Listing.{next_of}
use Rattle.refusal.specs.declared.Refusal.{Refusal}
use Rattle.string_places.specs.Places.{through_of, buffer_through}
use Rattle.pair_texts.specs.declared.PairFilled.{PairFilled}
use Rattle.pair_texts.specs.Tables.{pair_fill_of, template_table_after, session_table_after}
use Rattle.pair.specs.declared.Whose.{Whose}
use Rattle.pair.specs.declared.Whose.TheVariants.{Session, Template}
use Rattle.pair.specs.declared.PairChecked.{PairChecked}
use Rattle.pair.specs.declared.PairSheet.{PairSheet}
use Rattle.pair.specs.declared.PairCells.{PairCells}
use Rattle.pair_texts.specs.declared.PairFetched.{PairFetched}
use Rattle.pair.specs.declared.StreamRefusal.{StreamRefusal}
use Rattle.pair.specs.declared.PairRefusal.{PairRefusal}
use Rattle.pair.specs.Pair.{pair_of, pair_sheet_of, pair_name_of, pair_cells_of, pair_correction_of, answer_of, session_after}
use Rattle.pair_texts.specs.Texts.{pair_fetch_of, pair_buffer_of, pair_text_of, pair_text_buffer}
use Rattle.journal.specs.Entries.{count_in}
use Rattle.replay_entry.specs.declared.Replayed.{Replayed}
use Rattle.pair_journal.specs.Journals.{pair_start_of, start_answer, journal_started, pair_journalled_of, pair_journal_after, pair_replay_of, session_replayed, pair_replay_answer}

-- what an owner lends: a session, a buffer of units, a table of string places for the template and one for the session, and a journal
pub record Memory : Type 0 where
  pub session : List ℕ
  pub buffer : List ℕ
  pub first : List ℕ
  pub second : List ℕ
  pub journal : List ℕ

pub data Call : Type 0 where
  check : Call
  sheet : ℕ → Call
  name : ℕ → Call
  cells : ℕ → Call
  next : Whose → Place → Call
  fetch : Whose → ℕ → Call
  text : ℕ → ℕ → ℕ → Call
  correct : ℕ → ℕ → ℕ → NewValue → Call
  fill : Call
  through : Whose → ℕ → Call
  begin : Call
  log : ℕ → ℕ → ℕ → NewValue → Call
  replay : Bool → Call

pub data Answer : Type 0 where
  checked : Result PairChecked StreamRefusal → Answer
  described : Result PairSheet PairRefusal → Answer
  named : List ℕ → Answer
  started : Result PairCells PairRefusal → Answer
  listed : Option Listed → Answer
  fetched : Result PairFetched PairRefusal → Answer
  corrected : Result (Unit {0}) PairRefusal → Answer
  filled : Result PairFilled PairRefusal → Answer
  found : Result ℕ Refusal → Answer
  replayed : Result Replayed PairRefusal → Answer

-- t is the template
abbrev pub stream_of : List ℕ → Memory → Whose → List ℕ
stream_of t m Session = m.session
stream_of t m Template = t

abbrev pub table_of : Memory → Whose → List ℕ
table_of m Session = m.second
table_of m Template = m.first

abbrev pub answer_to : List ℕ → Memory → Call → Answer
answer_to t m check = checked (pair_of t m.session)
answer_to t m (sheet n) = described (pair_sheet_of t m.session n)
answer_to t m (name n) = named (pair_name_of t m.session n)
answer_to t m (cells n) = started (pair_cells_of t m.session n)
answer_to t m (next w v) = listed (next_of (stream_of t m w) v)
answer_to t m (fetch w i) = fetched (pair_fetch_of t m.session w i m.buffer)
answer_to t m (text n row column) = fetched (pair_text_of t m.session n row column m.buffer)
answer_to t m (correct n row column v) = corrected (answer_of (pair_correction_of t m.session n row column v))
answer_to t m fill = filled (pair_fill_of t m.session m.first m.second)
answer_to t m (through w i) = found (through_of (stream_of t m w) (table_of m w) i m.buffer)
answer_to t m begin = corrected (start_answer (pair_start_of t m.session (length m.journal)))
answer_to t m (log n row column v) = corrected (answer_of (pair_journalled_of t m.session m.journal n row column v))
answer_to t m (replay back) = replayed (pair_replay_answer (count_in m.journal) (pair_replay_of t m.session m.journal back))

abbrev pub memory_after : List ℕ → Memory → Call → Memory
memory_after t m check = m
memory_after t m (sheet n) = m
memory_after t m (name n) = m
memory_after t m (cells n) = m
memory_after t m (next w v) = m
memory_after t m (fetch w i) = record { session = m.session; buffer = pair_buffer_of t m.session w i m.buffer; first = m.first; second = m.second; journal = m.journal }
memory_after t m (text n row column) = record { session = m.session; buffer = pair_text_buffer t m.session n row column m.buffer; first = m.first; second = m.second; journal = m.journal }
memory_after t m (correct n row column v) = record { session = session_after m.session (pair_correction_of t m.session n row column v); buffer = m.buffer; first = m.first; second = m.second; journal = m.journal }
memory_after t m fill = record {
  session = m.session;
  buffer = m.buffer;
  first = template_table_after t m.session m.first m.second;
  second = session_table_after t m.session m.first m.second;
  journal = m.journal;
}
memory_after t m (through w i) = record { session = m.session; buffer = buffer_through (stream_of t m w) (table_of m w) i m.buffer; first = m.first; second = m.second; journal = m.journal }
memory_after t m begin = record { session = m.session; buffer = m.buffer; first = m.first; second = m.second; journal = journal_started m.session m.journal (pair_start_of t m.session (length m.journal)) }
memory_after t m (log n row column v) = record {
  session = session_after m.session (pair_journalled_of t m.session m.journal n row column v);
  buffer = m.buffer;
  first = m.first;
  second = m.second;
  journal = pair_journal_after m.session m.journal n row column v (pair_journalled_of t m.session m.journal n row column v);
}
memory_after t m (replay back) = record { session = session_replayed m.session (pair_replay_of t m.session m.journal back); buffer = m.buffer; first = m.first; second = m.second; journal = m.journal }

-- ---- one owner's calls alone: the answers in order, and the memory after them
pub record Run : Type 0 where
  pub answers : List Answer
  pub memory : Memory

abbrev pub push : Answer → Run → Run
push a r = record { answers = a ∷ r.answers; memory = r.memory }

unfoldable pub alone : List ℕ → Memory → List Call → Run
alone t m [] = record { answers = []; memory = m }
alone t m (c ∷ l) = push (answer_to t m c) (alone t (memory_after t m c) l)

-- ---- the calls of all owners, as they come; an owner is a number
pub record Owned (A : Type 0) : Type 0 where
  pub owner : ℕ
  pub it : A

-- those of one owner, in order
unfoldable pub of_owner : {A : Type 0} → ℕ → List (Owned A) → List A
of_owner o [] = []
of_owner o (x ∷ l) = pick (eqb x.owner o) (x.it ∷ of_owner o l) (of_owner o l)

-- the memory of each owner, with that of one changed
unfoldable pub with : (ℕ → Memory) → ℕ → Memory → ℕ → Memory
with f o m p = pick (eqb o p) m (f p)

-- the answers in order, each with its owner, and each owner's memory after them
pub record Runs : Type 0 where
  pub answers : List (Owned Answer)
  pub memories : ℕ → Memory

abbrev pub push_owned : Owned Answer → Runs → Runs
push_owned a r = record { answers = a ∷ r.answers; memories = r.memories }

unfoldable pub run : List ℕ → (ℕ → Memory) → List (Owned Call) → Runs
run t f [] = record { answers = []; memories = f }
run t f (x ∷ l) =
    push_owned (record { owner = x.owner; it = answer_to t (f x.owner) x.it })
    (run t (with f x.owner (memory_after t (f x.owner) x.it)) l)
