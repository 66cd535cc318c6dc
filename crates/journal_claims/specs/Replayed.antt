-- What holds of a journal and its replay. u is the unique count of strings where the stream has no SST, t how many sheets the template has; both are 0 without a template.
use Rattle.std.specs.Prelude.{ℕ, ◌+◌, ◌^◌, ◌<◌, ◌≡◌, List, true, false, Ok, length, get_or}
use Rattle.value.specs.declared.Field.{Field}
use Rattle.value.specs.Value.{width_of}
use Rattle.new_value.specs.declared.NewValue.{NewValue}
use Rattle.new_value.specs.Change.{Held}
use Rattle.globals.specs.declared.Globals.{Globals}
use Rattle.workbook.specs.Check.{Right}
use Rattle.workbook.specs.Check.{checked_of}
use Rattle.correction.specs.Parts.{aim_in}
use Rattle.correction.specs.Correction.{Correction, writes, correction_of, stream_after}
use Rattle.passes_after.specs.Stored.{Stored}
use Rattle.either_order.specs.Apart.{Asked, outcome, Elsewhere, OneCell}
use Rattle.journal.specs.declared.Entry.{Entry}
use Rattle.journal.specs.Entries.{count_in, entry_at, entry_in, entry_fits, room_for}
use Rattle.journal.specs.Journal.{begins, start_of, started_journal, journalled_of, kind_of, number_of, entry_of, journal_after}
use Rattle.replay_entry.specs.Steps.{passes_in, make_of, undo_of}
use Rattle.replay_entry.specs.Replay.{all, ran, replay_of}

-- a stream's bytes are bytes
abbrev pub Bytes : List ℕ → Type 0
Bytes s = (i : ℕ) → get_or s i 0 < 256

-- ---- a journal since it was started
-- what a caller can ask for: the sheet's number and the new value are as their types hold them
abbrev pub Sent : Asked → Type 0
Sent x = (x.sheet < 2 ^ 32) × Held x.value

abbrev pub journalled : List ℕ → ℕ → ℕ → List ℕ → Asked → Correction
journalled s u t j x = journalled_of s u t j x.sheet x.row x.column x.value

abbrev pub journal_next : List ℕ → ℕ → ℕ → List ℕ → Asked → List ℕ
journal_next s u t j x = journal_after s j x.sheet x.row x.column x.value (journalled s u t j x)

-- The stream s and the journal j, since a journal was started in j₀ on the stream s₀: corrections were asked for, granted or refused, and nothing else wrote to either.
pub data Since (u t : ℕ) (s₀ j₀ : List ℕ) : List ℕ → List ℕ → Type 0 where
  begun : {unique : ℕ} → start_of s₀ u (length j₀) ≡ begins unique → Since u t s₀ j₀ s₀ (started_journal s₀ j₀ (begins unique))
  asked : {s j : List ℕ} → Since u t s₀ j₀ s j → (x : Asked) → Sent x → Since u t s₀ j₀ (stream_after s (journalled s u t j x)) (journal_next s u t j x)

-- replay on the original gives the final stream, and backwards from the final the original, byte for byte; u is as its type holds it
abbrev pub RoundTrip : Type 0
RoundTrip =
    (u t : ℕ) (s₀ j₀ s j : List ℕ) → u < 2 ^ 32 → Bytes s₀ → Since u t s₀ j₀ s j
    → (replay_of s₀ u t j false ≡ ran (all s)) × (replay_of s u t j true ≡ ran (all s₀))

-- each granted correction has its entry after those before it, which stay
pub record Logs (s : List ℕ) (j j' : List ℕ) (x : Asked) (f : Field) (p : ℕ) : Type 0 where
  pub count : count_in j' ≡ count_in j + 1
  pub entry : entry_in j' (entry_at (count_in j)) ≡ entry_of s x.sheet x.row x.column x.value f p
  pub before : (i : ℕ) → i < count_in j → entry_in j' (entry_at i) ≡ entry_in j (entry_at i)

abbrev pub Logged : Type 0
Logged =
    (u t : ℕ) (s₀ j₀ s j : List ℕ) → u < 2 ^ 32 → Bytes s₀ → Since u t s₀ j₀ s j → (x : Asked) → Sent x
    → (f : Field) (p b : ℕ) → journalled s u t j x ≡ writes f p b → Logs s j (journal_next s u t j x) x f p

-- where the journal has room, a journalled correction comes to what it comes to without a journal
abbrev pub AsUnjournalled : Type 0
AsUnjournalled =
    (u t : ℕ) (s₀ j₀ s j : List ℕ) → u < 2 ^ 32 → Bytes s₀ → Since u t s₀ j₀ s j → room_for j ≡ true → (x : Asked) → journalled s u t j x ≡ outcome s u t x

-- the entry of a correction of a field of kind f that held the number n
abbrev pub entry_with : Asked → Field → ℕ → Entry
entry_with y f n = record { sheet = y.sheet; row = y.row; column = y.column; kind = kind_of y.value; width = width_of f; old = n; new = number_of y.value }

-- two granted corrections, x and then y, in a journal with room for both: its entries, after those that it had
pub record Both (s j : List ℕ) (u t : ℕ) (x y : Asked) (first second : Entry) : Type 0 where
  pub count : count_in (journal_next (stream_after s (journalled s u t j x)) u t (journal_next s u t j x) y) ≡ count_in j + 2
  pub one : entry_in (journal_next (stream_after s (journalled s u t j x)) u t (journal_next s u t j x) y) (entry_at (count_in j)) ≡ first
  pub two : entry_in (journal_next (stream_after s (journalled s u t j x)) u t (journal_next s u t j x) y) (entry_at (count_in j + 1)) ≡ second

-- of different sheets or addresses: each has the entry that it has alone, so that the other order has the same two entries
abbrev pub BothLogged : Type 0
BothLogged =
    (u t : ℕ) (s₀ j₀ s j : List ℕ) → u < 2 ^ 32 → Bytes s₀ → Since u t s₀ j₀ s j → (x y : Asked) → Sent x → Sent y → Elsewhere x y
    → room_for j ≡ true → room_for (journal_next s u t j x) ≡ true
    → (f k : Field) (p q b a : ℕ) → outcome s u t x ≡ writes f p b → outcome s u t y ≡ writes k q a
    → Both s j u t x y (entry_of s x.sheet x.row x.column x.value f p) (entry_of s y.sheet y.row y.column y.value k q)

-- of one cell: the second's old bytes are what the first wrote
abbrev pub SecondLogged : Type 0
SecondLogged =
    (u t : ℕ) (s₀ j₀ s j : List ℕ) → u < 2 ^ 32 → Bytes s₀ → Since u t s₀ j₀ s j → (x y : Asked) → Sent x → Sent y → OneCell x y
    → room_for j ≡ true → room_for (journal_next s u t j x) ≡ true
    → (f k : Field) (p q b a : ℕ) → outcome s u t x ≡ writes f p b → outcome s u t y ≡ writes k q a
    → Both s j u t x y (entry_of s x.sheet x.row x.column x.value f p) (entry_with y f b)

-- ---- one entry
-- its numbers fit their bytes, as those of an entry of a journal do
pub record Small (x : Entry) : Type 0 where
  pub sheet : x.sheet < 256 ^ 4
  pub row : x.row < 256 ^ 2
  pub column : x.column < 256 ^ 2
  pub kind : x.kind < 256 ^ 2
  pub width : x.width < 256 ^ 2
  pub old : x.old < 256 ^ 8
  pub new : x.new < 256 ^ 8

abbrev pub EntriesSmall : Type 0
EntriesSmall = (j : List ℕ) (e : ℕ) → Bytes j → Small (entry_in j e)

-- an entry replayed forwards is a correction of its cell: so demand 3 holds of it
pub record Made (s : List ℕ) (u t : ℕ) (x : Entry) (f : Field) (p b : ℕ) : Type 0 where
  pub value : NewValue
  pub held : Held value
  pub correction : correction_of s u t x.sheet x.row x.column value ≡ writes f p b

abbrev pub MadeIs : Type 0
MadeIs =
    (s : List ℕ) (u t : ℕ) (g : Globals) → checked_of s u ≡ Right g → (x : Entry) → Small x
    → (f : Field) (p b : ℕ) → make_of g.unique t x s ≡ writes f p b → Made s u t x f p b

-- an entry is well-formed, as those of a journal that doesn't get 21 are
abbrev pub Well : Entry → Type 0
Well x = entry_fits x.kind x.width x.old x.new ≡ true

-- an entry that is made, or undone, stores a number that is right in a listed cell: so the stream passes the check as before, with the same sheets, and every
-- cell keeps its address, format, kind and place
abbrev pub EntriesStore : Type 0
EntriesStore =
    (s : List ℕ) (u t : ℕ) (g : Globals) → checked_of s u ≡ Right g → (x : Entry) → Small x → Well x → (f : Field) (p b : ℕ)
    → (make_of g.unique t x s ≡ writes f p b → Stored s u x.sheet f p b)
    × (undo_of g.unique t x s ≡ writes f p b → Stored s u x.sheet f p b)

-- and old bytes that an undo turns down with 18 are bytes that the check wouldn't pass in that cell
abbrev pub TurnedDown : Type 0
TurnedDown =
    (s : List ℕ) (u t : ℕ) (g : Globals) → checked_of s u ≡ Right g → (n row column : ℕ) (f : Field) (p : ℕ) → aim_in s g.unique t n row column ≡ Ok (record { kind = f; field = p; unique = g.unique })
    → (b : ℕ) → b < 256 ^ width_of f → passes_in f g.unique b ≡ false → (h : Globals) → checked_of (stream_after s (writes f p b)) u ≡ Right h → ⊥
