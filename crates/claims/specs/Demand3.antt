-- Demand 3, a claim for each of its sentences. They speak of what `correction::correct` promises of a call; `lent` and `sheets` are a template's two numbers, 0
-- for a stream by itself.
use Rattle.std.specs.Prelude.{ℕ, ◌+◌, ◌≤◌, ◌<◌, ◌≡◌, List, [], ◌∷◌, map, ◌⊎◌, ◌↔◌, Bool, true, false, Float as F64, length, get_or, Result, Ok, Err}
use Rattle.refusal.specs.declared.Refusal as refusal
use Rattle.refusal.specs.Refused.{refuse}
use Rattle.byte_numbers.specs.Bytes.{num_at}
use Rattle.truth_error.specs.Boolerr.{is_error}
use Rattle.number.specs.Float64.{bits_of}
use Rattle.number.specs.Packing.{Means}
use Rattle.value.specs.declared.Field.{Field}
use Rattle.value.specs.declared.Field.TheVariants.{NoField, Float, RkWord, TextIndex, TruthError, StoredResult}
use Rattle.value.specs.Value.{width_of, value_of}
use Rattle.cell.specs.declared.Cell.{Cell}
use Rattle.new_value.specs.declared.NewValue.{NewValue}
use Rattle.new_value.specs.declared.NewValue.TheVariants.{Number, Text, Truth, Error}
use Rattle.new_value.specs.Change.{Held, new_of, finite}
use Rattle.sheet_agreement.specs.Agreement.{Sheet}
use Rattle.globals.specs.declared.Globals.{Globals}
use Rattle.globals.specs.Sheets.{sheets_of}
use Rattle.workbook.specs.declared.Passed.{Passed}
use Rattle.workbook.specs.Check.{Right, Wrong, checked_of, answered}
use Rattle.reading.specs.Reading.{CellReading, SheetReading, listed_of, reading_of}
use Rattle.correction.specs.Correction.{cells_at, correction_of, answer_of, stream_after}
use Rattle.record_chain.specs.Chain.{Nth}
use Rattle.reads_after.specs.Replaced.{replaced, values_at}

-- what a correction answers: granted or refused
abbrev pub Corrected : Type 0
Corrected = Result (Unit {0}) refusal.Refusal

-- what `correct` ensures, clause by clause: s is the stream before the call, r the answer, t the stream after it
pub record Corrects (s : List ℕ) (lent sheets n row column : ℕ) (v : NewValue) (r : Corrected) (t : List ℕ) : Type 0 where
  pub answer : r ≡ answer_of (correction_of s lent sheets n row column v)
  pub after : t ≡ stream_after s (correction_of s lent sheets n row column v)
  pub held : Held v

-- the one cell of the address in sheet n of a stream that passes
pub record Only (s : List ℕ) (lent n row column : ℕ) (c : Cell) (unique : ℕ) : Type 0 where
  pub globals : Globals
  pub passes : checked_of s lent ≡ Right globals
  pub count : globals.unique ≡ unique
  pub sheet : Sheet
  pub nth : Nth (sheets_of s) n sheet
  pub only : cells_at row column (listed_of s sheet) ≡ c ∷ []

-- there is such a cell, and P holds of it
pub record One (s : List ℕ) (lent n row column : ℕ) (P : Cell → Type 0) : Type 0 where
  pub cell : Cell
  pub unique : ℕ
  pub only : Only s lent n row column cell unique
  pub holds : P cell

-- ---- what holds of each granted correction: c is the one cell of the address, t the stream after it
abbrev pub Granted : (List ℕ → ℕ → ℕ → ℕ → ℕ → NewValue → Cell → List ℕ → Type 0) → Type 0
Granted P =
    (s : List ℕ) (lent sheets n row column : ℕ) (v : NewValue) (t : List ℕ) → Corrects s lent sheets n row column v (Ok tt) t
    → One s lent n row column (λ c. P s lent n row column v c t)

-- that cell's value field holds the new value
abbrev pub HoldsNew : Type 0
HoldsNew = Granted (λ s lent n row column v c t. value_of c.kind (num_at t (width_of c.kind) c.field) ≡ new_of v)

-- every other byte is as it was, and no byte is gone or added
abbrev pub OthersStay : Type 0
OthersStay =
    Granted (λ s lent n row column v c t. (length t ≡ length s) × ((j : ℕ) → (j < c.field) ⊎ (c.field + width_of c.kind ≤ j) → get_or t j 0 ≡ get_or s j 0))

abbrev pub passed : Result Passed refusal.Refusal → Bool
passed (Ok x) = true
passed (Err e) = false

-- the new stream passes the check, with as many sheets and strings
abbrev pub Passes : Type 0
Passes = Granted (λ s lent n row column v c t. (passed (answered t (checked_of t lent)) ≡ true) × (answered t (checked_of t lent) ≡ answered s (checked_of s lent)))

-- it reads the same but for that cell
abbrev pub ReadsNew : Type 0
ReadsNew = Granted (λ s lent n row column v c t. reading_of t lent ≡ replaced n row column (new_of v) (reading_of s lent))

-- the address has one cell still, with the new value
abbrev pub OneAfter : Type 0
OneAfter = Granted (λ s lent n row column v c t. values_at n row column (reading_of t lent) ≡ new_of v ∷ [])

-- format and place stay for all cells of all sheets, in order and at their addresses
pub record Spot : Type 0 where
  pub row : ℕ
  pub column : ℕ
  pub format : ℕ
  pub place : ℕ

abbrev pub spot_of : CellReading → Spot
spot_of c = record { row = c.row; column = c.column; format = c.format; place = c.place }

-- of each cell of each sheet
abbrev pub of_cells : {A : Type 0} → (CellReading → A) → List SheetReading → List (List A)
of_cells f l = map (λ (x : SheetReading). map f x.cells) l

abbrev pub SpotsStay : Type 0
SpotsStay = Granted (λ s lent n row column v c t. of_cells spot_of (reading_of t lent).sheets ≡ of_cells spot_of (reading_of s lent).sheets)

-- the units of the text results stay for all cells of all sheets, in order
abbrev pub text_of : CellReading → List ℕ
text_of c = c.text

abbrev pub TextsStay : Type 0
TextsStay = Granted (λ s lent n row column v c t. of_cells text_of (reading_of t lent).sheets ≡ of_cells text_of (reading_of s lent).sheets)

-- ---- a correction is refused exactly when the table says
-- a number goes to NUMBER, RK or MULRK, a text index to LABELSST, truth or error to BOOLERR
abbrev pub takes_number : Field → Bool
takes_number NoField = false
takes_number Float = true
takes_number RkWord = true
takes_number TextIndex = false
takes_number TruthError = false
takes_number StoredResult = false

abbrev pub takes_index : Field → Bool
takes_index NoField = false
takes_index Float = false
takes_index RkWord = false
takes_index TextIndex = true
takes_index TruthError = false
takes_index StoredResult = false

abbrev pub takes_pair : Field → Bool
takes_pair NoField = false
takes_pair Float = false
takes_pair RkWord = false
takes_pair TextIndex = false
takes_pair TruthError = true
takes_pair StoredResult = false

abbrev pub takes : Field → NewValue → Bool
takes f (Number x) = takes_number f
takes f (Text i) = takes_index f
takes f (Truth t) = takes_pair f
takes f (Error e) = takes_pair f

-- infinity or not-a-number; for a packed cell, no undivided word means it; an index not below unique; a truth over 1; an unknown code
abbrev pub Unfit : Field → ℕ → NewValue → Type 0
Unfit f unique (Number x) = (finite (bits_of x) ≡ false) ⊎ ((f ≡ RkWord) × ((w : ℕ) → Means w (bits_of x) → ⊥))
Unfit f unique (Text i) = unique ≤ i
Unfit f unique (Truth t) = 1 < t
Unfit f unique (Error e) = is_error e ≡ false

-- the row of the table that a correction meets: its number and offset
pub data Refusal (s : List ℕ) (lent sheets n row column : ℕ) (v : NewValue) : ℕ → ℕ → Type 0 where
  -- any refusal that the check would give
  checked : {m o : ℕ} → checked_of s lent ≡ Wrong m o → Refusal s lent sheets n row column v m o
  -- the sheet is the template's
  lent_sheet : {g : Globals} → checked_of s lent ≡ Right g → length (sheets_of s) ≤ n → n < sheets → Refusal s lent sheets n row column v 17 0
  -- the sheet is absent
  no_such_sheet : {g : Globals} → checked_of s lent ≡ Right g → length (sheets_of s) ≤ n → sheets ≤ n → Refusal s lent sheets n row column v 11 0
  -- the cell is absent
  no_cell : {g : Globals} {x : Sheet} → checked_of s lent ≡ Right g → Nth (sheets_of s) n x → cells_at row column (listed_of s x) ≡ [] → Refusal s lent sheets n row column v 11 0
  -- two or more cells have the address
  many : {g : Globals} {x : Sheet} {c d : Cell} {l : List Cell} → checked_of s lent ≡ Right g → Nth (sheets_of s) n x → cells_at row column (listed_of s x) ≡ c ∷ d ∷ l → Refusal s lent sheets n row column v 16 0
  -- the cell's kind doesn't take this kind of value
  kind : {c : Cell} {unique : ℕ} → Only s lent n row column c unique → takes c.kind v ≡ false → Refusal s lent sheets n row column v 17 0
  -- the value doesn't fit
  value : {c : Cell} {unique : ℕ} → Only s lent n row column c unique → takes c.kind v ≡ true → Unfit c.kind unique v → Refusal s lent sheets n row column v 18 0

abbrev pub RefusedExactly : Type 0
RefusedExactly =
    (s : List ℕ) (lent sheets n row column : ℕ) (v : NewValue) (r : Corrected) (t : List ℕ) → Corrects s lent sheets n row column v r t
    → (m o : ℕ) → (r ≡ refuse m o) ↔ Refusal s lent sheets n row column v m o

-- where it is refused, no byte changes
abbrev pub RefusedKeeps : Type 0
RefusedKeeps = (s : List ℕ) (lent sheets n row column : ℕ) (v : NewValue) (m o : ℕ) (t : List ℕ) → Corrects s lent sheets n row column v (refuse m o) t → t ≡ s

-- in a stream that passes, where a packed cell's address occurs once in its sheet, a finite number is refused exactly when no undivided packed word
-- means it
abbrev pub PackedExactly : Type 0
PackedExactly =
    (s : List ℕ) (lent sheets n row column : ℕ) (c : Cell) (unique : ℕ) (x : F64) (r : Corrected) (t : List ℕ) → Corrects s lent sheets n row column (Number x) r t
    → Only s lent n row column c unique → c.kind ≡ RkWord → finite (bits_of x) ≡ true → (r ≡ refuse 18 0) ↔ ((w : ℕ) → Means w (bits_of x) → ⊥)
