-- Demand 3 over a template and a session, a claim for each of its sentences. They speak of what `pair::pair_correct` promises of a call: t is the template, s
-- the session before it, r the answer, s' the session after it. The template's bytes aren't lent to be written.
use Rattle.std.specs.Prelude.{ℕ, ◌+◌, ◌≤◌, ◌<◌, ◌≡◌, List, map, ◌⊎◌, ◌↔◌, Bool, true, false, length, get_or, Result, Ok, Err}
use Rattle.std.specs.Float.Ieee as Ieee
use Rattle.steps.specs.Items.{nth}
use Rattle.byte_numbers.specs.Bytes.{num_at}
use Rattle.number.specs.Float64.{bits_of}
use Rattle.number.specs.Packing.{Means}
use Rattle.value.specs.declared.Field.TheVariants.{RkWord}
use Rattle.value.specs.Value.{width_of, value_of}
use Rattle.cell.specs.declared.Cell.{Cell}
use Rattle.new_value.specs.declared.NewValue.{NewValue}
use Rattle.new_value.specs.declared.NewValue.TheVariants.{Number}
use Rattle.new_value.specs.Change.{Held, new_of, finite}
use Rattle.globals.specs.declared.Globals.{Globals}
use Rattle.globals.specs.Sheets.{sheets_of}
use Rattle.workbook.specs.Check.{Right, Wrong, checked_of}
use Rattle.reading.specs.Reading.{CellReading, sheet_reading}
use Rattle.claims.specs.Demand3.{Only, Refusal, spot_of, text_of}
use Rattle.claims.specs.Demand3 as claims
use Rattle.pair.specs.declared.Of.{Of}
use Rattle.pair.specs.declared.Of.TheVariants as of
use Rattle.pair.specs.declared.StreamRefusal.{StreamRefusal}
use Rattle.pair.specs.declared.PairRefusal as pair
use Rattle.pair.specs.declared.PairChecked.{PairChecked}
use Rattle.pair.specs.Refused.{refuse_of}
use Rattle.pair.specs.Pair.{pair_of, Passes, sheet_from, pair_correction_of, answer_of, session_after}
use Rattle.claims.specs.PairReading.{SheetOf, from, pair_reading_of, pair_replaced}

-- the n-th sheet of the pair's reading is whole the session's, or the template's where the session has no such sheet
abbrev pub SheetsOverlaid : Type 1
SheetsOverlaid =
    (A : Type 0) (t s : List ℕ) (n : ℕ) (f : SheetOf → A) (d : A)
    → nth (pair_reading_of t s).sheets n f d ≡ sheet_from t s n (λ w x y. f (from w (sheet_reading x y))) d

-- what a correction of the pair answers: granted or refused
abbrev pub PairCorrected : Type 0
PairCorrected = Result (Unit {0}) pair.PairRefusal

-- what `pair_correct` ensures, clause by clause
pub record Corrects (t s : List ℕ) (n row column : ℕ) (v : NewValue) (r : PairCorrected) (s' : List ℕ) : Type 0 where
  pub answer : r ≡ answer_of (pair_correction_of t s n row column v)
  pub after : s' ≡ session_after s (pair_correction_of t s n row column v)
  pub held : Held v

-- the pair passes, sheet n of the session has one cell of the address, and P holds of it
pub record One (t s : List ℕ) (n row column : ℕ) (P : Cell → Type 0) : Type 0 where
  pub template : Globals
  pub session : Globals
  pub passes : Passes t s template session
  pub one : claims.One s template.unique n row column P

-- ---- what holds of each granted correction: c is the one cell of the address
abbrev pub Granted : (List ℕ → List ℕ → ℕ → ℕ → ℕ → NewValue → Cell → List ℕ → Type 0) → Type 0
Granted P =
    (t s : List ℕ) (n row column : ℕ) (v : NewValue) (s' : List ℕ) → Corrects t s n row column v (Ok tt) s'
    → One t s n row column (λ c. P t s n row column v c s')

-- that cell's value field holds the new value
abbrev pub HoldsNew : Type 0
HoldsNew = Granted (λ t s n row column v c s'. value_of c.kind (num_at s' (width_of c.kind) c.field) ≡ new_of v)

-- every other byte of the session is as it was, and no byte is gone or added
abbrev pub OthersStay : Type 0
OthersStay =
    Granted (λ t s n row column v c s'. (length s' ≡ length s) × ((j : ℕ) → (j < c.field) ⊎ (c.field + width_of c.kind ≤ j) → get_or s' j 0 ≡ get_or s j 0))

abbrev pub passed : Result PairChecked StreamRefusal → Bool
passed (Ok x) = true
passed (Err e) = false

-- the pair passes the check, with the same globals
abbrev pub PairPasses : Type 0
PairPasses = Granted (λ t s n row column v c s'. (passed (pair_of t s') ≡ true) × (pair_of t s' ≡ pair_of t s))

-- it reads the same but for that cell
abbrev pub ReadsNew : Type 0
ReadsNew = Granted (λ t s n row column v c s'. pair_reading_of t s' ≡ pair_replaced n row column (new_of v) (pair_reading_of t s))

-- format and place, and the units of the text results, stay for all cells of all sheets
abbrev pub of_cells : {A : Type 0} → (CellReading → A) → List SheetOf → List (List A)
of_cells f l = map (λ (x : SheetOf). map f x.sheet.cells) l

abbrev pub SpotsStay : Type 0
SpotsStay = Granted (λ t s n row column v c s'. of_cells spot_of (pair_reading_of t s').sheets ≡ of_cells spot_of (pair_reading_of t s).sheets)

abbrev pub TextsStay : Type 0
TextsStay = Granted (λ t s n row column v c s'. of_cells text_of (pair_reading_of t s').sheets ≡ of_cells text_of (pair_reading_of t s).sheets)

-- ---- a correction is refused exactly when the table says
pub data PairRefusal (t s : List ℕ) (n row column : ℕ) (v : NewValue) : Of → ℕ → ℕ → Type 0 where
  -- any refusal that the check of the template would give, then any that the check of the session would
  template : {m o : ℕ} → checked_of t 0 ≡ Wrong m o → PairRefusal t s n row column v of.Template m o
  session : {g : Globals} {m o : ℕ} → checked_of t 0 ≡ Right g → checked_of s g.unique ≡ Wrong m o → PairRefusal t s n row column v of.Session m o
  -- then as in the session, under a template of so many sheets: 17 for one of these
  question : {g h : Globals} {m o : ℕ} → Passes t s g h → Refusal s g.unique (length (sheets_of t)) n row column v m o → PairRefusal t s n row column v of.Question m o

abbrev pub RefusedExactly : Type 0
RefusedExactly =
    (t s : List ℕ) (n row column : ℕ) (v : NewValue) (r : PairCorrected) (s' : List ℕ) → Corrects t s n row column v r s'
    → (w : Of) (m o : ℕ) → (r ≡ refuse_of w m o) ↔ PairRefusal t s n row column v w m o

-- where it is refused, no byte changes
abbrev pub RefusedKeeps : Type 0
RefusedKeeps =
    (t s : List ℕ) (n row column : ℕ) (v : NewValue) (w : Of) (m o : ℕ) (s' : List ℕ) → Corrects t s n row column v (refuse_of w m o) s' → s' ≡ s

-- where the pair passes and a packed cell's address occurs once in its sheet of the session, a finite number is refused exactly when no undivided packed
-- word means it
abbrev pub PackedExactly : Type 0
PackedExactly =
    (t s : List ℕ) (g h : Globals) (n row column : ℕ) (c : Cell) (unique : ℕ) (x : Ieee.Float) (r : PairCorrected) (s' : List ℕ)
    → Corrects t s n row column (Number x) r s' → Passes t s g h → Only s g.unique n row column c unique → c.kind ≡ RkWord → finite (bits_of x) ≡ true
    → (r ≡ refuse_of of.Question 18 0) ↔ ((w : ℕ) → Means w (bits_of x) → ⊥)
