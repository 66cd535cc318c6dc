-- After a granted correction the stream passes (`Upheld`, of the crate `passes_after`) and reads the same but for that cell.
use Rattle.std.specs.Prelude.{ℕ, ◌-◌, ◌≡◌, List, [], ◌∷◌, true, length}
use Rattle.record.specs.declared.Header.TheVariants.{Record}
use Rattle.record.specs.Record.{header_at}
use Rattle.segments.specs.declared.Cursor.{Cursor}
use Rattle.segments.specs.Segments.{got}
use Rattle.strings.specs.Table.{fetched_of, buffer_of}
use Rattle.value.specs.declared.Field.{Field}
use Rattle.new_value.specs.declared.NewValue.{NewValue}
use Rattle.new_value.specs.Change.{Held, new_of}
use Rattle.cell.specs.declared.Cell.{Cell}
use Rattle.text_result.specs.TextResult.{text_of}
use Rattle.text_result.specs.FromPlace.{answer_at, buffer_at}
use Rattle.sheet_agreement.specs.Agreement.{Sheet}
use Rattle.globals.specs.declared.Globals.{Globals}
use Rattle.globals.specs.Sheets.{sheets_of}
use Rattle.workbook.specs.Check.{Right, checked_of}
use Rattle.reading.specs.Reading.{listed_of, says_text, units_of, reading_of}
use Rattle.record_chain.specs.Chain.{Every, Nth}
use Rattle.correction.specs.Correction.{correction_of, writes, stream_after}
use Rattle.reads_after.specs.Replaced.{replaced, values_at}

-- its reading is the old one with the value of that cell replaced by the new one: all else is equal, and in order
abbrev pub ReadsReplaced : Type 0
ReadsReplaced =
    (s : List ℕ) (lent sheets n row column : ℕ) (v : NewValue) (f : Field) (p b : ℕ) → Held v → correction_of s lent sheets n row column v ≡ writes f p b
    → reading_of (stream_after s (writes f p b)) lent ≡ replaced n row column (new_of v) (reading_of s lent)

-- that cell is one: before, sheet n had one cell of the address
abbrev pub OneBefore : Type 0
OneBefore =
    (s : List ℕ) (lent sheets n row column : ℕ) (v : NewValue) (f : Field) (p b : ℕ) → correction_of s lent sheets n row column v ≡ writes f p b
    → length (values_at n row column (reading_of s lent)) ≡ 1

-- after, it has one still, and that has the new value
abbrev pub NewAfter : Type 0
NewAfter =
    (s : List ℕ) (lent sheets n row column : ℕ) (v : NewValue) (f : Field) (p b : ℕ) → Held v → correction_of s lent sheets n row column v ≡ writes f p b
    → values_at n row column (reading_of (stream_after s (writes f p b)) lent) ≡ new_of v ∷ []

-- ---- the text results
-- the units of a cell's text result are those of a STRING after its formula, of which nothing is refused; and from the place of its value field
-- `text_result::text_at` gives them: those units at the front of the buffer, or 12 at 0
pub record TextRead (s : List ℕ) (c : Cell) : Type 0 where
  pub type : ℕ
  pub size : ℕ
  pub end : ℕ
  pub header : header_at s (c.field - 10) ≡ Record type size end
  pub after : Cursor
  pub text : text_of s (c.field - 10) end ≡ got (units_of s c) after
  pub answer : (b : List ℕ) → answer_at s c.field b ≡ fetched_of (length b) (units_of s c)
  pub buffer : (b : List ℕ) → buffer_at s c.field b ≡ buffer_of b (units_of s c)

-- each formula with a text result that a stream that passes lists has one
abbrev pub TextsRead : Type 0
TextsRead =
    (s : List ℕ) (u : ℕ) (g : Globals) → checked_of s u ≡ Right g → (n : ℕ) (x : Sheet) → Nth (sheets_of s) n x
    → Every (λ (c : Cell). says_text c.value ≡ true → TextRead s c) (listed_of s x)
