-- Where the value fields of listed cells lie, and what a granted correction leaves of the cells. A blank's value field has no bytes, and stands where
-- its format does.
use Rattle.std.specs.Prelude.{ℕ, ◌+◌, ◌≤◌, ◌<◌, ◌≡◌, List, map, ◌⊎◌}
use Rattle.value.specs.declared.Field.{Field}
use Rattle.value.specs.Value.{width_of}
use Rattle.cell.specs.declared.Cell.{Cell}
use Rattle.new_value.specs.declared.NewValue.{NewValue}
use Rattle.new_value.specs.Change.{Held}
use Rattle.sheet_agreement.specs.Agreement.{Sheet}
use Rattle.globals.specs.declared.Globals.{Globals}
use Rattle.globals.specs.Sheets.{sheets_of}
use Rattle.workbook.specs.Check.{Right, checked_of}
use Rattle.reading.specs.Reading.{listed_of}
use Rattle.correction.specs.Correction.{writes, correction_of, stream_after}
use Rattle.record_chain.specs.Chain.{Nth}

-- ---- the value fields of different cells don't overlap
-- the value field of c stands before that of d, and ends before it
pub record Before (c d : Cell) : Type 0 where
  pub starts : c.field < d.field
  pub ends : c.field + width_of c.kind ≤ d.field

-- in one sheet they stand as the cells are listed, on any stream
abbrev pub InOrder : Type 0
InOrder =
    (s : List ℕ) (x : Sheet) (i j : ℕ) (c d : Cell) → Nth (listed_of s x) i c → Nth (listed_of s x) j d → i < j → Before c d

-- those of two sheets stand apart in a stream that passes, since no two sheets name one substream; u is the unique count of strings where it has no SST
abbrev pub AcrossSheets : Type 0
AcrossSheets =
    (s : List ℕ) (u : ℕ) (g : Globals) → checked_of s u ≡ Right g
    → (m n : ℕ) (x y : Sheet) → Nth (sheets_of s) m x → Nth (sheets_of s) n y → (m ≡ n → ⊥)
    → (i j : ℕ) (c d : Cell) → Nth (listed_of s x) i c → Nth (listed_of s y) j d → Before c d ⊎ Before d c

-- ---- what a granted correction leaves
-- a cell but for its value: address, format, kind and place of the value field
pub record Frame : Type 0 where
  pub row : ℕ
  pub column : ℕ
  pub format : ℕ
  pub kind : Field
  pub place : ℕ

abbrev pub frame_of : Cell → Frame
frame_of c = record { row = c.row; column = c.column; format = c.format; kind = c.kind; place = c.field }

-- the check's answer, with the globals and the unique count of strings, the sheets, and all of every cell but its value
pub record Left (s t : List ℕ) (lent : ℕ) : Type 0 where
  pub checked : checked_of t lent ≡ checked_of s lent
  pub sheets : sheets_of t ≡ sheets_of s
  pub cells : (n : ℕ) (x : Sheet) → Nth (sheets_of s) n x → map frame_of (listed_of t x) ≡ map frame_of (listed_of s x)

abbrev pub AllLeft : Type 0
AllLeft =
    (s : List ℕ) (lent sheets n row column : ℕ) (v : NewValue) (f : Field) (p b : ℕ) → Held v → correction_of s lent sheets n row column v ≡ writes f p b
    → Left s (stream_after s (writes f p b)) lent
