-- The reading of a stream: in order, each sheet's name, width, type, row count and listed cells (row, column, value, a formula's tokens and the bytes after them,
-- format index, the offset of the value field or, for a blank, of the format, and the units of its text result), and each shared string's units.
use Rattle.std.specs.Prelude.{ℕ, ◌+◌, ◌-◌, max, List, [], ◌∷◌, map, Bool, false, Result, Ok, Err, length, take, drop, ltb, eqb}
use Rattle.steps.specs.Choice.{pick}
use Rattle.byte_numbers.specs.Bytes.{byte_at, u16_at}
use Rattle.refusal.specs.declared.Refusal.{Refusal}
use Rattle.record.specs.declared.Header.{Header}
use Rattle.record.specs.declared.Header.TheVariants.{Record, Cut, End}
use Rattle.record.specs.Record.{header_at}
use Rattle.segments.specs.Segments.{list_of, width_of}
use Rattle.strings.specs.Table.{strings_of}
use Rattle.value.specs.declared.CellValue.{CellValue}
use Rattle.value.specs.declared.CellValue.TheVariants.{Blank, Number, NotNumber, Text, Truth, Error, Formula}
use Rattle.text_result.specs.TextResult.{is_text, text_of}
use Rattle.cell.specs.declared.Cell.{Cell}
use Rattle.cell.specs.declared.Tokens.{Tokens}
use Rattle.cell.specs.Cells.{tokens_of}
use Rattle.sheet_agreement.specs.declared.SheetKind.{SheetKind}
use Rattle.sheet_agreement.specs.declared.SheetKind.TheVariants.{Worksheet}
use Rattle.sheet_agreement.specs.Agreement.{same_kind, Sheet}
use Rattle.globals.specs.declared.Globals.{Globals}
use Rattle.globals.specs.Globals.{globals_of}
use Rattle.globals.specs.Sheets.{sheets_of}
use Rattle.reading.specs.declared.Place.{Place}
use Rattle.reading.specs.Cells.{place_at, listed_from}

-- ---- a sheet, by its BOUNDSHEET, whose header is at h
-- the name: from the flags byte up to the record's end
abbrev pub on_name : List ℕ → ℕ → Header → List ℕ
on_name s h (Record t z e) = pick (ltb z 8) [] (take (e - (h + 12)) (drop (h + 12) s))
on_name s h Cut = []
on_name s h End = []

unfoldable pub name_at : List ℕ → ℕ → List ℕ
name_at s h = on_name s h (header_at s h)

-- bytes a character, and the type byte: 0 worksheet, 1 macro, 2 chart
abbrev pub width_at : List ℕ → ℕ → ℕ
width_at s h = width_of (byte_at s (h + 11))

abbrev pub type_at : List ℕ → ℕ → ℕ
type_at s h = byte_at s (h + 9)

-- a worksheet's cells start after its BOF; chart and macro sheets list no cells
unfoldable pub start_by : ℕ → ℕ → SheetKind → Place
start_by len position kind = pick (same_kind kind Worksheet) (place_at (position + 20) 0) (place_at len 0)

abbrev pub start_of : List ℕ → Sheet → Place
start_of s x = start_by (length s) x.position x.kind

abbrev pub listed_of : List ℕ → Sheet → List Cell
listed_of s x = listed_from s (start_of s x)

-- the highest listed row plus one, or 0
unfoldable pub rows_of : List Cell → ℕ
rows_of [] = 0
rows_of (c ∷ l) = max (c.row + 1) (rows_of l)

-- ---- the shared strings of the SST whose header is at p, 0 where there is none
unfoldable pub strings_at : List ℕ → ℕ → List (List ℕ)
strings_at s p = pick (eqb p 0) [] (strings_of s p (p + 4 + u16_at s (p + 2)))

abbrev pub on_globals : List ℕ → Result Globals Refusal → List (List ℕ)
on_globals s (Ok g) = strings_at s g.table
on_globals s (Err r) = []

-- ---- the text result of a formula
abbrev pub says_text : CellValue → Bool
says_text Blank = false
says_text (Number x) = false
says_text (NotNumber b) = false
says_text (Text i) = false
says_text (Truth t) = false
says_text (Error e) = false
says_text (Formula r) = is_text r

-- the units of that of the FORMULA whose header is at f
abbrev pub on_formula : List ℕ → ℕ → Header → List ℕ
on_formula s f (Record t z e) = list_of (text_of s f e)
on_formula s f Cut = []
on_formula s f End = []

unfoldable pub text_after : List ℕ → ℕ → List ℕ
text_after s f = on_formula s f (header_at s f)

-- of a cell: a formula's value field starts 10 bytes past its header; a cell without a text result has no units
unfoldable pub units_of : List ℕ → Cell → List ℕ
units_of s c = pick (says_text c.value) (text_after s (c.field - 10)) []

-- ---- the whole
-- the bytes of a formula's record after its tokens, to its end. The tokens start 26 bytes after its header, whose size stands 2 bytes on
unfoldable pub trailing_size : List ℕ → Tokens → ℕ
trailing_size s t = pick (ltb t.start 26) 0 (u16_at s (t.start - 24) - (22 + t.length))

unfoldable pub trailing_bytes : List ℕ → Cell → List ℕ
trailing_bytes s c = take (trailing_size s c.tokens) (drop (c.tokens.start + c.tokens.length) s)

pub record CellReading : Type 0 where
  pub row : ℕ
  pub column : ℕ
  pub value : CellValue
  pub tokens : List ℕ
  pub trailing : List ℕ
  pub format : ℕ
  pub place : ℕ
  pub text : List ℕ

pub record SheetReading : Type 0 where
  pub name : List ℕ
  pub width : ℕ
  pub type : ℕ
  pub rows : ℕ
  pub cells : List CellReading

pub record Reading : Type 0 where
  pub sheets : List SheetReading
  pub strings : List (List ℕ)

abbrev pub cell_reading : List ℕ → Cell → CellReading
cell_reading s c = record {
  row = c.row;
  column = c.column;
  value = c.value;
  tokens = tokens_of s c;
  trailing = trailing_bytes s c;
  format = c.format;
  place = c.field;
  text = units_of s c;
}

abbrev pub sheet_reading : List ℕ → Sheet → SheetReading
sheet_reading s x = record {
  name = name_at s x.header;
  width = width_at s x.header;
  type = type_at s x.header;
  rows = rows_of (listed_of s x);
  cells = map (cell_reading s) (listed_of s x);
}

-- u is the unique count of strings where the stream has no SST, 0 for a stream by itself
unfoldable pub reading_of : List ℕ → ℕ → Reading
reading_of s u = record { sheets = map (sheet_reading s) (sheets_of s); strings = on_globals s (globals_of s u) }
