-- The reading of a stream with other text indices, and the claims.
use Rattle.std.specs.Prelude.{ℕ, ◌+◌, ◌≤◌, ◌^◌, ◌≡◌, List, [], ◌∷◌, map, true, length}
use Rattle.steps.specs.Choice.{pick}
use Rattle.steps.specs.Items.{nth}
use Rattle.byte_numbers.specs.Bytes.{u16_at}
use Rattle.value.specs.declared.CellValue.{CellValue}
use Rattle.value.specs.declared.CellValue.TheVariants.{Blank, Number, NotNumber, Text, Truth, Error, Formula}
use Rattle.strings.specs.Table.{strings_of}
use Rattle.globals.specs.declared.Globals.{Globals}
use Rattle.workbook.specs.Check.{Right, checked_of}
use Rattle.cell.specs.declared.Cell.{Cell}
use Rattle.sheet_agreement.specs.Agreement.{Sheet}
use Rattle.globals.specs.Sheets.{sheets_of}
use Rattle.reading.specs.Reading.{CellReading, SheetReading, listed_of, strings_at, reading_of}
use Rattle.record_chain.specs.Chain.{Every, Nth}
use Rattle.new_stream.specs.Entries.{entries_of}
use Rattle.new_stream.specs.Compact.{byte_in, texts_in, uses, index_in, compact_with}
use Rattle.new_stream.specs.Claims.{Standing, TableOf}

-- ---- a text cell's index told anew; all other values stay
abbrev pub retexted_value : (ℕ → ℕ) → CellValue → CellValue
retexted_value index Blank = Blank
retexted_value index (Number x) = Number x
retexted_value index (NotNumber b) = NotNumber b
retexted_value index (Text i) = Text (index i)
retexted_value index (Truth b) = Truth b
retexted_value index (Error b) = Error b
retexted_value index (Formula r) = Formula r

-- and its value field moved; all else of a cell stays
abbrev pub retexted_cell : (index byte : ℕ → ℕ) → CellReading → CellReading
retexted_cell index byte c = record {
  row = c.row;
  column = c.column;
  value = retexted_value index c.value;
  tokens = c.tokens;
  trailing = c.trailing;
  format = c.format;
  place = byte c.place;
  text = c.text;
}

-- name, width, type and row count stay
abbrev pub retexted_sheet : (index byte : ℕ → ℕ) → SheetReading → SheetReading
retexted_sheet index byte x = record { name = x.name; width = x.width; type = x.type; rows = x.rows; cells = map (retexted_cell index byte) x.cells }

-- ---- the strings that are used, in the old order; i is the index of the first of the list
unfoldable pub used_texts : List ℕ → ℕ → List (List ℕ) → List (List ℕ)
used_texts l i [] = []
used_texts l i (x ∷ r) = pick (uses l i) (x ∷ used_texts l (i + 1) r) (used_texts l (i + 1) r)

-- what the half that writes the table gives: where the stream has a table, wherever T stands, its strings are those that are used
abbrev pub TextsOf : List ℕ → List ℕ → Globals → Type 0
TextsOf s T g =
    (g.table ≡ 0 → ⊥) → (t : List ℕ) (q : ℕ) → Standing t T q → strings_of t q (q + 4 + u16_at t (q + 2)) ≡ used_texts (texts_in s (entries_of s)) 0 (strings_at s g.table)

abbrev pub index_of : List ℕ → List ℕ → ℕ → ℕ
index_of s T i = index_in s T (entries_of s) i

abbrev pub byte_of : List ℕ → List ℕ → ℕ → ℕ
byte_of s T p = byte_in T (entries_of s) p

-- ---- the claims
-- u is the unique count where the stream has no SST; the new stream has as many sheets, with the same names, widths, types, row counts and cells but for the text indices and the places
abbrev pub SheetsRetexted : Type 0
SheetsRetexted =
    (s T : List ℕ) (u : ℕ) (g : Globals) → u ≤ 256 ^ 4 → checked_of s u ≡ Right g → TableOf s T g → length (compact_with s T) ≤ 16777216
    → (reading_of (compact_with s T) u).sheets ≡ map (retexted_sheet (index_of s T) (byte_of s T)) (reading_of s u).sheets

-- each index that a listed text cell has names the string that it named
abbrev pub TextsKept : Type 0
TextsKept =
    (s T : List ℕ) (u : ℕ) (g : Globals) → u ≤ 256 ^ 4 → checked_of s u ≡ Right g → TableOf s T g → TextsOf s T g → length (compact_with s T) ≤ 16777216
    → (i : ℕ) → uses (texts_in s (entries_of s)) i ≡ true → nth (reading_of (compact_with s T) u).strings (index_of s T i) (λ x. x) [] ≡ nth (reading_of s u).strings i (λ x. x) []

-- so each listed text cell shows the text that it showed
abbrev pub CellsNamed : Type 0
CellsNamed =
    (s T : List ℕ) (u : ℕ) (g : Globals) → u ≤ 256 ^ 4 → checked_of s u ≡ Right g → TableOf s T g → TextsOf s T g → length (compact_with s T) ≤ 16777216
    → (n : ℕ) (x : Sheet) → Nth (sheets_of s) n x
    → Every (λ (c : Cell). (i : ℕ) → c.value ≡ Text i → nth (reading_of (compact_with s T) u).strings (index_of s T i) (λ x. x) [] ≡ nth (reading_of s u).strings i (λ x. x) []) (listed_of s x)
