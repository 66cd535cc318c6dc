-- The listing: what a caller is given who calls a step again and again.
use Rattle.std.specs.Prelude.{ℕ, ◌≡◌, List, [], Some, None, Ok}
use Rattle.steps.specs.Items.{nth, Lists}
use Rattle.cell.specs.declared.Cell.{Cell}
use Rattle.reading.specs.declared.Place.{Place}
use Rattle.reading.specs.Cells.{listed_from}
use Rattle.reading.specs.Reading.{CellReading, SheetReading, reading_of, name_at, rows_of, units_of, trailing_bytes}
use Rattle.listing.specs.Listing.{first_sheet, next_sheet_of, cells_of, next_of, tokens_in}

-- ---- the cells of a sheet
-- from v, `next_cell` gives the cell x and the place w; `tokens` gives its tokens and `trailing_bytes` the bytes after them. The units of its text result
-- are those of the cell, which `text_result::text_at` gives from its place (`reads_after` `TextsRead`)
pub record CellGiven (s : List ℕ) (v : Place) (x : CellReading) (w : Place) : Type 0 where
  pub cell : Cell
  pub next : next_of s v ≡ Some (record { cell = cell; next = w })
  pub row : cell.row ≡ x.row
  pub column : cell.column ≡ x.column
  pub value : cell.value ≡ x.value
  pub format : cell.format ≡ x.format
  pub place : cell.field ≡ x.place
  pub tokens : tokens_in s cell ≡ x.tokens
  pub trailing : trailing_bytes s cell ≡ x.trailing
  pub text : units_of s cell ≡ x.text

-- from v on, these cells, in order, and then the end
abbrev pub CellsGiven : List ℕ → Place → List CellReading → Type 0
CellsGiven s = Lists (CellGiven s) (λ v. next_of s v ≡ None)

-- from where `cells` starts, exactly the cells that the reading has for sheet n
abbrev pub CellsListed : Type 0
CellsListed = (s : List ℕ) (n : ℕ) (v : Place) → cells_of s n ≡ Ok v → CellsGiven s v (nth (reading_of s 0).sheets n (λ (x : SheetReading). x.cells) [])

-- ---- the sheets
-- from p, `next_sheet` gives the sheet x and the place q; `name_at` gives its name, `rows` its row count, and `next_cell` its cells
pub record SheetGiven (s : List ℕ) (p : ℕ) (x : SheetReading) (q : ℕ) : Type 0 where
  pub header : ℕ
  pub cells : Place
  pub next : next_sheet_of s p ≡ Some (record { header = header; type_byte = x.type; width = x.width; cells = cells; next = q })
  pub name : name_at s header ≡ x.name
  pub rows : rows_of (listed_from s cells) ≡ x.rows
  pub listed : CellsGiven s cells x.cells

-- from `first_sheet` on, exactly the sheets of the reading, in order, and then the end; u is the unique count of strings where the stream has no SST
abbrev pub SheetsListed : Type 0
SheetsListed = (s : List ℕ) (u : ℕ) → Lists (SheetGiven s) (λ p. next_sheet_of s p ≡ None) first_sheet (reading_of s u).sheets
