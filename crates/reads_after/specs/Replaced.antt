-- The reading of a stream with the value of one cell replaced. A reading is: in order, each sheet's name, width, type, row count and listed cells (row, column,
-- value, a formula's tokens and the bytes after them, format, place, the units of its text result), and each shared string's units.
use Rattle.std.specs.Prelude.{ℕ, zero, suc, List, [], ◌∷◌, map, Bool, ◌&&◌, eqb}
use Rattle.steps.specs.Choice.{pick}
use Rattle.steps.specs.Items.{nth}
use Rattle.value.specs.declared.CellValue.{CellValue}
use Rattle.reading.specs.Reading.{CellReading, SheetReading, Reading}

-- whether a cell has the address
abbrev pub has_address : ℕ → ℕ → CellReading → Bool
has_address row column c = eqb c.row row && eqb c.column column

-- a cell with another value: row, column, tokens and the bytes after them, format, place and the units of a text result stay
abbrev pub with_value : CellValue → CellReading → CellReading
with_value v c = record {
  row = c.row;
  column = c.column;
  value = v;
  tokens = c.tokens;
  trailing = c.trailing;
  format = c.format;
  place = c.place;
  text = c.text;
}

-- the cells of the address have the value, all others are as they were, in order
abbrev pub replaced_cell : ℕ → ℕ → CellValue → CellReading → CellReading
replaced_cell row column v c = pick (has_address row column c) (with_value v c) c

-- name, width, type and row count stay
abbrev pub replaced_sheet : ℕ → ℕ → CellValue → SheetReading → SheetReading
replaced_sheet row column v x = record {
  name = x.name;
  width = x.width;
  type = x.type;
  rows = x.rows;
  cells = map (replaced_cell row column v) x.cells;
}

-- the n-th of a list, counted from 0, given to f; all others stay
unfoldable pub on_nth : {A : Type 0} → ℕ → (A → A) → List A → List A
on_nth n f [] = []
on_nth zero f (x ∷ l) = f x ∷ l
on_nth (suc n) f (x ∷ l) = x ∷ on_nth n f l

-- in the n-th sheet; the other sheets and the strings stay
abbrev pub replaced : ℕ → ℕ → ℕ → CellValue → Reading → Reading
replaced n row column v r = record { sheets = on_nth n (replaced_sheet row column v) r.sheets; strings = r.strings }

-- ---- the values of the cells of an address, in sheet n
unfoldable pub cells_of_address : ℕ → ℕ → List CellReading → List CellReading
cells_of_address row column [] = []
cells_of_address row column (c ∷ l) = pick (has_address row column c) (c ∷ cells_of_address row column l) (cells_of_address row column l)

unfoldable pub values_at : ℕ → ℕ → ℕ → Reading → List CellValue
values_at n row column r = nth r.sheets n (λ (x : SheetReading). map (λ (c : CellReading). c.value) (cells_of_address row column x.cells)) []
