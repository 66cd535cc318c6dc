-- What the theorems on a cell record speak of.
use Rattle.std.specs.Prelude.{ℕ, ◌+◌, ◌*◌, ◌^◌, ◌≤◌, ◌<◌, ◌≡◌, true, List}
use Rattle.value.specs.declared.Field.{Field}
use Rattle.value.specs.declared.CellValue.{CellValue}
use Rattle.value.specs.Value.{width_of, value_of, value_fits, index_fits}
use Rattle.cell.specs.declared.Shape.{Shape}
use Rattle.cell.specs.declared.Cell.{Cell}
use Rattle.cell.specs.Cells.{is_cell, field_of, part_of, start_of, first_at, count_of, field_at, fields_fit}
use Rattle.new_value.specs.declared.NewValue.{NewValue}
use Rattle.new_value.specs.Change.{new_of}

-- where the value field of the k-th cell of a record starts
abbrev pub place_of : Field → ℕ → ℕ → ℕ
place_of f at k = at + 8 + k * part_of f + start_of f

-- a cell with another value
abbrev pub revalued : Cell → CellValue → Cell
revalued c v = record {
  row = c.row;
  column = c.column;
  value = v;
  tokens = c.tokens;
  format = c.format;
  kind = c.kind;
  field = c.field;
}

-- a record of n cells that passes
pub record Right (s : List ℕ) (h : Shape) (at z unique n : ℕ) : Type 0 where
  pub cell : is_cell h ≡ true
  pub count : n ≡ count_of h s at z
  pub some : 1 ≤ n
  pub column : first_at s at ≤ 255
  pub values : fields_fit (field_of h) s (at + 8) n ≡ true
  pub index : index_fits (field_of h) (field_at (field_of h) s (at + 8)) unique ≡ true

-- the number b says the new value v in a field of kind f
pub record Says (f : Field) (v : NewValue) (unique b : ℕ) : Type 0 where
  pub small : b < 256 ^ width_of f
  pub right : value_fits f b ≡ true
  pub index : index_fits f b unique ≡ true
  pub value : value_of f b ≡ new_of v
