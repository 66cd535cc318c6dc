-- What a granted correction has.
use Rattle.std.specs.Prelude.{ℕ, ◌≡◌, List, [], ◌∷◌, Some, Ok}
use Rattle.record.specs.declared.Header.TheVariants.{Record}
use Rattle.record.specs.Record.{header_at}
use Rattle.value.specs.declared.Field.{Field}
use Rattle.cell.specs.declared.Cell.{Cell}
use Rattle.cell.specs.Cells.{shape_of, found_of}
use Rattle.new_value.specs.declared.NewValue.{NewValue}
use Rattle.new_value.specs.Change.{plan_of}
use Rattle.sheet_agreement.specs.Agreement.{Sheet}
use Rattle.globals.specs.declared.Globals.{Globals}
use Rattle.globals.specs.Sheets.{sheets_of}
use Rattle.workbook.specs.Check.{Right, checked_of}
use Rattle.reading.specs.Reading.{listed_of}
use Rattle.correction.specs.Correction.{cells_at}
use Rattle.record_chain.specs.Chain.{Reach, Nth}

-- the stream passes, sheet n has one cell with the address, and b is the number for its value field, of kind f at p
pub record Granted (s : List ℕ) (lent n row column : ℕ) (v : NewValue) (f : Field) (p b : ℕ) : Type 0 where
  pub globals : Globals
  pub passes : checked_of s lent ≡ Right globals
  pub sheet : Sheet
  pub nth : Nth (sheets_of s) n sheet
  pub cell : Cell
  pub only : cells_at row column (listed_of s sheet) ≡ cell ∷ []
  pub plan : plan_of cell.kind v globals.unique ≡ Ok b
  pub kind : cell.kind ≡ f
  pub field : cell.field ≡ p

-- a listed cell: the record in which it stands, reached from where the list begins, and which of the record's cells it is
pub record Listed (s : List ℕ) (from : ℕ) (c : Cell) : Type 0 where
  pub at : ℕ
  pub type : ℕ
  pub size : ℕ
  pub end : ℕ
  pub part : ℕ
  pub left : ℕ
  pub reached : Reach s from at
  pub header : header_at s at ≡ Record type size end
  pub found : found_of s (shape_of type) at size part ≡ Some (record { cell = c; left = left })
