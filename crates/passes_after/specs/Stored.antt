-- A number stored in the value field of a listed cell: what every change of a value comes to, a correction, one that is made again and one that is undone.
use Rattle.std.specs.Prelude.{ℕ, ◌^◌, ◌<◌, ◌≡◌, List, true}
use Rattle.std.proofs.lemmas.List.Edits.{sets}
use Rattle.byte_numbers.specs.Bytes.{bytes_of}
use Rattle.value.specs.declared.Field.{Field}
use Rattle.value.specs.declared.Field.TheVariants.{StoredResult}
use Rattle.value.specs.Value.{width_of, value_fits, index_fits}
use Rattle.cell.specs.declared.Cell.{Cell}
use Rattle.sheet_agreement.specs.Agreement.{Sheet}
use Rattle.globals.specs.declared.Globals.{Globals}
use Rattle.globals.specs.Sheets.{sheets_of}
use Rattle.workbook.specs.Check.{Right, checked_of}
use Rattle.reading.specs.Reading.{listed_of}
use Rattle.record_chain.specs.Chain.{Nth}

-- the stream after it
abbrev pub stored_in : List ℕ → Field → ℕ → ℕ → List ℕ
stored_in s f p b = sets s p (bytes_of (width_of f) b)

-- b is a number for a field of kind f that the check passes there; unique is the unique count of strings
pub record Fits (f : Field) (unique b : ℕ) : Type 0 where
  pub small : b < 256 ^ width_of f
  pub right : value_fits f b ≡ true
  pub index : index_fits f b unique ≡ true

-- the stream passes, and a cell that sheet n lists has its value field, of kind f, at p; b fits that field's bytes. u is the unique count of strings where the stream has no SST
pub record Placed (s : List ℕ) (u n : ℕ) (f : Field) (p b : ℕ) : Type 0 where
  pub globals : Globals
  pub passes : checked_of s u ≡ Right globals
  pub sheet : Sheet
  pub nth : Nth (sheets_of s) n sheet
  pub cell : Cell
  pub which : ℕ
  pub is : Nth (listed_of s sheet) which cell
  pub kind : cell.kind ≡ f
  pub field : cell.field ≡ p
  pub small : b < 256 ^ width_of f

-- and b is right there; the result of a formula is never stored
pub record Stored (s : List ℕ) (u n : ℕ) (f : Field) (p b : ℕ) : Type 0 where
  pub placed : Placed s u n f p b
  pub fits : Fits f placed.globals.unique b
  pub plain : f ≡ StoredResult → ⊥
