-- What holds of every reading.
use Rattle.std.specs.Prelude.{ℕ, ◌<◌, ◌≡◌, List, [], ◌∷◌, length}
use Rattle.globals.specs.Sheets.{sheets_of}
use Rattle.reading.specs.Reading.{CellReading, SheetReading, reading_of}

-- each has the property
abbrev pub Every : {A : Type 0} → (A → Type 0) → List A → Type 0
Every P [] = Unit {0}
Every P (x ∷ l) = P x × Every P l

-- no sheet is passed over, and none is made up
abbrev pub SheetsRead : Type 0
SheetsRead = (s : List ℕ) (u : ℕ) → length (reading_of s u).sheets ≡ length (sheets_of s)

-- each listed row is below its sheet's row count
abbrev pub RowsCounted : Type 0
RowsCounted = (s : List ℕ) (u : ℕ) → Every (λ (x : SheetReading). Every (λ (c : CellReading). c.row < x.rows) x.cells) (reading_of s u).sheets
