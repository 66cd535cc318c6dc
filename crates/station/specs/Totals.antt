-- The count of cells in the program's first line.
use Rattle.std.specs.Prelude.{ℕ, ◌+◌, List, [], ◌∷◌, length}
use Rattle.sheet_agreement.specs.Agreement.{Sheet}
use Rattle.reading.specs.Reading.{listed_of}

-- the cells of all sheets
unfoldable pub cell_total : List ℕ → List Sheet → ℕ
cell_total s [] = 0
cell_total s (x ∷ l) = length (listed_of s x) + cell_total s l
