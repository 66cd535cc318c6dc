-- What holds of every reading. Assumes nothing.
use Prim.Native.Nat.{ℕ, suc, ◌≤◌, ◌<◌}
use mathlib.Core.Path.{◌≡◌, refl, ap}
use mathlib.Core.List.{List, [], ◌∷◌, map}
use native.Mathlib.Omega.{arith}
use lib.ListN.{length}
use Rattle.cell.specs.declared.Cell.{Cell}
use Rattle.globals.specs.Sheets.{sheets_of}
use Rattle.reading.specs.Reading.{CellReading, SheetReading, listed_of, rows_of, cell_reading, sheet_reading, reading_of}
use Rattle.reading.specs.Claims.{Every, SheetsRead, RowsCounted}

length_map : {A B : Type 0} (f : A → B) (l : List A) → length (map f l) ≡ length l
length_map f [] = refl
length_map f (x ∷ l) = ap (λ (n : ℕ). suc n) (length_map f l)

pub sheets_read : SheetsRead
unfolding reading_of
sheets_read s u = length_map (sheet_reading s) (sheets_of s)

each_mapped : {A B : Type 0} (f : A → B) (P : B → Type 0) (l : List A) → ((x : A) → P (f x)) → Every P (map f l)
each_mapped f P [] h = tt
each_mapped f P (x ∷ l) h = (h x, each_mapped f P l h)

below : (s : List ℕ) (m : ℕ) (l : List Cell) → rows_of l ≤ m → Every (λ (c : CellReading). c.row < m) (map (cell_reading s) l)
unfolding rows_of
below s m [] h = tt
below s m (c ∷ l) h = (omega arith, below s m l (omega arith))

pub rows_counted : RowsCounted
unfolding reading_of
rows_counted s u =
    each_mapped (sheet_reading s) (λ (x : SheetReading). Every (λ (c : CellReading). c.row < x.rows) x.cells) (sheets_of s)
    (λ x. below s (rows_of (listed_of s x)) (listed_of s x) (omega arith))
