-- What holds of every list of differences.
use Rattle.std.specs.Prelude.{ℕ, ◌+◌, ◌*◌, ◌/◌, ◌≤◌, ◌<◌, ◌≡◌, ◌⊎◌, true, false, List, [], ◌∷◌}
use Rattle.value.specs.declared.FormulaResult.{FormulaResult}
use Rattle.value.specs.declared.CellValue.{CellValue}
use Rattle.value.specs.declared.CellValue.TheVariants as value
use Rattle.reading.specs.Reading.{CellReading, Reading}
use Rattle.differences.specs.Differences.{same, shown, address_of, name, only_first, only_second, unequal, cell_difference, name_difference, addresses, name_key, cell_key, difference_at, words_of, differences}

-- one of the numbers is w
abbrev pub Among : ℕ → List ℕ → Type 0
Among w [] = ⊥
Among w (x ∷ l) = (w ≡ x) ⊎ Among w l

-- ---- the words ascend by their keys: by sheet, the name before the cells, row, column, and each place once
abbrev pub AscendFrom : ℕ → List ℕ → Type 0
AscendFrom k [] = Unit {0}
AscendFrom k (w ∷ l) = (k ≤ w / 4) × AscendFrom (w / 4 + 1) l

abbrev pub Ascending : Type 0
Ascending = (x y : Reading) (from : ℕ) → AscendFrom from (differences x y from)

-- ---- nothing else is listed: each word is that of the difference at some key
pub record Told (x y : Reading) (from w : ℕ) : Type 0 where
  pub key : ℕ
  pub onward : from ≤ key
  pub word : Among w (words_of key (difference_at x y key))

abbrev pub NothingElse : Type 0
NothingElse = (x y : Reading) (from w : ℕ) → Among w (differences x y from) → Told x y from w

-- and nothing is left out
abbrev pub AllTold : Type 0
AllTold = (x y : Reading) (from w : ℕ) → Told x y from w → Among w (differences x y from)

-- ---- in the words of the request
pub record Exactly (A B : Type 0) : Type 0 where
  pub to : A → B
  pub back : B → A

-- address a of sheet n is listed as only in the first, only in the second, or unequal, exactly when it is
abbrev pub CellsListed : Type 0
CellsListed = (x y : Reading) (n a : ℕ) → a < addresses →
    Exactly (cell_difference x y n a ≡ only_first) (Among (cell_key n a * 4 + 1) (differences x y 0))
    × Exactly (cell_difference x y n a ≡ only_second) (Among (cell_key n a * 4 + 2) (differences x y 0))
    × Exactly (cell_difference x y n a ≡ unequal) (Among (cell_key n a * 4 + 3) (differences x y 0))

-- the names of sheet n are listed exactly when it is in both and they differ
abbrev pub NamesListed : Type 0
NamesListed = (x y : Reading) (n : ℕ) → Exactly (name_difference x y n ≡ name) (Among (name_key n * 4) (differences x y 0))

-- a reading compared with itself
abbrev pub SameNothing : Type 0
SameNothing = (x : Reading) (from : ℕ) → differences x x from ≡ []

-- two values are equal exactly when they are shown alike
abbrev pub SameShown : Type 0
SameShown = (l m : List ℕ) → Exactly (same l m ≡ true) (l ≡ m)

-- a formula never equals a plain value
abbrev pub Plain : CellValue → Type 0
Plain value.Blank = Unit {0}
Plain (value.Number x) = Unit {0}
Plain (value.NotNumber b) = Unit {0}
Plain (value.Text i) = Unit {0}
Plain (value.Truth t) = Unit {0}
Plain (value.Error e) = Unit {0}
Plain (value.Formula r) = ⊥

abbrev pub FormulasApart : Type 0
FormulasApart = (p q : List (List ℕ)) (r : FormulaResult) (v : CellValue) → Plain v → same (shown p (value.Formula r)) (shown q v) ≡ false

-- an address is a row and a column
abbrev pub AddressesApart : Type 0
AddressesApart = (c d : CellReading) → c.column < 65536 → d.column < 65536 → address_of c ≡ address_of d → (c.row ≡ d.row) × (c.column ≡ d.column)
