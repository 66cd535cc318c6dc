-- Two readings compared, sheet number by sheet number: where the names of a sheet in both differ, then each address that is only in the first, only in
-- the second, or in both with unequal values.
use Rattle.std.specs.Prelude.{ℕ, zero, suc, ◌+◌, ◌-◌, ◌*◌, ◌/◌, ◌%◌, max, Bool, true, false, ◌||◌, List, [], ◌∷◌, ◌++◌, length, get_or, ltb, eqb}
use Rattle.steps.specs.Choice.{pick}
use Rattle.steps.specs.Items.{nth}
use Rattle.byte_numbers.specs.Bytes.{num_at}
use Rattle.number.specs.Float64.{bits_of}
use Rattle.value.specs.declared.FormulaResult.{FormulaResult}
use Rattle.value.specs.declared.FormulaResult.TheVariants as result
use Rattle.value.specs.declared.CellValue.{CellValue}
use Rattle.value.specs.declared.CellValue.TheVariants as value
use Rattle.reading.specs.Reading.{CellReading, SheetReading, Reading}

-- ---- what is compared
-- the same numbers in the same order
unfoldable pub same : List ℕ → List ℕ → Bool
same [] [] = true
same [] (y ∷ m) = false
same (x ∷ l) [] = false
same (x ∷ l) (y ∷ m) = pick (eqb x y) (same l m) false

-- a value as it is compared: its kind (blank 0, number 1, text 2, truth 3, error 4; a formula's result: number 5, text 6, truth 7, error 8, empty 9),
-- then a number's 64 bits, a text's characters, a truth or a code. A formula's tokens are left out; the units of its text result are compared beside this
abbrev pub result_shown : FormulaResult → List ℕ
result_shown (result.Number x) = 5 ∷ bits_of x ∷ []
result_shown (result.NotNumber b) = 5 ∷ b ∷ []
result_shown result.Text = 6 ∷ []
result_shown (result.Truth t) = 7 ∷ t ∷ []
result_shown (result.Error e) = 8 ∷ e ∷ []
result_shown result.Empty = 9 ∷ []

abbrev pub shown : List (List ℕ) → CellValue → List ℕ
shown strings value.Blank = 0 ∷ []
shown strings (value.Number x) = 1 ∷ bits_of x ∷ []
shown strings (value.NotNumber b) = 1 ∷ b ∷ []
shown strings (value.Text i) = 2 ∷ get_or strings i []
shown strings (value.Truth t) = 3 ∷ t ∷ []
shown strings (value.Error e) = 4 ∷ e ∷ []
shown strings (value.Formula r) = result_shown r

-- the characters of a name of w bytes a character: k of them from byte p on
unfoldable pub chars_from : List ℕ → ℕ → ℕ → ℕ → List ℕ
chars_from name w p zero = []
chars_from name w p (suc k) = num_at name w p ∷ chars_from name w (p + w) k

abbrev pub chars_of : List ℕ → ℕ → List ℕ
chars_of name w = chars_from name w 0 (length name / w)

-- ---- addresses
-- row and column as one number; both are below 65,536
abbrev pub address_of : CellReading → ℕ
address_of c = c.row * 65536 + c.column

-- what stands at an address: the value of its first cell, and the units of that cell's text result
pub data Held : Type 0 where
  nothing : Held
  holds : CellValue → List ℕ → Held

unfoldable pub held_at : ℕ → List CellReading → Held
held_at a [] = nothing
held_at a (c ∷ l) = pick (eqb (address_of c) a) (holds c.value c.text) (held_at a l)

-- one of the cells has the address
unfoldable pub has : ℕ → List CellReading → Bool
has a [] = false
has a (c ∷ l) = eqb (address_of c) a || has a l

-- an address has two or more cells
unfoldable pub twice : List CellReading → Bool
twice [] = false
twice (c ∷ l) = has (address_of c) l || twice l

-- in one of the sheets
unfoldable pub twice_in : List SheetReading → Bool
twice_in [] = false
twice_in (x ∷ l) = twice x.cells || twice_in l

-- ---- the difference at one place
pub data Difference : Type 0 where
  none : Difference
  name : Difference
  only_first : Difference
  only_second : Difference
  unequal : Difference

-- two values with the units of their text results are equal: both are shown alike, each with its own strings
unfoldable pub alike : List (List ℕ) → CellValue → List ℕ → List (List ℕ) → CellValue → List ℕ → Bool
alike p v us q w vs = pick (same (shown p v) (shown q w)) (same us vs) false

-- what two sides hold, each with its own strings
abbrev pub between : List (List ℕ) → List (List ℕ) → Held → Held → Difference
between p q nothing nothing = none
between p q (holds v us) nothing = only_first
between p q nothing (holds w vs) = only_second
between p q (holds v us) (holds w vs) = pick (alike p v us q w vs) none unequal

-- the cells of sheet n; a reading that hasn't such a sheet has none
unfoldable pub cells_in : Reading → ℕ → List CellReading
cells_in x n = nth x.sheets n (λ (p : SheetReading). p.cells) []

unfoldable pub cell_difference : Reading → Reading → ℕ → ℕ → Difference
cell_difference x y n a = between x.strings y.strings (held_at a (cells_in x n)) (held_at a (cells_in y n))

abbrev pub names_between : SheetReading → SheetReading → Difference
names_between p q = pick (same (chars_of p.name p.width) (chars_of q.name q.width)) none name

-- the names of sheet n, where it is in both
unfoldable pub name_difference : Reading → Reading → ℕ → Difference
name_difference x y n = nth x.sheets n (λ (p : SheetReading). nth y.sheets n (λ (q : SheetReading). names_between p q) none) none

-- ---- the list
-- Places are numbered by sheet, the name before the cells, then row, column: sheet n's name is n * 2^33, its address a is n * 2^33 + 2^32 + a.
abbrev pub sheet_keys : ℕ
sheet_keys = 8589934592

abbrev pub addresses : ℕ
addresses = 4294967296

abbrev pub name_key : ℕ → ℕ
name_key n = n * sheet_keys

abbrev pub cell_key : ℕ → ℕ → ℕ
cell_key n a = n * sheet_keys + addresses + a

-- the difference at place k of a sheet, its name at 0, its cells from 2^32 on
unfoldable pub difference_in : Reading → Reading → ℕ → ℕ → Difference
difference_in x y n k =
    pick (eqb k 0) (name_difference x y n)
    (pick (ltb k addresses) none
    (cell_difference x y n (k - addresses)))

unfoldable pub difference_at : Reading → Reading → ℕ → Difference
difference_at x y k = difference_in x y (k / sheet_keys) (k % sheet_keys)

-- a difference is told by a word, key * 4 + kind: name 0, only in the first 1, only in the second 2, unequal 3
abbrev pub words_of : ℕ → Difference → List ℕ
words_of k none = []
words_of k name = (k * 4) ∷ []
words_of k only_first = (k * 4 + 1) ∷ []
words_of k only_second = (k * 4 + 2) ∷ []
words_of k unequal = (k * 4 + 3) ∷ []

-- those at the n keys from k on
unfoldable pub words_from : (ℕ → Difference) → ℕ → ℕ → List ℕ
words_from d k zero = []
words_from d k (suc n) = words_of k (d k) ++ words_from d (k + 1) n

-- as many keys as the sheets of the longer list have
unfoldable pub keys_of : Reading → Reading → ℕ
keys_of x y = max (length x.sheets) (length y.sheets) * sheet_keys

-- the differences at all keys from `from` on
unfoldable pub differences : Reading → Reading → ℕ → List ℕ
differences x y from = words_from (difference_at x y) from (keys_of x y - from)
