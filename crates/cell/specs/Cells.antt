-- The cell records. The header is at `at`, the body of z bytes at `at + 4`.
-- A body is: row, first column, then one cell's part after the other, then a multiple record's last column or a formula's tokens.
-- A cell's part is: format, value field, and in a formula flags, 4 unused bytes and the tokens' length.
use Rattle.std.specs.Prelude.{ℕ, zero, suc, ◌+◌, ◌-◌, ◌*◌, Bool, true, false, List, [], ◌∷◌, Option, Some, None, Result, Ok, ltb, leb, eqb, take, drop}
use Rattle.steps.specs.Choice.{pick}
use Rattle.refusal.specs.Refused.{refuse}
use Rattle.refusal.specs.declared.Refusal.{Refusal}
use Rattle.byte_numbers.specs.Bytes.{u16_at, num_at}
use Rattle.value.specs.declared.Field.{Field}
use Rattle.value.specs.declared.Field.TheVariants.{NoField, Float, RkWord, TextIndex, TruthError, StoredResult}
use Rattle.value.specs.Value.{width_of, value_of, value_fits, index_fits}
use Rattle.cell.specs.declared.Shape.{Shape}
use Rattle.cell.specs.declared.Shape.TheVariants.{BLANK, NUMBER, RK, LABELSST, BOOLERR, MULRK, MULBLANK, FORMULA, OTHER}
use Rattle.cell.specs.declared.Tokens.{Tokens}
use Rattle.cell.specs.declared.Cell.{Cell}
use Rattle.cell.specs.declared.Found.{Found}

-- ---- the records, by their types
unfoldable pub shape_of : ℕ → Shape
shape_of kind =
    pick (eqb kind 0x0201) BLANK
    (pick (eqb kind 0x0203) NUMBER
    (pick (eqb kind 0x027E) RK
    (pick (eqb kind 0x00FD) LABELSST
    (pick (eqb kind 0x0205) BOOLERR
    (pick (eqb kind 0x00BD) MULRK
    (pick (eqb kind 0x00BE) MULBLANK
    (pick (eqb kind 0x0006) FORMULA
    OTHER)))))))

-- whether it is a cell record
abbrev pub is_cell : Shape → Bool
is_cell BLANK = true
is_cell NUMBER = true
is_cell RK = true
is_cell LABELSST = true
is_cell BOOLERR = true
is_cell MULRK = true
is_cell MULBLANK = true
is_cell FORMULA = true
is_cell OTHER = false

-- what kind of value field its cells have
abbrev pub field_of : Shape → Field
field_of BLANK = NoField
field_of NUMBER = Float
field_of RK = RkWord
field_of LABELSST = TextIndex
field_of BOOLERR = TruthError
field_of MULRK = RkWord
field_of MULBLANK = NoField
field_of FORMULA = StoredResult
field_of OTHER = NoField

-- ---- sizes
-- the bytes of a cell's part
abbrev pub part_of : Field → ℕ
part_of NoField = 2
part_of Float = 10
part_of RkWord = 6
part_of TextIndex = 6
part_of TruthError = 4
part_of StoredResult = 18

-- where in its part the value field starts: after the format; a blank's place is its format
abbrev pub start_of : Field → ℕ
start_of NoField = 0
start_of Float = 2
start_of RkWord = 2
start_of TextIndex = 2
start_of TruthError = 2
start_of StoredResult = 2

unfoldable pub row_at : List ℕ → ℕ → ℕ
row_at s at = u16_at s (at + 4)

unfoldable pub first_at : List ℕ → ℕ → ℕ
first_at s at = u16_at s (at + 6)

-- a multiple record's last column: the last two bytes of the body
unfoldable pub last_at : List ℕ → ℕ → ℕ → ℕ
last_at s at z = u16_at s (at + 2 + z)

-- n, where z is the size that n cells need; else none
unfoldable pub sized : ℕ → ℕ → ℕ → ℕ
sized z needed n = pick (eqb z needed) n 0

-- last minus first plus one; none where they are out of order or over 255
unfoldable pub columns : ℕ → ℕ → ℕ
columns first last =
    pick (ltb last first) 0
    (pick (ltb 255 last) 0
    (last + 1 - first))

-- how many cells a multiple record has, of so many bytes a part
unfoldable pub multiple : List ℕ → ℕ → ℕ → ℕ → ℕ
multiple s at z part = let n = columns (first_at s at) (last_at s at z) in sized z (6 + part * n) n

-- the length of a formula's tokens, in the part at q
unfoldable pub length_at : List ℕ → ℕ → ℕ
length_at s q = u16_at s (q + 16)

-- how many cells the record has, none where its size is wrong
abbrev pub count_of : Shape → List ℕ → ℕ → ℕ → ℕ
count_of BLANK s at z = sized z 6 1
count_of NUMBER s at z = sized z 14 1
count_of RK s at z = sized z 10 1
count_of LABELSST s at z = sized z 10 1
count_of BOOLERR s at z = sized z 8 1
count_of MULRK s at z = multiple s at z 6
count_of MULBLANK s at z = multiple s at z 2
count_of FORMULA s at z = pick (leb (22 + length_at s (at + 8)) z) 1 0
count_of OTHER s at z = 0

-- ---- cells
-- the number of the value field of the part at q
unfoldable pub field_at : Field → List ℕ → ℕ → ℕ
field_at f s q = num_at s (width_of f) (q + start_of f)

abbrev pub no_tokens : Tokens
no_tokens = record { start = 0; length = 0 }

abbrev pub tokens_at : Field → List ℕ → ℕ → Tokens
tokens_at NoField s q = no_tokens
tokens_at Float s q = no_tokens
tokens_at RkWord s q = no_tokens
tokens_at TextIndex s q = no_tokens
tokens_at TruthError s q = no_tokens
tokens_at StoredResult s q = record { start = q + 18; length = length_at s q }

-- the cell whose part is at q
unfoldable pub cell_from : Field → List ℕ → ℕ → ℕ → ℕ → Cell
cell_from f s row column q = record {
  row = row;
  column = column;
  value = value_of f (field_at f s q);
  tokens = tokens_at f s q;
  format = u16_at s q;
  kind = f;
  field = q + start_of f;
}

-- n cells from the part at q on, from left to right
unfoldable pub cells_from : Field → List ℕ → ℕ → ℕ → ℕ → ℕ → List Cell
cells_from f s row column q zero = []
cells_from f s row column q (suc n) = cell_from f s row column q ∷ cells_from f s row (column + 1) (q + part_of f) n

unfoldable pub cells_of : List ℕ → Shape → ℕ → ℕ → List Cell
cells_of s h at z = cells_from (field_of h) s (row_at s at) (first_at s at) (at + 8) (count_of h s at z)

-- the k-th of them, counted from 0
unfoldable pub cell_of : List ℕ → Field → ℕ → ℕ → Cell
cell_of s f at k = cell_from f s (row_at s at) (first_at s at + k) (at + 8 + k * part_of f)

-- the k-th cell, and how many come after it
unfoldable pub found_of : List ℕ → Shape → ℕ → ℕ → ℕ → Option Found
found_of s h at z k = pick (ltb k (count_of h s at z)) (Some (record { cell = cell_of s (field_of h) at k; left = count_of h s at z - (k + 1) })) None

-- the bytes of a cell's tokens
unfoldable pub tokens_of : List ℕ → Cell → List ℕ
tokens_of s c = take c.tokens.length (drop c.tokens.start s)

-- ---- the judgement
-- the n values from the part at q on are right
unfoldable pub fields_fit : Field → List ℕ → ℕ → ℕ → Bool
fields_fit f s q zero = true
fields_fit f s q (suc n) = pick (value_fits f (field_at f s q)) (fields_fit f s (q + part_of f) n) false

-- a wrong size or field is 6; of a record that is else right, a text's index that is not below the unique count is 9
unfoldable pub judged : List ℕ → Shape → ℕ → ℕ → ℕ → Result (Option ℕ) Refusal
judged s h at z unique =
    pick (eqb (count_of h s at z) 0) (refuse 6 at)
    (pick (ltb 255 (first_at s at)) (refuse 6 at)
    (pick (fields_fit (field_of h) s (at + 8) (count_of h s at z))
    (pick (index_fits (field_of h) (field_at (field_of h) s (at + 8)) unique) (Ok (Some (count_of h s at z))) (refuse 9 at))
    (refuse 6 at)))

-- any other record has no cells
unfoldable pub judge_of : List ℕ → Shape → ℕ → ℕ → ℕ → Result (Option ℕ) Refusal
judge_of s h at z unique = pick (is_cell h) (judged s h at z unique) (Ok None)
