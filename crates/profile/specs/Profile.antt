-- The session profile: one sheet, a worksheet, with two columns, event ticks and turns, or three, with the host's seconds; rows 0 upwards without a gap, listed by
-- row and then by column; whole numbers in NUMBER, RK or MULRK records; seconds that never fall. A stream outside it gets 20, after any refusal of the check.
use Rattle.std.specs.Prelude.{ℕ, ◌+◌, ◌/◌, ◌%◌, List, [], ◌∷◌, ltb, eqb, Option, Some, None, Result, Ok, Err}
use Rattle.steps.specs.Choice.{pick}
use Rattle.steps.specs.Items.{nth}
use Rattle.refusal.specs.declared.Refusal.{Refusal}
use Rattle.refusal.specs.Refused.{refuse}
use Rattle.number.specs.Float64.{bits_of}
use Rattle.number.specs.Amount.{amount_of}
use Rattle.value.specs.declared.CellValue.{CellValue}
use Rattle.value.specs.declared.CellValue.TheVariants.{Blank, Number, NotNumber, Text, Truth, Error, Formula}
use Rattle.cell.specs.declared.Cell.{Cell}
use Rattle.sheet_agreement.specs.declared.SheetKind.{SheetKind}
use Rattle.sheet_agreement.specs.declared.SheetKind.TheVariants.{Worksheet, Chart, Macro, Other}
use Rattle.sheet_agreement.specs.Agreement.{Sheet}
use Rattle.globals.specs.Sheets.{sheets_of}
use Rattle.workbook.specs.Check.{checked_of, on_checked}
use Rattle.reading.specs.declared.Place.{Place}
use Rattle.reading.specs.Cells.{listed_from}
use Rattle.reading.specs.Reading.{start_of}
use Rattle.profile.specs.declared.Session.{Session}
use Rattle.profile.specs.Placed.{Placed, placed_from}

-- ---- a cell's number
-- ticks (column 0) and turns (column 1) up to 65,535, seconds (column 2) up to 4,294,967,295
unfoldable pub limit_of : ℕ → ℕ
limit_of column = pick (eqb column 2) 4294967295 65535

-- Only the cells of NUMBER, RK and MULRK records have a number as their value: a formula's number is a formula's.
abbrev pub amount_in : ℕ → CellValue → Option ℕ
amount_in column Blank = None
amount_in column (Number x) = amount_of (limit_of column) (bits_of x)
amount_in column (NotNumber b) = None
amount_in column (Text i) = None
amount_in column (Truth t) = None
amount_in column (Error e) = None
amount_in column (Formula r) = None

-- ---- the cells in their order
-- three columns, if the third listed cell is at row 0, column 2; else two
unfoldable pub third_of : Cell → ℕ
third_of c = pick (eqb c.row 0) (pick (eqb c.column 2) 3 2) 2

unfoldable pub columns_of : List Cell → ℕ
columns_of l = nth l 2 third_of 2

-- seconds are not below those of the row before
abbrev pub risen : ℕ → ℕ → Option ℕ → Option ℕ
risen column seconds (Some n) = pick (eqb column 2) (pick (ltb n seconds) None (Some n)) (Some n)
risen column seconds None = None

-- with k columns, the i-th listed cell, counted from 0, is at row i / k, column i % k; what it says, if it breaks nothing
unfoldable pub amount_at : ℕ → ℕ → ℕ → Cell → Option ℕ
amount_at k i seconds c =
    pick (eqb c.row (i / k))
    (pick (eqb c.column (i % k)) (risen (i % k) seconds (amount_in (i % k) c.value)) None)
    None

-- the seconds after it
unfoldable pub seconds_after : ℕ → ℕ → ℕ → ℕ
seconds_after column seconds n = pick (eqb column 2) n seconds

abbrev pub on_amount : {A : Type 0} → A → (ℕ → A) → Option ℕ → A
on_amount r f (Some n) = f n
on_amount r f None = r

-- at the end, how many rows; 20 at 0 where the last lacks a column
unfoldable pub ended_at : ℕ → ℕ → Result ℕ Refusal
ended_at k i = pick (eqb (i % k) 0) (Ok (i / k)) (refuse 20 0)

-- from the i-th on: how many rows there are in all, or 20 at the record of the first cell that breaks the profile
unfoldable pub judged_from : ℕ → ℕ → ℕ → List Placed → Result ℕ Refusal
judged_from k i seconds [] = ended_at k i
judged_from k i seconds (x ∷ l) = on_amount (refuse 20 x.at) (λ n. judged_from k (i + 1) (seconds_after (i % k) seconds n) l) (amount_at k i seconds x.cell)

-- ---- the stream
abbrev pub on_judged : Place → ℕ → Result ℕ Refusal → Result Session Refusal
on_judged v k (Ok n) = Ok (record { rows = n; columns = k; cells = v })
on_judged v k (Err e) = Err e

unfoldable pub profile_at : List ℕ → Place → Result Session Refusal
profile_at s v = on_judged v (columns_of (listed_from s v)) (judged_from (columns_of (listed_from s v)) 0 0 (placed_from s v))

-- one sheet, a worksheet
abbrev pub of_worksheet : SheetKind → Result Session Refusal → Result Session Refusal
of_worksheet Worksheet r = r
of_worksheet Chart r = refuse 20 0
of_worksheet Macro r = refuse 20 0
of_worksheet Other r = refuse 20 0

abbrev pub on_sheets : List ℕ → List Sheet → Result Session Refusal
on_sheets s [] = refuse 20 0
on_sheets s (x ∷ []) = of_worksheet x.kind (profile_at s (start_of s x))
on_sheets s (x ∷ y ∷ l) = refuse 20 0

unfoldable pub profile_of : List ℕ → Result Session Refusal
profile_of s = on_checked refuse (λ _. on_sheets s (sheets_of s)) (checked_of s 0)
