-- The text result of a cell fetched into a buffer of 16-bit units: any refusal that the check would give, then 11, then 12, both at 0. Of several cells
-- of the address the first listed counts; where that has no text result it is 11.
use Rattle.std.specs.Prelude.{ℕ, List, [], ◌∷◌, length, Result}
use Rattle.steps.specs.Choice.{pick}
use Rattle.steps.specs.Items.{nth}
use Rattle.refusal.specs.declared.Refusal.{Refusal}
use Rattle.refusal.specs.Refused.{refuse}
use Rattle.strings.specs.Table.{fetched_of, buffer_of}
use Rattle.cell.specs.declared.Cell.{Cell}
use Rattle.sheet_agreement.specs.Agreement.{Sheet}
use Rattle.globals.specs.declared.Globals.{Globals}
use Rattle.globals.specs.Sheets.{sheets_of}
use Rattle.workbook.specs.Check.{checked_of, on_checked}
use Rattle.reading.specs.Reading.{listed_of, says_text, units_of}
use Rattle.correction.specs.Correction.{cells_at}

-- the answer to a fetch into a buffer b, of the first of these cells
unfoldable pub answer_to : List ℕ → List ℕ → List Cell → Result ℕ Refusal
answer_to s b [] = refuse 11 0
answer_to s b (c ∷ l) = pick (says_text c.value) (fetched_of (length b) (units_of s c)) (refuse 11 0)

-- of the cell of an address in sheet n
unfoldable pub answer_of : List ℕ → ℕ → ℕ → ℕ → List ℕ → Result ℕ Refusal
answer_of s n row column b =
    on_checked refuse (λ (g : Globals). nth (sheets_of s) n (λ (x : Sheet). answer_to s b (cells_at row column (listed_of s x))) (refuse 11 0))
    (checked_of s 0)

-- the buffer after it: the units, and after them what it held; all that it held where it is refused
unfoldable pub buffer_to : List ℕ → List ℕ → List Cell → List ℕ
buffer_to s b [] = b
buffer_to s b (c ∷ l) = pick (says_text c.value) (buffer_of b (units_of s c)) b

unfoldable pub buffer_after : List ℕ → ℕ → ℕ → ℕ → List ℕ → List ℕ
buffer_after s n row column b =
    on_checked (λ _ _. b) (λ (g : Globals). nth (sheets_of s) n (λ (x : Sheet). buffer_to s b (cells_at row column (listed_of s x))) b)
    (checked_of s 0)
