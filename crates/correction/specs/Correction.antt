-- The correction of one cell: any refusal that the check would give, then 17 for a sheet of the template, 11, 16, 17, 18, each at 0; else the value field is
-- written and nothing else. Of a template two numbers matter: `lent`, which is the unique count of strings where the stream has no SST, and `sheets`, how
-- many sheets it has. Both are 0 for a stream by itself.
use Rattle.std.specs.Prelude.{ℕ, List, [], ◌∷◌, ◌&&◌, ltb, eqb, Result, Ok, Err}
use Rattle.std.proofs.lemmas.List.Edits.{sets}
use Rattle.steps.specs.Choice.{pick}
use Rattle.steps.specs.Items.{nth}
use Rattle.refusal.specs.declared.Refusal.{Refusal}
use Rattle.refusal.specs.Refused.{refuse}
use Rattle.byte_numbers.specs.Bytes.{bytes_of}
use Rattle.value.specs.declared.Field.{Field}
use Rattle.value.specs.Value.{width_of}
use Rattle.cell.specs.declared.Cell.{Cell}
use Rattle.new_value.specs.declared.NewValue.{NewValue}
use Rattle.new_value.specs.Change.{plan_of}
use Rattle.sheet_agreement.specs.Agreement.{Sheet}
use Rattle.globals.specs.declared.Globals.{Globals}
use Rattle.globals.specs.Sheets.{sheets_of}
use Rattle.workbook.specs.Check.{checked_of, on_checked}
use Rattle.reading.specs.Reading.{listed_of}

-- what a correction comes to: a refusal, or a number for the value field of this kind at this place
pub data Correction : Type 0 where
  refuses : ℕ → ℕ → Correction
  writes : Field → ℕ → ℕ → Correction

-- the cells of an address, in order
unfoldable pub cells_at : ℕ → ℕ → List Cell → List Cell
cells_at row column [] = []
cells_at row column (c ∷ l) = pick (eqb c.row row && eqb c.column column) (c ∷ cells_at row column l) (cells_at row column l)

abbrev pub on_plan : Cell → Result ℕ Refusal → Correction
on_plan c (Ok n) = writes c.kind c.field n
on_plan c (Err e) = refuses e.number e.offset

-- no cell has the address: 11; two or more have it: 16; u is the unique count of strings
abbrev pub on_cells : NewValue → ℕ → List Cell → Correction
on_cells v u [] = refuses 11 0
on_cells v u (c ∷ []) = on_plan c (plan_of c.kind v u)
on_cells v u (c ∷ d ∷ l) = refuses 16 0

-- no such sheet: 17 where the template has it, else 11
unfoldable pub no_sheet : ℕ → ℕ → ℕ
no_sheet sheets n = pick (ltb n sheets) 17 11

-- in sheet n of a stream that passes, with u strings
abbrev pub correction_in : List ℕ → ℕ → ℕ → ℕ → ℕ → ℕ → NewValue → Correction
correction_in s u sheets n row column v = nth (sheets_of s) n (λ (x : Sheet). on_cells v u (cells_at row column (listed_of s x))) (refuses (no_sheet sheets n) 0)

unfoldable pub correction_of : List ℕ → ℕ → ℕ → ℕ → ℕ → ℕ → NewValue → Correction
correction_of s lent sheets n row column v = on_checked refuses (λ (g : Globals). correction_in s g.unique sheets n row column v) (checked_of s lent)

-- the answer, and the stream after it
abbrev pub answer_of : Correction → Result (Unit {0}) Refusal
answer_of (refuses n o) = refuse n o
answer_of (writes f p n) = Ok tt

abbrev pub stream_after : List ℕ → Correction → List ℕ
stream_after s (refuses n o) = s
stream_after s (writes f p n) = sets s p (bytes_of (width_of f) n)
