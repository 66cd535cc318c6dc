-- The reading of a pair: its sheets by number, each with whose it is, and both tables' strings.
use Rattle.std.specs.Prelude.{ℕ, List, ◌++◌, map, length, drop, Result, Ok, Err}
use Rattle.value.specs.declared.CellValue.{CellValue}
use Rattle.refusal.specs.declared.Refusal.{Refusal}
use Rattle.globals.specs.declared.Globals.{Globals}
use Rattle.globals.specs.Globals.{globals_of}
use Rattle.reading.specs.Reading.{SheetReading, Reading, reading_of}
use Rattle.reads_after.specs.Replaced.{replaced_sheet, on_nth}
use Rattle.pair.specs.declared.Whose.{Whose}
use Rattle.pair.specs.declared.Whose.TheVariants.{Session, Template}

pub record SheetOf : Type 0 where
  pub whose : Whose
  pub sheet : SheetReading

pub record PairReading : Type 0 where
  pub sheets : List SheetOf
  pub template : List (List ℕ)
  pub session : List (List ℕ)

abbrev pub from : Whose → SheetReading → SheetOf
from w x = record { whose = w; sheet = x }

-- the session's sheets, and those of the template that it doesn't have
abbrev pub overlaid : List SheetReading → List SheetReading → List SheetOf
overlaid l m = map (from Session) l ++ drop (length (map (from Session) l)) (map (from Template) m)

-- the unique count that the template lends
abbrev pub lent_by : Result Globals Refusal → ℕ
lent_by (Ok g) = g.unique
lent_by (Err e) = 0

abbrev pub joined : Reading → Reading → PairReading
joined r q = record { sheets = overlaid q.sheets r.sheets; template = r.strings; session = q.strings }

unfoldable pub pair_reading_of : List ℕ → List ℕ → PairReading
pair_reading_of t s = joined (reading_of t 0) (reading_of s (lent_by (globals_of t 0)))

-- with the value of one cell replaced: in the n-th sheet; all else stays
abbrev pub on_sheet : (SheetReading → SheetReading) → SheetOf → SheetOf
on_sheet f x = record { whose = x.whose; sheet = f x.sheet }

abbrev pub pair_replaced : ℕ → ℕ → ℕ → CellValue → PairReading → PairReading
pair_replaced n row column v r = record { sheets = on_nth n (on_sheet (replaced_sheet row column v)) r.sheets; template = r.template; session = r.session }
