-- The check of a stream: 1; then the walk of records in stream order, the first fault winning; then 10.
use Rattle.std.specs.Prelude.{ℕ, List, Option, None, Some, Result, Ok, Err, length, ltb}
use Rattle.steps.specs.Choice.{pick}
use Rattle.refusal.specs.declared.Refusal.{Refusal}
use Rattle.refusal.specs.Refused.{refuse}
use Rattle.sheet_agreement.specs.Agreement.{agreement_of}
use Rattle.globals.specs.declared.Globals.{Globals}
use Rattle.globals.specs.Globals.{globals_of}
use Rattle.globals.specs.Sheets.{sheets_of}
use Rattle.top_level.specs.TopLevel.{tops_from, bofs_from}
use Rattle.workbook.specs.declared.Passed.{Passed}

-- what the globals of a stream that passes hold, or the refusal
abbrev pub Checked : Type 0
Checked = Result Globals Refusal

abbrev pub Right : Globals → Checked
Right g = Ok g

abbrev pub Wrong : ℕ → ℕ → Checked
Wrong n o = refuse n o

-- the sheet list and the substreams agree, or 10 at the first at fault
abbrev pub agreed : Globals → Option ℕ → Checked
agreed g None = Right g
agreed g (Some o) = Wrong 10 o

abbrev pub on_walked : List ℕ → Globals → Result (Unit {0}) Refusal → Checked
on_walked s g (Ok t) = agreed g (agreement_of (sheets_of s) (bofs_from s g.unique g.at))
on_walked s g (Err r) = Err r

abbrev pub on_globals : List ℕ → Result Globals Refusal → Checked
on_globals s (Ok g) = on_walked s g (tops_from s g.unique g.at)
on_globals s (Err r) = Err r

-- u is the unique count of strings where the stream has no SST
unfoldable pub checked_of : List ℕ → ℕ → Checked
checked_of s u = pick (ltb 16777216 (length s)) (Wrong 1 0) (on_globals s (globals_of s u))

-- how many sheets and strings, or the refusal
abbrev pub answered : List ℕ → Checked → Result Passed Refusal
answered s (Ok g) = Ok (record { sheets = length (sheets_of s); strings = g.unique })
answered s (Err r) = Err r

unfoldable pub check_of : List ℕ → Result Passed Refusal
check_of s = answered s (checked_of s 0)

-- for the questions that give first any refusal that the check would: r is what a refusal gives, f what a stream that passes gives
abbrev pub on_checked : {A : Type 0} → (ℕ → ℕ → A) → (Globals → A) → Checked → A
on_checked r f (Ok g) = f g
on_checked r f (Err e) = r e.number e.offset
