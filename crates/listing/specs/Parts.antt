-- What the contracts of the inner functions speak of.
use Rattle.std.specs.Prelude.{ℕ, ◌+◌, ◌≤◌, ◌<◌, max, ◌≡◌, List, Option, Some, None, Result, Ok}
use Rattle.steps.specs.Items.{Item, gives, skips, ends, nth}
use Rattle.refusal.specs.declared.Refusal.{Refusal}
use Rattle.refusal.specs.Refused.{refuse}
use Rattle.cell.specs.declared.Cell.{Cell}
use Rattle.sheet_agreement.specs.Agreement.{Sheet}
use Rattle.globals.specs.Sheets.{sheets_of}
use Rattle.workbook.specs.Check.{checked_of, on_checked}
use Rattle.reading.specs.declared.Place.{Place}
use Rattle.reading.specs.Cells.{remaining, listed_from}
use Rattle.reading.specs.Reading.{rows_of}
use Rattle.listing.specs.declared.Step.{Step}
use Rattle.listing.specs.declared.Step.TheVariants as step
use Rattle.listing.specs.declared.RowStep.{RowStep}
use Rattle.listing.specs.declared.Sought.{Sought}

-- a step of the code in the definitions' terms
abbrev pub item_of : Step → Item Place Cell
item_of (step.Gives c t) = gives c t
item_of (step.Skips t) = skips t
item_of step.Ends = ends

abbrev pub sought : Sheet → Sought
sought x = record { header = x.header; position = x.position; kind = x.kind }

abbrev pub found_sheet : Sheet → Option Sought
found_sheet x = Some (sought x)

-- the BOUNDSHEET of sheet n, after the check
unfoldable pub sought_of : List ℕ → ℕ → Result Sought Refusal
sought_of s n = on_checked refuse (λ _. nth (sheets_of s) n (λ (x : Sheet). Ok (sought x)) (refuse 11 0)) (checked_of s 0)

-- a sheet that is found has the 8 bytes of its fields within the stream
abbrev pub SoughtWithin : ℕ → Option Sought → Type 0
SoughtWithin len (Some x) = x.header + 12 ≤ len
SoughtWithin len None = Unit {0}

-- over a record that has no cell here, and so gives none: no row
abbrev pub over_other : Item Place Cell → Option RowStep
over_other (gives c t) = None
over_other (skips t) = Some (record { rows = 0; next = t })
over_other ends = None

-- a step over a whole record: the rows from here on are those of the record, or those after it
abbrev pub RowsBy : List ℕ → Place → Option RowStep → Type 0
RowsBy s v (Some r) = (rows_of (listed_from s v) ≡ max r.rows (rows_of (listed_from s r.next))) × (remaining s r.next < remaining s v)
RowsBy s v None = rows_of (listed_from s v) ≡ 0
