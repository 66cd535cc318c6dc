-- What the contracts of the inner functions speak of.
use Rattle.std.specs.Prelude.{ℕ, ◌+◌, ◌-◌, ◌*◌, ◌≤◌, Bool, true, false, ltb, leb, eqb, List, [], ◌∷◌, Result, Ok, Err}
use Rattle.steps.specs.Choice.{pick}
use Rattle.steps.specs.Items.{nth}
use Rattle.refusal.specs.declared.Refusal.{Refusal}
use Rattle.refusal.specs.Refused.{refuse}
use Rattle.value.specs.Value.{width_of}
use Rattle.cell.specs.declared.Cell.{Cell}
use Rattle.cell.specs.Cells.{shape_of, field_of, part_of, start_of}
use Rattle.sheet_agreement.specs.Agreement.{Sheet}
use Rattle.globals.specs.Sheets.{sheets_of}
use Rattle.reading.specs.Reading.{listed_of}
use Rattle.correction.specs.declared.Target.{Target}
use Rattle.correction.specs.declared.Target.TheVariants as target
use Rattle.correction.specs.declared.Aim.{Aim}
use Rattle.correction.specs.Correction.{cells_at, no_sheet}

-- what an address's cells come to, after some that were found before
abbrev pub joined : Target → List Cell → Target
joined target.None [] = target.None
joined target.None (c ∷ []) = target.One c.kind c.field
joined target.None (c ∷ d ∷ l) = target.Many
joined (target.One k f) [] = target.One k f
joined (target.One k f) (c ∷ l) = target.Many
joined target.Many l = target.Many

abbrev pub target_of : List Cell → Target
target_of l = joined target.None l

-- one more cell of the address
abbrev pub with_one : Target → Target → Target
with_one target.None t = t
with_one (target.One k f) t = target.Many
with_one target.Many t = target.Many

-- a row of n cells from a column on has the address
unfoldable pub in_row : ℕ → ℕ → ℕ → ℕ → ℕ → Bool
in_row here first n row column =
    pick (eqb here row)
    (pick (leb first column)
    (pick (ltb column (first + n)) true
    false) false) false

-- the value field of the k-th cell of the record at `at`
unfoldable pub field_of_cell : ℕ → ℕ → ℕ → Target
field_of_cell id at k = target.One (field_of (shape_of id)) (at + 8 + k * part_of (field_of (shape_of id)) + start_of (field_of (shape_of id)))

unfoldable pub met_of : Target → ℕ → ℕ → ℕ → ℕ → ℕ → ℕ → ℕ → Target
met_of found id at here first n row column = pick (in_row here first n row column) (with_one found (field_of_cell id at (column - first))) found

abbrev pub on_target : ℕ → Target → Result Aim Refusal
on_target u target.None = refuse 11 0
on_target u (target.One k f) = Ok (record { kind = k; field = f; unique = u })
on_target u target.Many = refuse 16 0

-- the one cell of an address, before a value is looked at
unfoldable pub aim_in : List ℕ → ℕ → ℕ → ℕ → ℕ → ℕ → Result Aim Refusal
aim_in s u sheets n row column = nth (sheets_of s) n (λ (x : Sheet). on_target u (target_of (cells_at row column (listed_of s x)))) (refuse (no_sheet sheets n) 0)

-- the value field lies within the stream
abbrev pub TargetWithin : ℕ → Target → Type 0
TargetWithin len target.None = Unit {0}
TargetWithin len (target.One k f) = f + width_of k ≤ len
TargetWithin len target.Many = Unit {0}

abbrev pub AimWithin : ℕ → Result Aim Refusal → Type 0
AimWithin len (Ok x) = x.field + width_of x.kind ≤ len
AimWithin len (Err e) = Unit {0}
