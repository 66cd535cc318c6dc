-- The record at a place of a sheet's listing, for those who need no values: its cells, which stand in one row from the first column on; or, where it has none,
-- how the listing goes on past it.
use Rattle.std.specs.Prelude.{ℕ, ◌-◌, ◌≤◌, ◌<◌, ◌≡◌, Bool, true, false, List, Option, None, Some, eqb, length}
use Rattle.steps.specs.Choice.{pick}
use Rattle.steps.specs.Items.{Item, gives, skips, ends}
use Rattle.record.specs.declared.Header.{Header}
use Rattle.record.specs.declared.Header.TheVariants.{Record, Cut, End}
use Rattle.record.specs.Record.{header_at}
use Rattle.cell.specs.declared.Cell.{Cell}
use Rattle.cell.specs.Cells.{shape_of, is_cell, row_at, first_at, count_of}
use Rattle.reading.specs.declared.Place.{Place}
use Rattle.reading.specs.Cells.{place_at, other_item, cell_item, remaining}
use Rattle.reading.specs.declared.Scanned.{Scanned}
use Rattle.reading.specs.declared.Scanned.TheVariants as scanned

abbrev pub past : Item Place Cell → Option Scanned
past (gives c t) = None
past (skips t) = Some (scanned.Past t)
past ends = None

abbrev pub without : ℕ → ℕ → ℕ → Option Scanned
without level t e = past (other_item (place_at 0 level) t e)

-- only what stands directly in the sheet counts
unfoldable pub record_scan : List ℕ → ℕ → ℕ → ℕ → ℕ → ℕ → Option Scanned
record_scan s at level t z e =
    pick (eqb level 0)
    (pick (eqb (count_of (shape_of t) s at z) 0) (without level t e)
    (Some (scanned.Cells (record { id = t; row = row_at s at; first = first_at s at; count = count_of (shape_of t) s at z; next = e }))))
    (without level t e)

abbrev pub on_header : List ℕ → ℕ → ℕ → Header → Option Scanned
on_header s at level (Record t z e) = record_scan s at level t z e
on_header s at level Cut = None
on_header s at level End = None

unfoldable pub scan_of : List ℕ → ℕ → ℕ → Option Scanned
scan_of s at level = on_header s at level (header_at s at)

-- ---- records without cells
-- neither a cell record nor a BOF nor an EOF
unfoldable pub other : ℕ → Bool
other t = pick (is_cell (shape_of t)) false (pick (eqb t 0x0809) false (pick (eqb t 0x000A) false true))

-- a listing comes from one place to another without a cell
pub data Leads : List ℕ → Place → Place → Type 0 where
  here : {s : List ℕ} {v : Place} → Leads s v v
  over : {s : List ℕ} {u v w : Place} → Leads s u v → cell_item s v ≡ skips w → Leads s u w

pub record Past (s : List ℕ) (level from r : ℕ) : Type 0 where
  pub leads : Leads s (place_at from level) (place_at r level)
  pub near : length s - r ≤ length s - from
  pub nearer : (r ≡ from → ⊥) → length s - r < length s - from

pub record PastFrom (s : List ℕ) (from r : Place) : Type 0 where
  pub leads : Leads s from r
  pub near : remaining s r ≤ remaining s from
