-- The cells of a sheet: in stream order, a multiple record from left to right. Only what stands directly in the worksheet counts.
use Rattle.std.specs.Prelude.{ℕ, ◌+◌, ◌-◌, ◌*◌, List, Option, None, Some, length, ltb, eqb}
use Rattle.steps.specs.Choice.{pick}
use Rattle.steps.specs.Items.{Item, gives, skips, ends, collect}
use Rattle.record.specs.declared.Header.{Header}
use Rattle.record.specs.declared.Header.TheVariants.{Record, Cut, End}
use Rattle.record.specs.Record.{header_at}
use Rattle.cell.specs.declared.Cell.{Cell}
use Rattle.cell.specs.declared.Found.{Found}
use Rattle.cell.specs.Cells.{shape_of, found_of}
use Rattle.reading.specs.declared.Place.{Place}

-- at a record, inside so many substreams of the sheet
unfoldable pub place_at : ℕ → ℕ → Place
place_at at level = record { at = at; part = 0; level = level }

-- in the same record, one cell on
unfoldable pub next_part : Place → Place
next_part v = record { at = v.at; part = v.part + 1; level = v.level }

-- A BOF opens a substream inside, an EOF closes it or ends the list, all others are passed over. No stream that passes has a BOF inside three
-- substreams of a sheet: the list ends there.
unfoldable pub other_item : Place → ℕ → ℕ → Item Place Cell
other_item v t e =
    pick (eqb t 0x0809) (pick (ltb v.level 3) (skips (place_at e (v.level + 1))) ends)
    (pick (eqb t 0x000A) (pick (eqb v.level 0) ends (skips (place_at e (v.level - 1))))
    (skips (place_at e v.level)))

-- the cell, and then the next of its record or the next record
abbrev pub on_found : Place → ℕ → ℕ → Option Found → Item Place Cell
on_found v t e (Some f) = gives f.cell (pick (eqb f.left 0) (place_at e v.level) (next_part v))
on_found v t e None = other_item v t e

unfoldable pub record_item : List ℕ → Place → ℕ → ℕ → ℕ → Item Place Cell
record_item s v t z e = pick (eqb v.level 0) (on_found v t e (found_of s (shape_of t) v.at z v.part)) (other_item v t e)

abbrev pub on_header : List ℕ → Place → Header → Item Place Cell
on_header s v (Record t z e) = record_item s v t z e
on_header s v Cut = ends
on_header s v End = ends

unfoldable pub cell_item : List ℕ → Place → Item Place Cell
cell_item s v = on_header s v (header_at s v.at)

-- each step comes nearer the end: a record has at most 256 cells
unfoldable pub remaining : List ℕ → Place → ℕ
remaining s v = (length s - v.at) * 257 + (257 - v.part)

-- the cells from a place on
unfoldable pub listed_from : List ℕ → Place → List Cell
listed_from s v = collect (cell_item s) (remaining s) v
