-- The sheets of a stream and the cells of one sheet. Each answer gives first any refusal that the check would, then 11.
use Rattle.std.specs.Prelude.{ℕ, ◌+◌, List, [], length, leb, Option, Some, None, Result, Ok}
use Rattle.steps.specs.Choice.{pick}
use Rattle.steps.specs.Walk.{Next, more, stop, run}
use Rattle.steps.specs.Items.{Item, gives, skips, ends, nth}
use Rattle.refusal.specs.declared.Refusal.{Refusal}
use Rattle.refusal.specs.Refused.{refuse}
use Rattle.cell.specs.declared.Cell.{Cell}
use Rattle.cell.specs.Cells.{tokens_of}
use Rattle.sheet_agreement.specs.Agreement.{Sheet}
use Rattle.globals.specs.declared.Boundsheet.{Boundsheet}
use Rattle.globals.specs.Sheets.{sheets_of, next_sheet_of as next_boundsheet}
use Rattle.workbook.specs.Check.{checked_of, on_checked}
use Rattle.reading.specs.declared.Place.{Place}
use Rattle.reading.specs.Cells.{cell_item, remaining}
use Rattle.reading.specs.Reading.{name_at, width_at, type_at, start_by, start_of, listed_of, rows_of}
use Rattle.listing.specs.declared.Description.{Description}
use Rattle.listing.specs.declared.NextSheet.{NextSheet}
use Rattle.listing.specs.declared.Listed.{Listed}

-- ---- sheet n: its type, the width of its name, its row count
abbrev pub description_of : List ℕ → Sheet → Description
description_of s x = record { type_byte = type_at s x.header; width = width_at s x.header; rows = rows_of (listed_of s x) }

unfoldable pub sheet_of : List ℕ → ℕ → Result Description Refusal
sheet_of s n = on_checked refuse (λ _. nth (sheets_of s) n (λ (x : Sheet). Ok (description_of s x)) (refuse 11 0)) (checked_of s 0)

-- its name: nothing where the stream is refused or has no such sheet
unfoldable pub name_of : List ℕ → ℕ → List ℕ
name_of s n = on_checked (λ _ _. []) (λ _. nth (sheets_of s) n (λ (x : Sheet). name_at s x.header) []) (checked_of s 0)

-- ---- the sheets one after the other: the list starts after the globals' BOF
abbrev pub first_sheet : ℕ
first_sheet = 20

-- the next sheet from a place of the globals on, where its cells start, and the place after it
abbrev pub as_sheet : List ℕ → Option Boundsheet → Option NextSheet
as_sheet s (Some b) = Some (record { header = b.header; type_byte = type_at s b.header; width = width_at s b.header; cells = start_by (length s) b.position b.kind; next = b.next })
as_sheet s None = None

unfoldable pub next_sheet_of : List ℕ → ℕ → Option NextSheet
next_sheet_of s p = as_sheet s (next_boundsheet s p)

-- ---- a sheet's cells
unfoldable pub cells_of : List ℕ → ℕ → Result Place Refusal
cells_of s n = on_checked refuse (λ _. nth (sheets_of s) n (λ (x : Sheet). Ok (start_of s x)) (refuse 11 0)) (checked_of s 0)

-- the next cell from a place on, and the place after it
abbrev pub on_item : Item Place Cell → Next Place (Option Listed)
on_item (gives c t) = stop (Some (record { cell = c; next = t }))
on_item (skips t) = more t
on_item ends = stop None

unfoldable pub next_of : List ℕ → Place → Option Listed
next_of s v = run (λ v. on_item (cell_item s v)) None (remaining s) v

-- a formula's tokens; nothing where the cell has none, or where they pass the end
unfoldable pub tokens_in : List ℕ → Cell → List ℕ
tokens_in s c = pick (leb (c.tokens.start + c.tokens.length) (length s)) (tokens_of s c) []
