-- The sheets that the BOUNDSHEETs declare, in their order.
use Rattle.std.specs.Prelude.{ℕ, ◌+◌, ◌-◌, List, Option, None, Some, length, ltb, eqb}
use Rattle.steps.specs.Choice.{pick}
use Rattle.steps.specs.Walk.{Next, more, stop, run}
use Rattle.steps.specs.Items.{Item, gives, skips, ends, collect}
use Rattle.byte_numbers.specs.Bytes.{byte_at, u32_at}
use Rattle.record.specs.declared.Header.{Header}
use Rattle.record.specs.declared.Header.TheVariants.{Record, Cut, End}
use Rattle.record.specs.Record.{header_at}
use Rattle.sheet_agreement.specs.declared.SheetKind.{SheetKind}
use Rattle.sheet_agreement.specs.declared.SheetKind.TheVariants.{Worksheet, Chart, Macro, Other}
use Rattle.sheet_agreement.specs.Agreement.{Sheet}
use Rattle.globals.specs.declared.Boundsheet.{Boundsheet}
use Rattle.globals.specs.declared.Bound.{Bound}
use Rattle.globals.specs.declared.Bound.TheVariants as bound

-- by the type byte; the check refuses any other
unfoldable pub type_kind : ℕ → SheetKind
type_kind t = pick (eqb t 0) Worksheet (pick (eqb t 1) Macro (pick (eqb t 2) Chart Other))

-- what a BOUNDSHEET says
unfoldable pub sheet_at : List ℕ → ℕ → ℕ → Boundsheet
sheet_at s at e = record { header = at; position = u32_at s (at + 4); kind = type_kind (byte_at s (at + 9)); next = e }

-- the record at a place of the globals
abbrev pub on_bound : List ℕ → ℕ → Header → Bound
on_bound s at (Record t z e) =
    pick (eqb t 0x0085) (pick (ltb z 8) bound.Done (bound.Sheet (sheet_at s at e)))
    (pick (eqb t 0x000A) bound.Done (bound.Other e))
on_bound s at Cut = bound.Done
on_bound s at End = bound.Done

unfoldable pub bound_at : List ℕ → ℕ → Bound
bound_at s at = on_bound s at (header_at s at)

abbrev pub declared : Boundsheet → Sheet
declared b = record { header = b.header; position = b.position; kind = b.kind }

abbrev pub sheet_item : Bound → Item ℕ Sheet
sheet_item (bound.Sheet b) = gives (declared b) b.next
sheet_item (bound.Other n) = skips n
sheet_item bound.Done = ends

-- the sheets from a place of the globals on
unfoldable pub sheets_from : List ℕ → ℕ → List Sheet
sheets_from s p = collect (λ p. sheet_item (bound_at s p)) (λ p. length s - p) p

-- the sheets of a stream, numbered from 0 in BOUNDSHEET order: those after the globals' BOF
abbrev pub sheets_of : List ℕ → List Sheet
sheets_of s = sheets_from s 20

-- ---- the next BOUNDSHEET from a place of the globals on
abbrev pub on_sought : Bound → Next ℕ (Option Boundsheet)
on_sought (bound.Sheet b) = stop (Some b)
on_sought (bound.Other n) = more n
on_sought bound.Done = stop None

unfoldable pub next_sheet_of : List ℕ → ℕ → Option Boundsheet
next_sheet_of s p = run (λ p. on_sought (bound_at s p)) None (λ p. length s - p) p
