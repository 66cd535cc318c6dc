-- The top-level substreams after the globals.
use Rattle.std.specs.Prelude.{ℕ, ◌-◌, List, [], ◌∷◌, Bool, true, false, Option, None, Some, Result, Ok, Err, length, drop, eqb}
use Rattle.steps.specs.Choice.{pick}
use Rattle.steps.specs.Walk.{Next, more, stop, run}
use Rattle.steps.specs.Items.{Item, gives, ends, collect}
use Rattle.refusal.specs.declared.Refusal.{Refusal}
use Rattle.refusal.specs.Refused.{refuse}
use Rattle.record.specs.declared.Header.{Header}
use Rattle.record.specs.declared.Header.TheVariants.{Record, Cut, End}
use Rattle.record.specs.Record.{header_at}
use Rattle.substream.specs.Substream.{kind_at, substream_in}
use Rattle.sheet_agreement.specs.declared.SheetKind.{SheetKind}
use Rattle.sheet_agreement.specs.declared.SheetKind.TheVariants.{Worksheet, Chart, Macro, Other}
use Rattle.sheet_agreement.specs.Agreement.{same_kind, Bof}
use Rattle.top_level.specs.declared.Found.{Found}

unfoldable pub all_zero : List ℕ → Bool
all_zero [] = true
all_zero (x ∷ xs) = pick (eqb x 0) (all_zero xs) false

-- the kinds that may stand at the top level
unfoldable pub bof_kind : ℕ → SheetKind
bof_kind k = pick (eqb k 0x0010) Worksheet (pick (eqb k 0x0020) Chart (pick (eqb k 0x0040) Macro Other))

-- only a BOF may come: anything else is 4, one of another size than 16 is 6, one of a kind that may not stand there is 4
abbrev pub on_top : List ℕ → ℕ → Header → Result (Option ℕ) Refusal
on_top s at (Record t z e) =
    pick (eqb t 0x0809)
    (pick (eqb z 16) (pick (same_kind (bof_kind (kind_at s at)) Other) (refuse 4 at) (Ok (Some (kind_at s at)))) (refuse 6 at))
    (refuse 4 at)
on_top s at Cut = refuse 2 at
on_top s at End = Ok None

-- what stands between the top-level substreams, a BOF that says this kind, or none; if all remaining bytes are zero, or none remain, the walk ends
unfoldable pub top_of : List ℕ → ℕ → Result (Option ℕ) Refusal
top_of s at = pick (all_zero (drop at s)) (Ok None) (on_top s at (header_at s at))

-- ---- the walk of the substreams, in stream order; u is the unique count of strings
abbrev pub back : Result ℕ Refusal → Next ℕ (Result (Unit {0}) Refusal)
back (Ok e) = more e
back (Err r) = stop (Err r)

-- a chart may sit inside a worksheet or a chart, to a depth of 4 counting the outermost as 1
abbrev pub turn : List ℕ → ℕ → ℕ → Result (Option ℕ) Refusal → Next ℕ (Result (Unit {0}) Refusal)
turn s u at (Ok (Some k)) = back (substream_in 4 s u k at)
turn s u at (Ok None) = stop (Ok tt)
turn s u at (Err r) = stop (Err r)

unfoldable pub tops_from : List ℕ → ℕ → ℕ → Result (Unit {0}) Refusal
tops_from s u at = run (λ at. turn s u at (top_of s at)) (refuse 4 (length s)) (λ at. length s - at) at

-- ---- the later top-level BOFs
abbrev pub on_ended : ℕ → Result ℕ Refusal → Option Found
on_ended k (Ok e) = Some (record { kind = bof_kind k; end = e })
on_ended k (Err r) = None

abbrev pub on_open : List ℕ → ℕ → ℕ → Result (Option ℕ) Refusal → Option Found
on_open s u at (Ok (Some k)) = on_ended k (substream_in 4 s u k at)
on_open s u at (Ok None) = None
on_open s u at (Err r) = None

-- the substream whose BOF stands at a place between the top-level substreams
unfoldable pub bof_at : List ℕ → ℕ → ℕ → Option Found
bof_at s u at = on_open s u at (top_of s at)

abbrev pub bof_item : ℕ → Option Found → Item ℕ Bof
bof_item at (Some f) = gives (record { start = at; kind = f.kind }) f.end
bof_item at None = ends

unfoldable pub bofs_from : List ℕ → ℕ → ℕ → List Bof
bofs_from s u at = collect (λ at. bof_item at (bof_at s u at)) (λ at. length s - at) at
