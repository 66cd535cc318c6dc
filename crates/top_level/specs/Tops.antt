-- The walk of the top-level substreams with the sheets followed beside it: how far they name the BOFs in their order. u is the unique count of strings.
use Rattle.std.specs.Prelude.{ℕ, ◌-◌, List, ◌&&◌, Option, None, Some, Result, Ok, Err, length, eqb}
use Rattle.steps.specs.Choice.{pick}
use Rattle.steps.specs.Walk.{Next, more, stop, run}
use Rattle.refusal.specs.declared.Refusal.{Refusal}
use Rattle.refusal.specs.Refused.{refuse}
use Rattle.substream.specs.Substream.{substream_in}
use Rattle.sheet_agreement.specs.declared.SheetKind.{SheetKind}
use Rattle.sheet_agreement.specs.Agreement.{same_kind}
use Rattle.globals.specs.declared.Boundsheet.{Boundsheet}
use Rattle.globals.specs.Sheets.{next_sheet_of}
use Rattle.top_level.specs.TopLevel.{bof_kind, top_of}

-- the place after the next sheet, if it names the BOF at `at` of kind k
abbrev pub on_sheet : ℕ → SheetKind → Option Boundsheet → Option ℕ
on_sheet at k None = None
on_sheet at k (Some b) = pick (eqb b.position at && same_kind b.kind k) (Some b.next) None

-- none if it doesn't, and from then on
unfoldable pub followed : List ℕ → Option ℕ → ℕ → SheetKind → Option ℕ
followed s None at k = None
followed s (Some p) at k = on_sheet at k (next_sheet_of s p)

-- a place between the substreams, and how far the sheets were followed
pub record Abreast : Type 0 where
  pub at : ℕ
  pub sheets : Option ℕ

abbrev pub on_ended : List ℕ → Abreast → ℕ → Result ℕ Refusal → Next Abreast (Result (Option ℕ) Refusal)
on_ended s v k (Ok e) = more (record { at = e; sheets = followed s v.sheets v.at (bof_kind k) })
on_ended s v k (Err r) = stop (Err r)

abbrev pub on_top : List ℕ → ℕ → Abreast → Result (Option ℕ) Refusal → Next Abreast (Result (Option ℕ) Refusal)
on_top s u v (Ok (Some k)) = on_ended s v k (substream_in 4 s u k v.at)
on_top s u v (Ok None) = stop (Ok v.sheets)
on_top s u v (Err r) = stop (Err r)

unfoldable pub tail_from : List ℕ → ℕ → Abreast → Result (Option ℕ) Refusal
tail_from s u v = run (λ v. on_top s u v (top_of s v.at)) (refuse 4 (length s)) (λ v. length s - v.at) v

-- the sheets start after the globals' BOF
abbrev pub tail_of : List ℕ → ℕ → ℕ → Result (Option ℕ) Refusal
tail_of s u from = tail_from s u (record { at = from; sheets = Some 20 })
