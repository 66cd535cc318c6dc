-- Whole top-level substreams, one after the other, and those of the sheets.
use Rattle.std.specs.Prelude.{ℕ, ◌+◌, ◌≤◌, ◌≡◌, List, true, ◌⊎◌, length, None, Some, Ok}
use Rattle.substream.specs.Substream.{substream_in}
use Rattle.sheet_agreement.specs.declared.SheetKind.{SheetKind}
use Rattle.sheet_agreement.specs.Agreement.{Sheet, starts, agreement_of}
use Rattle.top_level.specs.TopLevel.{bof_kind, top_of, tops_from, bofs_from}
use Rattle.globals.specs.declared.Globals.{Globals}
use Rattle.globals.specs.Globals.{globals_of}
use Rattle.globals.specs.Sheets.{sheets_of}
use Rattle.workbook.specs.Check.{Right, checked_of}
use Rattle.record_chain.specs.Chain.{Chain, Reach, Nth}

-- a top-level substream, its BOF at x, ends at e; u is the unique count of strings
pub record Substream (s : List ℕ) (u x e : ℕ) : Type 0 where
  pub kind : ℕ
  pub opens : top_of s x ≡ Ok (Some kind)
  pub ends : substream_in 4 s u kind x ≡ Ok e

-- y is reached from x by stepping over whole top-level substreams
abbrev pub Tops : List ℕ → ℕ → ℕ → ℕ → Type 0
Tops s u x y = Chain (Substream s u) x y

-- a top-level substream that is reached from `from` has its BOF at p, and j is its kind
pub record Stands (s : List ℕ) (u from p : ℕ) (j : SheetKind) : Type 0 where
  pub end : ℕ
  pub tops : Tops s u from p
  pub whole : Substream s u p end
  pub number : bof_kind whole.kind ≡ j

-- the substream of a sheet of a stream whose globals hold g
abbrev pub SheetStands : List ℕ → Globals → Sheet → Type 0
SheetStands s g x = Stands s g.unique g.at x.position x.kind

-- what a stream that passes has; u is the unique count of strings where it has no SST
pub record Passing (s : List ℕ) (u : ℕ) (g : Globals) : Type 0 where
  pub short : length s ≤ 16777216
  pub globals : globals_of s u ≡ Ok g
  pub tops : tops_from s g.unique g.at ≡ Ok tt
  pub agree : agreement_of (sheets_of s) (bofs_from s g.unique g.at) ≡ None

-- ---- the claims
-- the end of the globals is reached from the end of their BOF
abbrev pub GlobalsReach : Type 0
GlobalsReach = (s : List ℕ) (u : ℕ) (g : Globals) → globals_of s u ≡ Ok g → Reach s 20 g.at

-- the end of a substream is reached from the end of its BOF
abbrev pub SubstreamReach : Type 0
SubstreamReach = (d : ℕ) (s : List ℕ) (u k b e : ℕ) → substream_in d s u k b ≡ Ok e → Reach s (b + 20) e

-- each later top-level BOF that is listed opens a substream that is reached
abbrev pub BofsStand : Type 0
BofsStand = (s : List ℕ) (u from p : ℕ) (j : SheetKind) → starts (bofs_from s u from) p j ≡ true → Stands s u from p j

-- each sheet of a stream that passes names a top-level substream of its kind
abbrev pub SheetsStand : Type 0
SheetsStand = (s : List ℕ) (u : ℕ) (g : Globals) → checked_of s u ≡ Right g → (n : ℕ) (x : Sheet) → Nth (sheets_of s) n x → SheetStands s g x

-- the substreams of two sheets don't overlap
abbrev pub SheetsApart : Type 0
SheetsApart =
    (s : List ℕ) (u : ℕ) (g : Globals) → checked_of s u ≡ Right g
    → (m n : ℕ) (x y : Sheet) → Nth (sheets_of s) m x → Nth (sheets_of s) n y → (m ≡ n → ⊥)
    → (a : SheetStands s g x) (b : SheetStands s g y) → (a.end ≤ y.position) ⊎ (b.end ≤ x.position)
