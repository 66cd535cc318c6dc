-- What the contracts of the inner functions speak of. Nothing here is part of a public promise.
use Rattle.std.specs.Prelude.{ℕ, ◌≤◌, ◌<◌, ◌≡◌, List, [], true, Option, None, Some, unwrap_or, length, get_or}
use Rattle.std.specs.Option.{option_or}
use Rattle.sheet_agreement.specs.declared.SheetKind.{SheetKind}
use Rattle.sheet_agreement.specs.Agreement.{Sheet, Bof, starts, named, claimed}
use Rattle.sheet_agreement.specs.Slots.{inside, Marked, Onward, judged_in, Passed}
use Rattle.globals.specs.Sheets.{sheets_of}
use Rattle.top_level.specs.TopLevel.{bofs_from}
use Rattle.top_level.specs.declared.Remaining.{Remaining}
use Rattle.top_level.specs.declared.Remaining.TheVariants as remaining
use Rattle.top_level.specs.declared.Window.{Window}

-- all BOFs of the window up to hi are named; the others stand from `at` on
pub record NamedAll (s : List ℕ) (u from : ℕ) (hi : Option ℕ) (at : ℕ) : Type 0 where
  pub same : claimed (sheets_of s) (bofs_from s u at) ≡ claimed (sheets_of s) (bofs_from s u from)
  pub next : (h : ℕ) → hi ≡ Some h → (h ≤ at) × Onward (bofs_from s u at) h (bofs_from s u from)
  pub last : hi ≡ None → bofs_from s u at ≡ []

-- no slot has a BOF
abbrev pub NoneLeft : List ℕ → Type 0
NoneLeft T = (j : ℕ) → j < 53248 → get_or T j 0 ≡ 0

-- each BOF of the window is named
abbrev pub EachNamed : List ℕ → ℕ → ℕ → ℕ → Option ℕ → Type 0
EachNamed s u from lo hi = (q : ℕ) (k : SheetKind) → inside lo hi q ≡ true → starts (bofs_from s u from) q k ≡ true → named (sheets_of s) q ≡ true

-- the BOFs from a place on are put into the slots of the window from lo up to hi, where the next window starts if one does; whichever BOFs stand before lo
pub record Filled (s : List ℕ) (u from lo : ℕ) (T : List ℕ) (hi : Option ℕ) : Type 0 where
  pub marked : (bofs : List Bof) → Onward (bofs_from s u from) lo bofs → Marked T lo hi bofs []
  pub far : (h : ℕ) → hi ≡ Some h → (lo < h) × (h ≤ length s)
  pub next : (h : ℕ) → hi ≡ Some h → (bofs : List Bof) → Onward (bofs_from s u from) lo bofs → Onward (bofs_from s u h) h bofs
  pub named : EachNamed s u from lo hi → NamedAll s u from hi (unwrap_or hi (length s))

-- what the pass over the sheets found, whichever BOFs the slots had before it
pub record PassedAll (T₀ T : List ℕ) (lo : ℕ) (hi : Option ℕ) (sheets : List Sheet) (v : Option ℕ) : Type 0 where
  pub for_all : (bofs : List Bof) → Marked T₀ lo hi bofs [] → Passed T lo hi sheets bofs v

abbrev pub Lefts : List ℕ → ℕ → ℕ → Option ℕ → Remaining → Type 0
Lefts s u from hi (remaining.Named at) = NamedAll s u from hi at
Lefts s u from hi (remaining.Free b) = Some b ≡ claimed (sheets_of s) (bofs_from s u from)

-- what a window from lo on gives, whichever BOFs stand before lo
pub record Windowed (s : List ℕ) (u from lo : ℕ) (w : Window) : Type 0 where
  pub judges : (bofs : List Bof) → Onward (bofs_from s u from) lo bofs → w.fault ≡ judged_in (inside lo w.next) bofs [] (sheets_of s)
  pub claims : w.fault ≡ None → option_or w.free (claimed (sheets_of s) (bofs_from s u w.at)) ≡ claimed (sheets_of s) (bofs_from s u from)
  pub far : (h : ℕ) → w.next ≡ Some h → (lo < h) × (h ≤ length s) × (h ≤ w.at)
  pub onward : (h : ℕ) → w.next ≡ Some h → (bofs : List Bof) → Onward (bofs_from s u from) lo bofs → Onward (bofs_from s u w.at) h bofs
  pub last : w.next ≡ None → w.fault ≡ None → w.free ≡ claimed (sheets_of s) (bofs_from s u from)
