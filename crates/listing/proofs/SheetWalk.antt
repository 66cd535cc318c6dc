-- The sheets one after the other. Assumes nothing.
use Prim.Native.Nat.{ℕ, ◌-◌, ◌<◌}
use mathlib.Core.Path.{◌≡◌, refl, subst}
use mathlib.Core.List.{List, [], ◌∷◌}
use Rattle.std.specs.Prelude.{Option, Some, None}
use lib.ListN.{length}
use Rattle.sheet_agreement.specs.Agreement.{Sheet}
use Rattle.globals.specs.declared.Boundsheet.{Boundsheet}
use Rattle.globals.specs.Sheets.{declared, sheets_from, next_sheet_of as next_boundsheet}
use Rattle.globals.proofs.Sheets.{sheets_none, sheets_some, some_less}
use Rattle.reading.specs.Reading.{width_at, type_at, start_of}
use Rattle.listing.specs.declared.NextSheet.{NextSheet}
use Rattle.listing.specs.Listing.{as_sheet, next_sheet_of}

-- what `next_sheet` gives is the first sheet of the list there, and the place of the others; or the list is at its end
pub record FirstSheet (s : List ℕ) (p : ℕ) (x : NextSheet) : Type 0 where
  pub sheet : Sheet
  pub list : sheets_from s p ≡ sheet ∷ sheets_from s x.next
  pub header : sheet.header ≡ x.header
  pub type : type_at s sheet.header ≡ x.type_byte
  pub width : width_at s sheet.header ≡ x.width
  pub start : start_of s sheet ≡ x.cells
  pub nearer : length s - x.next < length s - p

abbrev pub SheetsFrom : List ℕ → ℕ → Option NextSheet → Type 0
SheetsFrom s p (Some x) = FirstSheet s p x
SheetsFrom s p None = sheets_from s p ≡ []

module _ (s : List ℕ) (p : ℕ) where
  sheets_by : (r : Option Boundsheet) → next_boundsheet s p ≡ r → SheetsFrom s p (as_sheet s r)
  sheets_by (Some b) i = record {
    sheet = declared b;
    list = sheets_some s p (next_boundsheet s p) refl b i;
    header = refl;
    type = refl;
    width = refl;
    start = refl;
    nearer = some_less s p (next_boundsheet s p) refl b i;
  }
  sheets_by None i = sheets_none s p (next_boundsheet s p) refl i

  pub sheets_next : SheetsFrom s p (next_sheet_of s p)
  unfolding next_sheet_of
  sheets_next = sheets_by (next_boundsheet s p) refl

  pub sheet_nearer : (x : NextSheet) → next_sheet_of s p ≡ Some x → length s - x.next < length s - p
  sheet_nearer x e = let f : FirstSheet s p x = subst (SheetsFrom s p) e sheets_next in f.nearer
