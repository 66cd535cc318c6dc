-- That the walks over sheets and cells end, and what they count. Assumes nothing.
use Prim.Native.Nat.{ℕ, ◌+◌, ◌-◌, ◌*◌, ◌^◌, ◌≤◌, ◌<◌}
use mathlib.Core.Path.{◌≡◌, refl, sym, ap, ◌∙◌, subst}
use mathlib.Core.List.{List, [], ◌∷◌}
use native.Mathlib.Omega.{arith}
use native.Mathlib.Numerals.{add-one}
use lib.ListN.{length}
use Rattle.std.specs.Prelude.{Option, Some, None}
use Rattle.sheet_agreement.specs.Agreement.{Sheet}
use Rattle.globals.specs.Sheets.{sheets_from}
use Rattle.reading.specs.declared.Place.{Place}
use Rattle.reading.specs.Cells.{remaining, listed_from}
use Rattle.reading.specs.Reading.{listed_of}
use Rattle.listing.specs.declared.Listed.{Listed}
use Rattle.listing.specs.declared.NextSheet.{NextSheet}
use Rattle.listing.specs.Listing.{next_of, next_sheet_of}
use Rattle.listing.proofs.Laws.{on_listed, listed_next, next_nearer}
use Rattle.listing.proofs.SheetWalk.{FirstSheet, SheetsFrom, sheets_next, sheet_nearer}
use Rattle.station.specs.Totals.{cell_total}

-- ---- a count of cells: n so far, the others from v on
pub record CellsCounted (s : List ℕ) (v₀ : Place) (n : ℕ) (v : Place) : Type 0 where
  pub all : n + length (listed_from s v) ≡ length (listed_from s v₀)
  pub few : n + remaining s v ≤ remaining s v₀

remaining_small : (s : List ℕ) (v : Place) → length s ≤ 65536 → remaining s v ≤ 16843009
unfolding remaining
remaining_small s v h = omega arith

pub cells_start : (s : List ℕ) (v : Place) → CellsCounted s v 0 v
cells_start s v = record { all = omega arith; few = omega arith }

module _ {s : List ℕ} {v₀ : Place} {n : ℕ} {v : Place} (inv : CellsCounted s v₀ n v) {r : Option Listed} (is : r ≡ next_of s v) where
  module _ (x : Listed) (h : r ≡ Some x) where
    pub cells_more : CellsCounted s v₀ (n + 1) x.next
    cells_more =
        let e : length (listed_from s v) ≡ length (listed_from s x.next) + 1 = ap length (listed_next s v ∙ ap (on_listed s) (sym is ∙ h)) ∙ sym (add-one (length (listed_from s x.next))) in
        let l = next_nearer s v x (sym is ∙ h) in
        record { all = omega arith; few = omega arith }

    pub cells_fit : length s ≤ 65536 → n + 1 < 2 ^ 64
    cells_fit short = let l = remaining_small s v₀ short in let m = next_nearer s v x (sym is ∙ h) in omega arith

    pub cells_less : remaining s x.next < remaining s v
    cells_less = next_nearer s v x (sym is ∙ h)

  pub cells_done : r ≡ None → n ≡ length (listed_from s v₀)
  cells_done h = let e : length (listed_from s v) ≡ 0 = ap length (listed_next s v ∙ ap (on_listed s) (sym is ∙ h)) in omega arith

pub cells_few : {s : List ℕ} {v₀ : Place} {n : ℕ} {v : Place} → CellsCounted s v₀ n v → length s ≤ 65536 → n ≤ 16843009
cells_few {s} {v₀} inv short = let l = remaining_small s v₀ short in let f = inv.few in omega arith

-- ---- the cells of all sheets: n so far, the others from p on
pub record AllCounted (s : List ℕ) (p₀ n p : ℕ) : Type 0 where
  pub all : n + cell_total s (sheets_from s p) ≡ cell_total s (sheets_from s p₀)
  pub few : n ≤ p * 16843009

pub all_start : (s : List ℕ) (p : ℕ) → AllCounted s p 0 p
all_start s p = record { all = omega arith; few = omega arith }

total_more : (s : List ℕ) (x : Sheet) (l : List Sheet) → cell_total s (x ∷ l) ≡ length (listed_of s x) + cell_total s l
unfolding cell_total
total_more s x l = refl

total_none : (s : List ℕ) → cell_total s [] ≡ 0
unfolding cell_total
total_none s = refl

module _ {s : List ℕ} {p₀ n p : ℕ} (inv : AllCounted s p₀ n p) {r : Option NextSheet} (is : r ≡ next_sheet_of s p) where
  module _ (x : NextSheet) (e : r ≡ Some x) (k : ℕ) (counted : (k ≡ length (listed_from s x.cells)) × (k ≤ 16843009)) where
    pub all_more : AllCounted s p₀ (n + k) x.next
    all_more =
        let f : FirstSheet s p x = subst (SheetsFrom s p) (sym is ∙ e) (sheets_next s p) in
        let l : length (listed_from s x.cells) ≡ length (listed_of s f.sheet) = ap (λ (v : Place). length (listed_from s v)) (sym f.start) in
        let g : cell_total s (sheets_from s p) ≡ length (listed_of s f.sheet) + cell_total s (sheets_from s x.next) = ap (cell_total s) f.list ∙ total_more s f.sheet (sheets_from s x.next) in
        let j = f.nearer in
        let a = inv.all in
        let b = inv.few in
        record { all = omega arith; few = omega arith }

    pub all_fit : length s ≤ 65536 → n + k < 2 ^ 64
    all_fit short = let j = sheet_nearer s p x (sym is ∙ e) in let b = inv.few in omega arith

  pub all_done : r ≡ None → n ≡ cell_total s (sheets_from s p₀)
  all_done h =
      let f : sheets_from s p ≡ [] = subst (SheetsFrom s p) (sym is ∙ h) (sheets_next s p) in
      let g : cell_total s (sheets_from s p) ≡ 0 = ap (cell_total s) f ∙ total_none s in
      let a = inv.all in
      omega arith

-- ---- a sheet more
module _ (s : List ℕ) (p : ℕ) {r : Option NextSheet} (is : r ≡ next_sheet_of s p) (x : NextSheet) (e : r ≡ Some x) where
  pub sheet_less : length s - x.next < length s - p
  sheet_less = sheet_nearer s p x (sym is ∙ e)

  -- the sheets' numbers stay below the place in the list
  pub sheet_low : (n : ℕ) → n ≤ p → n + 1 ≤ x.next
  sheet_low n low = let j = sheet_less in omega arith

  pub sheet_fits : (n : ℕ) → n ≤ p → x.next < 2 ^ 64 → n + 1 < 2 ^ 64
  sheet_fits n low fits = let l = sheet_low n low in omega arith
