-- A stream beside itself without its unused strings. Assumes nothing.
use Prim.Native.Nat.{ℕ, zero, suc, ◌-◌, ◌/◌, ◌%◌}
use mathlib.Core.Path.{◌≡◌, refl, sym, ap, ap₂, ◌∙◌, subst}
use mathlib.Core.Bool.{Bool, true, false, ◌||◌}
use mathlib.Core.List.{List, [], ◌∷◌, map}
use lib.ListN.{get_or}
use lib.Dec.{eqb}
use Rattle.steps.specs.Choice.{pick}
use Rattle.steps.proofs.Choice.{pick_true, pick_any}
use Rattle.steps.specs.Items.{nth}
use Rattle.value.specs.declared.CellValue.{CellValue}
use Rattle.value.specs.declared.CellValue.TheVariants as value
use Rattle.sheet_agreement.specs.Agreement.{Sheet}
use Rattle.globals.specs.declared.Globals.{Globals}
use Rattle.globals.specs.Sheets.{sheets_of}
use Rattle.workbook.specs.Check.{checked_of}
use Rattle.reading.specs.Reading.{CellReading, SheetReading, Reading, listed_of, cell_reading, sheet_reading, reading_of}
use Rattle.record_chain.specs.Chain.{Every, Nth, first, next}
use Rattle.differences.specs.Differences.{same, shown, chars_of, address_of, holds, held_at, has, twice, twice_in, Difference, none, name, unequal, alike, between, cells_in, cell_difference, names_between, name_difference, sheet_keys, addresses, difference_in, difference_at, keys_of, differences}
use Rattle.differences.proofs.Laws.{words_none, same_refl}
use Rattle.compare.specs.Comparison.{lists}
use Rattle.compare_claims.proofs.Claims.{both_pass}
use Rattle.new_reading.specs.Retexted.{retexted_value, retexted_cell, retexted_sheet, index_of, byte_of}
use Rattle.new_table.specs.NewTable.{new_table, compact_of}
use Rattle.new_table.specs.Claims.{Given}
use Rattle.new_table.proofs.Claims.{new_is, new_passes, new_sheets, new_named}
use Rattle.compact_compared.specs.Claims.{ReadAlike, NothingLost}

-- ---- lists
get_d_nth : (l : List (List ℕ)) (n : ℕ) → get_or l n [] ≡ nth l n (λ x. x) []
unfolding nth
get_d_nth [] n = refl
get_d_nth (x ∷ l) zero = refl
get_d_nth (x ∷ l) (suc n) = get_d_nth l n

every_of : {A B : Type 0} (P : B → Type 0) (f : A → B) (l : List A) → Every (λ x. P (f x)) l → Every P (map f l)
every_of P f [] h = tt
every_of P f (x ∷ l) h = (h.0, every_of P f l h.1)

every_at : {A : Type 0} (P : A → Type 0) (l : List A) → ((n : ℕ) (x : A) → Nth l n x → P x) → Every P l
every_at P [] h = tt
every_at P (x ∷ l) h = (h 0 x first, every_at P l (λ n y i. h (suc n) y (next i)))

-- ---- values, where the new index of each text names among the strings q what the old one named among p
module _ (index : ℕ → ℕ) (p q : List (List ℕ)) where
  abbrev Named : CellValue → Type 0
  Named v = (i : ℕ) → v ≡ value.Text i → nth q (index i) (λ x. x) [] ≡ nth p i (λ x. x) []

  shown_stays : (v : CellValue) → Named v → shown q (retexted_value index v) ≡ shown p v
  shown_stays value.Blank h = refl
  shown_stays (value.Number x) h = refl
  shown_stays (value.NotNumber b) h = refl
  shown_stays (value.Text i) h = ap (λ (l : List ℕ). 2 ∷ l) (get_d_nth q (index i) ∙ h i refl ∙ sym (get_d_nth p i))
  shown_stays (value.Truth t) h = refl
  shown_stays (value.Error e) h = refl
  shown_stays (value.Formula r) h = refl

  alike_still : (v : CellValue) (us : List ℕ) → Named v → alike p v us q (retexted_value index v) us ≡ true
  unfolding alike
  alike_still v us h = sym (pick_true true _ false (same (shown p v) (shown q (retexted_value index v))) (ap (same (shown p v)) (shown_stays v h) ∙ same_refl (shown p v)) (sym (same_refl us)))

-- ---- cells and sheets: the addresses stay
module _ (index byte : ℕ → ℕ) where
  has_stays : (a : ℕ) (l : List CellReading) → has a (map (retexted_cell index byte) l) ≡ has a l
  unfolding has
  has_stays a [] = refl
  has_stays a (c ∷ l) = ap (λ (b : Bool). eqb (address_of c) a || b) (has_stays a l)

  twice_stays : (l : List CellReading) → twice (map (retexted_cell index byte) l) ≡ twice l
  unfolding twice
  twice_stays [] = refl
  twice_stays (c ∷ l) = ap₂ (λ (a b : Bool). a || b) (has_stays (address_of c) l) (twice_stays l)

  twice_in_stays : (l : List SheetReading) → twice_in (map (retexted_sheet index byte) l) ≡ twice_in l
  unfolding twice_in
  twice_in_stays [] = refl
  twice_in_stays (x ∷ l) = ap₂ (λ (a b : Bool). a || b) (twice_stays x.cells) (twice_in_stays l)

  -- ---- no name differs
  names_stay : (l : List SheetReading) (n : ℕ) → nth l n (λ (x : SheetReading). nth (map (retexted_sheet index byte) l) n (λ (y : SheetReading). names_between x y) none) none ≡ none
  unfolding nth
  names_stay [] n = refl
  names_stay (x ∷ l) zero = sym (pick_true none none name (same (chars_of x.name x.width) (chars_of x.name x.width)) (same_refl (chars_of x.name x.width)) refl)
  names_stay (x ∷ l) (suc n) = names_stay l n

  -- ---- no cell differs
  module _ (p q : List (List ℕ)) where
    cells_stay : (a : ℕ) (l : List CellReading) → Every (λ (c : CellReading). Named index p q c.value) l → between p q (held_at a l) (held_at a (map (retexted_cell index byte) l)) ≡ none
    unfolding held_at pick
    cells_stay a [] h = refl
    cells_stay a (c ∷ l) h = by (eqb (address_of c) a) (cells_stay a l h.1)
      where
        by : (b : Bool) → between p q (held_at a l) (held_at a (map (retexted_cell index byte) l)) ≡ none
            → between p q (pick b (holds c.value c.text) (held_at a l)) (pick b (holds (retexted_value index c.value) c.text) (held_at a (map (retexted_cell index byte) l))) ≡ none
        by true rest = ap (λ (b : Bool). pick b none unequal) (alike_still index p q c.value c.text h.0)
        by false rest = rest

    abbrev AllNamed : List SheetReading → Type 0
    AllNamed l = Every (λ (x : SheetReading). Every (λ (c : CellReading). Named index p q c.value) x.cells) l

    sheet_stays : (a : ℕ) (l : List SheetReading) (n : ℕ) → AllNamed l
        → between p q (held_at a (nth l n (λ (x : SheetReading). x.cells) [])) (held_at a (nth (map (retexted_sheet index byte) l) n (λ (x : SheetReading). x.cells) [])) ≡ none
    unfolding nth held_at
    sheet_stays a [] n h = refl
    sheet_stays a (x ∷ l) zero h = cells_stay a x.cells h.0
    sheet_stays a (x ∷ l) (suc n) h = sheet_stays a l n h.1

-- ---- two readings
module _ (index byte : ℕ → ℕ) (x y : Reading) (sheets : y.sheets ≡ map (retexted_sheet index byte) x.sheets) (named : AllNamed index byte x.strings y.strings x.sheets) where
  nowhere : (n k : ℕ) → difference_in x y n k ≡ none
  unfolding difference_in cell_difference name_difference cells_in
  nowhere n k =
      pick_any (λ (d : Difference). d ≡ none) _
      (ap (λ (l : List SheetReading). nth x.sheets n (λ (v : SheetReading). nth l n (λ (w : SheetReading). names_between v w) none) none) sheets ∙ names_stay index byte x.sheets n)
      (pick_any (λ (d : Difference). d ≡ none) _ refl
      (ap (λ (l : List SheetReading). between x.strings y.strings (held_at (k - addresses) (nth x.sheets n (λ (v : SheetReading). v.cells) [])) (held_at (k - addresses) (nth l n (λ (v : SheetReading). v.cells) []))) sheets
      ∙ sheet_stays index byte x.strings y.strings (k - addresses) x.sheets n named))

  no_differences : (from : ℕ) → differences x y from ≡ []
  unfolding differences difference_at
  no_differences from = words_none (difference_at x y) (keys_of x y - from) from (λ j l m. nowhere (j / sheet_keys) (j % sheet_keys))

-- ---- the stream
module _ (s : List ℕ) (u : ℕ) (g : Globals) (h : Given s u g) where
  abbrev index : ℕ → ℕ
  index = index_of s (new_table s g)

  abbrev byte : ℕ → ℕ
  byte = byte_of s (new_table s g)

  abbrev old : Reading
  old = reading_of s u

  abbrev new : Reading
  new = reading_of (compact_of s u) u

  sheets_are : old.sheets ≡ map (sheet_reading s) (sheets_of s)
  unfolding reading_of
  sheets_are = refl

  abbrev Stays : CellReading → Type 0
  Stays c = Named index old.strings new.strings c.value

  all_named : AllNamed index byte old.strings new.strings old.sheets
  all_named =
      subst (AllNamed index byte old.strings new.strings) (sym sheets_are)
      (every_of (λ (x : SheetReading). Every Stays x.cells) (sheet_reading s) (sheets_of s)
      (every_at (λ (x : Sheet). Every Stays (map (cell_reading s) (listed_of s x))) (sheets_of s)
      (λ n x i. every_of Stays (cell_reading s) (listed_of s x) (new_named s u g h n x i))))

  twice_again : twice_in new.sheets ≡ twice_in old.sheets
  twice_again = ap twice_in (new_sheets s u g h) ∙ twice_in_stays index byte old.sheets

pub read_alike : ReadAlike
read_alike s u g from h = no_differences (index s u g h) (byte s u g h) _ _ (new_sheets s u g h) (all_named s u g h) from

pub nothing_lost : NothingLost
nothing_lost s g from h once =
    let n = new_passes s 0 g h in
    both_pass s (compact_of s 0) g n.globals from h.ok (ap (λ (t : List ℕ). checked_of t 0) (new_is s 0 g h.ok) ∙ n.passes) once (twice_again s 0 g h ∙ once)
    ∙ ap lists (read_alike s 0 g from h)
