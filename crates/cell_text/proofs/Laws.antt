-- The laws of a fetch by cell, with what a call gave as the proofs have it. Assumes nothing.
use Prim.Native.Nat.{ℕ, zero, suc, ◌+◌, ◌-◌, ◌≤◌, ◌<◌}
use mathlib.Core.Path.{◌≡◌, refl, sym, ap, ◌∙◌, subst, subst⁻¹}
use mathlib.Core.List.{List, [], ◌∷◌}
use mathlib.Core.Bool.{true, false}
use native.Mathlib.Omega.{arith}
use lib.ListN.{length}
use Rattle.std.specs.Prelude.{Option, Some, None, Result}
use Rattle.steps.proofs.Choice.{pick_true, pick_false}
use Rattle.steps.specs.Items.{nth}
use Rattle.refusal.specs.declared.Refusal.{Refusal}
use Rattle.refusal.specs.Refused.{refuse}
use Rattle.record.specs.Record.{header_at}
use Rattle.record.proofs.Laws.{whole}
use Rattle.segments.specs.Segments.{list_of}
use Rattle.strings.specs.Table.{fetched_of, buffer_of}
use Rattle.cell.specs.declared.Cell.{Cell}
use Rattle.cell.specs.Cells.{shape_of, field_of, count_of, cell_of}
use Rattle.text_result.specs.TextResult.{has_text, text_of}
use Rattle.sheet_agreement.specs.declared.SheetKind.{SheetKind}
use Rattle.sheet_agreement.specs.Agreement.{Sheet}
use Rattle.globals.specs.Sheets.{sheets_of}
use Rattle.workbook.specs.Check.{checked_of, on_checked}
use Rattle.reading.specs.declared.Place.{Place}
use Rattle.reading.specs.Cells.{place_at, listed_from}
use Rattle.reading.specs.Reading.{start_by, listed_of, says_text, on_formula, text_after, units_of}
use Rattle.reading.proofs.Texts.{field_of_lem, room_of, says_is, has_formula}
use Rattle.reading.specs.declared.RecordCells.{RecordCells}
use Rattle.reading.specs.declared.Scanned.TheVariants as scanned
use Rattle.reading.specs.Scan.{scan_of}
use Rattle.reading.proofs.Scanning.{Row, Scan, scan_says}
use Rattle.listing.specs.declared.Sought.{Sought}
use Rattle.listing.specs.Parts.{found_sheet}
use Rattle.correction.specs.Correction.{cells_at}
use Rattle.correction.specs.Parts.{in_row}
use Rattle.correction.proofs.Laws.{hit_row, hit_below, miss_row, start_place}
use Rattle.cell_text.specs.declared.Spot.{Spot}
use Rattle.cell_text.specs.CellText.{answer_to, answer_of, buffer_to, buffer_after}
use Rattle.cell_text.specs.Parts.{First}

-- ---- the first of some cells
abbrev spot : ℕ → ℕ → Option Spot
spot f e = Some (record { at = f; end = e })

module _ (s : List ℕ) (c : Cell) (l : List Cell) where
  first_silent : says_text c.value ≡ false → First s (c ∷ l) None
  unfolding answer_to buffer_to
  first_silent h = record { within = tt; fetches = λ b. (sym (pick_false (refuse 11 0) _ _ _ h refl), sym (pick_false b _ _ _ h refl)) }

  first_text : (f e : ℕ) → e ≤ length s → says_text c.value ≡ true → units_of s c ≡ list_of (text_of s f e) → First s (c ∷ l) (spot f e)
  unfolding answer_to buffer_to
  first_text f e w h q = record {
    within = w;
    fetches = λ b. (
      sym (pick_true (fetched_of (length b) (list_of (text_of s f e))) _ _ _ h (ap (fetched_of (length b)) (sym q))),
      sym (pick_true (buffer_of b (list_of (text_of s f e))) _ _ _ h (ap (buffer_of b) (sym q))),
    );
  }

first_none : (s : List ℕ) → First s [] None
unfolding answer_to buffer_to
first_none s = record { within = tt; fetches = λ b. (refl, refl) }

-- ---- a record that has the address
module _ (s : List ℕ) (at : ℕ) (rec : RecordCells) (row column : ℕ) (w : Row s at rec) (hit : in_row rec.row rec.first rec.count row column ≡ true) where
  abbrev k : ℕ
  k = column - rec.first

  abbrev c : Cell
  c = cell_of s (field_of (shape_of rec.id)) at k

  below : k < count_of (shape_of rec.id) s at w.size
  below = hit_below s at rec row column w hit

  says : says_text c.value ≡ has_text s rec.id at
  says = says_is s rec.id at w.size k below

  units : has_text s rec.id at ≡ true → units_of s c ≡ list_of (text_of s at rec.next)
  unfolding units_of text_after
  units h =
      let f = field_of_lem s rec.id at w.size k below (has_formula s rec.id at h) in
      let l : c.field - 10 ≡ at = omega arith in
      sym (pick_true (list_of (text_of s at rec.next)) _ _ _ (says ∙ h) (ap (on_formula s at) (sym w.header) ∙ ap (λ (p : ℕ). on_formula s p (header_at s p)) (sym l)))

  row_text : has_text s rec.id at ≡ true → First s (cells_at row column (listed_from s (place_at at 0))) (spot at rec.next)
  row_text h =
      subst⁻¹ (λ (l : List Cell). First s l (spot at rec.next)) (hit_row s at rec row column w hit)
      (first_text s c (cells_at row column (listed_from s (place_at rec.next 0))) at rec.next w.within (says ∙ h) (units h))

  row_silent : has_text s rec.id at ≡ false → First s (cells_at row column (listed_from s (place_at at 0))) None
  row_silent h =
      subst⁻¹ (λ (l : List Cell). First s l None) (hit_row s at rec row column w hit)
      (first_silent s c (cells_at row column (listed_from s (place_at rec.next 0))) (says ∙ h))

-- ---- the scan for an address: the first of the rest of the list
abbrev pub Finding : List ℕ → ℕ → ℕ → ℕ → ℕ → ℕ → Type 0
Finding s from row column at level = cells_at row column (listed_from s (place_at from 0)) ≡ cells_at row column (listed_from s (place_at at level))

pub find_start : (s : List ℕ) (from row column : ℕ) → Finding s from row column from 0
find_start s from row column = refl

module _ (s : List ℕ) (at level : ℕ) where
  module _ (rec : RecordCells) (h : scan_of s at level ≡ Some (scanned.Cells rec)) where
    scanned_row : (level ≡ 0) × Row s at rec
    scanned_row = subst (Scan s at level) h (scan_says s at level)

    pub row_less : length s - rec.next < length s - at
    row_less = let a = scanned_row.1.ahead in let w = scanned_row.1.within in omega arith

    pub row_few : rec.count ≤ 256
    row_few = scanned_row.1.few

    pub formula_room : rec.id ≡ 0x0006 → at + 18 ≤ length s
    formula_room q =
        let x = scanned_row.1 in
        let w = whole s at rec.id x.size rec.next x.header in
        let i = x.count in
        let j = x.some in
        let m : 0 < count_of (shape_of rec.id) s at x.size = omega arith in
        let y = room_of s rec.id at x.size 0 m q in
        omega arith

    module _ (from row column : ℕ) (inv : Finding s from row column at level) where
      here_is : cells_at row column (listed_from s (place_at from 0)) ≡ cells_at row column (listed_from s (place_at at 0))
      here_is = inv ∙ ap (λ (m : ℕ). cells_at row column (listed_from s (place_at at m))) scanned_row.0

      pub row_again : in_row rec.row rec.first rec.count row column ≡ false → Finding s from row column rec.next level
      row_again q =
          here_is ∙ miss_row s at rec row column scanned_row.1 q
          ∙ ap (λ (m : ℕ). cells_at row column (listed_from s (place_at rec.next m))) (sym scanned_row.0)

      module _ (q : in_row rec.row rec.first rec.count row column ≡ true) where
        pub found_text : has_text s rec.id at ≡ true → First s (cells_at row column (listed_from s (place_at from 0))) (spot at rec.next)
        found_text i = subst⁻¹ (λ (l : List Cell). First s l (spot at rec.next)) here_is (row_text s at rec row column scanned_row.1 q i)

        pub found_silent : has_text s rec.id at ≡ false → First s (cells_at row column (listed_from s (place_at from 0))) None
        found_silent i = subst⁻¹ (λ (l : List Cell). First s l None) here_is (row_silent s at rec row column scanned_row.1 q i)

  module _ (v : Place) (h : scan_of s at level ≡ Some (scanned.Past v)) where
    passed : (listed_from s (place_at at level) ≡ listed_from s (place_at v.at v.level)) × (at < v.at) × (v.at ≤ length s)
    passed = subst (Scan s at level) h (scan_says s at level)

    pub next_less : length s - v.at < length s - at
    next_less = let x = passed in omega arith

    pub next_again : (from row column : ℕ) → Finding s from row column at level → Finding s from row column v.at v.level
    next_again from row column inv = inv ∙ ap (cells_at row column) passed.0

  pub found_none : scan_of s at level ≡ None → (from row column : ℕ) → Finding s from row column at level → First s (cells_at row column (listed_from s (place_at from 0))) None
  unfolding cells_at
  found_none h from row column inv =
      let e : listed_from s (place_at at level) ≡ [] = subst (Scan s at level) h (scan_says s at level) in
      subst⁻¹ (λ (l : List Cell). First s l None) (inv ∙ ap (cells_at row column) e) (first_none s)

pub ruleset find_laws = (find_start, row_less, row_few, formula_room, row_again, found_text, found_silent, next_less, next_again, found_none)

-- ---- in a sheet
pub spot_in : (s : List ℕ) (p : ℕ) (k : SheetKind) (row column : ℕ) (v : Place) (y : Option Spot) → v ≡ start_by (length s) p k → First s (cells_at row column (listed_from s (place_at v.at 0))) y
    → First s (cells_at row column (listed_from s (start_by (length s) p k))) y
spot_in s p k row column v y e f =
    subst (λ (x : Place). First s (cells_at row column (listed_from s x)) y) (ap (λ (x : Place). place_at x.at 0) e ∙ start_place (length s) p k) f

-- ---- its fetch
module _ (s : List ℕ) (l : List Cell) where
  module _ (x : Spot) (is : First s l (Some x)) where
    pub text_within : x.end ≤ length s
    text_within = is.within

    pub text_answer : (b : List ℕ) → answer_to s b l ≡ fetched_of (length b) (list_of (text_of s x.at x.end))
    text_answer b = (is.fetches b).0

    pub text_buffer : (b : List ℕ) → buffer_to s b l ≡ buffer_of b (list_of (text_of s x.at x.end))
    text_buffer b = (is.fetches b).1

  module _ (is : First s l None) where
    pub absent_answer : (b : List ℕ) → answer_to s b l ≡ refuse 11 0
    absent_answer b = (is.fetches b).0

    pub absent_buffer : (b : List ℕ) → buffer_to s b l ≡ b
    absent_buffer b = (is.fetches b).1

pub ruleset fetch_laws = (text_within, text_answer, text_buffer, absent_answer, absent_buffer)

-- ---- after the check
module _ {A : Type 0} (F : Sheet → A) (G : Option Sought → A) (same : (x : Sheet) → F x ≡ G (found_sheet x)) where
  to_sought : (l : List Sheet) (n : ℕ) → nth l n F (G None) ≡ G (nth l n found_sheet None)
  unfolding nth
  to_sought [] n = refl
  to_sought (x ∷ l) zero = same x
  to_sought (x ∷ l) (suc n) = to_sought l n

module _ (s : List ℕ) (n row column : ℕ) (b : List ℕ) where
  abbrev to_answer : Option Sought → Result ℕ Refusal
  to_answer (Some x) = answer_to s b (cells_at row column (listed_from s (start_by (length s) x.position x.kind)))
  to_answer None = refuse 11 0

  abbrev to_buffer : Option Sought → List ℕ
  to_buffer (Some x) = buffer_to s b (cells_at row column (listed_from s (start_by (length s) x.position x.kind)))
  to_buffer None = b

  pub answer_by : answer_of s n row column b ≡ on_checked refuse (λ _. to_answer (nth (sheets_of s) n found_sheet None)) (checked_of s 0)
  unfolding answer_of
  answer_by = ap (λ y. on_checked refuse (λ _. y) (checked_of s 0)) (to_sought (λ (x : Sheet). answer_to s b (cells_at row column (listed_of s x))) to_answer (λ x. refl) (sheets_of s) n)

  pub buffer_by : buffer_after s n row column b ≡ on_checked (λ _ _. b) (λ _. to_buffer (nth (sheets_of s) n found_sheet None)) (checked_of s 0)
  unfolding buffer_after
  buffer_by = ap (λ y. on_checked (λ _ _. b) (λ _. y) (checked_of s 0)) (to_sought (λ (x : Sheet). buffer_to s b (cells_at row column (listed_of s x))) to_buffer (λ x. refl) (sheets_of s) n)

pub ruleset cell_laws = (answer_by, buffer_by)
