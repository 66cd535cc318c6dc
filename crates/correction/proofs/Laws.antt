-- The laws of a correction, with what a call gave as the proofs have it. Assumes nothing.
use Prim.Native.Nat.{ℕ, zero, suc, ◌+◌, ◌-◌, ◌*◌, ◌≤◌, ◌<◌}
use mathlib.Core.Path.{◌≡◌, refl, sym, ap, ◌∙◌, subst}
use mathlib.Core.List.{List, [], ◌∷◌, ◌++◌}
use mathlib.Core.Bool.{Bool, true, false, ◌&&◌}
use Rattle.std.specs.Prelude.{Option, Some, None, Result, Ok, Err}
use Rattle.refusal.specs.declared.Refusal.{Refusal}
use Rattle.refusal.specs.Refused.{refuse}
use Rattle.sheet_agreement.specs.declared.SheetKind.{SheetKind}
use Rattle.sheet_agreement.specs.declared.SheetKind.TheVariants.{Worksheet, Chart, Macro, Other}
use mathlib.Core.Logic.{◌⊎◌, inl, inr}
use native.Mathlib.Omega.{arith}
use native.Mathlib.Nat.{suc-mul, mul-le-mul, mul-le-mul_right}
use lib.ListN.{length}
use lib.Dec.{ltb, leb, eqb}
use borrow.Author.Tests.{eq-eqb, ne_eqb, eqb-true, eqb-false, leb-true, leb-false, ltb-true, ltb-false}
use Rattle.steps.specs.Choice.{pick}
use Rattle.steps.proofs.Choice.{pick_by, pick_true, pick_false, pick_lt, pick_nlt}
use Rattle.steps.specs.Items.{nth}
use Rattle.record.proofs.Laws.{whole}
use Rattle.value.specs.declared.Field.{Field}
use Rattle.value.specs.declared.Field.TheVariants.{NoField, Float, RkWord, TextIndex, TruthError, StoredResult}
use Rattle.value.specs.Value.{width_of}
use Rattle.cell.specs.declared.Cell.{Cell}
use Rattle.cell.specs.Cells.{shape_of, field_of, part_of, start_of, row_at, first_at, count_of, cell_from, cells_from, cells_of, cell_of}
use Rattle.cell.proofs.Sizes.{count_lies}
use Rattle.new_value.specs.declared.NewValue.{NewValue}
use Rattle.new_value.specs.Change as change
use Rattle.new_value.specs.Change.{plan_of, changed}
use Rattle.sheet_agreement.specs.Agreement.{Sheet}
use Rattle.globals.specs.declared.Globals.{Globals}
use Rattle.globals.specs.Sheets.{sheets_of}
use Rattle.workbook.specs.Check.{checked_of, on_checked}
use Rattle.reading.specs.declared.Place.{Place}
use Rattle.reading.specs.Cells.{place_at, listed_from}
use Rattle.reading.specs.Reading.{start_by, listed_of}
use Rattle.reading.specs.declared.RecordCells.{RecordCells}
use Rattle.reading.specs.declared.Scanned.TheVariants as scanned
use Rattle.reading.specs.Scan.{scan_of, Past}
use Rattle.reading.proofs.Scanning.{Row, Scan, scan_says, past_list}
use Rattle.listing.specs.declared.Sought.{Sought}
use Rattle.listing.specs.Parts.{found_sheet}
use Rattle.correction.specs.declared.Target.{Target}
use Rattle.correction.specs.declared.Target.TheVariants as target
use Rattle.correction.specs.declared.Aim.{Aim}
use Rattle.correction.specs.Correction.{Correction, refuses, writes, cells_at, on_plan, on_cells, no_sheet, correction_in, correction_of, answer_of, stream_after}
use Rattle.correction.specs.Parts.{joined, target_of, with_one, in_row, field_of_cell, met_of, on_target, aim_in, TargetWithin, AimWithin}

-- ---- the cells of an address among the cells of a row
module _ (row column : ℕ) where
  at_hit : (c : Cell) (l : List Cell) → c.row ≡ row → c.column ≡ column → cells_at row column (c ∷ l) ≡ c ∷ cells_at row column l
  unfolding cells_at
  at_hit c l h i = sym (pick_true _ _ _ _ (rw (eq-eqb _ _ h, eq-eqb _ _ i) refl) refl)

  at_row : (c : Cell) (l : List Cell) → (c.row ≡ row → ⊥) → cells_at row column (c ∷ l) ≡ cells_at row column l
  unfolding cells_at
  at_row c l h = sym (pick_false _ _ _ _ (rw (ne_eqb _ _ h) refl) refl)

  at_column : (c : Cell) (l : List Cell) → (c.column ≡ column → ⊥) → cells_at row column (c ∷ l) ≡ cells_at row column l
  unfolding cells_at
  at_column c l h = sym (pick_false _ _ _ _ (both (eqb c.row row) (ne_eqb _ _ h)) refl)
    where
      both : (b : Bool) {d : Bool} → d ≡ false → b && d ≡ false
      both true e = e
      both false e = refl

  module _ (f : Field) (s : List ℕ) (r : ℕ) (l : List Cell) where
    abbrev part : ℕ
    part = part_of f

    row_else : (n c q : ℕ) → (r ≡ row → ⊥) → cells_at row column (cells_from f s r c q n ++ l) ≡ cells_at row column l
    unfolding cells_from cell_from
    row_else zero c q h = refl
    row_else (suc n) c q h = at_row _ _ h ∙ row_else n (c + 1) (q + part) h

    columns_else : (n c q : ℕ) → (column < c) ⊎ (c + n ≤ column) → cells_at row column (cells_from f s r c q n ++ l) ≡ cells_at row column l
    unfolding cells_from cell_from
    columns_else zero c q h = refl
    columns_else (suc n) c q (inl h) = at_column _ _ (λ e. omega arith) ∙ columns_else n (c + 1) (q + part) (inl (omega arith))
    columns_else (suc n) c q (inr h) = at_column _ _ (λ e. omega arith) ∙ columns_else n (c + 1) (q + part) (inr (omega arith))

    cell_met : (n c q k : ℕ) → r ≡ row → c + k ≡ column → k < n → cells_at row column (cells_from f s r c q n ++ l) ≡ cell_from f s r column (q + k * part) ∷ cells_at row column l
    unfolding cells_from cell_from
    cell_met zero c q k h i j = absurd (omega arith)
    cell_met (suc n) c q zero h i j =
        let e : c ≡ column = omega arith in
        let g : q ≡ q + 0 * part = omega arith in
        at_hit _ _ h e
        ∙ ap (λ (x : List Cell). cell_from f s r c q ∷ x) (columns_else n (c + 1) (q + part) (inl (omega arith)))
        ∙ ap (λ (x : ℕ). cell_from f s r x q ∷ cells_at row column l) e
        ∙ ap (λ (x : ℕ). cell_from f s r column x ∷ cells_at row column l) g
    cell_met (suc n) c q (suc k) h i j =
        let g : q + part + k * part ≡ q + suc k * part = omega arith in
        at_column _ _ (λ e. omega arith)
        ∙ cell_met n (c + 1) (q + part) k h (omega arith) (omega arith)
        ∙ ap (λ (x : ℕ). cell_from f s r column x ∷ cells_at row column l) g

-- what the test says
module _ (here first n row column : ℕ) where
  pub row_holds : in_row here first n row column ≡ true → (here ≡ row) × (first ≤ column) × (column < first + n)
  unfolding in_row pick
  row_holds h = go (eqb here row) (leb first column) (ltb column (first + n)) refl refl refl h
    where
      go : (a b c : Bool) → eqb here row ≡ a → leb first column ≡ b → ltb column (first + n) ≡ c → pick a (pick b (pick c true false) false) false ≡ true → (here ≡ row) × (first ≤ column) × (column < first + n)
      go true true true i j k e = (eqb-true here row i, leb-true first column j, ltb-true column (first + n) k)
      go true true false i j k e = cc
      go true false c i j k e = cc
      go false b c i j k e = cc

-- ---- what was found, with one cell more
join_one : (found : Target) (c : Cell) (l : List Cell) → joined found (c ∷ l) ≡ joined (with_one found (target.One c.kind c.field)) l
join_one target.None c [] = refl
join_one target.None c (d ∷ l) = refl
join_one (target.One k f) c l = refl
join_one target.Many c l = refl

module _ (s : List ℕ) (at : ℕ) (rec : RecordCells) (row column : ℕ) (w : Row s at rec) where
  abbrev field : Field
  field = field_of (shape_of rec.id)

  abbrev after : List Cell
  after = cells_at row column (listed_from s (place_at rec.next 0))

  of_record : cells_at row column (listed_from s (place_at at 0)) ≡ cells_at row column (cells_from field s (row_at s at) (first_at s at) (at + 8) (count_of (shape_of rec.id) s at w.size) ++ listed_from s (place_at rec.next 0))
  unfolding cells_of
  of_record = ap (cells_at row column) w.list

  no_address : in_row rec.row rec.first rec.count row column ≡ false → (rec.row ≡ row → ⊥) ⊎ ((column < rec.first) ⊎ (rec.first + rec.count ≤ column))
  unfolding in_row pick
  no_address h = go (eqb rec.row row) (leb rec.first column) (ltb column (rec.first + rec.count)) refl refl refl h
    where
      go : (a b c : Bool) → eqb rec.row row ≡ a → leb rec.first column ≡ b → ltb column (rec.first + rec.count) ≡ c → pick a (pick b (pick c true false) false) false ≡ false → (rec.row ≡ row → ⊥) ⊎ ((column < rec.first) ⊎ (rec.first + rec.count ≤ column))
      go true true true i j k e = cc
      go true true false i j k e = inr (inr (ltb-false column (rec.first + rec.count) k))
      go true false c i j k e = inr (inl (leb-false rec.first column j))
      go false b c i j k e = inl (eqb-false rec.row row i)

  abbrev cells : List Cell
  cells = cells_from field s (row_at s at) (first_at s at) (at + 8) (count_of (shape_of rec.id) s at w.size)

  missed : (rec.row ≡ row → ⊥) ⊎ ((column < rec.first) ⊎ (rec.first + rec.count ≤ column)) → cells_at row column (cells ++ listed_from s (place_at rec.next 0)) ≡ after
  missed (inl h) = row_else row column field s (row_at s at) (listed_from s (place_at rec.next 0)) _ _ _ (λ e. h (w.row_is ∙ e))
  missed (inr (inl h)) = let f = w.first_is in columns_else row column field s (row_at s at) (listed_from s (place_at rec.next 0)) (count_of (shape_of rec.id) s at w.size) (first_at s at) (at + 8) (inl (omega arith))
  missed (inr (inr h)) = let f = w.first_is in let c = w.count in columns_else row column field s (row_at s at) (listed_from s (place_at rec.next 0)) (count_of (shape_of rec.id) s at w.size) (first_at s at) (at + 8) (inr (omega arith))

  -- the record has the address, or not
  pub hit_below : in_row rec.row rec.first rec.count row column ≡ true → column - rec.first < count_of (shape_of rec.id) s at w.size
  hit_below h = let a = row_holds rec.row rec.first rec.count row column h in let c = w.count in omega arith

  pub hit_row : in_row rec.row rec.first rec.count row column ≡ true → cells_at row column (listed_from s (place_at at 0)) ≡ cell_of s field at (column - rec.first) ∷ after
  unfolding cell_of
  hit_row h =
      let a = row_holds rec.row rec.first rec.count row column h in
      let f = w.first_is in
      let c = w.count in
      let e : column ≡ first_at s at + (column - rec.first) = omega arith in
      of_record
      ∙ cell_met row column field s (row_at s at) (listed_from s (place_at rec.next 0)) (count_of (shape_of rec.id) s at w.size) (first_at s at) (at + 8) (column - rec.first) (sym w.row_is ∙ a.0) (omega arith) (omega arith)
      ∙ ap (λ (x : ℕ). cell_from field s (row_at s at) x (at + 8 + (column - rec.first) * part_of field) ∷ after) e

  pub miss_row : in_row rec.row rec.first rec.count row column ≡ false → cells_at row column (listed_from s (place_at at 0)) ≡ after
  miss_row h = of_record ∙ missed (no_address h)

  met_by : (found : Target) (b : Bool) → in_row rec.row rec.first rec.count row column ≡ b → joined found (cells_at row column (cells ++ listed_from s (place_at rec.next 0))) ≡ joined (pick b (with_one found (field_of_cell rec.id at (column - rec.first))) found) after
  unfolding pick field_of_cell cell_from
  met_by found true h =
      let a = row_holds rec.row rec.first rec.count row column h in
      let f = w.first_is in
      let c = w.count in
      ap (joined found) (cell_met row column field s (row_at s at) (listed_from s (place_at rec.next 0)) (count_of (shape_of rec.id) s at w.size) (first_at s at) (at + 8) (column - rec.first) (sym w.row_is ∙ a.0) (omega arith) (omega arith))
      ∙ join_one found (cell_from field s (row_at s at) column (at + 8 + (column - rec.first) * part_of field)) after
  met_by found false h = ap (joined found) (missed (no_address h))

  met_row : (found r : Target) → r ≡ met_of found rec.id at rec.row rec.first rec.count row column → joined found (cells_at row column (listed_from s (place_at at 0))) ≡ joined r after
  unfolding met_of
  met_row found r e = ap (joined found) of_record ∙ met_by found (in_row rec.row rec.first rec.count row column) refl ∙ ap (λ (t : Target). joined t after) (sym e)

-- ---- a cell's part lies within its record, and its value field within its part
field_room : (f : Field) → start_of f + width_of f ≤ part_of f
field_room NoField = omega arith
field_room Float = omega arith
field_room RkWord = omega arith
field_room TextIndex = omega arith
field_room TruthError = omega arith
field_room StoredResult = omega arith

one_within : (len : ℕ) (found one : Target) → TargetWithin len found → TargetWithin len one → TargetWithin len (with_one found one)
one_within len target.None one p q = q
one_within len (target.One k f) one p q = tt
one_within len target.Many one p q = tt

module _ (s : List ℕ) (at : ℕ) (rec : RecordCells) (row column : ℕ) (w : Row s at rec) where
  met_field : (rec.row ≡ row) × (rec.first ≤ column) × (column < rec.first + rec.count) → TargetWithin (length s) (field_of_cell rec.id at (column - rec.first))
  unfolding field_of_cell
  met_field a =
      let h = w.header in
      let x = whole s at rec.id w.size rec.next h in
      let c = w.count in
      let k = column - rec.first in
      let part = part_of (field_of (shape_of rec.id)) in
      let next : suc k * part ≤ count_of (shape_of rec.id) s at w.size * part = mul-le-mul_right part (omega arith) in
      let p : 4 + k * part + part ≤ w.size = omega (arith, suc-mul k part, (count_lies s at w.size k (shape_of rec.id) (omega arith)).0) in
      let q = field_room (field_of (shape_of rec.id)) in
      omega arith

  met_in : (found : Target) → TargetWithin (length s) found → TargetWithin (length s) (met_of found rec.id at rec.row rec.first rec.count row column)
  unfolding met_of
  met_in found i =
      pick_by (TargetWithin (length s)) (in_row rec.row rec.first rec.count row column)
      (λ h. one_within (length s) found (field_of_cell rec.id at (column - rec.first)) i (met_field (row_holds rec.row rec.first rec.count row column h)))
      (λ _. i)

-- ---- the scan for an address: what was found so far, and the rest of the list
abbrev pub Finding : List ℕ → ℕ → ℕ → ℕ → ℕ → ℕ → Target → Type 0
Finding s from row column at level found =
    (target_of (cells_at row column (listed_from s (place_at from 0))) ≡ joined found (cells_at row column (listed_from s (place_at at level)))) × TargetWithin (length s) found

joined_none : (found : Target) → joined found [] ≡ found
joined_none target.None = refl
joined_none (target.One k f) = refl
joined_none target.Many = refl

pub found_all : (s : List ℕ) (from row column at level : ℕ) (found : Target) → Finding s from row column at level found → scan_of s at level ≡ None → target_of (cells_at row column (listed_from s (place_at from 0))) ≡ found
unfolding cells_at
found_all s from row column at level found inv h =
    let e : listed_from s (place_at at level) ≡ [] = subst (Scan s at level) h (scan_says s at level) in
    inv.0 ∙ ap (λ (l : List Cell). joined found (cells_at row column l)) e ∙ joined_none found

module _ (s : List ℕ) (at level : ℕ) where
  module _ (rec : RecordCells) (h : scan_of s at level ≡ Some (scanned.Cells rec)) where
    scanned_row : (level ≡ 0) × Row s at rec
    scanned_row = subst (Scan s at level) h (scan_says s at level)

    pub row_less : length s - rec.next < length s - at
    row_less = let a = scanned_row.1.ahead in let w = scanned_row.1.within in omega arith

    pub row_few : rec.count ≤ 256
    row_few = scanned_row.1.few

    pub row_low : length s ≤ 16777216 → at ≤ 16777216
    row_low l = let a = scanned_row.1.ahead in let w = scanned_row.1.within in omega arith

    pub row_again : (from row column : ℕ) (found t : Target) → Finding s from row column at level found → t ≡ met_of found rec.id at rec.row rec.first rec.count row column → Finding s from row column rec.next level t
    row_again from row column found t inv e =
        let l = scanned_row.0 in
        let w = scanned_row.1 in (
          inv.0 ∙ ap (λ (m : ℕ). joined found (cells_at row column (listed_from s (place_at at m)))) l
              ∙ met_row s at rec row column w found t e
              ∙ ap (λ (m : ℕ). joined t (cells_at row column (listed_from s (place_at rec.next m)))) (sym l),
          subst (TargetWithin (length s)) (sym e) (met_in s at rec row column w found inv.1),
        )

  module _ (v : Place) (h : scan_of s at level ≡ Some (scanned.Past v)) (d : ℕ) (p : Past s v.level v.at d) where
    passed : (listed_from s (place_at at level) ≡ listed_from s (place_at v.at v.level)) × (at < v.at) × (v.at ≤ length s)
    passed = subst (Scan s at level) h (scan_says s at level)

    pub next_less : length s - d < length s - at
    next_less = let x = passed in let y = p.near in omega arith

    pub next_again : (from row column : ℕ) (found : Target) → Finding s from row column at level found → Finding s from row column d v.level found
    next_again from row column found inv = (inv.0 ∙ ap (λ (l : List Cell). joined found (cells_at row column l)) (passed.0 ∙ past_list p), inv.1)

pub find_start : (s : List ℕ) (from row column : ℕ) → Finding s from row column from 0 target.None
find_start s from row column = (refl, tt)

pub ruleset find_laws = (find_start, row_less, row_few, row_low, row_again, next_less, next_again, found_all)

-- ---- the aim
pub sheet_lent : (sheets n : ℕ) {m : ℕ} → m ≡ n → m < sheets → 17 ≡ no_sheet sheets n
unfolding no_sheet
sheet_lent sheets n i l = pick_lt _ _ _ _ _ (rw i at l) refl

pub sheet_missing : (sheets n : ℕ) {m : ℕ} → m ≡ n → sheets ≤ m → 11 ≡ no_sheet sheets n
unfolding no_sheet
sheet_missing sheets n i l = pick_nlt _ _ _ _ _ (rw i at l) refl

pub start_place : (len p : ℕ) (k : SheetKind) → place_at (start_by len p k).at 0 ≡ start_by len p k
unfolding start_by place_at pick
start_place len p Worksheet = refl
start_place len p Chart = refl
start_place len p Macro = refl
start_place len p Other = refl

module _ (s : List ℕ) (u sheets n row column : ℕ) where
  abbrev to_aim : Option Sought → Result Aim Refusal
  to_aim (Some x) = on_target u (target_of (cells_at row column (listed_from s (start_by (length s) x.position x.kind))))
  to_aim None = refuse (no_sheet sheets n) 0

  to_aim_lem : (l : List Sheet) (i : ℕ) → nth l i (λ (x : Sheet). to_aim (found_sheet x)) (refuse (no_sheet sheets n) 0) ≡ to_aim (nth l i found_sheet None)
  unfolding nth
  to_aim_lem [] i = refl
  to_aim_lem (x ∷ l) zero = refl
  to_aim_lem (x ∷ l) (suc i) = to_aim_lem l i

  aimed : (q : Option Sought) → nth (sheets_of s) n found_sheet None ≡ q → aim_in s u sheets n row column ≡ to_aim q
  unfolding aim_in
  aimed q h = to_aim_lem (sheets_of s) n ∙ ap to_aim h

  pub aim_absent : nth (sheets_of s) n found_sheet None ≡ None → aim_in s u sheets n row column ≡ refuse (no_sheet sheets n) 0
  aim_absent h = aimed None h

  pub aim_there : (x : Sought) (t : Target) → nth (sheets_of s) n found_sheet None ≡ Some x → t ≡ target_of (cells_at row column (listed_from s (place_at (start_by (length s) x.position x.kind).at 0))) → aim_in s u sheets n row column ≡ on_target u t
  aim_there x t h e =
      aimed (Some x) h
      ∙ ap (on_target u) (sym (e ∙ ap (λ (p : Place). target_of (cells_at row column (listed_from s p))) (start_place (length s) x.position x.kind)))

pub aim_within : (len u : ℕ) (t : Target) → TargetWithin len t → AimWithin len (on_target u t)
aim_within len u target.None w = tt
aim_within len u (target.One k f) w = w
aim_within len u target.Many w = tt

pub ruleset aim_laws = (aim_absent, aim_there, aim_within)

-- ---- from the aim to the correction
abbrev planned : Field → ℕ → Result ℕ Refusal → Correction
planned k f (Ok n) = writes k f n
planned k f (Err e) = refuses e.number e.offset

abbrev on_aim : NewValue → Result Aim Refusal → Correction
on_aim v (Err e) = refuses e.number e.offset
on_aim v (Ok a) = planned a.kind a.field (plan_of a.kind v a.unique)

plan_is : (c : Cell) (p : Result ℕ Refusal) → on_plan c p ≡ planned c.kind c.field p
plan_is c (Ok n) = refl
plan_is c (Err e) = refl

cells_aim : (v : NewValue) (u : ℕ) (l : List Cell) → on_cells v u l ≡ on_aim v (on_target u (target_of l))
cells_aim v u [] = refl
cells_aim v u (c ∷ []) = plan_is c (plan_of c.kind v u)
cells_aim v u (c ∷ d ∷ l) = refl

module _ (s : List ℕ) (u sheets n row column : ℕ) (v : NewValue) where
  sheets_aim : (l : List Sheet) (i : ℕ) → nth l i (λ (x : Sheet). on_cells v u (cells_at row column (listed_of s x))) (refuses (no_sheet sheets n) 0) ≡ on_aim v (nth l i (λ (x : Sheet). on_target u (target_of (cells_at row column (listed_of s x)))) (refuse (no_sheet sheets n) 0))
  unfolding nth
  sheets_aim [] i = refl
  sheets_aim (x ∷ l) zero = cells_aim v u (cells_at row column (listed_of s x))
  sheets_aim (x ∷ l) (suc i) = sheets_aim l i

  correction_aim : (a : Result Aim Refusal) → aim_in s u sheets n row column ≡ a → correction_in s u sheets n row column v ≡ on_aim v a
  unfolding aim_in
  correction_aim a h = sheets_aim (sheets_of s) n ∙ ap (on_aim v) h

  module _ (e : Refusal) (h : aim_in s u sheets n row column ≡ Err e) where
    pub kept_answer : answer_of (correction_in s u sheets n row column v) ≡ Err e
    kept_answer = ap answer_of (correction_aim _ h)

    pub kept_stream : stream_after s (correction_in s u sheets n row column v) ≡ s
    kept_stream = ap (stream_after s) (correction_aim _ h)

  module _ (a : Aim) (h : aim_in s u sheets n row column ≡ Ok a) where
    plan_answer : (p : Result ℕ Refusal) → answer_of (planned a.kind a.field p) ≡ change.answer_of p
    plan_answer (Ok m) = refl
    plan_answer (Err e) = refl

    plan_stream : (p : Result ℕ Refusal) → stream_after s (planned a.kind a.field p) ≡ changed s a.kind a.field p
    plan_stream (Ok m) = refl
    plan_stream (Err e) = refl

    pub written_answer : answer_of (correction_in s u sheets n row column v) ≡ change.answer_of (plan_of a.kind v a.unique)
    written_answer = ap answer_of (correction_aim _ h) ∙ plan_answer (plan_of a.kind v a.unique)

    pub written_stream : stream_after s (correction_in s u sheets n row column v) ≡ changed s a.kind a.field (plan_of a.kind v a.unique)
    written_stream = ap (stream_after s) (correction_aim _ h) ∙ plan_stream (plan_of a.kind v a.unique)

pub ruleset correct_laws = (kept_answer, kept_stream, written_answer, written_stream)

-- ---- after the check
module _ (s : List ℕ) (lent sheets n row column : ℕ) (v : NewValue) where
  pub wrong_checked : (e : Refusal) → checked_of s lent ≡ Err e → correction_of s lent sheets n row column v ≡ refuses e.number e.offset
  unfolding correction_of
  wrong_checked e h = ap (on_checked refuses (λ (g : Globals). correction_in s g.unique sheets n row column v)) h

  pub right_checked : (g : Globals) → checked_of s lent ≡ Ok g → correction_of s lent sheets n row column v ≡ correction_in s g.unique sheets n row column v
  unfolding correction_of
  right_checked g h = ap (on_checked refuses (λ (g : Globals). correction_in s g.unique sheets n row column v)) h

pub ruleset checked_laws = (wrong_checked, right_checked)

-- ---- a value field's place, as the code adds it up
part_small : (f : Field) → (part_of f ≤ 18) × (start_of f ≤ 2)
part_small NoField = omega arith
part_small Float = omega arith
part_small RkWord = omega arith
part_small TextIndex = omega arith
part_small TruthError = omega arith
part_small StoredResult = omega arith

module _ (k : ℕ) (f : Field) (few : k ≤ 256) where
  pub part_bytes : k * part_of f ≤ 4608
  part_bytes = let m = part_small f in mul-le-mul few m.0

pub start_bytes : (f : Field) → start_of f ≤ 2
start_bytes f = (part_small f).1

pub ruleset place_laws = (part_bytes, start_bytes)

-- ---- the cell of the address in a row: the column lies in it
pub met_column : (here first n row column : ℕ) → in_row here first n row column ≡ true → (first ≤ column) × (column < first + n)
met_column here first n row column h = let a = row_holds here first n row column h in (a.1, a.2)
