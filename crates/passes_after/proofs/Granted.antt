-- From a correction that is granted to what it has. Assumes nothing.
use Prim.Native.Nat.{ℕ, ◌+◌, ◌*◌, ◌≤◌}
use mathlib.Core.Path.{◌≡◌, refl, ap, ◌∙◌, subst}
use mathlib.Core.List.{List, [], ◌∷◌}
use mathlib.Core.Bool.{◌&&◌}
use native.Mathlib.Omega.{arith}
use native.Mathlib.Nat.{suc-mul, mul-le-mul_right}
use lib.Dec.{eqb}
use Rattle.steps.proofs.Choice.{never, pick_any}
use Rattle.steps.specs.Items.{Item, nth}
use Rattle.record.specs.declared.Header.{Header}
use Rattle.record.specs.declared.Header.TheVariants.{Record, Cut, End}
use Rattle.record.specs.Record.{header_at}
use Rattle.record.proofs.Laws.{whole}
use Rattle.value.specs.declared.Field.{Field}
use Rattle.value.specs.Value.{width_of}
use Rattle.cell.specs.declared.Shape.{Shape}
use Rattle.cell.specs.declared.Cell.{Cell}
use Rattle.cell.specs.declared.Found.{Found}
use Rattle.std.specs.Prelude.{Option, None, Some, Result, Ok, Err}
use Rattle.refusal.specs.declared.Refusal.{Refusal}
use Rattle.cell.specs.Cells.{shape_of, field_of, part_of, count_of, found_of}
use Rattle.new_value.specs.declared.NewValue.{NewValue}
use Rattle.new_value.specs.Change.{plan_of}
use Rattle.record_after.specs.Claims.{place_of}
use Rattle.record_after.proofs.Fields.{field_in}
use Rattle.cell.proofs.Sizes.{count_lies}
use Rattle.record_after.proofs.Records.{cell_place}
use Rattle.sheet_agreement.specs.Agreement.{Sheet}
use Rattle.globals.specs.declared.Globals.{Globals}
use Rattle.globals.specs.Sheets.{sheets_of}
use Rattle.workbook.specs.Check.{Checked, Right, checked_of, on_checked}
use Rattle.reading.specs.declared.Place.{Place}
use Rattle.reading.specs.Cells.{place_at, next_part, other_item, on_found, record_item, on_header, cell_item, remaining, listed_from}
use Rattle.reading.specs.Reading.{listed_of}
use Rattle.reading.proofs.Laws.{Here, found_there}
use Rattle.correction.specs.Correction.{refuses, writes, cells_at, on_plan, on_cells, no_sheet, correction_of}
use Rattle.record_chain.specs.Chain.{here, Reach, Every, Nth}
use Rattle.record_chain.proofs.Chain.{chain_trans, reach_one, Keeps, collect_every, nth_either}
use Rattle.passes_after.specs.Granted.{Granted, Listed}

refuses_not : {A : Type 0} {n o p b : ℕ} {f : Field} → refuses n o ≡ writes f p b → A
refuses_not h = never (cc)

-- ---- the correction, case by case
module _ (s : List ℕ) (lent sheets n row column : ℕ) (v : NewValue) (f : Field) (p b : ℕ) where
  module _ (g : Globals) (passes : checked_of s lent ≡ Right g) (x : Sheet) (is : Nth (sheets_of s) n x) where
    by_plan : (c : Cell) → cells_at row column (listed_of s x) ≡ c ∷ [] → (y : Result ℕ Refusal) → plan_of c.kind v g.unique ≡ y → on_plan c y ≡ writes f p b → Granted s lent n row column v f p b
    by_plan c i (Ok m) j h =
        let q : m ≡ b = cc in
        record { globals = g; passes = passes; sheet = x; nth = is; cell = c; only = i; plan = j ∙ ap Ok q; kind = cc; field = cc }
    by_plan c i (Err r) j h = refuses_not h

    by_cells : (l : List Cell) → cells_at row column (listed_of s x) ≡ l → on_cells v g.unique l ≡ writes f p b → Granted s lent n row column v f p b
    by_cells [] i h = refuses_not h
    by_cells (c ∷ []) i h = by_plan c i (plan_of c.kind v g.unique) refl h
    by_cells (c ∷ d ∷ l) i h = refuses_not h

  by_checked : (x : Checked) → checked_of s lent ≡ x
      → on_checked refuses (λ (g : Globals). nth (sheets_of s) n (λ (x : Sheet). on_cells v g.unique (cells_at row column (listed_of s x))) (refuses (no_sheet sheets n) 0)) x ≡ writes f p b → Granted s lent n row column v f p b
  by_checked (Ok g) i h =
      nth_either (λ (x : Sheet). on_cells v g.unique (cells_at row column (listed_of s x))) (refuses (no_sheet sheets n) 0) (writes f p b) (Granted s lent n row column v f p b) (sheets_of s) n
      (λ x j e. by_cells g i x j (cells_at row column (listed_of s x)) refl e) (λ _ e. refuses_not e) h
  by_checked (Err r) i h = refuses_not h

  pub granted : correction_of s lent sheets n row column v ≡ writes f p b → Granted s lent n row column v f p b
  unfolding correction_of
  granted h = by_checked (checked_of s lent) refl h

-- ---- each listed cell stands in a record
module _ (s : List ℕ) (from : ℕ) where
  abbrev From : Place → Type 0
  From v = Reach s from v.at

  abbrev On : Item Place Cell → Type 0
  On x = Keeps From (Listed s from) x

  module _ (v : Place) (q : From v) (t z e : ℕ) (h : header_at s v.at ≡ Record t z e) where
    past : Reach s from e
    past = chain_trans q (reach_one s h)

    on_other : On (other_item v t e)
    unfolding other_item place_at
    on_other = pick_any On _ (pick_any On _ past tt) (pick_any On _ (pick_any On _ tt past) past)

    on_found_lem : (x : Option Found) → found_of s (shape_of t) v.at z v.part ≡ x → On (on_found v t e x)
    unfolding place_at next_part
    on_found_lem (Some f) i = (
      record { at = v.at; type = t; size = z; end = e; part = v.part; left = f.left; reached = q; header = h; found = i },
      pick_any From _ past q,
    )
    on_found_lem None i = on_other

    on_record : On (record_item s v t z e)
    unfolding record_item
    on_record = pick_any On _ (on_found_lem (found_of s (shape_of t) v.at z v.part) refl) on_other

  on_header_lem : (v : Place) → From v → (h : Header) → header_at s v.at ≡ h → On (on_header s v h)
  on_header_lem v q (Record t z e) h = on_record v q t z e h
  on_header_lem v q Cut h = tt
  on_header_lem v q End h = tt

  pub listed_each : (v : Place) → From v → Every (Listed s from) (listed_from s v)
  unfolding listed_from cell_item
  listed_each v q = collect_every (cell_item s) From (Listed s from) (λ w r. on_header_lem w r (header_at s w.at) refl) (remaining s) v q

pub every_at : (P : Cell → Type 0) (row column : ℕ) (l : List Cell) → Every P l → Every P (cells_at row column l)
unfolding cells_at
every_at P row column [] e = tt
every_at P row column (c ∷ l) e = pick_any (Every P) (eqb c.row row && eqb c.column column) (e.0, every_at P row column l e.1) (every_at P row column l e.1)

-- the one cell with the address
pub listed_only : (s : List ℕ) (v : Place) (row column : ℕ) (c : Cell) → cells_at row column (listed_from s v) ≡ c ∷ [] → Listed s v.at c
listed_only s v row column c h = (subst (Every (Listed s v.at)) h (every_at (Listed s v.at) row column (listed_from s v) (listed_each s v.at v here))).0

-- ---- where a listed cell has its value field: in its record, past row and column
module _ {s : List ℕ} {from : ℕ} {c : Cell} (l : Listed s from c) where
  abbrev h : Shape
  h = shape_of l.type

  pub listed_here : Here s h l.at l.size l.part c l.left
  listed_here = found_there s h l.at l.size l.part (record { cell = c; left = l.left }) l.found

  pub listed_field : c.field ≡ place_of (field_of h) l.at l.part
  listed_field = ap (λ (x : Cell). x.field) listed_here.cell ∙ (cell_place s (field_of h) l.at l.part).0

  pub listed_kind : c.kind ≡ field_of h
  listed_kind = ap (λ (x : Cell). x.kind) listed_here.cell ∙ (cell_place s (field_of h) l.at l.part).1

  pub field_low : l.at + 8 ≤ c.field
  field_low = let i = listed_field in omega arith

  pub field_high : c.field + width_of c.kind ≤ l.end
  field_high =
      let i = listed_field in
      let j = ap width_of listed_kind in
      let k = listed_here.below in
      let w = whole s l.at l.type l.size l.end l.header in
      let y = (count_lies s l.at l.size l.part h k).0 in
      let m : l.part * part_of (field_of h) + part_of (field_of h) ≤ count_of h s l.at l.size * part_of (field_of h) = rw suc-mul at (mul-le-mul_right (part_of (field_of h)) k) in
      let o = field_in (field_of h) in
      omega arith
