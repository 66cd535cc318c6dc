-- The value fields of two listed cells don't overlap. Assumes nothing.
use Prim.Native.Nat.{ℕ, ◌≤◌, ◌<◌}
use mathlib.Core.Path.{◌≡◌, refl, sym, ap, ◌∙◌}
use mathlib.Core.List.{List}
use mathlib.Core.Logic.{◌⊎◌, inl, inr}
use native.Mathlib.Omega.{arith}
use Rattle.steps.proofs.Choice.{pick_any}
use Rattle.steps.specs.Items.{Item}
use Rattle.record.specs.declared.Header.{Header}
use Rattle.record.specs.declared.Header.TheVariants.{Record, Cut, End}
use Rattle.record.specs.Record.{header_at}
use Rattle.value.specs.declared.Field.{Field}
use Rattle.value.specs.Value.{width_of}
use Rattle.cell.specs.declared.Cell.{Cell}
use Rattle.cell.specs.declared.Found.{Found}
use Rattle.std.specs.Prelude.{Option, None, Some}
use Rattle.cell.specs.Cells.{shape_of, field_of, found_of}
use Rattle.record_after.specs.Claims.{place_of}
use Rattle.record_after.proofs.Fields.{field_in}
use Rattle.sheet_agreement.specs.Agreement.{Sheet}
use Rattle.globals.specs.Sheets.{sheets_of}
use Rattle.reading.specs.declared.Place.{Place}
use Rattle.reading.specs.Cells.{place_at, next_part, other_item, on_found, record_item, on_header, cell_item, remaining, listed_from}
use Rattle.reading.specs.Reading.{start_of, listed_of}
use Rattle.record_chain.specs.Chain.{here, Nth}
use Rattle.record_chain.specs.Tops.{SheetStands}
use Rattle.record_chain.proofs.Chain.{chain_trans, over, over_ahead, reach_one, reach_ahead, beside_cases, every_nth}
use Rattle.record_chain.proofs.Sheets.{sheets_stand, sheets_apart}
use Rattle.passes_after.specs.Granted.{Listed}
use Rattle.passes_after.proofs.Granted.{listed_field, listed_kind, field_low, field_high}
use Rattle.reads_after.specs.Parts.{ListedTo}
use Rattle.reads_after.proofs.Fields.{places_rise, places_differ, above}
use Rattle.reads_after.proofs.Found.{field_within, sheet_cells}
use Rattle.reads_after.specs.Fields.{Before, InOrder, AcrossSheets}
use Rattle.reads_after.proofs.Ordered.{Ordered, Leads, ordered_nth, collect_ordered}

-- ---- in one sheet
-- a cell that is listed from v on: in a later record, or in the same and not before
record From (s : List ℕ) (v : Place) (c : Cell) : Type 0 where
  listed : Listed s v.at c
  part : listed.at ≡ v.at → v.part ≤ listed.part

-- two cells of one record
same_record : {s : List ℕ} {x y : ℕ} {c d : Cell} (i : Listed s x c) (j : Listed s y d) → i.at ≡ j.at → i.part < j.part → Before c d
same_record {s} {x} {y} {c} {d} i j q l =
    let m = i.header in
    let n = j.header in
    let o : header_at s i.at ≡ header_at s j.at = ap (header_at s) q in
    let t : i.type ≡ j.type = cc in
    let f : Field = field_of (shape_of j.type) in
    let g : c.field ≡ place_of f j.at i.part = listed_field i ∙ (λ k. place_of (field_of (shape_of (t k))) (q k) i.part) in
    let h : d.field ≡ place_of f j.at j.part = listed_field j in
    let w : width_of c.kind ≡ width_of f = ap width_of (listed_kind i ∙ ap (λ (k : ℕ). field_of (shape_of k)) t) in
    let e = places_rise f j.at i.part j.part l in
    let r = field_in f in
    record { starts = above d.field c.field (omega arith) (λ k. places_differ f j.at i.part j.part (λ k. omega arith) (sym g ∙ sym k ∙ h)); ends = omega arith }

module _ (s : List ℕ) (v : Place) where
  abbrev On : Item Place Cell → Type 0
  On x = Leads (cell_item s) (From s) Before v x

  module _ (t z e : ℕ) (h : header_at s v.at ≡ Record t z e) where
    -- a cell of a later record
    past : (d : Cell) → Listed s e d → From s v d
    past d i =
        let l = over_ahead s v.at e (over s h) in
        let m = reach_ahead s i.reached in
        record {
          listed = record { at = i.at; type = i.type; size = i.size; end = i.end; part = i.part; left = i.left; reached = chain_trans (reach_one s h) i.reached; header = i.header; found = i.found };
          part = λ q. absurd (omega arith);
        }

    on_other : On (other_item v t e)
    unfolding other_item place_at
    on_other = pick_any On _ (pick_any On _ (λ d i. past d i.listed) tt) (pick_any On _ (pick_any On _ tt (λ d i. past d i.listed)) (λ d i. past d i.listed))

    module _ (c : Cell) (left : ℕ) (found : found_of s (shape_of t) v.at z v.part ≡ Some (record { cell = c; left = left })) where
      abbrev this : Listed s v.at c
      this = record { at = v.at; type = t; size = z; end = e; part = v.part; left = left; reached = here; header = h; found = found }

      apart : {x : ℕ} (d : Cell) (i : Listed s x d) → e ≤ i.at → Before c d
      apart d i l = let a = field_within this in let m = field_high this in let n = field_low i in record { starts = omega arith; ends = omega arith }

      next_part_lem : (d : Cell) → From s (next_part v) d → From s v d × Before c d
      unfolding next_part
      next_part_lem d i = (record { listed = i.listed; part = λ q. let l = i.part q in omega arith }, go (beside_cases s i.listed.at i.listed.end (over s i.listed.header) v.at e (inl i.listed.reached) (over s h)))
        where
          go : (v.at ≡ i.listed.at) ⊎ ((e ≤ i.listed.at) ⊎ (i.listed.end ≤ v.at)) → Before c d
          go (inl q) = let l = i.part (sym q) in same_record this i.listed q (omega arith)
          go (inr (inl l)) = apart d i.listed l
          go (inr (inr l)) = let m = reach_ahead s i.listed.reached in let n = over_ahead s i.listed.at i.listed.end (over s i.listed.header) in absurd (omega arith)

      next_record : (d : Cell) → From s (place_at e v.level) d → From s v d × Before c d
      unfolding place_at
      next_record d i = (past d i.listed, apart d i.listed (reach_ahead s i.listed.reached))

      on_there : On (on_found v t e (Some (record { cell = c; left = left })))
      on_there = (
        record { listed = this; part = λ _. omega arith },
        pick_any (λ (w : Place). (d : Cell) → From s w d → From s v d × Before c d) _ next_record next_part_lem,
      )

    on_found_lem : (x : Option Found) → found_of s (shape_of t) v.at z v.part ≡ x → On (on_found v t e x)
    on_found_lem (Some f) i = on_there f.cell f.left i
    on_found_lem None i = on_other

    on_record : On (record_item s v t z e)
    unfolding record_item
    on_record = pick_any On _ (on_found_lem (found_of s (shape_of t) v.at z v.part) refl) on_other

  on_header_lem : (h : Header) → header_at s v.at ≡ h → On (on_header s v h)
  on_header_lem (Record t z e) h = on_record t z e h
  on_header_lem Cut h = tt
  on_header_lem End h = tt

listed_ordered : (s : List ℕ) (v : Place) → Ordered Before (listed_from s v)
unfolding listed_from cell_item
listed_ordered s v = collect_ordered (cell_item s) (From s) Before (λ w. on_header_lem s w (header_at s w.at) refl) (remaining s) v

pub in_order : InOrder
in_order s x i j c d p q l = ordered_nth Before (listed_ordered s (start_of s x)) p q l

-- ---- across sheets
pub across_sheets : AcrossSheets
across_sheets s u g ok m n x y at_x at_y other i j c d p q =
    go (sheets_apart s u g ok m n x y at_x at_y other (stand m x at_x) (stand n y at_y)) (listed m x at_x p) (listed n y at_y q)
  where
    stand : (n : ℕ) (x : Sheet) → Nth (sheets_of s) n x → SheetStands s g x
    stand n x at = sheets_stand s u g ok n x at

    listed : (n : ℕ) (x : Sheet) (at : Nth (sheets_of s) n x) {i : ℕ} {c : Cell} → Nth (listed_of s x) i c → ListedTo s x.position (stand n x at).end c
    listed n x at h = every_nth (ListedTo s x.position (stand n x at).end) (sheet_cells s g x (stand n x at)) h

    before : {p e q f : ℕ} {c d : Cell} → e ≤ q → ListedTo s p e c → ListedTo s q f d → Before c d
    before l a b =
        let v = field_within a.listed in
        let w = field_within b.listed in
        let h = field_high a.listed in
        let o = a.ends in
        record { starts = omega arith; ends = omega arith }

    go : {p e q f : ℕ} → (e ≤ q) ⊎ (f ≤ p) → ListedTo s p e c → ListedTo s q f d → Before c d ⊎ Before d c
    go (inl l) a b = inl (before l a b)
    go (inr l) a b = inr (before l b a)
