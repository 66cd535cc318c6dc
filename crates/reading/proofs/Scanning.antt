-- The laws of a scan, with what a call gave as the proofs have it, and what a scanned record says of the listing. Assumes nothing.
use Prim.Native.Nat.{ℕ, ◌+◌, ◌-◌, ◌≤◌, ◌<◌}
use mathlib.Core.Path.{◌≡◌, refl, sym, ap, ◌∙◌, subst}
use mathlib.Core.Bool.{Bool, true, false}
use mathlib.Core.List.{List, [], ◌++◌}
use native.Mathlib.Omega.{arith}
use lib.Dec.{eqb}
use lib.ListN.{length}
use Rattle.std.specs.Prelude.{Option, None, Some}
use borrow.Author.Tests.{eqb-true, eqb-false}
use Rattle.steps.specs.Choice.{pick}
use Rattle.steps.proofs.Choice.{pick_any, pick_by, pick_eq, pick_ne, never}
use Rattle.steps.specs.Items.{Item, gives, skips, ends, onto}
use Rattle.record.specs.declared.Header.{Header}
use Rattle.record.specs.declared.Header.TheVariants.{Record, Cut, End}
use Rattle.record.specs.Record.{header_at}
use Rattle.record.proofs.Laws.{whole}
use Rattle.cell.specs.declared.Cell.{Cell}
use Rattle.cell.specs.declared.Shape.{Shape}
use Rattle.cell.specs.declared.Shape.TheVariants.{BLANK, NUMBER, RK, LABELSST, BOOLERR, MULRK, MULBLANK, FORMULA, OTHER}
use Rattle.cell.specs.Cells.{shape_of, is_cell, row_at, first_at, count_of, cells_of}
use Rattle.cell.proofs.Sizes.{count_room}
use Rattle.reading.specs.declared.Place.{Place}
use Rattle.reading.specs.Cells.{place_at, other_item, on_found, record_item, on_header as item_on, cell_item, remaining, listed_from}
use Rattle.reading.proofs.Laws.{count_small, found_absent, listed_step, record_cells}
use Rattle.reading.specs.declared.RecordCells.{RecordCells}
use Rattle.reading.specs.declared.Scanned.{Scanned}
use Rattle.reading.specs.declared.Scanned.TheVariants as scanned
use Rattle.reading.specs.Scan.{past, record_scan, on_header, scan_of, other, Leads, here, over, Past, PastFrom}

-- ---- a record with cells has its row and first column
module _ (s : List ℕ) (at id z e n : ℕ) {r : Header} (is : r ≡ header_at s at) (h : r ≡ Record id z e) (count : n ≡ count_of (shape_of id) s at z) (some : n ≡ 0 → ⊥) where
  pub first_room : at + 6 + 2 ≤ length s
  first_room = let x = whole s at id z e (sym is ∙ h) in let y = count_room s at z 0 (shape_of id) (omega arith) in omega arith

  pub row_room : at + 4 + 2 ≤ length s
  row_room = let x = first_room in omega arith

-- ---- what a scanned record says of the listing from its place on
-- the cells of the record, which come first in the list
pub record Row (s : List ℕ) (at : ℕ) (x : RecordCells) : Type 0 where
  pub size : ℕ
  pub header : header_at s at ≡ Record x.id size x.next
  pub count : x.count ≡ count_of (shape_of x.id) s at size
  pub some : 0 < x.count
  pub few : x.count ≤ 256
  pub row_is : x.row ≡ row_at s at
  pub first_is : x.first ≡ first_at s at
  pub list : listed_from s (place_at at 0) ≡ cells_of s (shape_of x.id) at size ++ listed_from s (place_at x.next 0)
  pub ahead : at < x.next
  pub within : x.next ≤ length s

abbrev pub Scan : List ℕ → ℕ → ℕ → Option Scanned → Type 0
Scan s at level (Some (scanned.Cells x)) = (level ≡ 0) × Row s at x
Scan s at level (Some (scanned.Past v)) = (listed_from s (place_at at level) ≡ listed_from s (place_at v.at v.level)) × (at < v.at) × (v.at ≤ length s)
Scan s at level None = listed_from s (place_at at level) ≡ []

module _ (s : List ℕ) (at level : ℕ) where
  -- where the listing goes past a record that ends at e
  abbrev Onward : ℕ → Item Place Cell → Type 0
  Onward e (gives c t) = ⊥
  Onward e (skips t) = (t.at ≡ e) × (place_at t.at t.level ≡ t)
  Onward e ends = Unit {0}

  by_item : (e : ℕ) → at < e → e ≤ length s → (y : Item Place Cell) → cell_item s (place_at at level) ≡ y → Onward e y → Scan s at level (past y)
  by_item e a w (gives c t) i o = absurd o
  by_item e a w (skips t) i o = (listed_step s (place_at at level) ∙ ap (λ (x : Item Place Cell). onto x (λ p. listed_from s p)) i ∙ ap (listed_from s) (sym o.1), omega (arith, o.0), omega (arith, o.0))
  by_item e a w ends i o = listed_step s (place_at at level) ∙ ap (λ (x : Item Place Cell). onto x (λ p. listed_from s p)) i

  no_record : (h : Header) → item_on s (place_at at level) h ≡ ends → header_at s at ≡ h → Scan s at level None
  unfolding cell_item place_at
  no_record h e i = listed_step s (place_at at level) ∙ ap (λ (x : Item Place Cell). onto x (λ p. listed_from s p)) (ap (item_on s (place_at at level)) i ∙ e)

  module _ (id z e : ℕ) (h : header_at s at ≡ Record id z e) where
    onward : Onward e (other_item (place_at 0 level) id e)
    unfolding other_item place_at
    onward = pick_any (Onward e) _ (pick_any (Onward e) _ (refl, refl) tt) (pick_any (Onward e) _ (pick_any (Onward e) _ tt (refl, refl)) (refl, refl))

    by_other : record_item s (place_at at level) id z e ≡ other_item (place_at at level) id e → Scan s at level (past (other_item (place_at 0 level) id e))
    unfolding cell_item place_at other_item
    by_other g = let w = whole s at id z e h in by_item e (omega arith) (omega arith) (other_item (place_at 0 level) id e) (ap (item_on s (place_at at level)) h ∙ g) onward

    record_says : Scan s at level (record_scan s at level id z e)
    unfolding record_scan record_item place_at
    record_says =
        let w = whole s at id z e h in
        let n = count_small (shape_of id) s at z in
        pick_by (Scan s at level) (eqb level 0)
        (λ i. let l = eqb-true level 0 i in
        pick_by (Scan s at level) (eqb (count_of (shape_of id) s at z) 0)
        (λ j. let k = eqb-true (count_of (shape_of id) s at z) 0 j in
        by_other (sym (pick_eq _ _ _ level 0 l refl) ∙ ap (on_found (place_at at level) id e) (sym (found_absent s (shape_of id) at z 0 (omega arith)))))
        (λ j. let k = eqb-false (count_of (shape_of id) s at z) 0 j in (
          l,
          record {
            size = z;
            header = h;
            count = refl;
            some = omega arith;
            few = n;
            row_is = refl;
            first_is = refl;
            list = record_cells s at id z e h (omega arith);
            ahead = omega arith;
            within = omega arith;
          },
        )))
        (λ i. by_other (sym (pick_ne _ _ _ level 0 (eqb-false level 0 i) refl)))

  header_says : (h : Header) → header_at s at ≡ h → Scan s at level (on_header s at level h)
  header_says (Record id z e) h = record_says id z e h
  header_says Cut h = no_record Cut refl h
  header_says End h = no_record End refl h

  pub scan_says : Scan s at level (scan_of s at level)
  unfolding scan_of
  scan_says = header_says (header_at s at) refl

-- ---- past records without cells
pub other_typed : (id j : ℕ) (x : Bool) → id ≡ j → x ≡ other j → x ≡ other id
other_typed id j x e i = i ∙ ap other (sym e)

no_cells : (h : Shape) (s : List ℕ) (at z : ℕ) → is_cell h ≡ false → count_of h s at z ≡ 0
no_cells BLANK s at z e = never (cc)
no_cells NUMBER s at z e = never (cc)
no_cells RK s at z e = never (cc)
no_cells LABELSST s at z e = never (cc)
no_cells BOOLERR s at z e = never (cc)
no_cells MULRK s at z e = never (cc)
no_cells MULBLANK s at z e = never (cc)
no_cells FORMULA s at z e = never (cc)
no_cells OTHER s at z e = refl

module _ (s : List ℕ) (at t z e : ℕ) (h : header_at s at ≡ Record t z e) where
  skipped_by : (a b c : Bool) → is_cell (shape_of t) ≡ a → eqb t 0x0809 ≡ b → eqb t 0x000A ≡ c → pick a false (pick b false (pick c false true)) ≡ true → item_on s (place_at at 0) (Record t z e) ≡ skips (place_at e 0)
  unfolding pick record_item other_item place_at
  skipped_by true b c i j k x = never (cc)
  skipped_by false true c i j k x = never (cc)
  skipped_by false false true i j k x = never (cc)
  skipped_by false false false i j k x =
      let n = no_cells (shape_of t) s at z i in
      ap (on_found (place_at at 0) t e) (sym (found_absent s (shape_of t) at z 0 (omega arith)))
      ∙ sym (pick_ne _ _ _ t 0x0809 (eqb-false t 0x0809 j) (pick_ne _ _ _ t 0x000A (eqb-false t 0x000A k) refl))

  pub other_skipped : other t ≡ true → cell_item s (place_at at 0) ≡ skips (place_at e 0)
  unfolding other cell_item place_at
  other_skipped x = ap (item_on s (place_at at 0)) h ∙ skipped_by (is_cell (shape_of t)) (eqb t 0x0809) (eqb t 0x000A) refl refl refl x

-- what a record without a cell doesn't change is the same at both places
pub leads_same : {A : Type 0} (s : List ℕ) (f : Place → A) → ((v w : Place) → cell_item s v ≡ skips w → f v ≡ f w) → (u v : Place) → Leads s u v → f u ≡ f v
leads_same s f same u v here = refl
leads_same s f same u v (over {v = w} p e) = leads_same s f same u w p ∙ same w v e

pub past_list : {s : List ℕ} {level from r : ℕ} → Past s level from r → listed_from s (place_at from level) ≡ listed_from s (place_at r level)
past_list {s} {level} {from} {r} p =
    leads_same s (listed_from s) (λ v w e. listed_step s v ∙ ap (λ (x : Item Place Cell). onto x (λ t. listed_from s t)) e) (place_at from level) (place_at r level) p.leads

pub past_start : (s : List ℕ) (level at : ℕ) → Past s level at at
past_start s level at = record { leads = here; near = omega arith; nearer = λ f. absurd (f refl) }

module _ (s : List ℕ) (level from at : ℕ) (p : Past s level from at) (l : level ≡ 0) {r : Header} (is : r ≡ header_at s at) (t z e : ℕ) (h : r ≡ Record t z e) {x : Bool} (x-is : x ≡ other t) (x-yes : x ≡ true) where
  pub past_nearer : length s - e < length s - at
  past_nearer = let w = whole s at t z e (sym is ∙ h) in omega arith

  pub past_on : Past s level from e
  past_on =
      let w = past_nearer in
      let n = p.near in
      record {
        leads = over p.leads (subst (λ (v : ℕ). cell_item s (place_at at v) ≡ skips (place_at e v)) (sym l) (other_skipped s at t z e (sym is ∙ h) (sym x-is ∙ x-yes)));
        near = omega arith;
        nearer = λ _. omega arith;
      }

pub ruleset past_laws = (past_start, past_nearer, past_on)

pub from_start : (s : List ℕ) (v : Place) → PastFrom s v v
from_start s v = record { leads = here; near = omega arith }

pub from_past : (s : List ℕ) (v : Place) → v.part ≡ 0 → (r : ℕ) → Past s v.level v.at r → PastFrom s v (record { at = r; part = v.part; level = v.level })
unfolding place_at remaining
from_past s v e r p =
    let at_v : place_at v.at v.level ≡ v = (λ i. record { at = v.at; part = sym e i; level = v.level }) in
    let at_r : place_at r v.level ≡ record { at = r; part = v.part; level = v.level } = (λ i. record { at = r; part = sym e i; level = v.level }) in
    record {
      leads = subst (Leads s v) at_r (subst (λ (w : Place). Leads s w (place_at r v.level)) at_v p.leads);
      near = let n = p.near in omega arith;
    }
