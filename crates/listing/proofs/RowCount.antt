-- The row count: over a record at once, whose cells have one row. Assumes nothing.
use Prim.Native.Nat.{ℕ, zero, suc, ◌+◌, ◌-◌, ◌≤◌, ◌<◌, max}
use mathlib.Core.Path.{◌≡◌, refl, sym, ap, ◌∙◌, subst, subst⁻¹}
use mathlib.Core.List.{List, []}
use Rattle.std.specs.Prelude.{Option}
use native.Mathlib.Omega.{arith}
use lib.ListN.{length}
use lib.Dec.{eqb}
use Rattle.steps.specs.Choice.{pick}
use Rattle.steps.proofs.Choice.{pick_any, pick_eq, pick_ne, refl'}
use Rattle.steps.specs.Items.{Item, gives, skips, ends, onto}
use Rattle.steps.proofs.Items.{Nearer}
use Rattle.byte_numbers.specs.Bytes.{u16_at}
use Rattle.record.specs.declared.Header.{Header}
use Rattle.record.specs.declared.Header.TheVariants.{Record, Cut, End}
use Rattle.record.specs.Record.{header_at}
use Rattle.record.proofs.Laws.{whole}
use Rattle.cell.proofs.Sizes.{count_room}
use Rattle.cell.specs.declared.Cell.{Cell}
use Rattle.cell.specs.Cells.{shape_of, row_at, count_of, cell_from, cell_of}
use Rattle.reading.specs.declared.Place.{Place}
use Rattle.reading.specs.Cells.{place_at, next_part, other_item, on_header, cell_item, remaining, listed_from}
use Rattle.reading.specs.Reading.{rows_of}
use Rattle.reading.proofs.Laws.{found_absent, cell_here, item_near, listed_step}
use Rattle.listing.specs.declared.Step.{Step}
use Rattle.listing.specs.declared.RowStep.{RowStep}
use Rattle.listing.specs.Parts.{item_of, over_other, RowsBy}
use Rattle.listing.proofs.Laws.{inside, by_found}

rows_none : {l : List Cell} → l ≡ [] → rows_of l ≡ 0
unfolding rows_of
rows_none h = ap rows_of h

module _ (s : List ℕ) (at t z e : ℕ) (head : header_at s at ≡ Record t z e) where
  abbrev part_at : ℕ → Place
  part_at k = record { at = at; part = k; level = 0 }

  abbrev count : ℕ
  count = count_of (shape_of t) s at z

  abbrev after : ℕ → Place
  after k = pick (eqb (count - (k + 1)) 0) (place_at e 0) (next_part (part_at k))

  rows_here : (k : ℕ) → k < count → rows_of (listed_from s (part_at k)) ≡ max (row_at s at + 1) (rows_of (listed_from s (after k)))
  unfolding rows_of cell_of cell_from
  rows_here k l = ap rows_of (listed_step s (part_at k) ∙ ap (λ (x : Item Place Cell). onto x (λ p. listed_from s p)) (cell_here s at t z e head k l))

  rows_parts : (j k : ℕ) → k + suc j ≡ count → rows_of (listed_from s (part_at k)) ≡ max (row_at s at + 1) (rows_of (listed_from s (place_at e 0)))
  unfolding next_part
  rows_parts zero k h =
      rows_here k (omega arith)
      ∙ ap (λ (p : Place). max (row_at s at + 1) (rows_of (listed_from s p))) (sym (pick_eq (place_at e 0) (place_at e 0) (next_part (part_at k)) (count - (k + 1)) 0 (omega arith) refl))
  rows_parts (suc j) k h =
      let i = rows_parts j (k + 1) (omega arith) in
      let n = rows_here k (omega arith) ∙ ap (λ (p : Place). max (row_at s at + 1) (rows_of (listed_from s p))) (sym (pick_ne (part_at (k + 1)) (place_at e 0) (next_part (part_at k)) (count - (k + 1)) 0 (λ x. omega arith) refl)) in
      n ∙ ap (max (row_at s at + 1)) i ∙ (let m : max (row_at s at + 1) (max (row_at s at + 1) (rows_of (listed_from s (place_at e 0)))) ≡ max (row_at s at + 1) (rows_of (listed_from s (place_at e 0))) = omega arith in m)

  rows_record : (k : ℕ) → k < count → rows_of (listed_from s (part_at k)) ≡ max (row_at s at + 1) (rows_of (listed_from s (place_at e 0)))
  rows_record k l = rows_parts (count - (k + 1)) k (omega arith)

-- a record that has no cell here gives none
abbrev NoCell : Item Place Cell → Type 0
NoCell (gives c t) = ⊥
NoCell (skips t) = Unit {0}
NoCell ends = Unit {0}

module _ (s : List ℕ) (v : Place) (t z e : ℕ) where
  no_cell : NoCell (other_item v t e)
  unfolding other_item
  no_cell = pick_any NoCell _ (pick_any NoCell _ tt tt) (pick_any NoCell _ (pick_any NoCell _ tt tt) tt)

  over_by : (x : Item Place Cell) → cell_item s v ≡ x → Nearer (remaining s) v x → NoCell x → RowsBy s v (over_other x)
  over_by (gives c p) h n f = absurd f
  over_by (skips p) h n f =
      let e : rows_of (listed_from s v) ≡ rows_of (listed_from s p) = ap rows_of (listed_step s v ∙ ap (λ (y : Item Place Cell). onto y (λ q. listed_from s q)) h) in
      (omega arith, n)
  over_by ends h n f = rows_none (listed_step s v ∙ ap (λ (y : Item Place Cell). onto y (λ q. listed_from s q)) h)

  over : cell_item s v ≡ other_item v t e → (r : Option RowStep) → r ≡ over_other (other_item v t e) → RowsBy s v r
  over h r i = subst⁻¹ (RowsBy s v) i (over_by (other_item v t e) h (subst (Nearer (remaining s) v) h (item_near s v)) no_cell)

  module _ (head : header_at s v.at ≡ Record t z e) where
    pub rows_inside : (r : Option RowStep) → (v.level ≡ 0 → ⊥) → r ≡ over_other (other_item v t e) → RowsBy s v r
    unfolding cell_item
    rows_inside r h i = over (ap (on_header s v) head ∙ sym (inside s v t z e (other_item v t e) h refl)) r i

    pub rows_over : (r : Option RowStep) → v.level ≡ 0 → count_of (shape_of t) s v.at z ≤ v.part → r ≡ over_other (other_item v t e) → RowsBy s v r
    unfolding cell_item
    rows_over r level past i = over (ap (on_header s v) head ∙ sym (by_found s v t z e (other_item v t e) level refl (sym (found_absent s (shape_of t) v.at z v.part past)) refl)) r i

-- a step over a record whose k-th cell is there
module _ (s : List ℕ) (v : Place) (t z e : ℕ) (head : header_at s v.at ≡ Record t z e) (level : v.level ≡ 0) (there : v.part < count_of (shape_of t) s v.at z) where
  pub rows_cells : rows_of (listed_from s v) ≡ max (u16_at s (v.at + 4) + 1) (rows_of (listed_from s (place_at e 0)))
  unfolding row_at
  rows_cells =
      ap (λ (y : ℕ). rows_of (listed_from s (record { at = v.at; part = v.part; level = y }))) level
      ∙ rows_record s v.at t z e head v.part there

  pub rows_past : remaining s (place_at e 0) < remaining s v
  unfolding remaining place_at
  rows_past = let r = whole s v.at t z e head in omega arith

  pub row_within : v.at + 4 + 2 ≤ length s
  row_within = let w = whole s v.at t z e head in let r = count_room s v.at z v.part (shape_of t) there in omega arith

pub head_is : (s : List ℕ) (at t z e : ℕ) {r : Header} → r ≡ header_at s at → r ≡ Record t z e → header_at s at ≡ Record t z e
head_is s at t z e is h = sym is ∙ h

module _ (s : List ℕ) (v : Place) {r : Header} (is : r ≡ header_at s v.at) where
  pub rows_cut : r ≡ Cut → rows_of (listed_from s v) ≡ 0
  unfolding cell_item
  rows_cut h = rows_none (listed_step s v ∙ ap (λ (x : Header). onto (on_header s v x) (λ p. listed_from s p)) (sym is ∙ h))

  pub rows_done : r ≡ End → rows_of (listed_from s v) ≡ 0
  unfolding cell_item
  rows_done h = rows_none (listed_step s v ∙ ap (λ (x : Header). onto (on_header s v x) (λ p. listed_from s p)) (sym is ∙ h))

pub by_other : (i : Item Place Cell) (y : Option RowStep) {r x : Step} → item_of r ≡ i → r ≡ x → y ≡ over_other (item_of x) → y ≡ over_other i
by_other i y is h g = g ∙ ap over_other (ap item_of (sym h) ∙ is)

pub ruleset row_laws = (row_within, rows_inside, rows_over, rows_cells, rows_past, head_is, rows_cut, rows_done, by_other, refl')

-- the rows counted: the most so far, the others from v on
abbrev pub Counted : List ℕ → Place → ℕ → Place → Type 0
Counted s v₀ most v = rows_of (listed_from s v₀) ≡ max most (rows_of (listed_from s v))
