-- The listing of a sheet's cells: each step comes nearer the end, and a record's cells come one after the other. Assumes nothing.
use Prim.Native.Nat.{ℕ, zero, suc, ◌+◌, ◌-◌, ◌*◌, ◌≤◌, ◌<◌}
use mathlib.Core.Path.{◌≡◌, refl, sym, ap, ◌∙◌}
use mathlib.Core.List.{List, ◌∷◌, ◌++◌}
use mathlib.Core.Bool.{Bool, true, false}
use native.Mathlib.Omega.{arith}
use native.Mathlib.Nat.{add-zero}
use lib.Dec.{ltb, eqb}
use Rattle.std.specs.Prelude.{Option, None, Some}
use borrow.Author.Tests.{ltb-true, ltb-false}
use Rattle.steps.specs.Choice.{pick}
use Rattle.steps.proofs.Choice.{never, pick_any, pick_by, pick_eq, pick_ne, pick_lt, pick_nlt}
use Rattle.steps.specs.Items.{Item, gives, onto}
use Rattle.steps.proofs.Items.{Nearer, collect_step}
use Rattle.record.specs.declared.Header.{Header}
use Rattle.record.specs.declared.Header.TheVariants.{Record, Cut, End}
use Rattle.record.specs.Record.{header_at}
use Rattle.record.proofs.Laws.{Whole, whole}
use Rattle.value.specs.declared.Field.{Field}
use Rattle.cell.specs.declared.Shape.{Shape}
use Rattle.cell.specs.declared.Shape.TheVariants.{BLANK, NUMBER, RK, LABELSST, BOOLERR, MULRK, MULBLANK, FORMULA, OTHER}
use Rattle.cell.specs.declared.Cell.{Cell}
use Rattle.cell.specs.declared.Found.{Found}
use Rattle.cell.specs.Cells.{shape_of, field_of, part_of, row_at, first_at, sized, multiple, count_of, cells_from, cells_of, cell_of, found_of}
use Rattle.cell.proofs.Sizes.{multiple_below}
use Rattle.reading.specs.declared.Place.{Place}
use Rattle.reading.specs.Cells.{place_at, next_part, other_item, on_found, record_item, on_header, cell_item, remaining, listed_from}

-- ---- a record has at most 256 cells
sized_small : (z e n : ℕ) → n ≤ 256 → sized z e n ≤ 256
unfolding sized
sized_small z e n h = pick_any (λ (m : ℕ). m ≤ 256) _ h (omega arith)

multiple_small : (s : List ℕ) (at z part : ℕ) → multiple s at z part ≤ 256
multiple_small s at z part = go (ltb 256 (multiple s at z part)) refl
  where
    go : (b : Bool) → ltb 256 (multiple s at z part) ≡ b → multiple s at z part ≤ 256
    go true h = let m = multiple_below s at z part (multiple s at z part) 256 refl (ltb-true 256 (multiple s at z part) h) in absurd (omega arith)
    go false h = ltb-false 256 (multiple s at z part) h

pub count_small : (h : Shape) (s : List ℕ) (at z : ℕ) → count_of h s at z ≤ 256
count_small BLANK s at z = sized_small z 6 1 (omega arith)
count_small NUMBER s at z = sized_small z 14 1 (omega arith)
count_small RK s at z = sized_small z 10 1 (omega arith)
count_small LABELSST s at z = sized_small z 10 1 (omega arith)
count_small BOOLERR s at z = sized_small z 8 1 (omega arith)
count_small MULRK s at z = multiple_small s at z 6
count_small MULBLANK s at z = multiple_small s at z 2
count_small FORMULA s at z = pick_any (λ (m : ℕ). m ≤ 256) _ (omega arith) (omega arith)
count_small OTHER s at z = omega arith

-- ---- what a cell that is found says
pub record Here (s : List ℕ) (h : Shape) (at z k : ℕ) (c : Cell) (left : ℕ) : Type 0 where
  pub below : k < count_of h s at z
  pub after : left ≡ count_of h s at z - (k + 1)
  pub cell : c ≡ cell_of s (field_of h) at k

module _ (s : List ℕ) (h : Shape) (at z k : ℕ) where
  pub found_there : (f : Found) → found_of s h at z k ≡ Some f → Here s h at z k f.cell f.left
  unfolding found_of
  found_there f e =
      pick_by (λ (x : Option Found). x ≡ Some f → Here s h at z k f.cell f.left) (ltb k (count_of h s at z))
      (λ i j. (
      let is : ◌≡◌ {A = Found} (record { cell = cell_of s (field_of h) at k; left = count_of h s at z - (k + 1) }) f = cc in
      record { below = ltb-true k (count_of h s at z) i; after = sym (ap (λ (x : Found). x.left) is); cell = sym (ap (λ (x : Found). x.cell) is) }))
      (λ _ j. never (cc)) e

  pub found_is : k < count_of h s at z → Some (record { cell = cell_of s (field_of h) at k; left = count_of h s at z - (k + 1) }) ≡ found_of s h at z k
  unfolding found_of
  found_is l = pick_lt _ _ _ _ _ l refl

  pub found_absent : count_of h s at z ≤ k → None ≡ found_of s h at z k
  unfolding found_of
  found_absent l = pick_nlt _ _ _ _ _ l refl

-- ---- each step comes nearer the end
module _ (s : List ℕ) (v : Place) (t z e : ℕ) (w : Whole s v.at t z e) where
  abbrev Near : Item Place Cell → Type 0
  Near x = Nearer (remaining s) v x

  near_other : Near (other_item v t e)
  unfolding other_item remaining place_at
  near_other =
      pick_any Near _ (pick_any Near _ (omega arith) tt)
      (pick_any Near _ (pick_any Near _ tt (omega arith)) (omega arith))

  near_next : (left : ℕ) (b : Bool) → eqb left 0 ≡ b → v.part < 257 → remaining s (pick b (place_at e v.level) (next_part v)) < remaining s v
  unfolding remaining place_at next_part pick
  near_next left true i l = omega arith
  near_next left false i l = omega arith

  near_found : (x : Option Found) → found_of s (shape_of t) v.at z v.part ≡ x → Near (on_found v t e x)
  near_found (Some f) h =
      let i = found_there s (shape_of t) v.at z v.part f h in
      let n = count_small (shape_of t) s v.at z in
      near_next f.left (eqb f.left 0) refl (omega arith)
  near_found None h = near_other

  near_record : Near (record_item s v t z e)
  unfolding record_item
  near_record = pick_any Near _ (near_found (found_of s (shape_of t) v.at z v.part) refl) near_other

near_header : (s : List ℕ) (v : Place) (h : Header) → header_at s v.at ≡ h → Nearer (remaining s) v (on_header s v h)
near_header s v (Record t z e) h = near_record s v t z e (whole s v.at t z e h)
near_header s v Cut h = tt
near_header s v End h = tt

pub item_near : (s : List ℕ) (v : Place) → Nearer (remaining s) v (cell_item s v)
unfolding cell_item
item_near s v = near_header s v (header_at s v.at) refl

-- one step of the list
pub listed_step : (s : List ℕ) (v : Place) → listed_from s v ≡ onto (cell_item s v) (λ t. listed_from s t)
unfolding listed_from
listed_step s v = collect_step (cell_item s) (remaining s) (item_near s) v

-- ---- a record's cells come one after the other
module _ (s : List ℕ) (at t z e : ℕ) (whole-record : header_at s at ≡ Record t z e) where
  abbrev shape : Shape
  shape = shape_of t

  abbrev field : Field
  field = field_of shape

  abbrev part_at : ℕ → Place
  part_at k = record { at = at; part = k; level = 0 }

  by_record : (k : ℕ) → cell_item s (part_at k) ≡ on_found (part_at k) t e (found_of s shape at z k)
  unfolding cell_item record_item
  by_record k = ap (on_header s (part_at k)) whole-record ∙ sym (pick_eq _ _ _ 0 0 refl refl)

  module _ (k : ℕ) (l : k < count_of shape s at z) where
    pub cell_here : cell_item s (part_at k) ≡ gives (cell_of s field at k) (pick (eqb (count_of shape s at z - (k + 1)) 0) (place_at e 0) (next_part (part_at k)))
    cell_here = by_record k ∙ ap (on_found (part_at k) t e) (sym (found_is s shape at z k l))

    part_last : k + 1 ≡ count_of shape s at z → listed_from s (part_at k) ≡ cell_of s field at k ∷ listed_from s (place_at e 0)
    part_last h =
        listed_step s (part_at k) ∙ ap (λ (x : Item Place Cell). onto x (λ p. listed_from s p)) cell_here
        ∙ ap (λ (p : Place). cell_of s field at k ∷ listed_from s p) (sym (pick_eq (place_at e 0) (place_at e 0) (next_part (part_at k)) (count_of shape s at z - (k + 1)) 0 (omega arith) refl))

    part_next : k + 1 < count_of shape s at z → listed_from s (part_at k) ≡ cell_of s field at k ∷ listed_from s (part_at (k + 1))
    unfolding next_part
    part_next h =
        listed_step s (part_at k) ∙ ap (λ (x : Item Place Cell). onto x (λ p. listed_from s p)) cell_here
        ∙ ap (λ (p : Place). cell_of s field at k ∷ listed_from s p) (sym (pick_ne (part_at (k + 1)) (place_at e 0) (next_part (part_at k)) (count_of shape s at z - (k + 1)) 0 (λ i. omega arith) refl))

  abbrev rest : ℕ → ℕ → List Cell
  rest k j = cells_from field s (row_at s at) (first_at s at + k) (at + 8 + k * part_of field) j

  rest_next : (k j : ℕ) → cells_from field s (row_at s at) (first_at s at + k + 1) (at + 8 + k * part_of field + part_of field) j ≡ rest (k + 1) j
  rest_next k j =
      let a : first_at s at + k + 1 ≡ first_at s at + (k + 1) = omega arith in
      let b : at + 8 + k * part_of field + part_of field ≡ at + 8 + (k + 1) * part_of field = omega arith in
      rw (a, b) refl

  parts : (j k : ℕ) → k + suc j ≡ count_of shape s at z → listed_from s (part_at k) ≡ rest k (suc j) ++ listed_from s (place_at e 0)
  unfolding cells_from cell_of
  parts zero k h = part_last k (omega arith) (omega arith)
  parts (suc j) k h =
      part_next k (omega arith) (omega arith)
      ∙ ap (λ (x : List Cell). cell_of s field at k ∷ x) (parts j (k + 1) (omega arith))
      ∙ ap (λ (x : List Cell). cell_of s field at k ∷ (x ++ listed_from s (place_at e 0))) (sym (rest_next k (suc j)))

  pub record_cells : 0 < count_of shape s at z → listed_from s (place_at at 0) ≡ cells_of s shape at z ++ listed_from s (place_at e 0)
  unfolding place_at cells_of
  record_cells h = whole_list (count_of shape s at z) refl h
    where
      whole_list : (n : ℕ) → count_of shape s at z ≡ n → 0 < n → listed_from s (part_at 0) ≡ cells_from field s (row_at s at) (first_at s at) (at + 8) (count_of shape s at z) ++ listed_from s (record { at = e; part = 0; level = 0 })
      whole_list zero i l = absurd (omega arith)
      whole_list (suc j) i l =
          parts j 0 (omega arith)
          ∙ ap (λ (m : ℕ). cells_from field s (row_at s at) m (at + 8 + 0 * part_of field) (suc j) ++ listed_from s (record { at = e; part = 0; level = 0 })) (add-zero (first_at s at))
          ∙ ap (λ (m : ℕ). cells_from field s (row_at s at) (first_at s at) m (suc j) ++ listed_from s (record { at = e; part = 0; level = 0 })) (let q : at + 8 + 0 * part_of field ≡ at + 8 = omega arith in q)
          ∙ ap (λ (m : ℕ). cells_from field s (row_at s at) (first_at s at) (at + 8) m ++ listed_from s (record { at = e; part = 0; level = 0 })) (sym i)
