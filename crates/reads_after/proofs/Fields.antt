-- The value field that was written lies in one record, and all others keep their bytes. Assumes nothing.
use Prim.Native.Nat.{ℕ, ◌+◌, ◌*◌, ◌≤◌, ◌<◌}
use mathlib.Core.Path.{◌≡◌, refl, ap}
use mathlib.Core.List.{List}
use mathlib.Core.Bool.{Bool, true, false}
use mathlib.Core.Logic.{◌⊎◌, inl, inr}
use native.Mathlib.Omega.{arith}
use native.Mathlib.Nat.{suc-mul, mul-le-mul_right}
use lib.Dec.{ltb}
use borrow.Author.Tests.{ltb-true, ltb-false}
use Rattle.byte_numbers.proofs.Laws.{Same}
use Rattle.record.specs.declared.Header.TheVariants.{Record}
use Rattle.record.specs.Record.{header_at}
use Rattle.record.proofs.Laws.{whole, header_same}
use Rattle.value.specs.declared.Field.{Field}
use Rattle.value.specs.declared.Field.TheVariants.{NoField, Float, RkWord, TextIndex, TruthError, StoredResult}
use Rattle.value.specs.declared.CellValue.{CellValue}
use Rattle.cell.specs.Cells.{shape_of, field_of, part_of, start_of, count_of}
use Rattle.record_after.specs.Claims.{place_of}
use Rattle.record_after.proofs.Fields.{field_in}
use Rattle.cell.proofs.Sizes.{count_lies}
use Rattle.record_chain.specs.Chain.{Beside}
use Rattle.passes_after.proofs.Beside.{beside_head}
use Rattle.reads_after.specs.Parts.{field_from, field_to, Corrected}

-- ---- where the value field of a cell of a record starts
start_in_lem : (f : Field) → start_of f < part_of f
start_in_lem NoField = omega arith
start_in_lem Float = omega arith
start_in_lem RkWord = omega arith
start_in_lem TextIndex = omega arith
start_in_lem TruthError = omega arith
start_in_lem StoredResult = omega arith

pub places_rise : (f : Field) (at j k : ℕ) → j < k → at + 8 + j * part_of f + part_of f ≤ at + 8 + k * part_of f
places_rise f at j k l = let b : j * part_of f + part_of f ≤ k * part_of f = rw suc-mul at (mul-le-mul_right (part_of f) l) in omega arith

-- in its body
pub record Within (at e p : ℕ) : Type 0 where
  pub low : at + 8 ≤ p
  pub high : p < e

module _ (s : List ℕ) (at t z e : ℕ) (is : header_at s at ≡ Record t z e) (k : ℕ) (below : k < count_of (shape_of t) s at z) where
  part_within : at + 8 + k * part_of (field_of (shape_of t)) + part_of (field_of (shape_of t)) ≤ e
  part_within =
      let w = whole s at t z e is in
      let a = (count_lies s at z k (shape_of t) below).0 in
      let b = places_rise (field_of (shape_of t)) at k (count_of (shape_of t) s at z) below in
      omega arith

  pub field_inside : Within at e (field_from t at k)
  field_inside = let a = part_within in let b = start_in_lem (field_of (shape_of t)) in record { low = omega arith; high = omega arith }

  pub field_ends : field_to t at k ≤ e
  field_ends = let a = part_within in let b = field_in (field_of (shape_of t)) in omega arith

pub above : (j k : ℕ) → k ≤ j → (j ≡ k → ⊥) → k < j
above j k l n = go (ltb k j) refl
  where
    go : (b : Bool) → ltb k j ≡ b → k < j
    go true h = ltb-true k j h
    go false h = let m = ltb-false k j h in absurd (n (omega arith))

-- two cells of a record have their value fields at different places
pub places_differ : (f : Field) (at j k : ℕ) → (j ≡ k → ⊥) → place_of f at j ≡ place_of f at k → ⊥
places_differ f at j k n e = go (ltb j k) refl (ltb k j) refl
  where
    go : (b : Bool) → ltb j k ≡ b → (c : Bool) → ltb k j ≡ c → ⊥
    go true h c i = let l = places_rise f at j k (ltb-true j k h) in let m = start_in_lem f in omega arith
    go false h true i = let l = places_rise f at k j (ltb-true k j i) in let m = start_in_lem f in omega arith
    go false h false i = let l = ltb-false j k h in let m = ltb-false k j i in n (omega arith)

-- ---- the corrected stream
module _ {s s' : List ℕ} {a t z e k : ℕ} {v : CellValue} (c : Corrected s s' a t z e k v) where
  pub inside : Within a e (field_from t a k)
  inside = field_inside s a t z e c.whole k c.below

  pub ends_in : field_to t a k ≤ e
  ends_in = field_ends s a t z e c.whole k c.below

  pub same_before : (i j : ℕ) → j ≤ field_from t a k → Same s s' i j
  same_before i j l x m n = c.else x (inl (omega arith))

  pub same_after : (i j : ℕ) → field_to t a k ≤ i → Same s s' i j
  same_after i j l x m n = c.else x (inr (omega arith))

  -- what stands where it stands
  pub same_record : {x t₁ z₁ f : ℕ} → header_at s x ≡ Record t₁ z₁ f → x ≡ a → (t₁ ≡ t) × (z₁ ≡ z)
  same_record {x} o q = let i = c.whole in let j : header_at s x ≡ header_at s a = ap (header_at s) q in (cc, cc)

  -- the header of each record
  pub header_kept : (x : ℕ) → Beside s a e x → header_at s x ≡ header_at s' x
  header_kept x b =
      let i = inside in
      let j = ends_in in
      header_same s s' c.size x
      (λ y l m. beside_head s s' c.size a t z e c.whole (same_before 0 (a + 8) (omega arith)) (λ w n. c.else w (inr (omega arith))) x b y l (omega arith))

  -- the bytes of each other record
  pub record_kept : (x f : ℕ) → (f ≤ a) ⊎ (e ≤ x) → Same s s' x f
  record_kept x f (inl l) = let i = inside in same_before x f (omega arith)
  record_kept x f (inr l) = let i = ends_in in same_after x f (omega arith)
