-- The size rules: how many cells a record has, and that their parts lie in its body. Assumes nothing.
use Prim.Native.Nat.{ℕ, ◌+◌, ◌-◌, ◌*◌, ◌≤◌, ◌<◌}
use mathlib.Core.Path.{◌≡◌, refl, sym, ap, ◌∙◌}
use mathlib.Core.List.{List}
use mathlib.Core.Bool.{Bool, true, false}
use mathlib.Core.Logic.{◌⊎◌, inl, inr}
use native.Mathlib.Omega.{arith}
use native.Mathlib.Nat.{mul_comm, mul-le-mul_right}
use lib.Dec.{ltb, leb, eqb}
use borrow.Author.Tests.{eqb-true, eqb-false, ltb-false, leb-true}
use Rattle.steps.specs.Choice.{pick}
use Rattle.steps.proofs.Choice.{pick_eq, pick_ne, pick_le, pick_nle}
use Rattle.byte_numbers.specs.Bytes.{u16_at}
use Rattle.value.specs.declared.Field.{Field}
use Rattle.value.specs.declared.Field.TheVariants.{NoField, Float, RkWord, TextIndex, TruthError, StoredResult}
use Rattle.cell.specs.declared.Shape.{Shape}
use Rattle.cell.specs.declared.Shape.TheVariants.{BLANK, NUMBER, RK, LABELSST, BOOLERR, MULRK, MULBLANK, FORMULA, OTHER}
use Rattle.cell.specs.Cells.{shape_of, field_of, part_of, first_at, last_at, sized, columns, multiple, length_at, count_of}

-- the size of a record that has one size only
abbrev pub size_of : Shape → ℕ
size_of BLANK = 6
size_of NUMBER = 14
size_of RK = 10
size_of LABELSST = 10
size_of BOOLERR = 8
size_of MULRK = 0
size_of MULBLANK = 0
size_of FORMULA = 0
size_of OTHER = 0

-- ---- as the functions read them
module _ {part n : ℕ} (h : part ≤ 6) (i : n < 65536) where
  pub product_fits : part * n < 18446744073709551616
  product_fits = let m : part * n ≤ 6 * n = mul-le-mul_right n h in omega arith

  pub size_fits : 6 + part * n < 18446744073709551616
  size_fits = let m : part * n ≤ 6 * n = mul-le-mul_right n h in omega arith

pub multiple_short : (s : List ℕ) (at z part : ℕ) → z < 6 → 0 ≡ multiple s at z part
unfolding multiple sized
multiple_short s at z part h = pick_ne _ _ _ z (6 + part * columns (first_at s at) (last_at s at z)) (λ e. omega arith) refl

-- ---- a record of one size, and a formula: one cell or none
module _ (s : List ℕ) (h : Shape) (at z : ℕ) (one : count_of h s at z ≡ sized z (size_of h) 1) where
  pub size_none : (z ≡ size_of h → ⊥) → count_of h s at z ≡ 0
  unfolding sized
  size_none o = one ∙ sym (pick_ne _ _ _ z (size_of h) o refl)

  pub size_one : z ≡ size_of h → count_of h s at z ≡ 1
  unfolding sized
  size_one e = one ∙ sym (pick_eq _ _ _ z (size_of h) e refl)

pub formula_shape : shape_of 0x0006 ≡ FORMULA
unfolding shape_of pick
formula_shape = refl

pub formula_none : (s : List ℕ) (at z : ℕ) → z < 22 → count_of FORMULA s at z ≡ 0
formula_none s at z h = sym (pick_nle _ _ _ (22 + length_at s (at + 8)) z (omega arith) refl)

module _ (s : List ℕ) (at z l w : ℕ) (length : l ≡ u16_at s (at + 8 + 16)) (wide : w ≡ l) where
  pub length_none : z < 22 + w → count_of FORMULA s at z ≡ 0
  unfolding length_at
  length_none h = sym (pick_nle _ _ _ (22 + length_at s (at + 8)) z (omega arith) refl)

  pub length_one : 22 + w ≤ z → count_of FORMULA s at z ≡ 1
  unfolding length_at
  length_one h = sym (pick_le _ _ _ (22 + length_at s (at + 8)) z (omega arith) refl)

-- ---- what it says of a record that it has a k-th cell
pub sized_below : (z e n k : ℕ) → k < sized z e n → (sized z e n ≡ n) × (z ≡ e)
unfolding sized pick
sized_below z e n k = go (eqb z e) refl
  where
    go : (b : Bool) → eqb z e ≡ b → k < pick b n 0 → (pick b n 0 ≡ n) × (z ≡ e)
    go true i l = (refl, eqb-true z e i)
    go false i l = absurd (omega arith)

pub formula_below : (l z k : ℕ) → k < pick (leb (22 + l) z) 1 0 → (k ≡ 0) × (22 + l ≤ z) × (pick {A = ℕ} (leb (22 + l) z) 1 0 ≡ 1)
unfolding pick
formula_below l z k = go (leb (22 + l) z) refl
  where
    go : (b : Bool) → leb (22 + l) z ≡ b → k < pick b 1 0 → (k ≡ 0) × (22 + l ≤ z) × (pick {A = ℕ} b 1 0 ≡ 1)
    go true e i = (omega arith, leb-true (22 + l) z e, refl)
    go false e i = absurd (omega arith)

columns_below : (f l k : ℕ) → k < columns f l → f + k ≤ 255
unfolding columns pick
columns_below f l k = go (ltb l f) (ltb 255 l) refl refl
  where
    go : (a b : Bool) → ltb l f ≡ a → ltb 255 l ≡ b → k < pick a 0 (pick b 0 (l + 1 - f)) → f + k ≤ 255
    go true b p q i = absurd (omega arith)
    go false true p q i = absurd (omega arith)
    go false false p q i = omega (arith, ltb-false l f p, ltb-false 255 l q)

-- the columns of a multiple record of n cells are at most 255, and its parts fill the body up to the last column
pub multiple_below : (s : List ℕ) (at z part n k : ℕ) → n ≡ multiple s at z part → k < n → (first_at s at + k ≤ 255) × (z ≡ 6 + n * part)
unfolding multiple
multiple_below s at z part n k is l =
    let m = columns (first_at s at) (last_at s at z) in
    let b = sized_below z (6 + part * m) m k (rw is at l) in
    let e : n ≡ m = is ∙ b.0 in
    (columns_below (first_at s at) (last_at s at z) k (rw e at l), b.1 ∙ ap (λ (x : ℕ). 6 + x) (mul_comm part m ∙ ap (λ (x : ℕ). x * part) (sym e)))

pub multiple_parts : (s : List ℕ) (at z part : ℕ) → (multiple s at z part ≡ 0) ⊎ ((first_at s at + multiple s at z part ≤ 256) × (z ≡ 6 + multiple s at z part * part))
multiple_parts s at z part = by (eqb (multiple s at z part) 0) refl
  where
    by : (t : Bool) → eqb (multiple s at z part) 0 ≡ t → (multiple s at z part ≡ 0) ⊎ ((first_at s at + multiple s at z part ≤ 256) × (z ≡ 6 + multiple s at z part * part))
    by true e = inl (eqb-true _ 0 e)
    by false e =
        let some = eqb-false _ 0 e in
        let b = multiple_below s at z part _ (multiple s at z part - 1) refl (omega arith) in
        inr (omega (arith, b.0), b.1)

-- ---- where the cells lie
-- the parts of a record that has a k-th cell lie in its body, and its k-th column is at most 255 if its first is
abbrev pub Lies : Shape → List ℕ → ℕ → ℕ → ℕ → Type 0
Lies h s at z k = (4 + count_of h s at z * part_of (field_of h) ≤ z) × (first_at s at ≤ 255 → first_at s at + k ≤ 255)

module _ (s : List ℕ) (at z k : ℕ) where
  one_lies : (e part : ℕ) → 4 + part ≤ e → k < sized z e 1 → (4 + sized z e 1 * part ≤ z) × (first_at s at ≤ 255 → first_at s at + k ≤ 255)
  one_lies e part h l = let b = sized_below z e 1 k l in (rw b.0 (omega arith), (λ c. omega arith))

  many_lies : (part : ℕ) → k < multiple s at z part → (4 + multiple s at z part * part ≤ z) × (first_at s at ≤ 255 → first_at s at + k ≤ 255)
  many_lies part l = let b = multiple_below s at z part (multiple s at z part) k refl l in (omega arith, (λ c. b.0))

  pub count_lies : (h : Shape) → k < count_of h s at z → Lies h s at z k
  count_lies BLANK l = one_lies 6 2 (omega arith) l
  count_lies NUMBER l = one_lies 14 10 (omega arith) l
  count_lies RK l = one_lies 10 6 (omega arith) l
  count_lies LABELSST l = one_lies 10 6 (omega arith) l
  count_lies BOOLERR l = one_lies 8 4 (omega arith) l
  count_lies MULRK l = many_lies 6 l
  count_lies MULBLANK l = many_lies 2 l
  count_lies FORMULA l = let b = formula_below (length_at s (at + 8)) z k l in (rw b.2 (omega arith), (λ c. omega arith))
  count_lies OTHER l = absurd (omega arith)

pub part_some : (f : Field) → 2 ≤ part_of f
part_some NoField = omega arith
part_some Float = omega arith
part_some RkWord = omega arith
part_some TextIndex = omega arith
part_some TruthError = omega arith
part_some StoredResult = omega arith

-- so a record that has a cell has a row, a column and a format
pub count_room : (s : List ℕ) (at z k : ℕ) (h : Shape) → k < count_of h s at z → 6 ≤ z
count_room s at z k h l =
    let least : 1 * part_of (field_of h) ≤ count_of h s at z * part_of (field_of h) = mul-le-mul_right (part_of (field_of h)) (omega arith) in
    omega (arith, (count_lies s at z k h l).0, part_some (field_of h))
