-- A cell whose value says text stands in a FORMULA with a text result, as its one cell. Assumes nothing.
use Prim.Native.Nat.{ℕ, ◌+◌, ◌*◌, ◌/◌, ◌≤◌, ◌<◌}
use mathlib.Core.Path.{◌≡◌, refl, ap, ◌∙◌, subst}
use mathlib.Core.List.{List}
use mathlib.Core.Bool.{Bool, true, false}
use native.Mathlib.Omega.{arith}
use lib.Dec.{eqb}
use borrow.Author.Tests.{eqb-true, eqb-false}
use Rattle.steps.proofs.Choice.{never, pick_any, pick_by, pick_eq, pick_ne}
use Rattle.byte_numbers.specs.Bytes.{num_at, u64_at}
use Rattle.number.specs.Float64.{is_nan_bits}
use Rattle.number.specs.Rk.{rk_of}
use Rattle.std.specs.Prelude.{Option, None, Some, Float}
use Rattle.value.specs.declared.CellValue.{CellValue}
use Rattle.value.specs.Value.{float_value, rk_value, truth_error, result_of, value_of}
use Rattle.cell.specs.declared.Shape.{Shape}
use Rattle.cell.specs.declared.Shape.TheVariants.{FORMULA}
use Rattle.cell.specs.Cells.{shape_of, field_of, part_of, start_of, length_at, count_of, field_at, cell_from, cell_of}
use Rattle.cell.proofs.Sizes.{formula_shape, formula_below}
use Rattle.text_result.specs.TextResult.{is_text, has_text}
use Rattle.reading.specs.Reading.{says_text}

-- ---- a value that is no formula's says no text
abbrev Silent : CellValue → Type 0
Silent v = says_text v ≡ false

float_silent : (n : ℕ) → Silent (float_value n)
unfolding float_value
float_silent n = pick_any Silent (is_nan_bits n) refl refl

rk_silent : (x : Option Float) → Silent (rk_value x)
rk_silent (Some x) = refl
rk_silent None = refl

pair_silent : (n : ℕ) → Silent (truth_error n)
unfolding truth_error
pair_silent n = pick_any Silent (eqb (n / 256) 0) refl refl

pub field_silent : (t n : ℕ) → (t ≡ 0x0006 → ⊥) → says_text (value_of (field_of (shape_of t)) n) ≡ false
unfolding shape_of
field_silent t n h =
    pick_any Says _ refl
    (pick_any Says _ (float_silent n)
    (pick_any Says _ (rk_silent (rk_of n))
    (pick_any Says _ refl
    (pick_any Says _ (pair_silent n)
    (pick_any Says _ (rk_silent (rk_of n))
    (pick_any Says _ refl
    (pick_by Says (eqb t 0x0006) (λ q. absurd (h (eqb-true t 0x0006 q))) (λ _. refl))))))))
  where
    Says : Shape → Type 0
    Says x = says_text (value_of (field_of x) n) ≡ false

-- ---- a FORMULA
module _ (s : List ℕ) (t at z k : ℕ) (below : k < count_of (shape_of t) s at z) where
  as_formula : t ≡ 0x0006 → k < count_of FORMULA s at z
  as_formula q = subst (λ (h : Shape). k < count_of h s at z) (ap shape_of q ∙ formula_shape) below

  first_of : t ≡ 0x0006 → k ≡ 0
  first_of q = (formula_below (length_at s (at + 8)) z k (as_formula q)).0

  pub room_of : t ≡ 0x0006 → 22 ≤ z
  room_of q = let b = formula_below (length_at s (at + 8)) z k (as_formula q) in omega arith

  pub field_of_lem : t ≡ 0x0006 → (cell_of s (field_of (shape_of t)) at k).field ≡ at + 10
  unfolding cell_of cell_from
  field_of_lem q =
      ap (λ (h : Shape). at + 8 + k * part_of (field_of h) + start_of (field_of h)) (ap shape_of q ∙ formula_shape)
      ∙ (let i = first_of q in omega arith)

  -- its value says text exactly where it has a text result
  pub says_is : says_text (cell_of s (field_of (shape_of t)) at k).value ≡ has_text s t at
  unfolding cell_of cell_from field_at has_text
  says_is = go (eqb t 0x0006) refl
    where
      go : (b : Bool) → eqb t 0x0006 ≡ b → says_text (cell_of s (field_of (shape_of t)) at k).value ≡ has_text s t at
      go true q =
          let i = eqb-true t 0x0006 q in
          let j : at + 8 + k * 18 + 2 ≡ at + 10 = (let m = first_of i in omega arith) in
          ap (λ (h : Shape). says_text (value_of (field_of h) (field_at (field_of h) s (at + 8 + k * part_of (field_of h))))) (ap shape_of i ∙ formula_shape)
          ∙ ap (λ (p : ℕ). is_text (result_of (num_at s 8 p))) j
          ∙ pick_eq (is_text (result_of (u64_at s (at + 10)))) _ _ t 0x0006 i refl
      go false q =
          let i = eqb-false t 0x0006 q in
          field_silent t (field_at (field_of (shape_of t)) s (at + 8 + k * part_of (field_of (shape_of t)))) i ∙ pick_ne false _ _ t 0x0006 i refl

pub has_formula : (s : List ℕ) (t at : ℕ) → has_text s t at ≡ true → t ≡ 0x0006
unfolding has_text
has_formula s t at h = pick_by (λ (b : Bool). b ≡ true → t ≡ 0x0006) (eqb t 0x0006) (λ q _. eqb-true t 0x0006 q) (λ _ i. never (cc)) h
