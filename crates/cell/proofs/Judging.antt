-- The laws of the judgement. Assumes nothing.
use Rattle.std.proofs.Common.{◌≡◌, ℕ, suc, ◌+◌, ◌-◌, ◌*◌, ◌≤◌, ◌<◌, Bool, true, false, List, Option, Some, Result, Ok, refl, arith}
use native.Mathlib.Nat.{suc-mul}
use native.Mathlib.Numerals.{add-one}
use Rattle.std.proofs.lemmas.Grind.{common_steps}
use Rattle.steps.specs.Choice.{pick}
use Rattle.refusal.specs.Refused.{refuse}
use Rattle.refusal.specs.declared.Refusal.{Refusal}
use Rattle.byte_numbers.specs.Bytes.{u64_at}
use Rattle.value.specs.declared.Field.{Field}
use Rattle.value.specs.declared.Field.TheVariants.{StoredResult}
use Rattle.value.specs.Value.{value_fits}
use Rattle.cell.specs.declared.Shape.TheVariants.{FORMULA}
use Rattle.cell.specs.Cells.{part_of, field_at, fields_fit, judged}
use Rattle.cell.specs.Parts.{formula_sized}

-- the fields from the i-th of n on
pub fits_from : (f : Field) (s : List ℕ) (q n i : ℕ) → i < n → fields_fit f s (q + i * part_of f) (n - i) ≡ pick (value_fits f (field_at f s (q + i * part_of f))) (fields_fit f s (q + (i + 1) * part_of f) (n - (i + 1))) false
unfolding fields_fit
fits_from f s q n i h =
    let left : n - i ≡ suc (n - (i + 1)) = omega arith in
    let next : q + (i + 1) * part_of f ≡ q + i * part_of f + part_of f = rw (add-one, suc-mul) (omega arith) in rw (left, next) refl

-- ---- a formula, whose size was looked at first: b
pub result_room : (s : List ℕ) (at z : ℕ) (b : Bool) → b ≡ formula_sized s at z → b ≡ true → (m : ℕ) → at + 4 + z ≤ m → at + 10 + 8 ≤ m
unfolding formula_sized pick
result_room s at z b is sized m l = grind (arith, common_steps)

module _ (s : List ℕ) (at z u : ℕ) (b : Bool) (is : b ≡ formula_sized s at z) where
  pub formula_unsized : b ≡ false → (x : Result (Option ℕ) Refusal) → x ≡ refuse 6 at → x ≡ judged s FORMULA at z u
  unfolding judged formula_sized pick
  formula_unsized e x i = grind (arith, common_steps)

  module _ (sized : b ≡ true) (n : ℕ) (read : n ≡ u64_at s (at + 10)) (r : Bool) (told : r ≡ value_fits StoredResult n) where
    pub formula_value : r ≡ false → (x : Result (Option ℕ) Refusal) → x ≡ refuse 6 at → x ≡ judged s FORMULA at z u
    unfolding judged formula_sized fields_fit field_at pick
    formula_value e x i = grind (arith, common_steps)

    pub formula_passed : r ≡ true → Ok (Some 1) ≡ judged s FORMULA at z u
    unfolding judged formula_sized fields_fit field_at pick
    formula_passed e = grind (arith, common_steps)
