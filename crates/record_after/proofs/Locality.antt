-- Which bytes a record's reading depends on: its own. And what a change in one value field leaves. Assumes nothing.
use Prim.Native.Nat.{ℕ, zero, suc, ◌+◌, ◌-◌, ◌*◌, ◌≤◌, ◌<◌}
use mathlib.Core.Path.{◌≡◌, refl, sym, ap, ap₂, ◌∙◌}
use mathlib.Core.List.{List}
use mathlib.Core.Bool.{Bool, true, false}
use native.Mathlib.Omega.{arith}
use native.Mathlib.Nat.{suc-mul, mul-le-mul_right}
use lib.Dec.{ltb, leb, eqb}
use borrow.Author.Tests.{eqb-false, ltb-true, ltb-false}
use Rattle.steps.specs.Choice.{pick}
use Rattle.steps.proofs.Choice.{pick_same}
use Rattle.byte_numbers.proofs.Laws.{Same, num_same}
use Rattle.value.specs.Value.{index_fits}
use Rattle.cell.specs.declared.Shape.{Shape}
use Rattle.cell.specs.declared.Shape.TheVariants.{BLANK, NUMBER, RK, LABELSST, BOOLERR, MULRK, MULBLANK, FORMULA, OTHER}
use Rattle.std.specs.Prelude.{Option, Some, None, Result, Ok}
use Rattle.refusal.specs.Refused.{refuse}
use Rattle.refusal.specs.declared.Refusal.{Refusal}
use Rattle.cell.specs.declared.Cell.{Cell}
use Rattle.cell.specs.declared.Found.{Found}
use Rattle.cell.specs.Cells.{is_cell, field_of, part_of, row_at, first_at, last_at, sized, columns, multiple, length_at, count_of, field_at, cell_from, cells_from, cells_of, cell_of, found_of, fields_fit, judged, judge_of}
use Rattle.cell.proofs.Sizes.{multiple_short, formula_none}
use Rattle.record_after.proofs.Fields.{field_same, cell_same, cells_same, fits_same}
use Rattle.cell.proofs.Sizes.{count_lies, part_some}

module _ (s s' : List ℕ) (at z : ℕ) where
  pub row_same : Same s s' (at + 4) (at + 6) → row_at s' at ≡ row_at s at
  unfolding row_at
  row_same h = sym (num_same s s' 2 (at + 4) (λ k i j. h k i (omega arith)))

  pub first_same : Same s s' (at + 6) (at + 8) → first_at s' at ≡ first_at s at
  unfolding first_at
  first_same h = sym (num_same s s' 2 (at + 6) (λ k i j. h k i (omega arith)))

  pub many_same : (part : ℕ) → Same s s' (at + 6) (at + 8) → Same s s' (at + 2 + z) (at + 4 + z) → multiple s' at z part ≡ multiple s at z part
  unfolding multiple last_at
  many_same part a b = ap (λ (m : ℕ). sized z (6 + part * m) m) (ap₂ columns (first_same a) (sym (num_same s s' 2 (at + 2 + z) (λ k i j. b k i (omega arith)))))

  pub formula_same : Same s s' (at + 24) (at + 26) → count_of FORMULA s' at z ≡ count_of FORMULA s at z
  unfolding length_at
  formula_same h = ap (λ (m : ℕ). pick (leb (22 + m) z) 1 0) (sym (num_same s s' 2 (at + 8 + 16) (λ k i j. h k (omega arith) (omega arith))))

  -- ---- the record's own bytes give the count
  many_local : (part : ℕ) → Same s s' at (at + 4 + z) → multiple s' at z part ≡ multiple s at z part
  many_local part a = go (ltb z 6) refl
    where
      go : (b : Bool) → ltb z 6 ≡ b → multiple s' at z part ≡ multiple s at z part
      go true e = sym (multiple_short s' at z part (ltb-true z 6 e)) ∙ multiple_short s at z part (ltb-true z 6 e)
      go false e = let m = ltb-false z 6 e in many_same part (λ x i j. a x (omega arith) (omega arith)) (λ x i j. a x (omega arith) j)

  formula_local : Same s s' at (at + 4 + z) → count_of FORMULA s' at z ≡ count_of FORMULA s at z
  formula_local a = go (ltb z 22) refl
    where
      go : (b : Bool) → ltb z 22 ≡ b → count_of FORMULA s' at z ≡ count_of FORMULA s at z
      go true e = formula_none s' at z (ltb-true z 22 e) ∙ sym (formula_none s at z (ltb-true z 22 e))
      go false e = let m = ltb-false z 22 e in formula_same (λ x i j. a x (omega arith) (omega arith))

  pub count_local : (h : Shape) → Same s s' at (at + 4 + z) → count_of h s' at z ≡ count_of h s at z
  count_local BLANK a = refl
  count_local NUMBER a = refl
  count_local RK a = refl
  count_local LABELSST a = refl
  count_local BOOLERR a = refl
  count_local MULRK a = many_local 6 a
  count_local MULBLANK a = many_local 2 a
  count_local FORMULA a = formula_local a
  count_local OTHER a = refl

  -- ---- and its cells, each cell, and the judgement
  module _ (h : Shape) (a : Same s s' at (at + 4 + z)) where
    -- what a record with a k-th cell has in its body
    module _ (k : ℕ) (l : k < count_of h s at z) where
      body : 4 + count_of h s at z * part_of (field_of h) ≤ z
      body = (count_lies s at z k h l).0

      inside : k * part_of (field_of h) + part_of (field_of h) ≤ count_of h s at z * part_of (field_of h)
      inside = rw suc-mul at (mul-le-mul_right (part_of (field_of h)) l)

      parts_same : Same s s' (at + 8) (at + 8 + count_of h s at z * part_of (field_of h))
      parts_same x i j = a x (omega arith) (omega (arith, body))

      row_is : row_at s' at ≡ row_at s at
      row_is = row_same (λ x i j. a x (omega arith) (omega (arith, body, inside, part_some (field_of h))))

      first_is : first_at s' at ≡ first_at s at
      first_is = first_same (λ x i j. a x (omega arith) (omega (arith, body, inside, part_some (field_of h))))

      cell_local : cell_of s' (field_of h) at k ≡ cell_of s (field_of h) at k
      unfolding cell_of
      cell_local =
          ap₂ (λ (x y : ℕ). cell_from (field_of h) s' x (y + k) (at + 8 + k * part_of (field_of h))) row_is first_is
          ∙ cell_same s s' (field_of h) (row_at s at) (first_at s at + k) (at + 8 + k * part_of (field_of h)) (λ x i j. parts_same x (omega arith) (omega (arith, inside)))

    pub cells_local : cells_of s' h at z ≡ cells_of s h at z
    unfolding cells_of cells_from
    cells_local = ap (cells_from (field_of h) s' (row_at s' at) (first_at s' at) (at + 8)) (count_local h a) ∙ go (count_of h s at z) refl
      where
        go : (n : ℕ) → count_of h s at z ≡ n → cells_from (field_of h) s' (row_at s' at) (first_at s' at) (at + 8) n ≡ cells_from (field_of h) s (row_at s at) (first_at s at) (at + 8) n
        go zero e = refl
        go (suc n) e =
            let l : 0 < count_of h s at z = omega arith in
            ap₂ (λ (x y : ℕ). cells_from (field_of h) s' x y (at + 8) (suc n)) (row_is 0 l) (first_is 0 l)
            ∙ cells_same s s' (field_of h) (row_at s at) (suc n) (first_at s at) (at + 8) (rw e at (parts_same 0 l))

    pub found_local : (k : ℕ) → found_of s' h at z k ≡ found_of s h at z k
    unfolding found_of pick
    found_local k = ap (λ (n : ℕ). pick {A = Option Found} (ltb k n) (Some (record { cell = cell_of s' (field_of h) at k; left = n - (k + 1) })) None) (count_local h a) ∙ go (ltb k (count_of h s at z)) refl
      where
        go : (b : Bool) → ltb k (count_of h s at z) ≡ b → pick {A = Option Found} b (Some (record { cell = (cell_of s' (field_of h) at k); left = (count_of h s at z - (k + 1)) })) None ≡ pick {A = Option Found} b (Some (record { cell = (cell_of s (field_of h) at k); left = (count_of h s at z - (k + 1)) })) None
        go true e = ap (λ (x : Cell). Some (record { cell = x; left = count_of h s at z - (k + 1) })) (cell_local k (ltb-true k (count_of h s at z) e))
        go false e = refl

    judged_local : (u : ℕ) → judged s' h at z u ≡ judged s h at z u
    unfolding judged
    judged_local u = rw (count_local h a) (pick_same (eqb (count_of h s at z) 0) _ _ _ _ (λ e. refl) (λ e. some (let o = eqb-false (count_of h s at z) 0 e in omega arith)))
      where
        some : 0 < count_of h s at z
            → pick (ltb 255 (first_at s' at)) (refuse 6 at) (pick (fields_fit (field_of h) s' (at + 8) (count_of h s at z)) (pick (index_fits (field_of h) (field_at (field_of h) s' (at + 8)) u) (Ok (Some (count_of h s at z))) (refuse 9 at)) (refuse 6 at))
            ≡ pick (ltb 255 (first_at s at)) (refuse 6 at) (pick (fields_fit (field_of h) s (at + 8) (count_of h s at z)) (pick (index_fits (field_of h) (field_at (field_of h) s (at + 8)) u) (Ok (Some (count_of h s at z))) (refuse 9 at)) (refuse 6 at))
        some l = rw (first_is 0 l, fits_same s s' (field_of h) (count_of h s at z) (at + 8) (parts_same 0 l), ← field_same s s' (field_of h) (at + 8) (λ x i j. parts_same 0 l x i (omega (arith, inside 0 l))))

    pub judge_local : (u : ℕ) → judge_of s' h at z u ≡ judge_of s h at z u
    unfolding judge_of
    judge_local u = ap (λ (x : Result (Option ℕ) Refusal). pick (is_cell h) x (Ok None)) (judged_local u)
