-- The bytes after a formula's tokens, in two streams that agree in its header and after its value field. Assumes nothing.
use Prim.Native.Nat.{ℕ, ◌+◌, ◌-◌, ◌*◌, ◌≤◌, ◌<◌}
use mathlib.Core.Path.{◌≡◌, refl}
use mathlib.Core.List.{List}
use native.Mathlib.Omega.{arith}
use lib.Dec.{ltb}
use lib.ListN.{length, take, drop}
use Rattle.steps.specs.Choice.{pick}
use Rattle.steps.proofs.Choice.{pick_nlt}
use Rattle.byte_numbers.specs.Bytes.{u16_at}
use Rattle.byte_numbers.proofs.Laws.{Same}
use Rattle.value.specs.Value.{width_of}
use Rattle.cell.specs.declared.Shape.{Shape}
use Rattle.cell.specs.declared.Shape.TheVariants.{BLANK, NUMBER, RK, LABELSST, BOOLERR, MULRK, MULBLANK, FORMULA, OTHER}
use Rattle.cell.specs.Cells.{field_of, length_at, count_of, cell_from, cell_of}
use Rattle.cell.proofs.Sizes.{formula_below}
use Rattle.record_after.specs.Claims.{place_of}
use Rattle.record_after.proofs.Changed.{bytes_same}
use Rattle.reading.specs.Reading.{trailing_size, trailing_bytes}

module _ (s s' : List ℕ) (at z : ℕ) (size : z ≡ u16_at s (at + 2)) (size' : z ≡ u16_at s' (at + 2)) (within : at + 4 + z ≤ length s) (within' : at + 4 + z ≤ length s') where
  part_same : (start l : ℕ) → start ≡ at + 26 → 22 + l ≤ z → Same s s' start (at + 4 + z)
      → take (pick (ltb start 26) 0 (u16_at s' (start - 24) - (22 + l))) (drop (start + l) s') ≡ take (pick (ltb start 26) 0 (u16_at s (start - 24) - (22 + l))) (drop (start + l) s)
  part_same start l e h a =
      let p : start - 24 ≡ at + 2 = omega arith in
      let n : z - (22 + l) ≡ pick (ltb start 26) 0 (z - (22 + l)) = pick_nlt _ _ _ start 26 (omega arith) refl in
      rw (p, ← size, ← size', ← n) (bytes_same s s' (start + l) (z - (22 + l)) (omega arith) (omega arith) (λ x u v. a x (omega arith) (omega arith)))

  formula_trailing : (j k : ℕ) → j ≡ 0 → k ≡ 0 → 22 + length_at s (at + 8) ≤ z → Same s s' (place_of (field_of FORMULA) at k + width_of (field_of FORMULA)) (at + 4 + z)
      → trailing_bytes s' (cell_of s (field_of FORMULA) at j) ≡ trailing_bytes s (cell_of s (field_of FORMULA) at j)
  unfolding trailing_bytes trailing_size cell_of cell_from
  formula_trailing j k e i l a =
      let q : at + 8 + j * 18 ≡ at + 8 = rw e (omega arith) in
      rw q (part_same (at + 8 + 18) (length_at s (at + 8)) (omega arith) l (λ x u v. a x (omega arith) (omega arith)))

  pub trailing_kept : (h : Shape) (j k : ℕ) → j < count_of h s at z → k < count_of h s at z → Same s s' (place_of (field_of h) at k + width_of (field_of h)) (at + 4 + z)
      → trailing_bytes s' (cell_of s (field_of h) at j) ≡ trailing_bytes s (cell_of s (field_of h) at j)
  unfolding trailing_bytes trailing_size cell_of cell_from pick
  trailing_kept BLANK j k i l a = refl
  trailing_kept NUMBER j k i l a = refl
  trailing_kept RK j k i l a = refl
  trailing_kept LABELSST j k i l a = refl
  trailing_kept BOOLERR j k i l a = refl
  trailing_kept MULRK j k i l a = refl
  trailing_kept MULBLANK j k i l a = refl
  trailing_kept FORMULA j k i l a = let m = formula_below (length_at s (at + 8)) z j i in formula_trailing j k m.0 (formula_below (length_at s (at + 8)) z k l).0 m.1 a
  trailing_kept OTHER j k i l a = refl

  pub trailing_local : (h : Shape) (j : ℕ) → j < count_of h s at z → Same s s' at (at + 4 + z) → trailing_bytes s' (cell_of s (field_of h) at j) ≡ trailing_bytes s (cell_of s (field_of h) at j)
  trailing_local h j i a = trailing_kept h j j i i (λ x u v. a x (omega arith) v)
