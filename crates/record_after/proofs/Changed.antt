-- What a change of bytes in one value field leaves of a record. Assumes nothing.
use Prim.Native.Nat.{ℕ, zero, suc, ◌+◌, ◌*◌, ◌≤◌, ◌<◌}
use mathlib.Core.Path.{◌≡◌, refl, sym, ap, ◌∙◌}
use mathlib.Core.List.{List}
use mathlib.Core.Bool.{true}
use native.Mathlib.Omega.{arith}
use native.Mathlib.Nat.{suc-mul, mul-le-mul_right}
use lib.ListN.{length, take, drop, length-drop}
use lib.Seq.{ext_get_or, length-take-le, get_or-take, get_or-drop}
use Rattle.byte_numbers.proofs.Laws.{Same}
use Rattle.value.specs.Value.{width_of, value_fits, index_fits}
use Rattle.cell.specs.declared.Shape.{Shape}
use Rattle.cell.specs.declared.Shape.TheVariants.{BLANK, NUMBER, RK, LABELSST, BOOLERR, MULRK, MULBLANK, FORMULA, OTHER}
use Rattle.cell.specs.Cells.{field_of, part_of, first_at, multiple, length_at, count_of, field_at, cell_from, cell_of, tokens_of}
use Rattle.cell.proofs.Sizes.{multiple_below, formula_below}
use Rattle.record_after.specs.Claims.{Right, place_of}
use Rattle.record_after.proofs.Fields.{field_same, fits_change}
use Rattle.record_after.proofs.Records.{parts_within}
use Rattle.record_after.proofs.Locality.{first_same, many_same, formula_same}

-- ---- a part of the stream
pub bytes_same : (s s' : List ℕ) (p n : ℕ) → p + n ≤ length s → p + n ≤ length s' → Same s s' p (p + n) → take n (drop p s') ≡ take n (drop p s)
bytes_same s s' p n h h' a =
    let l : length (take n (drop p s)) ≡ n = length-take-le n (drop p s) (rw (length-drop p s) (omega arith)) in
    let l' : length (take n (drop p s')) ≡ n = length-take-le n (drop p s') (rw (length-drop p s') (omega arith)) in
    ext_get_or 0 (take n (drop p s')) (take n (drop p s)) (l' ∙ sym l)
    (λ i b. let c : i < n = omega arith in get_or-take n (drop p s') i 0 c ∙ get_or-drop p s' i 0 ∙ sym (a (p + i) (omega arith) (omega arith)) ∙ sym (get_or-take n (drop p s) i 0 c ∙ get_or-drop p s i 0))

module _ (s s' : List ℕ) (at z : ℕ) where
  -- ---- the tokens of each cell, which stand after every value field
  formula_tokens : (j k : ℕ) → j ≡ 0 → k ≡ 0 → 22 + length_at s (at + 8) ≤ z → at + 4 + z ≤ length s → at + 4 + z ≤ length s' → Same s s' (place_of (field_of FORMULA) at k + width_of (field_of FORMULA)) (at + 4 + z)
      → tokens_of s' (cell_of s (field_of FORMULA) at j) ≡ tokens_of s (cell_of s (field_of FORMULA) at j)
  unfolding tokens_of cell_of cell_from
  formula_tokens j k e i l b b' a =
      let q : at + 8 + j * 18 ≡ at + 8 = rw e (omega arith) in
      rw q (bytes_same s s' (at + 8 + 18) (length_at s (at + 8)) (omega arith) (omega arith) (λ x u v. a x (omega arith) (omega arith)))

  pub tokens_kept : (h : Shape) (j k : ℕ) → j < count_of h s at z → k < count_of h s at z → at + 4 + z ≤ length s → at + 4 + z ≤ length s' → Same s s' (place_of (field_of h) at k + width_of (field_of h)) (at + 4 + z)
      → tokens_of s' (cell_of s (field_of h) at j) ≡ tokens_of s (cell_of s (field_of h) at j)
  unfolding tokens_of cell_of cell_from
  tokens_kept BLANK j k i l b b' a = refl
  tokens_kept NUMBER j k i l b b' a = refl
  tokens_kept RK j k i l b b' a = refl
  tokens_kept LABELSST j k i l b b' a = refl
  tokens_kept BOOLERR j k i l b b' a = refl
  tokens_kept MULRK j k i l b b' a = refl
  tokens_kept MULBLANK j k i l b b' a = refl
  tokens_kept FORMULA j k i l b b' a = let m = formula_below (length_at s (at + 8)) z j i in formula_tokens j k m.0 (formula_below (length_at s (at + 8)) z k l).0 m.1 b b' a
  tokens_kept OTHER j k i l b b' a = refl

  pub tokens_local : (h : Shape) (j : ℕ) → j < count_of h s at z → at + 4 + z ≤ length s → at + 4 + z ≤ length s' → Same s s' at (at + 4 + z) → tokens_of s' (cell_of s (field_of h) at j) ≡ tokens_of s (cell_of s (field_of h) at j)
  tokens_local h j i b b' a = tokens_kept h j j i i b b' (λ x u v. a x (omega arith) v)

  -- ---- the count
  many_kept : (part k : ℕ) → 2 ≤ part → k < multiple s at z part → Same s s' at (at + 8 + k * part) → Same s s' (at + 8 + k * part + part) (at + 4 + z) → multiple s' at z part ≡ multiple s at z part
  many_kept part k h l a b =
      let m = multiple_below s at z part (multiple s at z part) k refl l in
      let inside : k * part + part ≤ multiple s at z part * part = rw suc-mul at (mul-le-mul_right part l) in
      many_same s s' at z part (λ x i j. a x (omega arith) (omega arith)) (λ x i j. b x (omega arith) j)

  pub count_kept : (h : Shape) (k : ℕ) → k < count_of h s at z → Same s s' at (place_of (field_of h) at k) → Same s s' (place_of (field_of h) at k + width_of (field_of h)) (at + 4 + z) → count_of h s' at z ≡ count_of h s at z
  count_kept BLANK k l a b = refl
  count_kept NUMBER k l a b = refl
  count_kept RK k l a b = refl
  count_kept LABELSST k l a b = refl
  count_kept BOOLERR k l a b = refl
  count_kept MULRK k l a b = many_kept 6 k (omega arith) l (λ x i j. a x i (omega arith)) (λ x i j. b x (omega arith) j)
  count_kept MULBLANK k l a b = many_kept 2 k (omega arith) l (λ x i j. a x i (omega arith)) (λ x i j. b x (omega arith) j)
  count_kept FORMULA k l a b = let m = formula_below (length_at s (at + 8)) z k l in formula_same s s' at z (λ x i j. b x (omega arith) (omega arith))
  count_kept OTHER k l a b = refl

-- ---- a change in the value field of the k-th cell of a record that passes
module _ (s s' : List ℕ) (h : Shape) (at z u n k : ℕ) (r : Right s h at z u n) (below : k < n)
    (before : Same s s' at (place_of (field_of h) at k)) (after : Same s s' (place_of (field_of h) at k + width_of (field_of h)) (at + 4 + z)) where
  counted : k < count_of h s at z
  counted = let e = r.count in omega arith

  same_count : count_of h s' at z ≡ count_of h s at z
  same_count = count_kept s s' at z h k counted before after

  same_first : first_at s' at ≡ first_at s at
  same_first = first_same s s' at z (λ m i j. before m (omega arith) (omega arith))

  index_kept : index_fits (field_of h) (field_at (field_of h) s' (at + 8 + k * part_of (field_of h))) u ≡ true → index_fits (field_of h) (field_at (field_of h) s' (at + 8)) u ≡ true
  index_kept i = go k refl
    where
      go : (j : ℕ) → k ≡ j → index_fits (field_of h) (field_at (field_of h) s' (at + 8)) u ≡ true
      go zero e = let p : at + 8 ≡ at + 8 + k * part_of (field_of h) = rw e (omega arith) in ap (λ (m : ℕ). index_fits (field_of h) (field_at (field_of h) s' m) u) p ∙ i
      go (suc j) e =
          let m : k * part_of (field_of h) ≡ j * part_of (field_of h) + part_of (field_of h) = ap (λ (x : ℕ). x * part_of (field_of h)) e ∙ suc-mul j (part_of (field_of h)) in
          ap (λ (m : ℕ). index_fits (field_of h) m u) (sym (field_same s s' (field_of h) (at + 8) (λ x a b. before x (omega arith) (omega arith)))) ∙ r.index

  -- and the record passes still, if the new value is right
  pub right_changed : value_fits (field_of h) (field_at (field_of h) s' (at + 8 + k * part_of (field_of h))) ≡ true → index_fits (field_of h) (field_at (field_of h) s' (at + 8 + k * part_of (field_of h))) u ≡ true → Right s' h at z u n
  right_changed v i =
      let w = parts_within s h at z u n r in
      let f = same_first in
      let l = r.column in
      record {
        cell = r.cell;
        count = r.count ∙ sym same_count;
        some = r.some;
        column = omega arith;
        values = fits_change s s' (field_of h) n (at + 8) k (at + 8 + k * part_of (field_of h)) below refl (λ m i j. before m (omega arith) j) (λ m i j. after m i (omega arith)) r.values v;
        index = index_kept i;
      }
