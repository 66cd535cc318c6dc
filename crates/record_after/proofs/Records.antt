-- A whole record: what it is to pass, where its cells lie, and which bytes it reads. Assumes nothing.
use Prim.Native.Nat.{ℕ, suc, ◌+◌, ◌-◌, ◌*◌, ◌≤◌, ◌<◌}
use mathlib.Core.Path.{◌≡◌, refl, sym, ap, ◌∙◌}
use mathlib.Core.List.{List, ◌∷◌}
use mathlib.Core.Bool.{Bool, true, false}
use native.Mathlib.Omega.{arith}
use lib.ListN.{length, drop}
use lib.Dec.{ltb, eqb}
use borrow.Author.Tests.{eqb-false, ltb-true, ltb-false}
use Rattle.steps.specs.Choice.{pick}
use Rattle.steps.proofs.Choice.{never, pick_ne, pick_nlt, pick_true}
use Rattle.value.specs.declared.Field.{Field}
use Rattle.value.specs.Value.{index_fits}
use Rattle.cell.specs.declared.Shape.{Shape}
use Rattle.cell.specs.declared.Cell.{Cell}
use Rattle.std.specs.Prelude.{Option, Some, None, Ok}
use Rattle.refusal.specs.Refused.{refuse}
use Rattle.cell.specs.declared.Found.{Found}
use Rattle.cell.specs.Cells.{is_cell, field_of, part_of, row_at, first_at, count_of, field_at, cell_from, cells_of, cell_of, found_of, fields_fit, judged, judge_of}
use Rattle.cell.proofs.Sizes.{Lies, count_lies}
use Rattle.record_after.specs.Claims.{Right, place_of}
use Rattle.record_after.proofs.Fields.{cells_length, cells_drop}

-- ---- a record passes with n cells exactly where it is right
module _ (s : List ℕ) (h : Shape) (at z u n : ℕ) where
  right_by : (o a b c d : Bool) → is_cell h ≡ o → eqb (count_of h s at z) 0 ≡ a → ltb 255 (first_at s at) ≡ b → fields_fit (field_of h) s (at + 8) (count_of h s at z) ≡ c → index_fits (field_of h) (field_at (field_of h) s (at + 8)) u ≡ d
      → pick o (pick a (refuse 6 at) (pick b (refuse 6 at) (pick c (pick d (Ok (Some (count_of h s at z))) (refuse 9 at)) (refuse 6 at)))) (Ok None) ≡ Ok (Some n) → Right s h at z u n
  unfolding pick
  right_by false a b c d w p q r t e = never (cc)
  right_by true true b c d w p q r t e = never (cc)
  right_by true false true c d w p q r t e = never (cc)
  right_by true false false false d w p q r t e = never (cc)
  right_by true false false true false w p q r t e = never (cc)
  right_by true false false true true w p q r t e =
      let is : n ≡ count_of h s at z = cc in
      let some = eqb-false (count_of h s at z) 0 p in
      record { cell = w; count = is; some = positive (count_of h s at z) is some; column = ltb-false 255 (first_at s at) q; values = ap (fields_fit (field_of h) s (at + 8)) is ∙ r; index = t }
    where
      positive : (m : ℕ) → n ≡ m → (m ≡ 0 → ⊥) → 1 ≤ n
      positive m e o = omega arith

  pub right : judge_of s h at z u ≡ Ok (Some n) → Right s h at z u n
  unfolding judge_of judged
  right e = right_by _ _ _ _ _ refl refl refl refl refl e

  pub passes : Right s h at z u n → judge_of s h at z u ≡ Ok (Some n)
  unfolding judge_of judged
  passes r =
      let is : n ≡ count_of h s at z = r.count in
      sym (pick_true _ _ _ _ r.cell (pick_ne _ _ _ (count_of h s at z) 0 (λ e. let o = r.some in omega arith) (pick_nlt _ _ _ 255 (first_at s at) r.column (pick_true _ _ _ _ (ap (fields_fit (field_of h) s (at + 8)) (sym is) ∙ r.values) (pick_true _ _ _ _ r.index (ap (λ (m : ℕ). Ok (Some m)) is))))))

  -- ---- where its cells lie
  module _ (r : Right s h at z u n) where
    lies : (k : ℕ) → k < n → Lies h s at z k
    lies k l = count_lies s at z k h (let e = r.count in omega arith)

    pub parts_within : 4 + n * part_of (field_of h) ≤ z
    parts_within = rw r.count (lies 0 (let o = r.some in omega arith)).0

    pub column_within : (k : ℕ) → k < n → first_at s at + k ≤ 255
    column_within k l = (lies k l).1 r.column

-- a listed cell tells where its value field is, and of which kind
pub cell_place : (s : List ℕ) (f : Field) (at k : ℕ) → ((cell_of s f at k).field ≡ place_of f at k) × ((cell_of s f at k).kind ≡ f)
unfolding cell_of cell_from
cell_place s f at k = (refl, refl)

-- ---- the k-th cell, as it is asked for one after the other
module _ (s : List ℕ) (h : Shape) (at z k : ℕ) where
  found_by : (b : Bool) → ltb k (count_of h s at z) ≡ b → (c : Cell) (left : ℕ) → pick {A = Option Found} b (Some (record { cell = (cell_of s (field_of h) at k); left = (count_of h s at z - (k + 1)) })) None ≡ Some (record { cell = c; left = left })
      → (k < count_of h s at z) × (c ≡ cell_of s (field_of h) at k) × (left ≡ count_of h s at z - (k + 1))
  unfolding pick
  found_by true e c left i =
      let f : ◌≡◌ {A = Found} (record { cell = cell_of s (field_of h) at k; left = count_of h s at z - (k + 1) }) (record { cell = c; left = left }) = cc in
      (ltb-true k (count_of h s at z) e, ap (λ (x : Found). x.cell) (sym f), ap (λ (x : Found). x.left) (sym f))
  found_by false e c left i = never (cc)

  pub found_there : (c : Cell) (left : ℕ) → found_of s h at z k ≡ Some (record { cell = c; left = left }) → (drop k (cells_of s h at z) ≡ c ∷ drop (suc k) (cells_of s h at z)) × (left + suc k ≡ length (cells_of s h at z))
  unfolding found_of cells_of cell_of
  found_there c left e =
      let b = found_by (ltb k (count_of h s at z)) refl c left e in
      let n : length (cells_of s h at z) ≡ count_of h s at z = cells_length (field_of h) s (row_at s at) (count_of h s at z) (first_at s at) (at + 8) in
      (cells_drop (field_of h) s (row_at s at) (count_of h s at z) (first_at s at) (at + 8) k _ _ b.0 refl refl ∙ ap (λ (x : Cell). x ∷ drop (suc k) (cells_of s h at z)) (sym b.1), omega (arith, b.0, b.2))
