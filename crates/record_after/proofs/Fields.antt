-- The cells from a part on: how many, where, and which bytes they read. Assumes nothing.
use Prim.Native.Nat.{ℕ, zero, suc, ◌+◌, ◌*◌, ◌≤◌, ◌<◌}
use mathlib.Core.Path.{◌≡◌, refl, sym, ap, ap₂, ◌∙◌}
use mathlib.Core.List.{List, ◌∷◌}
use mathlib.Core.Bool.{Bool, true, false}
use native.Mathlib.Omega.{arith}
use native.Mathlib.Nat.{suc-mul}
use lib.ListN.{length, drop}
use Rattle.steps.specs.Choice.{pick}
use Rattle.steps.proofs.Choice.{pick_true}
use Rattle.byte_numbers.specs.Bytes.{u16_at}
use Rattle.byte_numbers.proofs.Laws.{Same, num_same}
use Rattle.value.specs.declared.Field.{Field}
use Rattle.value.specs.declared.Field.TheVariants.{NoField, Float, RkWord, TextIndex, TruthError, StoredResult}
use Rattle.value.specs.Value.{width_of, value_of, value_fits}
use Rattle.cell.specs.declared.Cell.{Cell}
use Rattle.cell.specs.Cells.{part_of, start_of, length_at, tokens_at, field_at, cell_from, cells_from, fields_fit}
use Rattle.record_after.specs.Claims.{revalued}

-- ---- a value field lies in its part
pub field_in : (f : Field) → start_of f + width_of f ≤ part_of f
field_in NoField = omega arith
field_in Float = omega arith
field_in RkWord = omega arith
field_in TextIndex = omega arith
field_in TruthError = omega arith
field_in StoredResult = omega arith

both_first : (t r : Bool) → pick t r false ≡ true → t ≡ true
unfolding pick
both_first true r e = refl
both_first false r e = e

both_rest : (t r : Bool) → pick t r false ≡ true → r ≡ true
unfolding pick
both_rest true r e = e
both_rest false true e = refl
both_rest false false e = e

-- ---- the list
module _ (f : Field) (s : List ℕ) (row : ℕ) where
  pub cells_length : (n column q : ℕ) → length (cells_from f s row column q n) ≡ n
  unfolding cells_from
  cells_length zero column q = refl
  cells_length (suc n) column q = ap suc (cells_length n (column + 1) (q + part_of f))

  -- from the k-th on: the k-th, and those after it
  pub cells_drop : (n column q k c p : ℕ) → k < n → c ≡ column + k → p ≡ q + k * part_of f → drop k (cells_from f s row column q n) ≡ cell_from f s row c p ∷ drop (suc k) (cells_from f s row column q n)
  unfolding cells_from
  cells_drop zero column q k c p h i j = absurd (omega arith)
  cells_drop (suc n) column q zero c p h i j = ap₂ (λ (x y : ℕ). cell_from f s row x y ∷ cells_from f s row (column + 1) (q + part_of f) n) (omega arith) (omega arith)
  cells_drop (suc n) column q (suc k) c p h i j = cells_drop n (column + 1) (q + part_of f) k c p (omega arith) (omega arith) (omega (arith, suc-mul k (part_of f)))

-- ---- which bytes are read
module _ (s s' : List ℕ) where
  -- all of a part but its value field
  tokens_same : (f : Field) (q : ℕ) → Same s s' (q + start_of f + width_of f) (q + part_of f) → tokens_at f s q ≡ tokens_at f s' q
  unfolding length_at
  tokens_same NoField q h = refl
  tokens_same Float q h = refl
  tokens_same RkWord q h = refl
  tokens_same TextIndex q h = refl
  tokens_same TruthError q h = refl
  tokens_same StoredResult q h = λ j. record { start = q + 18; length = num_same s s' 2 (q + 16) (λ k i l. h k (omega arith) (omega arith)) j }

  format_same : (f : Field) (q : ℕ) → Same s s' q (q + start_of f) → Same s s' (q + start_of f + width_of f) (q + part_of f) → u16_at s q ≡ u16_at s' q
  format_same NoField q h i = num_same s s' 2 q (λ k a b. i k (omega arith) b)
  format_same Float q h i = num_same s s' 2 q h
  format_same RkWord q h i = num_same s s' 2 q h
  format_same TextIndex q h i = num_same s s' 2 q h
  format_same TruthError q h i = num_same s s' 2 q h
  format_same StoredResult q h i = num_same s s' 2 q h

  module _ (f : Field) where
    pub cell_other : (row column q : ℕ) → Same s s' q (q + start_of f) → Same s s' (q + start_of f + width_of f) (q + part_of f) → cell_from f s' row column q ≡ revalued (cell_from f s row column q) (value_of f (field_at f s' q))
    unfolding cell_from
    cell_other row column q h i =
        λ j. record { row = row; column = column; value = value_of f (field_at f s' q); tokens = sym (tokens_same f q i) j; format = sym (format_same f q h i) j; kind = f; field = q + start_of f }

    -- the whole part
    pub field_same : (q : ℕ) → Same s s' q (q + part_of f) → field_at f s q ≡ field_at f s' q
    unfolding field_at
    field_same q h = num_same s s' (width_of f) (q + start_of f) (λ k i j. h k (omega arith) (omega (arith, field_in f)))

    pub cell_same : (row column q : ℕ) → Same s s' q (q + part_of f) → cell_from f s' row column q ≡ cell_from f s row column q
    unfolding cell_from
    cell_same row column q h =
        cell_other row column q (λ k i j. h k i (omega (arith, field_in f))) (λ k i j. h k (omega arith) j)
        ∙ ap (λ (m : ℕ). revalued (cell_from f s row column q) (value_of f m)) (sym (field_same q h))

    -- n parts
    pub cells_same : (row n column q : ℕ) → Same s s' q (q + n * part_of f) → cells_from f s' row column q n ≡ cells_from f s row column q n
    unfolding cells_from
    cells_same row zero column q h = refl
    cells_same row (suc n) column q h =
        ap₂ (λ (x : Cell) (l : List Cell). x ∷ l) (cell_same row column q (λ k i j. h k i (omega (arith, suc-mul n (part_of f)))))
        (cells_same row n (column + 1) (q + part_of f) (λ k i j. h k (omega arith) (omega (arith, suc-mul n (part_of f)))))

    pub fits_same : (n q : ℕ) → Same s s' q (q + n * part_of f) → fields_fit f s' q n ≡ fields_fit f s q n
    unfolding fields_fit
    fits_same zero q h = refl
    fits_same (suc n) q h =
        ap₂ (λ (x y : Bool). pick x y false) (ap (value_fits f) (sym (field_same q (λ k i j. h k i (omega (arith, suc-mul n (part_of f)))))))
        (fits_same n (q + part_of f) (λ k i j. h k (omega arith) (omega (arith, suc-mul n (part_of f)))))

    -- ---- n parts that differ in the value field of the k-th alone, whose part is at p

    pub fits_change : (n q k p : ℕ) → k < n → p ≡ q + k * part_of f → Same s s' q (p + start_of f) → Same s s' (p + start_of f + width_of f) (q + n * part_of f)
        → fields_fit f s q n ≡ true → value_fits f (field_at f s' p) ≡ true → fields_fit f s' q n ≡ true
    unfolding fields_fit
    fits_change zero q k p l j a b x y = absurd (omega arith)
    fits_change (suc n) q zero p l j a b x y =
        let pq : p ≡ q = omega arith in
        sym (pick_true true (fields_fit f s' (q + part_of f) n) false _ (ap (λ (m : ℕ). value_fits f (field_at f s' m)) (sym pq) ∙ y)
        (sym (fits_same n (q + part_of f) (λ m u v. b m (omega (arith, field_in f)) (omega (arith, suc-mul n (part_of f)))) ∙ both_rest (value_fits f (field_at f s q)) (fields_fit f s (q + part_of f) n) x)))
    fits_change (suc n) q (suc k) p l j a b x y =
        sym (pick_true true (fields_fit f s' (q + part_of f) n) false _ (ap (value_fits f) (sym (field_same q (λ m u v. a m u (omega (arith, suc-mul k (part_of f)))))) ∙ both_first (value_fits f (field_at f s q)) (fields_fit f s (q + part_of f) n) x)
        (sym (fits_change n (q + part_of f) k p (omega arith) (omega (arith, suc-mul k (part_of f))) (λ m u v. a m (omega arith) v) (λ m u v. b m u (omega (arith, suc-mul n (part_of f)))) (both_rest (value_fits f (field_at f s q)) (fields_fit f s (q + part_of f) n) x) y)))
