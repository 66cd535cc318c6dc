-- The laws of the list of differences, for those who make it. Assumes nothing.
use Prim.Native.Nat.{ℕ, zero, suc, ◌+◌, ◌-◌, ◌*◌, ◌/◌, ◌%◌, ◌≤◌, ◌<◌}
use mathlib.Core.Path.{◌≡◌, refl, sym, ap, ◌∙◌}
use mathlib.Core.Bool.{Bool, true, false}
use mathlib.Core.List.{List, [], ◌∷◌, ◌++◌, append_assoc}
use native.Mathlib.Omega.{arith}
use lib.ListN.{length}
use lib.Dec.{eqb}
use borrow.Author.Tests.{eqb-true}
use Rattle.steps.specs.Choice.{pick}
use Rattle.steps.proofs.Choice.{pick_eq, pick_ne, pick_lt, pick_nlt, pick_any, never}
use Rattle.steps.specs.Items.{nth}
use Rattle.reading.specs.Reading.{SheetReading, Reading}
use Rattle.differences.specs.Differences.{same, held_at, Difference, none, cells_in, cell_difference, names_between, name_difference, sheet_keys, addresses, name_key, cell_key, difference_in, difference_at, words_of, words_from, keys_of}

-- ---- the words of a range of keys
module _ (d : ℕ → Difference) where
  pub words_split : (m n k : ℕ) → words_from d k (m + n) ≡ words_from d k m ++ words_from d (k + m) n
  unfolding words_from
  words_split zero n k = let a : 0 + n ≡ n = omega arith in let b : k + 0 ≡ k = omega arith in rw (a, b) refl
  words_split (suc m) n k =
      let a : suc m + n ≡ suc (m + n) = omega arith in
      let b : k + 1 + m ≡ k + suc m = omega arith in
      ap (words_from d k) a
      ∙ ap (λ (l : List ℕ). words_of k (d k) ++ l) (words_split m n (k + 1))
      ∙ sym (append_assoc (words_of k (d k)) (words_from d (k + 1) m) (words_from d (k + 1 + m) n))
      ∙ ap (λ (j : ℕ). (words_of k (d k) ++ words_from d (k + 1) m) ++ words_from d j n) b

  pub words_none : (n k : ℕ) → ((j : ℕ) → k ≤ j → j < k + n → d j ≡ none) → words_from d k n ≡ []
  unfolding words_from
  words_none zero k h = refl
  words_none (suc n) k h =
      ap (λ (x : Difference). words_of k x ++ words_from d (k + 1) n) (h k (omega arith) (omega arith))
      ∙ words_none n (k + 1) (λ j l m. h j (omega arith) (omega arith))

pub words_agree : (d e : ℕ → Difference) (n k : ℕ) → ((j : ℕ) → k ≤ j → j < k + n → d j ≡ e j) → words_from d k n ≡ words_from e k n
unfolding words_from
words_agree d e zero k h = refl
words_agree d e (suc n) k h =
    ap (λ (x : Difference). words_of k x ++ words_from d (k + 1) n) (h k (omega arith) (omega arith))
    ∙ ap (λ (l : List ℕ). words_of k (e k) ++ l) (words_agree d e n (k + 1) (λ j l m. h j (omega arith) (omega arith)))

-- ---- the difference at a key
module _ (x y : Reading) where
  at_by : (n k q r : ℕ) → q ≡ n → r ≡ k → difference_in x y q r ≡ difference_in x y n k
  at_by n k q r i j = rw (i, j) refl

  pub at_key : (n k : ℕ) → k < sheet_keys → difference_at x y (n * sheet_keys + k) ≡ difference_in x y n k
  unfolding difference_at
  at_key n k l = at_by n k ((n * sheet_keys + k) / sheet_keys) ((n * sheet_keys + k) % sheet_keys) (omega arith) (omega arith)

  pub in_name : (n : ℕ) → difference_in x y n 0 ≡ name_difference x y n
  unfolding difference_in
  in_name n = sym (pick_eq _ _ _ 0 0 refl refl)

  pub in_gap : (n k : ℕ) → 0 < k → k < addresses → difference_in x y n k ≡ none
  unfolding difference_in
  in_gap n k l m = sym (pick_ne none _ _ k 0 (λ i. omega arith) (pick_lt none _ _ k addresses m refl))

  pub in_cell : (n a : ℕ) → difference_in x y n (addresses + a) ≡ cell_difference x y n a
  unfolding difference_in
  in_cell n a =
      sym (pick_ne _ _ _ (addresses + a) 0 (λ i. omega arith) (pick_nlt _ _ _ (addresses + a) addresses (omega arith)
      (ap (cell_difference x y n) (let e : a ≡ addresses + a - addresses = omega arith in e))))

  pub at_name : (n : ℕ) → difference_at x y (name_key n) ≡ name_difference x y n
  at_name n = ap (difference_at x y) (let e : name_key n ≡ name_key n + 0 = omega arith in e) ∙ at_key n 0 (omega arith) ∙ in_name n

  pub at_cell : (n a : ℕ) → a < addresses → difference_at x y (cell_key n a) ≡ cell_difference x y n a
  at_cell n a l =
      ap (difference_at x y) (let e : cell_key n a ≡ n * sheet_keys + (addresses + a) = omega arith in e)
      ∙ at_key n (addresses + a) (omega arith) ∙ in_cell n a

-- ---- past the last sheet there is none
nth_past : {A B : Type 0} (f : A → B) (d : B) (l : List A) (n : ℕ) → length l ≤ n → nth l n f d ≡ d
unfolding nth
nth_past f d [] n h = refl
nth_past f d (x ∷ l) zero h = absurd (omega arith)
nth_past f d (x ∷ l) (suc n) h = nth_past f d l n (omega arith)

module _ (x y : Reading) (n : ℕ) (p : length x.sheets ≤ n) (q : length y.sheets ≤ n) where
  cells_past : (z : Reading) → length z.sheets ≤ n → cells_in z n ≡ []
  unfolding cells_in
  cells_past z h = nth_past (λ (p : SheetReading). p.cells) [] z.sheets n h

  cell_past : (a : ℕ) → cell_difference x y n a ≡ none
  unfolding cell_difference held_at
  cell_past a = rw (cells_past x p, cells_past y q) refl

  name_past : name_difference x y n ≡ none
  unfolding name_difference
  name_past = nth_past (λ (p : SheetReading). nth y.sheets n (λ (q : SheetReading). names_between p q) none) none x.sheets n p

  pub in_past : (k : ℕ) → difference_in x y n k ≡ none
  unfolding difference_in
  in_past k = pick_any (λ (d : Difference). d ≡ none) _ name_past (pick_any (λ (d : Difference). d ≡ none) _ refl (cell_past (k - addresses)))

pub at_past : (x y : Reading) (k : ℕ) → keys_of x y ≤ k → difference_at x y k ≡ none
unfolding difference_at keys_of
at_past x y k h = in_past x y (k / sheet_keys) (omega arith) (omega arith) (k % sheet_keys)

-- ---- the same
pub same_refl : (l : List ℕ) → same l l ≡ true
unfolding same
same_refl [] = refl
same_refl (x ∷ l) = sym (pick_eq _ _ _ x x refl (sym (same_refl l)))

same_by : (x y : ℕ) (l m : List ℕ) (b : Bool) → eqb x y ≡ b → (same l m ≡ true → l ≡ m) → pick b (same l m) false ≡ true → x ∷ l ≡ y ∷ m
unfolding pick
same_by x y l m true i f j = let a = eqb-true x y i in let b = f j in λ k. a k ∷ b k
same_by x y l m false i f j = never (cc)

pub same_eq : (l m : List ℕ) → same l m ≡ true → l ≡ m
unfolding same
same_eq [] [] h = refl
same_eq [] (y ∷ m) h = never (cc)
same_eq (x ∷ l) [] h = never (cc)
same_eq (x ∷ l) (y ∷ m) h = same_by x y l m (eqb x y) refl (same_eq l m) h
