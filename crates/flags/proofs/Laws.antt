-- Flags, digit by digit. Assumes nothing.
use Prim.Native.Nat.{ℕ, zero, suc, ◌+◌, ◌-◌, ◌*◌, ◌/◌, ◌%◌, ◌^◌, ◌≤◌, ◌<◌, max}
use mathlib.Core.Path.{◌≡◌, refl, sym, ap, ap₂, ◌∙◌}
use mathlib.Core.List.{List}
use mathlib.Core.Bool.{Bool, true, false}
use native.Mathlib.Omega.{arith}
use native.Mathlib.Nat.{mod-lt, mod-eq_of_lt, pow-suc, div-add-mod'}
use native.Mathlib.Numerals.{add-one}
use lib.ListN.{length, get_or, set, length-set}
use lib.Seq.{get_or-set_same, get_or-set_other}
use lib.Dec.{eqb, lit<}
use mir.Syntax.{w64}
use mir.Val.{Fits}
use lib.Arith.{digits_div, digits_mod}
use lib.Pow.{shl_exact, shr-shr, field, mod-mod-pow}
use lib.Bits.{bit_and, bit_or, or_step, or_zero_r, and_mask}
use lib.Count.{ones_in, ones, ones_step}
use borrow.Author.Tests.{eqb-true, eqb-false, eq-eqb, ne_eqb}
use Rattle.steps.specs.Choice.{pick}
use Rattle.steps.proofs.Choice.{pick_ne}
use Rattle.flags.specs.Flags.{bit_at, flag_at, set_below}
use Rattle.flags.specs.Parts.{SetOne}

two_pos : 0 < 2
two_pos = omega arith

-- ---- a digit
pub bit_is : (w k : ℕ) → w / 2 ^ k % 2 ≡ bit_at w k
unfolding bit_at
bit_is w zero = ap (λ (n : ℕ). n % 2) (div_one w)
  where
    div_one : (w : ℕ) → w / 2 ^ 0 ≡ w
    div_one w = omega arith
bit_is w (suc k) =
    let e : suc k ≡ 1 + k = omega arith in
    ap (λ (n : ℕ). w / 2 ^ n % 2) e ∙ ap (λ (n : ℕ). n % 2) (sym (shr-shr w 1 k)) ∙ bit_is (w / 2) k

-- a sum of a double and a digit
pair_half : (a b : ℕ) → b < 2 → (a * 2 + b) / 2 ≡ a
pair_half a b h = digits_div a h

pair_odd : (a b : ℕ) → b < 2 → (a * 2 + b) % 2 ≡ b
pair_odd a b h = digits_mod a h

max_two : (a b : ℕ) → a < 2 → b < 2 → max a b < 2
max_two a b h i = omega arith

or_half : (a b : ℕ) → bit_or a b / 2 ≡ bit_or (a / 2) (b / 2)
or_half a b = ap (λ (n : ℕ). n / 2) (or_step a b) ∙ pair_half (bit_or (a / 2) (b / 2)) (max (a % 2) (b % 2)) (max_two (a % 2) (b % 2) (mod-lt a two_pos) (mod-lt b two_pos))

or_odd : (a b : ℕ) → bit_or a b % 2 ≡ max (a % 2) (b % 2)
or_odd a b = ap (λ (n : ℕ). n % 2) (or_step a b) ∙ pair_odd (bit_or (a / 2) (b / 2)) (max (a % 2) (b % 2)) (max_two (a % 2) (b % 2) (mod-lt a two_pos) (mod-lt b two_pos))

pow_half : (r : ℕ) → 2 ^ suc r / 2 ≡ 2 ^ r
pow_half r = let e : 2 ^ suc r ≡ 2 ^ r * 2 + 0 = pow-suc 2 r ∙ sum (2 ^ r * 2) in ap (λ (n : ℕ). n / 2) e ∙ pair_half (2 ^ r) 0 two_pos
  where
    sum : (n : ℕ) → n ≡ n + 0
    sum n = omega arith

pow_even : (r : ℕ) → 2 ^ suc r % 2 ≡ 0
pow_even r = let e : 2 ^ suc r ≡ 2 ^ r * 2 + 0 = pow-suc 2 r ∙ sum (2 ^ r * 2) in ap (λ (n : ℕ). n % 2) e ∙ pair_odd (2 ^ r) 0 two_pos
  where
    sum : (n : ℕ) → n ≡ n + 0
    sum n = omega arith

-- digit t of a word in which digit r is set
pub bit_set : (r t w : ℕ) → bit_at (bit_or w (2 ^ r)) t ≡ pick (eqb t r) 1 (bit_at w t)
unfolding bit_at pick
bit_set zero zero w = or_odd w 1 ∙ one (w % 2) (mod-lt w two_pos)
  where
    one : (a : ℕ) → a < 2 → max a 1 ≡ 1
    one a h = omega arith
bit_set zero (suc t) w = ap (λ (n : ℕ). bit_at n t) (or_half w 1 ∙ or_zero_r (w / 2)) ∙ pick_ne _ _ _ (suc t) 0 (λ e. omega arith) refl
bit_set (suc r) zero w = or_odd w (2 ^ suc r) ∙ ap (max (w % 2)) (pow_even r) ∙ none (w % 2) ∙ pick_ne _ _ _ 0 (suc r) (λ e. omega arith) refl
  where
    none : (a : ℕ) → max a 0 ≡ a
    none a = omega arith
bit_set (suc r) (suc t) w = ap (λ (n : ℕ). bit_at n t) (or_half w (2 ^ suc r) ∙ ap (bit_or (w / 2)) (pow_half r)) ∙ bit_set r t (w / 2) ∙ ap (λ (b : Bool). pick b 1 (bit_at (w / 2) t)) (same (eqb t r) refl)
  where
    same : (b : Bool) → eqb t r ≡ b → eqb t r ≡ eqb (suc t) (suc r)
    same true h = h ∙ sym (eq-eqb (suc t) (suc r) (ap suc (eqb-true t r h)))
    same false h = h ∙ sym (ne_eqb (suc t) (suc r) (λ i. eqb-false t r h (omega arith)))

-- ---- a flag
-- k and i are in one word, or not
pub flag_set : (l : List ℕ) (i k : ℕ) → i / 64 < length l → flag_at (set l (i / 64) (bit_or (get_or l (i / 64) 0) (2 ^ (i % 64)))) k ≡ pick (eqb k i) 1 (flag_at l k)
unfolding flag_at
flag_set l i k h = by (eqb (k / 64) (i / 64)) refl
  where
    w : ℕ
    w = bit_or (get_or l (i / 64) 0) (2 ^ (i % 64))

    whole : (n : ℕ) → n / 64 * 64 + n % 64 ≡ n
    whole n = div-add-mod' n 64

    tests : k / 64 ≡ i / 64 → (b : Bool) → eqb (k % 64) (i % 64) ≡ b → eqb (k % 64) (i % 64) ≡ eqb k i
    tests e true t = let a = eqb-true (k % 64) (i % 64) t in t ∙ sym (eq-eqb k i (sym (whole k) ∙ ap₂ (λ (x y : ℕ). x * 64 + y) e a ∙ whole i))
    tests e false t = t ∙ sym (ne_eqb k i (λ j. eqb-false (k % 64) (i % 64) t (ap (λ (n : ℕ). n % 64) j)))

    by : (b : Bool) → eqb (k / 64) (i / 64) ≡ b → bit_at (get_or (set l (i / 64) w) (k / 64) 0) (k % 64) ≡ pick (eqb k i) 1 (bit_at (get_or l (k / 64) 0) (k % 64))
    by true e =
        let j = eqb-true (k / 64) (i / 64) e in
        ap (λ (n : ℕ). bit_at (get_or (set l (i / 64) w) n 0) (k % 64)) j ∙ ap (λ (n : ℕ). bit_at n (k % 64)) (get_or-set_same l (i / 64) w 0 h) ∙ bit_set (i % 64) (k % 64) (get_or l (i / 64) 0)
        ∙ ap₂ (λ (b : Bool) (n : ℕ). pick b 1 (bit_at (get_or l n 0) (k % 64))) (tests j (eqb (k % 64) (i % 64)) refl) (sym j)
    by false e =
        let j = eqb-false (k / 64) (i / 64) e in
        ap (λ (n : ℕ). bit_at n (k % 64)) (get_or-set_other l (i / 64) (k / 64) w 0 j)
        ∙ pick_ne _ _ _ k i (λ a. j (ap (λ (n : ℕ). n / 64) a)) refl

-- ---- how many are set
ones_digit : (b : ℕ) → b < 2 → ones b ≡ b
unfolding ones ones_in
ones_digit zero h = refl
ones_digit (suc zero) h = refl
ones_digit (suc (suc b)) h = absurd (omega arith)

-- those of a word's lower digits
low_step : (k w : ℕ) → ones (w % 2 ^ suc k) ≡ w % 2 + ones (w / 2 % 2 ^ k)
low_step k w =
    ap (λ (n : ℕ). ones (w % 2 ^ n)) (sym (add-one k)) ∙ ones_step (w % 2 ^ (k + 1)) ∙ ap₂ (λ (a b : ℕ). a + ones b) (mod-mod-pow w k 1) (field w k 1)

ones_low : (k w : ℕ) → ones (w % 2 ^ suc k) ≡ ones (w % 2 ^ k) + bit_at w k
unfolding bit_at
ones_low zero w =
    let a = ones_digit (w % 2) (mod-lt w two_pos) in
    let z : w % 1 ≡ 0 = let l = mod-lt w one_pos in omega arith in
    let b : ones (w % 1) ≡ 0 = ap ones z ∙ ones_digit 0 two_pos in
    omega arith
  where
    one_pos : 0 < 1
    one_pos = omega arith
ones_low (suc k) w =
    let a = low_step (suc k) w in
    let b = ones_low k (w / 2) in
    let c = low_step k w in
    omega arith

flag_in : (l : List ℕ) (j k : ℕ) → k < 64 → flag_at l (j * 64 + k) ≡ bit_at (get_or l j 0) k
unfolding flag_at
flag_in l j k h = ap₂ (λ (a b : ℕ). bit_at (get_or l a 0) b) (digits_div j h) (digits_mod j h)

set_in : (l : List ℕ) (j k : ℕ) → k ≤ 64 → set_below l (j * 64 + k) ≡ set_below l (j * 64) + ones (get_or l j 0 % 2 ^ k)
unfolding set_below
set_in l j zero h =
    let e : j * 64 + 0 ≡ j * 64 = omega arith in
    let z : get_or l j 0 % 1 ≡ 0 = let m = mod-lt (get_or l j 0) one_pos in omega arith in
    let b : ones (get_or l j 0 % 1) ≡ 0 = ap ones z ∙ ones_digit 0 two_pos in
    ap (set_below l) e ∙ (let r : set_below l (j * 64) ≡ set_below l (j * 64) + ones (get_or l j 0 % 1) = omega arith in r)
  where
    one_pos : 0 < 1
    one_pos = omega arith
set_in l j (suc k) h =
    let e : j * 64 + suc k ≡ suc (j * 64 + k) = omega arith in
    let a = flag_in l j k (omega arith) in
    let b = set_in l j k (omega arith) in
    let c = ones_low k (get_or l j 0) in
    ap (set_below l) e ∙ (let r : flag_at l (j * 64 + k) + set_below l (j * 64 + k) ≡ set_below l (j * 64) + ones (get_or l j 0 % 2 ^ suc k) = omega arith in r)

-- of a word that fits
pub set_whole : (l : List ℕ) (j : ℕ) → Fits w64 (get_or l j 0) → set_below l ((j + 1) * 64) ≡ set_below l (j * 64) + ones (get_or l j 0)
set_whole l j h =
    let e : (j + 1) * 64 ≡ j * 64 + 64 = omega arith in
    let low : get_or l j 0 < 2 ^ 64 = omega arith in
    ap (set_below l) e ∙ set_in l j 64 (omega arith) ∙ ap (λ (w : ℕ). set_below l (j * 64) + ones w) (mod-eq_of_lt low)

-- ---- the functions' own
pub flag_read : (l : List ℕ) (i : ℕ) → bit_and (get_or l (i / 64) 0 / 2 ^ (i % 64)) 1 ≡ flag_at l i
unfolding flag_at
flag_read l i = and_mask (get_or l (i / 64) 0 / 2 ^ (i % 64)) 1 ∙ bit_is (get_or l (i / 64) 0) (i % 64)

-- a word with digit k alone, as it is made
power : (k : ℕ) → k < 64 → (1 * 2 ^ k) % 18446744073709551616 ≡ 2 ^ k
power k h = shl_exact {a = 1} 1 k 64 (omega arith) (omega arith) ∙ once (2 ^ k)
  where
    once : (n : ℕ) → 1 * n ≡ n
    once n = omega arith

-- each flag is 0 or 1
bit_low : (k w : ℕ) → bit_at w k ≤ 1
unfolding bit_at
bit_low zero w = let l = mod-lt w two_pos in omega arith
bit_low (suc k) w = bit_low k (w / 2)

pub set_most : (l : List ℕ) (i : ℕ) → set_below l i ≤ i
unfolding set_below flag_at
set_most l zero = omega arith
set_most l (suc i) = let a = bit_low (i % 64) (get_or l (i / 64) 0) in let b = set_most l i in omega arith

pub set_none : (l : List ℕ) → set_below l 0 ≡ 0
unfolding set_below
set_none l = refl

module _ (l : List ℕ) (i : ℕ) where
  pub one_in : i / 64 < length l → SetOne i l (set l (i / 64) (bit_or (get_or l (i / 64) 0) ((1 * 2 ^ (i % 64)) % 18446744073709551616)))
  one_in h = record {
    size = length-set l (i / 64) _;
    at = λ k _. ap (λ (w : ℕ). flag_at (set l (i / 64) (bit_or (get_or l (i / 64) 0) w)) k) (power (i % 64) (mod-lt i (lit< tt))) ∙ flag_set l i k h;
  }

  pub one_past : length l ≤ i / 64 → SetOne i l l
  one_past h = record { size = refl; at = λ k b. pick_ne _ _ _ k i (λ e. absurd (let j = ap (λ (n : ℕ). n / 64) e in omega arith)) refl }

  -- those below the digit, as the code masks them out
  pub set_masked : set_below l i ≡ set_below l (i / 64 * 64) + ones (bit_and (get_or l (i / 64) 0) ((1 * 2 ^ (i % 64)) % 18446744073709551616 - 1))
  set_masked =
      let m : i % 64 < 64 = mod-lt i (lit< tt) in
      ap (set_below l) (sym (div-add-mod' i 64)) ∙ set_in l (i / 64) (i % 64) (omega arith)
      ∙ ap (λ (w : ℕ). set_below l (i / 64 * 64) + ones w) (sym (and_mask (get_or l (i / 64) 0) (i % 64)) ∙ ap (λ (n : ℕ). bit_and (get_or l (i / 64) 0) (n - 1)) (sym (power (i % 64) m)))

pub ruleset flag_laws = (flag_read, one_past, set_none, set_most, set_masked)
