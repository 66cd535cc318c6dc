-- What the code computes of an RK word is what the word means. Assumes nothing.
use mathlib.Core.Path.{◌≡◌, refl, sym, ap, ◌∙◌}
use mathlib.Core.Bool.{Bool, true, false, not, ◌&&◌, cond}
use Prim.Native.Nat.{ℕ, suc, ◌+◌, ◌-◌, ◌*◌, ◌/◌, ◌%◌, ◌^◌, ◌≤◌, ◌<◌}
use native.Mathlib.Nat.{lt_of_le_of_lt, mod-eq_of_lt, mul-one, mul_comm, mul_assoc, mul_right_comm, mul-pos, mul-le-mul_right, div-le_self, add-mul, eq_of_mul-eq-mul_right}
use native.Mathlib.Omega.{arith}
use lib.IntN.{ℤ, pos, negsuc, ◌-ℤ◌}
use lib.Arith.{digits_mod}
use lib.Bits.{bit_and, bit_xor, and_mask, and_high, and_block, xor_add_and}
use lib.Pow.{split, pow_pos}
use lib.Dec.{T, leb, eqb, lit<}
use lib.Ieee.{Float, fin, binary64, up, down, round, sum, add, sub, neg, div, of_int, of_bits, to_bits, is_nan, nan_bits, unlike}
use lib.Ieee.Fits.{down_pos}
use lib.Ieee.Bits.{to_bits-of_bits}
use lib.Ieee.Exact.{HasValue}
use lib.Ieee.Back.{round_whole}
use borrow.Author.Tests.{lt-ltb, le-ltb, lt-leb, eq-eqb, ne_eqb, eqb-true, eqb-false, leb-true, leb-false}
use mir.Syntax.{w32}
use mir.Val.{SFits, to_z, of_z}
use mir.ValLaws.{to_z_pos, to_z-of_z}
use Rattle.steps.specs.Choice.{pick}
use Rattle.steps.proofs.Choice.{pick_any}
use Rattle.number.specs.Float64.{is_nan_bits, float_sign, float_size}
use Rattle.number.specs.Rk.{is_whole, whole_sign, whole_size, float_bits, rk_sign, rk_size, quotient_bits, is_divided, rk_bits, means_nothing, rk_of}
use Rattle.number.specs.Rounding.{rounded, signed}
use Rattle.std.specs.Prelude.{Some, None}
use Rattle.number.proofs.Rounding.{round_of, rounded_lt, rounded_number}
use Rattle.number.proofs.Float64.{nan_float, not_T, pattern_number}
use Rattle.number.proofs.Units.{Finite, finite_value, finite_number, finite_hundredth, size_rounded}

-- ---- the masks

nothing_mask : (w : ℕ) → bit_and w 0x7FF0_0002 ≡ w / 2 ^ 20 % 2 ^ 11 * 2 ^ 20 + w / 2 % 2 * 2
nothing_mask w =
    let low : w % 2 ^ 20 / 2 % 2 ≡ w / 2 % 2 = omega arith in
    ap (λ (n : ℕ). bit_and n (2047 * 2 ^ 20 + 2)) (sym (split w 20))
    ∙ and_block 20 (w / 2 ^ 20) 2047 (w % 2 ^ 20) 2 (omega arith) (omega arith)
    ∙ rw (and_mask (w / 2 ^ 20) 11, and_high (w % 2 ^ 20) 1 1, low)

nothing_test : (x f : ℕ) → x < 2 → eqb (f * 2 ^ 20 + x * 2) (2047 * 2 ^ 20) ≡ (not (eqb x 1) && eqb f 2047)
nothing_test x f l = go (eqb x 1) (eqb f 2047) refl refl
  where
    go : (a b : Bool) → eqb x 1 ≡ a → eqb f 2047 ≡ b → eqb (f * 2 ^ 20 + x * 2) (2047 * 2 ^ 20) ≡ (not a && b)
    go true b p q = ne_eqb _ _ (λ (e : f * 2 ^ 20 + x * 2 ≡ 2047 * 2 ^ 20). omega (arith, eqb-true x 1 p, digits_mod f {m = 2 ^ 20} {r = x * 2} (omega arith), ap (λ (n : ℕ). n % 2 ^ 20) e))
    go false true p q = eq-eqb (f * 2 ^ 20 + x * 2) (2047 * 2 ^ 20) (omega (arith, eqb-true f 2047 q, eqb-false x 1 p))
    go false false p q = ne_eqb _ _ (λ (e : f * 2 ^ 20 + x * 2 ≡ 2047 * 2 ^ 20). omega (arith, eqb-false f 2047 q))

pub masked_nothing : (w : ℕ) → eqb (bit_and w 2146435074) 2146435072 ≡ means_nothing w
unfolding means_nothing
masked_nothing w = ap (λ (n : ℕ). eqb n (2047 * 2 ^ 20)) (nothing_mask w) ∙ nothing_test (w / 2 % 2) (w / 2 ^ 20 % 2 ^ 11) (omega arith)

-- what `means_nothing` told
pub nothing_told : (w : ℕ) (t v : Bool) → t ≡ means_nothing w → t ≡ v → means_nothing w ≡ v
nothing_told w t v h e = sym h ∙ e

-- ---- a whole number, exact as an f64

pub size_le : (v : ℕ) → v < 2 ^ 30 → whole_size v ≤ 2 ^ 53
size_le v h = pick_any (λ (m : ℕ). m ≤ 2 ^ 53) (whole_sign v) (omega arith) (omega arith)

pub whole_lt : (m : ℕ) → m ≤ 2 ^ 53 → m * 2 ^ 1074 < 2 ^ 2097
whole_lt m h = lt_of_le_of_lt (mul-le-mul_right (2 ^ 1074) h) (lit< {m = 2 ^ 53 * 2 ^ 1074} {n = 2 ^ 2097} tt)

in_units_lem : (x : Float) (s : Bool) (m : ℕ) → HasValue x s m 1 → HasValue x s (m * 2 ^ 1074) (2 ^ 1074)
in_units_lem (fin t k e) s m v = (v.0, ap (λ (y : ℕ). y * 2 ^ 1074) (sym (mul-one (k * up e)) ∙ v.1) ∙ mul_right_comm m (down e) (2 ^ 1074))
in_units_lem lib.Ieee.nan s m v = elim v [ ]
in_units_lem (lib.Ieee.inf _) s m v = elim v [ ]

pub whole_rounded : (s : Bool) (m : ℕ) → m ≤ 2 ^ 53 → round binary64 s m 1 ≡ of_bits binary64 (signed s (rounded (m * 2 ^ 1074) 1))
whole_rounded s m h = round_of s m 1 (m * 2 ^ 1074) 1 (lit< tt) (lit< tt) refl (lt_of_le_of_lt (div-le_self (m * 2 ^ 1074) 1) (whole_lt m h))

-- ---- the signed whole number of 30 bits

-- with the uppermost bit turned around, 2 ^ 29 above what it counts
turned : (v : ℕ) → v < 2 ^ 30 → bit_xor v 536870912 + v / 2 ^ 29 * 2 ^ 30 ≡ v + 2 ^ 29
turned v h = let a = xor_add_and v 536870912 in let b = and_high v 1 29 in omega arith

pub turned_lt : (v : ℕ) → v < 2 ^ 30 → bit_xor v 536870912 < 2 ^ 30
turned_lt v h = omega (arith, turned v h)

pub turned_small : (v : ℕ) → v < 2 ^ 30 → bit_xor v 536870912 < 2147483648
turned_small v h = omega (arith, turned_lt v h)

-- converted: the difference that the code takes
difference : ℕ → ℤ
difference v = to_z w32 (bit_xor v 536870912) -ℤ pos 536870912

difference_low : (v : ℕ) → v < 2 ^ 29 → difference v ≡ pos v
unfolding difference
difference_low v h =
    let up : bit_xor v 536870912 ≡ v + 2 ^ 29 = omega (arith, turned v (omega arith)) in
    let back : v + 2 ^ 29 - 2 ^ 29 ≡ v = omega arith in
    rw (up, to_z_pos w32 (v + 2 ^ 29) (omega arith)) (ap (λ (b : Bool). cond b (negsuc (2 ^ 29 - suc (v + 2 ^ 29))) (pos (v + 2 ^ 29 - 2 ^ 29))) (le-ltb (v + 2 ^ 29) (2 ^ 29) (omega arith)) ∙ ap pos back)

difference_high : (v : ℕ) → 2 ^ 29 ≤ v → v < 2 ^ 30 → difference v ≡ negsuc (2 ^ 30 - suc v)
unfolding difference
difference_high v l h =
    let down : bit_xor v 536870912 ≡ v - 2 ^ 29 = omega (arith, turned v h) in
    let back : 2 ^ 29 - suc (v - 2 ^ 29) ≡ 2 ^ 30 - suc v = omega arith in
    rw (down, to_z_pos w32 (v - 2 ^ 29) (omega arith)) (ap (λ (b : Bool). cond b (negsuc (2 ^ 29 - suc (v - 2 ^ 29))) (pos (v - 2 ^ 29 - 2 ^ 29))) (lt-ltb (v - 2 ^ 29) (2 ^ 29) (omega arith)) ∙ ap negsuc back)

-- by the test of the sign
by_sign : (v : ℕ) → v < 2 ^ 30 → (P : ℤ → Bool → ℕ → Type 0) → (v < 2 ^ 29 → P (pos v) false v) → (2 ^ 29 ≤ v → P (negsuc (2 ^ 30 - suc v)) true (2 ^ 30 - v)) → P (difference v) (whole_sign v) (whole_size v)
unfolding pick
by_sign v h P low high = go (leb (2 ^ 29) v) refl
  where
    go : (t : Bool) → leb (2 ^ 29) v ≡ t → P (difference v) t (pick t (2 ^ 30 - v) v)
    go false e = let l = leb-false (2 ^ 29) v e in rw (difference_low v l) (low l)
    go true e = let l = leb-true (2 ^ 29) v e in rw (difference_high v l h) (high l)

pub converted_fits : (v : ℕ) → v < 2 ^ 30 → SFits w32 (to_z w32 (bit_xor v 536870912) -ℤ pos 536870912)
unfolding difference
converted_fits v h = by_sign v h (λ z s m. SFits w32 z) (λ l. record { sfits = omega arith }) (λ l. record { sfits = omega arith })

pub converted_is : (v : ℕ) → v < 2 ^ 30 → of_int binary64 (to_z w32 (of_z w32 (to_z w32 (bit_xor v 536870912) -ℤ pos 536870912))) ≡ round binary64 (whole_sign v) (whole_size v) 1
unfolding difference of_int
converted_is v h =
    ap (of_int binary64) (to_z-of_z w32 (difference v) (converted_fits v h))
    ∙ by_sign v h (λ z s m. of_int binary64 z ≡ round binary64 s m 1) (λ l. refl) (λ l. ap (λ (m : ℕ). round binary64 true m 1) (size_is v h))
  where
    size_is : (v : ℕ) → v < 2 ^ 30 → suc (2 ^ 30 - suc v) ≡ 2 ^ 30 - v
    size_is v h = omega arith

pub raised_lt : (v : ℕ) → v < 2 ^ 30 → 0x4330_0000_0000_0000 + bit_xor v 536870912 < 2 ^ 64
raised_lt v h = omega (arith, turned_lt v h)

-- raised: 2 ^ 52 and the 30 bits below it, as an f64
module _ (m : ℕ) (h : m < 2 ^ 30) where
  raised_finite : Finite (0x4330_0000_0000_0000 + m)
  raised_finite e = omega arith

  pub raised_number : T (not (nan_bits binary64 (0x4330_0000_0000_0000 + m)))
  raised_number = pattern_number (0x4330_0000_0000_0000 + m) (finite_number (0x4330_0000_0000_0000 + m) raised_finite)

  raised_value : HasValue (of_bits binary64 (0x4330_0000_0000_0000 + m)) false ((2 ^ 52 + m) * 2 ^ 1074) (2 ^ 1074)
  raised_value =
      let b = 0x4330_0000_0000_0000 + m in
      let sign : leb (2 ^ 63) b ≡ false = lt-leb (2 ^ 63) b (omega arith) in
      let field : b % 2 ^ 63 / 2 ^ 52 ≡ 1075 = omega arith in
      let digits : b % 2 ^ 52 ≡ m = omega arith in
      rw (sign, field, digits) at (finite_value b raised_finite)

-- a whole number less 2 ^ 52 + 2 ^ 29
module _ (t : Bool) (m : ℕ) (e : ℤ) (a k : ℕ) (v : HasValue (fin t m e) false (a * 2 ^ 1074) (2 ^ 1074)) (small : k ≤ 2 ^ 53) where
  scaled : m * up e * 1 ≡ a * down e
  scaled = mul-one (m * up e) ∙ eq_of_mul-eq-mul_right (2 ^ 1074) (pow_pos 1074) (m * up e) (a * down e) (v.1 ∙ mul_right_comm a (2 ^ 1074) (down e))

  -- the denominator cancels
  cancelled : (s : Bool) → round binary64 s (k * down e) (down e * 1) ≡ round binary64 s k 1
  cancelled s =
      round_of s (k * down e) (down e * 1) (k * 2 ^ 1074) 1 (rw (mul-one (down e)) (down_pos e)) (lit< tt) same (lt_of_le_of_lt (div-le_self (k * 2 ^ 1074) 1) (whole_lt k small)) ∙ sym (whole_rounded s k small)
    where
      same : k * down e * 2 ^ 1074 * 1 ≡ k * 2 ^ 1074 * (down e * 1)
      same = rw (mul-one, mul-one (down e)) (mul_right_comm k (down e) (2 ^ 1074))

  apart : (b c d : ℕ) → b + c ≡ d → d * down e ≡ b * down e + c * down e
  apart b c d i = ap (λ (x : ℕ). x * down e) (sym i) ∙ add-mul b c (down e)

  summed : sub binary64 (fin t m e) (of_bits binary64 0x4330_0000_2000_0000) ≡ sum binary64 false (a * down e) true (4503600164241408 * down e) (down e * 1)
  unfolding sub add neg of_bits
  summed = ap (λ (s : Bool). sum binary64 s (m * up e * 1) true (4503600164241408 * down e) (down e * 1)) v.0 ∙ ap (λ (n : ℕ). sum binary64 false n true (4503600164241408 * down e) (down e * 1)) scaled

  less_above : 4503600164241408 + k ≡ a → sub binary64 (fin t m e) (of_bits binary64 0x4330_0000_2000_0000) ≡ round binary64 false k 1
  unfolding sum
  less_above i =
      let p = apart 4503600164241408 k a i in
      let d : a * down e - 4503600164241408 * down e ≡ k * down e = omega arith in
      summed
      ∙ ap (λ (b : Bool). cond b (round binary64 true (4503600164241408 * down e - a * down e) (down e * 1)) (round binary64 false (a * down e - 4503600164241408 * down e) (down e * 1))) (le-ltb (a * down e) (4503600164241408 * down e) (omega arith))
      ∙ ap (λ (n : ℕ). round binary64 false n (down e * 1)) d
      ∙ cancelled false

  less_below : a + k ≡ 4503600164241408 → 0 < k → sub binary64 (fin t m e) (of_bits binary64 0x4330_0000_2000_0000) ≡ round binary64 true k 1
  unfolding sum
  less_below i l =
      let p = apart a k 4503600164241408 i in
      let o : 0 < k * down e = mul-pos l (down_pos e) in
      let d : 4503600164241408 * down e - a * down e ≡ k * down e = omega arith in
      summed
      ∙ ap (λ (b : Bool). cond b (round binary64 true (4503600164241408 * down e - a * down e) (down e * 1)) (round binary64 false (a * down e - 4503600164241408 * down e) (down e * 1))) (lt-ltb (a * down e) (4503600164241408 * down e) (omega arith))
      ∙ ap (λ (n : ℕ). round binary64 true n (down e * 1)) d
      ∙ cancelled true

pub raised_is : (v : ℕ) → v < 2 ^ 30 → sub binary64 (of_bits binary64 (0x4330_0000_0000_0000 + bit_xor v 536870912)) (of_bits binary64 0x4330_0000_2000_0000) ≡ round binary64 (whole_sign v) (whole_size v) 1
unfolding pick
raised_is v h = go (of_bits binary64 (0x4330_0000_0000_0000 + bit_xor v 536870912)) (raised_value (bit_xor v 536870912) (turned_lt v h)) (leb (2 ^ 29) v) refl
  where
    go : (x : Float) → HasValue x false ((2 ^ 52 + bit_xor v 536870912) * 2 ^ 1074) (2 ^ 1074) → (t : Bool) → leb (2 ^ 29) v ≡ t → sub binary64 x (of_bits binary64 0x4330_0000_2000_0000) ≡ round binary64 t (pick t (2 ^ 30 - v) v) 1
    go (fin s m e) i false f = let l = leb-false (2 ^ 29) v f in less_above s m e (2 ^ 52 + bit_xor v 536870912) v i (omega arith) (omega (arith, turned v h))
    go (fin s m e) i true f = let l = leb-true (2 ^ 29) v f in less_below s m e (2 ^ 52 + bit_xor v 536870912) (2 ^ 30 - v) i (omega arith) (omega (arith, turned v h)) (omega arith)
    go lib.Ieee.nan i t f = elim i [ ]
    go (lib.Ieee.inf _) i t f = elim i [ ]

-- ---- a number divided by 100

unlike_false : (t : Bool) → unlike t false ≡ t
unlike_false true = refl
unlike_false false = refl

pub hundredth : (x : Float) (s : Bool) (n : ℕ) → HasValue x s n (2 ^ 1074) → n / 100 < 2 ^ 2097 → div binary64 x (of_bits binary64 0x4059_0000_0000_0000) ≡ of_bits binary64 (signed s (rounded n 100))
unfolding div of_bits
hundredth (fin t m e) s n v h =
    ap (λ (u : Bool). round binary64 u (m * up e * 1) (100 * down e)) (unlike_false t ∙ v.0)
    ∙ round_of s (m * up e * 1) (100 * down e) n 100 (mul-pos (lit< tt) (down_pos e)) (lit< tt) same h
  where
    same : m * up e * 1 * 2 ^ 1074 * 100 ≡ n * (100 * down e)
    same = rw (mul-one, v.1, mul_assoc, mul_comm 100 (down e))
hundredth lib.Ieee.nan s n v h = elim v [ ]
hundredth (lib.Ieee.inf _) s n v h = elim v [ ]

-- ---- the number of a word, by its form

pub by_form : (w : ℕ) (P : Bool → ℕ → Type 0)
    → (is_whole w ≡ true → P (whole_sign (w / 4)) (whole_size (w / 4) * 2 ^ 1074))
    → (is_whole w ≡ false → P (float_sign (float_bits (w / 4))) (float_size (float_bits (w / 4))))
    → P (rk_sign w) (rk_size w)
unfolding rk_sign rk_size pick
by_form w P whole float = go (is_whole w) refl
  where
    go : (t : Bool) → is_whole w ≡ t → P (pick t (whole_sign (w / 4)) (float_sign (float_bits (w / 4)))) (pick t (whole_size (w / 4) * 2 ^ 1074) (float_size (float_bits (w / 4))))
    go true e = whole e
    go false e = float e

module _ (w : ℕ) (f : w < 2 ^ 32) (m : means_nothing w ≡ false) where
  pub word_finite : is_whole w ≡ false → Finite (float_bits (w / 4))
  unfolding means_nothing
  word_finite e = let h = eqb-false (w / 2 ^ 20 % 2 ^ 11) 2047 (rw e at m) in λ k. h (omega arith)

  pub undivided_value : HasValue (of_bits binary64 (quotient_bits w 1)) (rk_sign w) (rk_size w) (2 ^ 1074)
  unfolding quotient_bits
  undivided_value =
      let v = w / 4 in
      let l = size_le v (omega arith) in
      by_form w (λ s n. HasValue (of_bits binary64 (signed s (rounded n 1))) s n (2 ^ 1074))
      (λ e. rw (← whole_rounded (whole_sign v) (whole_size v) l) (in_units_lem (round binary64 (whole_sign v) (whole_size v) 1) (whole_sign v) (whole_size v) (round_whole binary64 (whole_sign v) (whole_size v) l)))
      (λ e. rw (size_rounded (float_bits v) (omega arith)) (finite_value (float_bits v) (word_finite e)))

  pub hundredth_lt : rk_size w / 100 < 2 ^ 2097
  hundredth_lt =
      by_form w (λ s n. n / 100 < 2 ^ 2097)
      (λ e. lt_of_le_of_lt (div-le_self (whole_size (w / 4) * 2 ^ 1074) 100) (whole_lt (whole_size (w / 4)) (size_le (w / 4) (omega arith))))
      (λ e. finite_hundredth (float_bits (w / 4)) (word_finite e))

  divided_is : div binary64 (of_bits binary64 (quotient_bits w 1)) (of_bits binary64 0x4059_0000_0000_0000) ≡ of_bits binary64 (quotient_bits w 100)
  unfolding quotient_bits
  divided_is = hundredth (of_bits binary64 (quotient_bits w 1)) (rk_sign w) (rk_size w) undivided_value hundredth_lt

-- ---- the 64 bits of a number, and no NaN's

abbrev pub Pattern : ℕ → Type 0
Pattern b = (b < 2 ^ 64) × (is_nan_bits b ≡ false)

rounded_pattern : (s : Bool) (n d : ℕ) → 0 < d → n / d < 2 ^ 2097 → Pattern (signed s (rounded n d))
rounded_pattern s n d D h = (rounded_lt s n d D h, rounded_number s n d D h)

whole_pattern : (v : ℕ) → v < 2 ^ 30 → Pattern (signed (whole_sign v) (rounded (whole_size v * 2 ^ 1074) 1))
whole_pattern v h = rounded_pattern (whole_sign v) (whole_size v * 2 ^ 1074) 1 (lit< tt) (lt_of_le_of_lt (div-le_self (whole_size v * 2 ^ 1074) 1) (whole_lt (whole_size v) (size_le v h)))

module _ (w : ℕ) (f : w < 2 ^ 32) (m : means_nothing w ≡ false) where
  pub undivided_pattern : Pattern (quotient_bits w 1)
  unfolding quotient_bits
  undivided_pattern =
      let v = w / 4 in
      by_form w (λ s n. Pattern (signed s (rounded n 1)))
      (λ e. whole_pattern v (omega arith))
      (λ e. rw (size_rounded (float_bits v) (omega arith)) (omega arith, finite_number (float_bits v) (word_finite w f m e)))

  pub divided_pattern : Pattern (quotient_bits w 100)
  unfolding quotient_bits
  divided_pattern = rounded_pattern (rk_sign w) (rk_size w) 100 (lit< tt) (hundredth_lt w f m)

-- an f64 of such bits is a number, and has these bits
module _ (x : Float) (b : ℕ) (e : x ≡ of_bits binary64 b) (p : Pattern b) where
  is_number : T (not (is_nan x))
  is_number = not_T (is_nan x) (ap is_nan e ∙ sym (nan_float b) ∙ p.1)

  its_bits : to_bits binary64 x ≡ b
  its_bits = ap (to_bits binary64) e ∙ to_bits-of_bits binary64 b p.0 (not_T (is_nan (of_bits binary64 b)) (sym (nan_float b) ∙ p.1))

-- ---- what the code picks

module _ (w : ℕ) (x : Float) (f : w < 2 ^ 32) (i : x ≡ round binary64 (whole_sign (w / 4)) (whole_size (w / 4)) 1) where
  as_bits : x ≡ of_bits binary64 (signed (whole_sign (w / 4)) (rounded (whole_size (w / 4) * 2 ^ 1074) 1))
  as_bits = i ∙ whole_rounded (whole_sign (w / 4)) (whole_size (w / 4)) (size_le (w / 4) (omega arith))

  pub whole_number : T (not (is_nan x))
  whole_number = is_number x _ as_bits (whole_pattern (w / 4) (omega arith))

  pub whole_bits : (w / 2 % 2 ≡ 0 → ⊥) → to_bits binary64 x ≡ quotient_bits w 1
  unfolding quotient_bits rk_sign rk_size pick
  whole_bits o = let e : is_whole w ≡ true = eq-eqb (w / 2 % 2) 1 (omega (arith, o)) in rw e (its_bits x _ as_bits (whole_pattern (w / 4) (omega arith)))

pub float_bits_lem : (w : ℕ) → w < 2 ^ 32 → w / 2 % 2 ≡ 0 → w / 4 * 17179869184 % 18446744073709551616 ≡ quotient_bits w 1
unfolding quotient_bits rk_sign rk_size pick
float_bits_lem w f o =
    let e : is_whole w ≡ false = ne_eqb (w / 2 % 2) 1 (λ i. omega arith) in
    let shifted : w / 4 * 17179869184 % 18446744073709551616 ≡ float_bits (w / 4) = mod-eq_of_lt (omega arith) in
    rw e (shifted ∙ sym (size_rounded (float_bits (w / 4)) (omega arith)))

module _ (w b : ℕ) (f : w < 2 ^ 32) (m : means_nothing w ≡ false) (i : b ≡ quotient_bits w 1) where
  pub undivided_number : T (not (nan_bits binary64 b))
  undivided_number = pattern_number b (ap is_nan_bits i ∙ (undivided_pattern w f m).1)

  quotient_is : div binary64 (of_bits binary64 b) (of_bits binary64 4636737291354636288) ≡ of_bits binary64 (quotient_bits w 100)
  quotient_is = rw i (divided_is w f m)

  pub quotient_number : T (not (is_nan (div binary64 (of_bits binary64 b) (of_bits binary64 4636737291354636288))))
  quotient_number = is_number _ _ quotient_is (divided_pattern w f m)

  pub even_bits : w % 2 ≡ 0 → b ≡ rk_bits w
  unfolding rk_bits pick
  even_bits e = let d : is_divided w ≡ false = ne_eqb (w % 2) 1 (λ j. omega arith) in rw d i

  pub odd_bits : (w % 2 ≡ 0 → ⊥) → to_bits binary64 (div binary64 (of_bits binary64 b) (of_bits binary64 4636737291354636288)) ≡ rk_bits w
  unfolding rk_bits pick
  odd_bits o = let d : is_divided w ≡ true = eq-eqb (w % 2) 1 (omega (arith, o)) in rw d (its_bits _ _ quotient_is (divided_pattern w f m))

pub rk_pattern : (w : ℕ) → w < 2 ^ 32 → means_nothing w ≡ false → Pattern (rk_bits w)
unfolding rk_bits pick
rk_pattern w f m = go (is_divided w)
  where
    go : (t : Bool) → Pattern (quotient_bits w (pick t 100 1))
    go true = divided_pattern w f m
    go false = undivided_pattern w f m

pub decoded_nothing : (w : ℕ) (t : Bool) → t ≡ means_nothing w → t ≡ true → None ≡ rk_of w
unfolding rk_of pick
decoded_nothing w t h e = rw (← h, e)

module _ (w b : ℕ) (t : Bool) (f : w < 2 ^ 32) (h : t ≡ means_nothing w) (e : t ≡ false) (i : b ≡ rk_bits w) where
  pub decoded_number : T (not (nan_bits binary64 b))
  decoded_number = pattern_number b (ap is_nan_bits i ∙ (rk_pattern w f (sym h ∙ e)).1)

  pub decoded : Some (of_bits binary64 b) ≡ rk_of w
  unfolding rk_of pick
  decoded = let m : means_nothing w ≡ false = sym h ∙ e in rw (m, i)

pub ruleset decoding = (masked_nothing, turned_lt, turned_small, converted_fits, converted_is, raised_lt, raised_number, raised_is, whole_number, whole_bits, float_bits_lem, undivided_number, quotient_number, even_bits, odd_bits, decoded_nothing, nothing_told, decoded_number, decoded)
