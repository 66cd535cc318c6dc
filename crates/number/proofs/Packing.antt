-- The cases of `pack_of`, as the code takes them. Assumes nothing.
use mathlib.Core.Path.{◌≡◌, refl, sym, ap, ◌∙◌}
use mathlib.Core.Bool.{Bool, true, false, ◌&&◌}
use Prim.Native.Nat.{ℕ, suc, ◌+◌, ◌-◌, ◌*◌, ◌/◌, ◌%◌, ◌^◌, ◌≤◌, ◌<◌}
use native.Mathlib.Nat.{le_trans, le_of_eq, lt_of_lt_of_le, lt_of_le_of_lt, lt_trans, mod-lt, mod-eq_of_lt, one-mul, le-div_iff_mul-le, div-add-mod', mul-div-mul_right, div-mul-le_self, mul-mod_left, mul_assoc, eq_of_mul-eq-mul_right, add-zero}
use native.Mathlib.Omega.{arith}
use lib.Bits.{bit_and, and_mask}
use lib.Dec.{eqb, lit<}
use lib.Pow.{pow-add, pow_pos, pow_mono, pow-lt}
use lib.Pow as Pow
use mir.Syntax.{w32, w64}
use mir.Val.{Fits}
use borrow.Author.Tests.{lt-leb, le-leb, lt-ltb, le-ltb, eq-eqb, ne_eqb}
use Rattle.steps.specs.Choice.{pick}
use Rattle.number.specs.Float64.{in_units, float_sign, float_size}
use Rattle.number.specs.Packing.{in_range, thirty_bits, whole_form, pack_of}
use Rattle.std.specs.Prelude.{Option, Some, None}
use Rattle.number.proofs.Units.{units_small, units_large, units_some}

-- ---- the fields as the code masks them out

abbrev pub field_of : ℕ → ℕ
field_of b = bit_and (b / 4503599627370496) 2047

abbrev pub significand_of : ℕ → ℕ
significand_of b = bit_and b 4503599627370495 + 4503599627370496

field_is : (b : ℕ) → field_of b ≡ b / 2 ^ 52 % 2 ^ 11
field_is b = and_mask (b / 2 ^ 52) 11

significand_lt : (b : ℕ) → significand_of b < 2 ^ 53
significand_lt b = omega (arith, and_mask b 52, mod-lt b {m = 2 ^ 52} (omega arith))

pub significand_fits : (b : ℕ) → Fits w64 (significand_of b)
significand_fits b = omega (arith, significand_lt b)

size_units : (b : ℕ) → float_size b ≡ in_units (field_of b) (b % 2 ^ 52)
size_units b = ap (λ (x : ℕ). in_units x (b % 2 ^ 52)) (Pow.field b 11 52 ∙ sym (field_is b))

-- ---- the cases of the definition

pub not_finite : (b : ℕ) → field_of b ≡ 2047 → None ≡ pack_of b
unfolding pack_of pick
not_finite b h = rw (eq-eqb (b / 2 ^ 52 % 2 ^ 11) 2047 (sym (field_is b) ∙ h))

pub low_some : (b : ℕ) → (bit_and b 17179869183 ≡ 0 → ⊥) → 0 < b % 17179869184
low_some b g = omega (arith, and_mask b 34)

module _ (b : ℕ) (h : field_of b ≡ 2047 → ⊥) where
  finite : eqb (b / 2 ^ 52 % 2 ^ 11) 2047 ≡ false
  finite = ne_eqb (b / 2 ^ 52 % 2 ^ 11) 2047 (λ e. h (field_is b ∙ e))

  pub float_form : bit_and b 17179869183 ≡ 0 → Some (b / 4294967296) ≡ pack_of b
  unfolding pack_of pick
  float_form g = rw (finite, eq-eqb (b % 2 ^ 34) 0 (sym (and_mask b 34) ∙ g))

  pub no_float_form : (bit_and b 17179869183 ≡ 0 → ⊥) → (r : Option ℕ) → r ≡ whole_form b → r ≡ pack_of b
  unfolding pack_of pick
  no_float_form g r e = rw (finite, ne_eqb (b % 2 ^ 34) 0 (λ i. g (and_mask b 34 ∙ i))) e

module _ (b : ℕ) where
  no_whole : (float_size b % 2 ^ 1074 ≡ 0 → ⊥) → None ≡ whole_form b
  unfolding whole_form pick
  no_whole n = rw (ne_eqb (float_size b % 2 ^ 1074) 0 n)

  no_range : in_range (float_sign b) (float_size b / 2 ^ 1074) ≡ false → None ≡ whole_form b
  unfolding whole_form pick
  no_range n = rw n (go (eqb (float_size b % 2 ^ 1074) 0))
    where
      go : (t : Bool) → None ≡ pick (t && false) (Some (thirty_bits (float_sign b) (float_size b / 2 ^ 1074) * 4 + 2)) None
      go true = refl
      go false = refl

  pub whole_word : (s : Bool) (m : ℕ) → float_sign b ≡ s → float_size b / 2 ^ 1074 ≡ m → float_size b % 2 ^ 1074 ≡ 0 → in_range s m ≡ true → Some (thirty_bits s m * 4 + 2) ≡ whole_form b
  unfolding whole_form pick
  whole_word s m p q z r = rw (p, q, eq-eqb (float_size b % 2 ^ 1074) 0 z, r)

-- ---- the whole-number form, as the code finds it

pub too_small : (b : ℕ) → 0 < b % 17179869184 → field_of b < 1023 → None ≡ whole_form b
too_small b g l =
    let t = b % 2 ^ 52 in
    let n : t ≡ 0 → ⊥ = λ e. omega arith in
    no_whole b (λ z. units_some (field_of b) t n (sym (mod-eq_of_lt (units_small (field_of b) t l (mod-lt b (pow_pos 52)))) ∙ ap (λ (y : ℕ). y % 2 ^ 1074) (sym (size_units b)) ∙ z))

out_of_range : (s : Bool) (m : ℕ) → 2 ^ 29 < m → in_range s m ≡ false
unfolding pick
out_of_range true m h = lt-leb m (2 ^ 29) h
out_of_range false m h = le-ltb m (2 ^ 29) (omega arith)

pub too_large : (b : ℕ) → 1052 < field_of b → None ≡ whole_form b
too_large b l = no_range b (out_of_range (float_sign b) (float_size b / 2 ^ 1074) (rw (size_units b) (lt_of_lt_of_le (lit< {m = 2 ^ 29} {n = 2 ^ 30} tt) (units_large (field_of b) (b % 2 ^ 52) l))))

-- between, the size is the significand q times 2 ^ k, and 2 ^ 1074 is 2 ^ s times 2 ^ k
module _ (q s k : ℕ) (e : s + k ≡ 1074) where
  parts : 2 ^ s * 2 ^ k ≡ 2 ^ 1074
  parts = sym (pow-add 2 s k) ∙ ap (λ (y : ℕ). 2 ^ y) e

  pub cut_div : q * 2 ^ k / 2 ^ 1074 ≡ q / 2 ^ s
  cut_div = ap (λ (y : ℕ). q * 2 ^ k / y) (sym parts) ∙ mul-div-mul_right q (2 ^ s) (pow_pos k)

  -- nothing is cut off exactly where nothing is cut off the significand
  pub cut_whole : q / 2 ^ s * 2 ^ s ≡ q → q * 2 ^ k % 2 ^ 1074 ≡ 0
  cut_whole h =
      ap (λ (y : ℕ). y * 2 ^ k % 2 ^ 1074) (sym h)
      ∙ ap (λ (y : ℕ). y % 2 ^ 1074) (mul_assoc (q / 2 ^ s) (2 ^ s) (2 ^ k) ∙ ap (λ (y : ℕ). q / 2 ^ s * y) parts)
      ∙ mul-mod_left (q / 2 ^ s) (2 ^ 1074)

  pub whole_cut : q * 2 ^ k % 2 ^ 1074 ≡ 0 → q / 2 ^ s * 2 ^ s ≡ q
  whole_cut h =
      eq_of_mul-eq-mul_right (2 ^ k) (pow_pos k) (q / 2 ^ s * 2 ^ s) q
      (mul_assoc (q / 2 ^ s) (2 ^ s) (2 ^ k)
      ∙ ap (λ (y : ℕ). q / 2 ^ s * y) parts
      ∙ ap (λ (y : ℕ). y * 2 ^ 1074) (sym cut_div)
      ∙ sym (add-zero (q * 2 ^ k / 2 ^ 1074 * 2 ^ 1074))
      ∙ ap (λ (y : ℕ). q * 2 ^ k / 2 ^ 1074 * 2 ^ 1074 + y) (sym h)
      ∙ div-add-mod' (q * 2 ^ k) (2 ^ 1074))

-- the size as the code shifts it down, and back up
abbrev pub size_of : ℕ → ℕ
size_of b = significand_of b / 2 ^ (1075 - field_of b)

abbrev pub back_of : ℕ → ℕ
back_of b = size_of b * 2 ^ (1075 - field_of b) % 18446744073709551616

module _ (b : ℕ) (lo : 1023 ≤ field_of b) (hi : field_of b ≤ 1052) where
  sum_is : 1075 - field_of b + (field_of b - 1) ≡ 1074
  sum_is = omega arith

  size_is : float_size b ≡ significand_of b * 2 ^ (field_of b - 1)
  size_is =
      let field-suc : field_of b ≡ suc (field_of b - 1) = omega arith in
      size_units b
      ∙ ap (λ (x : ℕ). in_units x (b % 2 ^ 52)) field-suc
      ∙ ap (λ (q : ℕ). q * 2 ^ (field_of b - 1)) (omega (arith, and_mask b 52))

  back_is : back_of b ≡ size_of b * 2 ^ (1075 - field_of b)
  back_is = mod-eq_of_lt (lt_of_le_of_lt (div-mul-le_self (significand_of b) (2 ^ (1075 - field_of b))) (lt_trans (significand_lt b) (pow-lt {i = 53} {j = 64} (lit< tt))))

  div_is : float_size b / 2 ^ 1074 ≡ size_of b
  div_is = ap (λ (n : ℕ). n / 2 ^ 1074) size_is ∙ cut_div (significand_of b) (1075 - field_of b) (field_of b - 1) sum_is

  pub fraction : (back_of b ≡ significand_of b → ⊥) → None ≡ whole_form b
  fraction n = no_whole b (λ z. n (back_is ∙ whole_cut (significand_of b) (1075 - field_of b) (field_of b - 1) sum_is (sym (ap (λ (n : ℕ). n % 2 ^ 1074) size_is) ∙ z)))

  -- it is 1 or more, so that what a negative one leaves of 2 ^ 30 has 30 bits
  size_pos : 1 ≤ size_of b
  size_pos =
      let short : 1075 - field_of b ≤ 52 = omega arith in
      let lead : 2 ^ 52 ≤ significand_of b = omega arith in
      (le-div_iff_mul-le (pow_pos (1075 - field_of b))).1 (le_trans (le_of_eq (one-mul (2 ^ (1075 - field_of b)))) (le_trans (pow_mono short) lead))

  pub negative_mul_fits : Fits w32 ((1073741824 - size_of b) * 4)
  negative_mul_fits = omega (arith, size_pos)

  pub negative_fits : Fits w32 ((1073741824 - size_of b) * 4 + 2)
  negative_fits = omega (arith, size_pos)

  plus : b / 9223372036854775808 ≡ 0 → float_sign b ≡ false
  plus e = lt-leb (2 ^ 63) b (omega arith)

  minus : (b / 9223372036854775808 ≡ 0 → ⊥) → float_sign b ≡ true
  minus e = le-leb (2 ^ 63) b (omega arith)

  module _ (back : back_of b ≡ significand_of b) where
    whole : float_size b % 2 ^ 1074 ≡ 0
    whole = ap (λ (n : ℕ). n % 2 ^ 1074) size_is ∙ cut_whole (significand_of b) (1075 - field_of b) (field_of b - 1) sum_is (sym back_is ∙ back)

    pub positive : b / 9223372036854775808 ≡ 0 → size_of b < 536870912 → Some (size_of b * 4 + 2) ≡ whole_form b
    unfolding pick
    positive s l = whole_word b false (size_of b) (plus s) div_is whole (lt-ltb (size_of b) (2 ^ 29) l)

    pub negative : (b / 9223372036854775808 ≡ 0 → ⊥) → size_of b ≤ 536870912 → Some ((1073741824 - size_of b) * 4 + 2) ≡ whole_form b
    unfolding pick
    negative s l = whole_word b true (size_of b) (minus s) div_is whole (le-leb (size_of b) (2 ^ 29) l)

  pub positive_out : b / 9223372036854775808 ≡ 0 → 536870912 ≤ size_of b → None ≡ whole_form b
  unfolding pick
  positive_out s l = no_range b (rw (plus s, div_is) (le-ltb (size_of b) (2 ^ 29) l))

  pub negative_out : (b / 9223372036854775808 ≡ 0 → ⊥) → 536870912 < size_of b → None ≡ whole_form b
  unfolding pick
  negative_out s l = no_range b (rw (minus s, div_is) (lt-leb (size_of b) (2 ^ 29) l))

pub ruleset packing = (significand_fits, negative_mul_fits, negative_fits, not_finite, float_form, low_some, no_float_form, too_small, too_large, fraction, positive, negative, positive_out, negative_out)
