-- The cases of `amount_of`, as the code takes them. Assumes nothing.
use mathlib.Core.Path.{◌≡◌, refl, sym, ap, ◌∙◌}
use mathlib.Core.Bool.{Bool, true, false}
use Prim.Native.Nat.{ℕ, zero, suc, ◌+◌, ◌-◌, ◌*◌, ◌/◌, ◌%◌, ◌^◌, ◌≤◌, ◌<◌}
use native.Mathlib.Nat.{le_trans, le_of_eq, lt_of_lt_of_le, lt_of_le_of_lt, lt_trans, mod-lt, mod-eq_of_lt, mul-pos, mul-le-mul_right, le-div_iff_mul-le, div-mul-le_self}
use native.Mathlib.Omega.{arith}
use lib.Bits.{bit_and, and_mask}
use lib.Dec.{leb, lit<}
use lib.Pow.{pow-add, pow_pos, pow_mono, pow-lt}
use mir.Syntax.{w64}
use mir.Val.{Fits}
use borrow.Author.Tests.{leb-true, leb-false}
use Rattle.steps.proofs.Choice.{never, pick_by, pick_eq, pick_ne, pick_le, pick_nle}
use Rattle.number.specs.Float64.{in_units, float_sign, float_size}
use Rattle.number.proofs.Units.{units_small}
use Rattle.number.proofs.Packing.{cut_div, cut_whole, whole_cut}
use Rattle.std.specs.Prelude.{Option, Some, None}
use Rattle.number.specs.Amount.{amount_of}

-- ---- the fields as the code takes them out
abbrev pub significand_of : ℕ → ℕ
significand_of b = bit_and b 4503599627370495 + 4503599627370496

significand_lt : (b : ℕ) → significand_of b < 2 ^ 53
significand_lt b = omega (arith, and_mask b 52, mod-lt b {m = 2 ^ 52} (omega arith))

pub significand_fits : (b : ℕ) → Fits w64 (significand_of b)
significand_fits b = omega (arith, significand_lt b)

-- ---- the cases of the definition
module _ (limit b : ℕ) where
  -- the size is no whole number
  not_whole : (float_size b % 2 ^ 1074 ≡ 0 → ⊥) → None ≡ amount_of limit b
  unfolding amount_of
  not_whole n =
      pick_by (λ (x : Option ℕ). None ≡ x) (float_sign b) (λ _. refl)
      (λ _. pick_by (λ (x : Option ℕ). None ≡ x) _ (λ _. refl) (λ _. pick_ne _ _ _ _ _ n refl))

  -- it is over the limit
  over : limit < float_size b / 2 ^ 1074 → None ≡ amount_of limit b
  unfolding amount_of
  over l =
      pick_by (λ (x : Option ℕ). None ≡ x) (float_sign b) (λ _. refl)
      (λ _. pick_by (λ (x : Option ℕ). None ≡ x) _ (λ _. refl)
      (λ _. pick_by (λ (x : Option ℕ). None ≡ x) _ (λ _. pick_nle _ _ _ _ _ l refl) (λ _. refl)))

  -- minus, or no finite number
  minus : 2 ^ 63 ≤ b → None ≡ amount_of limit b
  unfolding amount_of
  minus l = pick_le _ _ _ _ _ l refl

  not_finite : 2047 * 2 ^ 52 ≤ b % 2 ^ 63 → None ≡ amount_of limit b
  unfolding amount_of
  not_finite l = pick_by (λ (x : Option ℕ). None ≡ x) (float_sign b) (λ _. refl) (λ _. pick_le _ _ _ _ _ l refl)

  is_amount : (m : ℕ) → b / 2 ^ 52 < 2047 → float_size b % 2 ^ 1074 ≡ 0 → float_size b / 2 ^ 1074 ≡ m → m ≤ limit → Some m ≡ amount_of limit b
  unfolding amount_of
  is_amount m f w e l =
      pick_nle _ _ _ (2 ^ 63) b (omega arith)
      (pick_nle _ _ _ (2047 * 2 ^ 52) (b % 2 ^ 63) (omega arith)
      (pick_eq _ _ _ _ _ w
      (pick_le _ _ _ (float_size b / 2 ^ 1074) limit (rw e l) (ap Some (sym e)))))

-- ---- the exponent's field
field_is : (b : ℕ) → b / 2 ^ 52 < 2048 → b % 2 ^ 63 / 2 ^ 52 ≡ b / 2 ^ 52
field_is b l = omega arith

size_units : (b : ℕ) → b / 2 ^ 52 < 2048 → float_size b ≡ in_units (b / 2 ^ 52) (b % 2 ^ 52)
size_units b l = ap (λ (x : ℕ). in_units x (b % 2 ^ 52)) (field_is b l)

units_pos : (x t : ℕ) → ((x ≡ 0) × (t ≡ 0) → ⊥) → in_units x t ≡ 0 → ⊥
units_pos zero t n e = n (refl, e)
units_pos (suc x) t n e = let p : 0 < (2 ^ 52 + t) * 2 ^ x = mul-pos (omega arith) (pow_pos x) in omega arith

units_large : (x t : ℕ) → 1054 < x → 2 ^ 32 ≤ in_units x t / 2 ^ 1074
units_large zero t l = absurd (omega arith)
units_large (suc x) t l =
    let room : 32 + 1074 ≤ 52 + x = omega arith in
    (le-div_iff_mul-le (pow_pos 1074)).1
    (le_trans (le_of_eq (sym (pow-add 2 32 1074))) (le_trans (pow_mono room) (le_trans (le_of_eq (pow-add 2 52 x)) (mul-le-mul_right (2 ^ x) (omega arith)))))

-- ---- as the code finds them
module _ (limit b : ℕ) where
  pub zero_amount : b ≡ 0 → Some 0 ≡ amount_of limit b
  zero_amount e = rw e (is_amount limit 0 0 (omega arith) refl refl (omega arith))

  pub too_small : (b ≡ 0 → ⊥) → b / 4503599627370496 < 1023 → None ≡ amount_of limit b
  too_small n l =
      let u = size_units b (omega arith) in
      not_whole limit b
      (λ z. units_pos (b / 2 ^ 52) (b % 2 ^ 52) (λ h. n (omega arith))
      (sym (mod-eq_of_lt (units_small (b / 2 ^ 52) (b % 2 ^ 52) l (mod-lt b (pow_pos 52)))) ∙ ap (λ (y : ℕ). y % 2 ^ 1074) (sym u) ∙ z))

  pub too_large : limit < 4294967296 → 1054 < b / 4503599627370496 → None ≡ amount_of limit b
  too_large f l = go (leb (2 ^ 63) b) refl (leb (2047 * 2 ^ 52) (b % 2 ^ 63)) refl
    where
      go : (x : Bool) → leb (2 ^ 63) b ≡ x → (y : Bool) → leb (2047 * 2 ^ 52) (b % 2 ^ 63) ≡ y → None ≡ amount_of limit b
      go true h y i = minus limit b (leb-true (2 ^ 63) b h)
      go false h true i = not_finite limit b (leb-true (2047 * 2 ^ 52) (b % 2 ^ 63) i)
      go false h false i =
          let s = leb-false (2 ^ 63) b h in
          over limit b (lt_of_lt_of_le f (rw (size_units b (omega arith)) (units_large (b / 2 ^ 52) (b % 2 ^ 52) l)))

-- the size as the code shifts it down, and back up
abbrev pub size_of : ℕ → ℕ
size_of b = significand_of b / 2 ^ (1075 - b / 4503599627370496)

abbrev pub back_of : ℕ → ℕ
back_of b = size_of b * 2 ^ (1075 - b / 4503599627370496) % 18446744073709551616

module _ (limit b : ℕ) (lo : 1023 ≤ b / 4503599627370496) (hi : b / 4503599627370496 ≤ 1054) where
  abbrev x : ℕ
  x = b / 4503599627370496

  sum_is : 1075 - x + (x - 1) ≡ 1074
  sum_is = omega arith

  size_is : float_size b ≡ significand_of b * 2 ^ (x - 1)
  size_is =
      let field-suc : x ≡ suc (x - 1) = omega arith in
      size_units b (omega arith)
      ∙ ap (λ (y : ℕ). in_units y (b % 2 ^ 52)) field-suc
      ∙ ap (λ (q : ℕ). q * 2 ^ (x - 1)) (omega (arith, and_mask b 52))

  back_is : back_of b ≡ size_of b * 2 ^ (1075 - x)
  back_is = mod-eq_of_lt (lt_of_le_of_lt (div-mul-le_self (significand_of b) (2 ^ (1075 - x))) (lt_trans (significand_lt b) (pow-lt {i = 53} {j = 64} (lit< tt))))

  div_is : float_size b / 2 ^ 1074 ≡ size_of b
  div_is = ap (λ (n : ℕ). n / 2 ^ 1074) size_is ∙ cut_div (significand_of b) (1075 - x) (x - 1) sum_is

  pub fraction : (back_of b ≡ significand_of b → ⊥) → None ≡ amount_of limit b
  fraction n = not_whole limit b (λ z. n (back_is ∙ whole_cut (significand_of b) (1075 - x) (x - 1) sum_is (sym (ap (λ (n : ℕ). n % 2 ^ 1074) size_is) ∙ z)))

  pub too_much : limit < size_of b → None ≡ amount_of limit b
  too_much l = over limit b (rw div_is l)

  pub whole_amount : size_of b ≤ limit → back_of b ≡ significand_of b → Some (size_of b) ≡ amount_of limit b
  whole_amount l back =
      is_amount limit b (size_of b) (omega arith)
      (ap (λ (n : ℕ). n % 2 ^ 1074) size_is ∙ cut_whole (significand_of b) (1075 - x) (x - 1) sum_is (sym back_is ∙ back))
      div_is l

pub ruleset amount_laws = (significand_fits, zero_amount, too_small, too_large, fraction, too_much, whole_amount)

-- ---- a number is within its limit
module _ (limit n : ℕ) where
  abbrev Within : Option ℕ → Type 0
  Within x = x ≡ Some n → n ≤ limit

  no_amount : Within None
  no_amount e = never (cc)

  pub amount_within : (b : ℕ) → amount_of limit b ≡ Some n → n ≤ limit
  unfolding amount_of
  amount_within b =
      pick_by Within _ (λ _. no_amount)
      (λ _. pick_by Within _ (λ _. no_amount)
      (λ _. pick_by Within _
      (λ _. pick_by Within _ (λ h e. let i = leb-true (float_size b / 2 ^ 1074) limit h in let j : float_size b / 2 ^ 1074 ≡ n = cc in rw j at i) (λ _. no_amount))
      (λ _. no_amount)))
