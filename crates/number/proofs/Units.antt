-- A finite f64 by its sign and its size in units of 2 ^ -1074. Assumes nothing.
use mathlib.Core.Path.{◌≡◌, refl, sym, ap, ◌∙◌}
use mathlib.Core.Bool.{Bool, true, false, cond}
use Prim.Native.Nat.{ℕ, zero, suc, ◌+◌, ◌*◌, ◌/◌, ◌%◌, ◌^◌, ◌≤◌, ◌<◌}
use native.Mathlib.Nat.{le_trans, le_of_eq, lt_of_lt_of_le, mod-lt, mul-one, mul-pos, mul-le-mul_right, mul-lt-mul_of_pos_right, div-lt_iff_lt-mul, le-div_iff_mul-le, eq_of_mul-eq-mul_right}
use native.Mathlib.Omega.{arith}
use lib.Pow.{pow-add, pow_pos, pow_mono}
use lib.Dec.{leb, eqb, lit<, lit≤}
use lib.Ieee.{Float, nan, inf, fin, binary64, down, of_fields, of_bits}
use lib.Ieee.Fits.{down_pos}
use lib.Ieee.Exact.{HasValue, odd_sign}
use borrow.Author.Tests.{le-ltb, ne_eqb, leb-true, leb-false}
use Rattle.steps.specs.Choice.{pick}
use Rattle.number.specs.Float64.{is_nan_bits, in_units, float_sign, float_size}
use Rattle.number.specs.Rounding.{rounded, signed}
use Rattle.number.proofs.Rounding.{rounded_units}

fields_value : (s : Bool) (x t : ℕ) → (x ≡ 2047 → ⊥) → HasValue (of_fields binary64 s x t) s (in_units x t) (2 ^ 1074)
unfolding of_fields
fields_value s zero t h = rw mul-one at (odd_sign 53 s t 0 1074)
fields_value s (suc x) t h = rw (ne_eqb (suc x) 2047 h) (odd_sign 53 s (2 ^ 52 + t) x 1074)

-- the exponent's field is not all ones
abbrev pub Finite : ℕ → Type 0
Finite b = b % 2 ^ 63 / 2 ^ 52 ≡ 2047 → ⊥

pub finite_value : (b : ℕ) → Finite b → HasValue (of_bits binary64 b) (float_sign b) (float_size b) (2 ^ 1074)
unfolding of_bits
finite_value b f = fields_value (leb (2 ^ 63) b) (b % 2 ^ 63 / 2 ^ 52) (b % 2 ^ 52) f

pub finite_number : (b : ℕ) → Finite b → is_nan_bits b ≡ false
unfolding is_nan_bits
finite_number b f = le-ltb (2047 * 2 ^ 52) (b % 2 ^ 63) (omega arith)

-- ---- how large the size is

units_lt : (x t j : ℕ) → t < 2 ^ 52 → 52 + x ≤ j → in_units x t < 2 ^ j
units_lt zero t j h l = lt_of_lt_of_le h (pow_mono l)
units_lt (suc x) t j h l =
    let room : 53 + x ≤ j = omega arith in
    lt_of_lt_of_le (mul-lt-mul_of_pos_right (omega arith) (pow_pos x)) (le_trans (le_of_eq (sym (pow-add 2 53 x))) (pow_mono room))

pub units_small : (x t : ℕ) → x < 1023 → t < 2 ^ 52 → in_units x t < 2 ^ 1074
units_small x t l h = units_lt x t 1074 h (omega arith)

pub units_large : (x t : ℕ) → 1052 < x → 2 ^ 30 ≤ in_units x t / 2 ^ 1074
units_large zero t l = absurd (omega arith)
units_large (suc x) t l =
    let room : 30 + 1074 ≤ 52 + x = omega arith in
    (le-div_iff_mul-le (pow_pos 1074)).1
    (le_trans (le_of_eq (sym (pow-add 2 30 1074))) (le_trans (pow_mono room) (le_trans (le_of_eq (pow-add 2 52 x)) (mul-le-mul_right (2 ^ x) (omega arith)))))

pub units_some : (x t : ℕ) → (t ≡ 0 → ⊥) → in_units x t ≡ 0 → ⊥
units_some zero t n e = n e
units_some (suc x) t n e = let p : 0 < (2 ^ 52 + t) * 2 ^ x = mul-pos (omega arith) (pow_pos x) in omega arith

pub finite_hundredth : (b : ℕ) → Finite b → float_size b / 100 < 2 ^ 2097
finite_hundredth b f =
    let room : 52 + b % 2 ^ 63 / 2 ^ 52 ≤ 2098 = omega arith in
    (div-lt_iff_lt-mul (lit< tt)).1 (lt_of_lt_of_le (units_lt (b % 2 ^ 63 / 2 ^ 52) (b % 2 ^ 52) 2098 (mod-lt b (pow_pos 52)) room) (lit≤ {m = 2 ^ 2098} {n = 2 ^ 2097 * 100} tt))

-- ---- sign and size say which f64 it is

-- its own size rounds to the pattern
pub size_rounded : (b : ℕ) → b < 2 ^ 64 → signed (float_sign b) (rounded (float_size b) 1) ≡ b
unfolding pick
size_rounded b h = ap (signed (float_sign b)) (rounded_units (b % 2 ^ 63 / 2 ^ 52) (b % 2 ^ 52) (mod-lt b (pow_pos 52))) ∙ go (leb (2 ^ 63) b) refl
  where
    go : (t : Bool) → leb (2 ^ 63) b ≡ t → pick t (2 ^ 63) 0 + (b % 2 ^ 63 / 2 ^ 52 * 2 ^ 52 + b % 2 ^ 52) ≡ b
    go true e = let l = leb-true (2 ^ 63) b e in omega arith
    go false e = let l = leb-false (2 ^ 63) b e in omega arith

pub one_value : (x : Float) (s t : Bool) (a c : ℕ) → HasValue x s a (2 ^ 1074) → HasValue x t c (2 ^ 1074) → (s ≡ t) × (a ≡ c)
one_value (fin u m e) s t a c v w = (sym v.0 ∙ w.0, eq_of_mul-eq-mul_right (down e) (down_pos e) a c (sym v.1 ∙ w.1))
one_value nan s t a c v w = elim v [ ]
one_value (inf _) s t a c v w = elim v [ ]

pub value_finite : (b : ℕ) (s : Bool) (a : ℕ) → HasValue (of_bits binary64 b) s a (2 ^ 1074) → Finite b
unfolding of_bits of_fields
value_finite b s a v e = go (eqb (b % 2 ^ 52) 0) (rw e at v)
  where
    go : (t : Bool) → HasValue (cond t (inf (leb (2 ^ 63) b)) nan) s a (2 ^ 1074) → ⊥
    go true v = v
    go false v = v
