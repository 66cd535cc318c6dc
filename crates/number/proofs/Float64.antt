-- NaNs, by the pattern and by the f64, as the code tests them. Assumes nothing.
use mathlib.Core.Path.{◌≡◌, refl, sym, ap, ◌∙◌, subst}
use mathlib.Core.Bool.{Bool, true, false, not}
use Prim.Native.Nat.{ℕ, ◌*◌, ◌^◌}
use lib.Dec.{T, ltb}
use lib.Bits.{bit_and, and_mask}
use lib.Ieee.{Float, nan, inf, fin, binary64, ne, of_bits, to_bits, is_nan, nan_bits}
use lib.Ieee.Bits.{nan_bits_is, nan_bits_above}
use lib.Ieee.Compare.{differs_from_itself, nan_differs}
use Rattle.steps.specs.Choice.{pick}
use Rattle.std.specs.Prelude.{Some, None}
use Rattle.number.specs.Float64.{is_nan_bits, float_in, bits_of}

pub nan_bits_lem : (b : ℕ) → is_nan_bits b ≡ nan_bits binary64 b
unfolding is_nan_bits
nan_bits_lem b = sym (nan_bits_above binary64 b)

pub nan_float : (b : ℕ) → is_nan_bits b ≡ is_nan (of_bits binary64 b)
nan_float b = nan_bits_lem b ∙ nan_bits_is binary64 b

pub not_T : (t : Bool) → t ≡ false → T (not t)
not_T t e = rw e tt

pub bits_of_is : (x : Float) → bits_of x ≡ to_bits binary64 x
unfolding bits_of pick is_nan to_bits
bits_of_is nan = refl
bits_of_is (inf s) = refl
bits_of_is (fin s m e) = refl

-- what `is_nan` told
pub nan_told : (b : ℕ) (t v : Bool) → t ≡ is_nan_bits b → t ≡ v → is_nan_bits b ≡ v
nan_told b t v h e = sym h ∙ e

-- ---- what the code tests

pub masked_nan : (b : ℕ) → ltb 9218868437227405312 (bit_and b 9223372036854775807) ≡ is_nan_bits b
unfolding is_nan_bits
masked_nan b = ap (λ (n : ℕ). ltb (2047 * 2 ^ 52) n) (and_mask b 63)

pub pattern_number : (b : ℕ) → is_nan_bits b ≡ false → T (not (nan_bits binary64 b))
pattern_number b e = not_T (nan_bits binary64 b) (sym (nan_bits_lem b) ∙ e)

pub no_float : (b : ℕ) → is_nan_bits b ≡ true → None ≡ float_in b
unfolding float_in pick
no_float b e = rw e

pub float_there : (b : ℕ) → is_nan_bits b ≡ false → Some (of_bits binary64 b) ≡ float_in b
unfolding float_in pick
float_there b e = rw e

pub differs : (x : Float) → ne x x ≡ true → 0x7FF8_0000_0000_0000 ≡ bits_of x
unfolding bits_of pick is_nan
differs x e = ap bits_of (sym (differs_from_itself x (rw e tt)))

pub no_nan : (x : Float) → ne x x ≡ false → T (not (is_nan x))
unfolding is_nan
no_nan nan e = subst T (sym nan_differs ∙ e) tt
no_nan (inf s) e = tt
no_nan (fin s m k) e = tt

pub bits_of_number : (x : Float) → to_bits binary64 x ≡ bits_of x
bits_of_number x = sym (bits_of_is x)

pub ruleset float64_laws = (masked_nan, pattern_number, no_float, float_there, differs, no_nan, bits_of_number)
