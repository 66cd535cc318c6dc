-- The 64 bits of an f64: bit 63 is the sign, bits 52 to 62 are the exponent's field, bits 0 to 51 the digits below the leading one.
-- `of_bits binary64 b` is the f64 that the pattern b stands for. All NaN patterns stand for the one NaN.
use Rattle.std.specs.Prelude.{ℕ, zero, suc, ◌+◌, ◌*◌, ◌/◌, ◌%◌, ◌^◌, Bool, Option, Some, None, leb, ltb, Float}
use Rattle.std.specs.Float.{binary64}
use Rattle.std.specs.Float.Ieee.{of_bits, to_bits, is_nan}
use Rattle.steps.specs.Choice.{pick}

-- the lower 63 bits are above those of an infinity
unfoldable pub is_nan_bits : ℕ → Bool
is_nan_bits b = ltb (2047 * 2 ^ 52) (b % 2 ^ 63)

-- the f64 of 64 bits that are no NaN's
unfoldable pub float_in : ℕ → Option Float
float_in b = pick (is_nan_bits b) None (Some (of_bits binary64 b))

-- the bits of x; of a NaN, whose own are not kept, one fixed pattern
unfoldable pub bits_of : Float → ℕ
bits_of x = pick (is_nan x) 0x7FF8_0000_0000_0000 (to_bits binary64 x)

-- the sign: whether it is a minus
abbrev pub float_sign : ℕ → Bool
float_sign b = leb (2 ^ 63) b

-- The size of a finite f64, as a whole number of units of 2 ^ -1074, the smallest f64 above zero; x is the exponent's field and t the digits.
abbrev pub in_units : ℕ → ℕ → ℕ
in_units zero t = t
in_units (suc x) t = (2 ^ 52 + t) * 2 ^ x

abbrev pub float_size : ℕ → ℕ
float_size b = in_units (b % 2 ^ 63 / 2 ^ 52) (b % 2 ^ 52)
