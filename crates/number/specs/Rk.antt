-- An RK word and the number that it means. A number is a sign and a size, in units of 2 ^ -1074; a zero keeps its sign.
use Rattle.std.specs.Prelude.{ℕ, ◌-◌, ◌*◌, ◌/◌, ◌%◌, ◌^◌, Bool, not, ◌&&◌, Option, Some, None, leb, eqb, Float}
use Rattle.std.specs.Float.{binary64}
use Rattle.std.specs.Float.Ieee.{of_bits}
use Rattle.steps.specs.Choice.{pick}
use Rattle.number.specs.Float64.{float_sign, float_size}
use Rattle.number.specs.Rounding.{rounded, signed}

-- bit 1 set: the upper 30 bits v are a signed whole number
abbrev pub is_whole : ℕ → Bool
is_whole w = eqb (w / 2 % 2) 1

abbrev pub whole_sign : ℕ → Bool
whole_sign v = leb (2 ^ 29) v

abbrev pub whole_size : ℕ → ℕ
whole_size v = pick (whole_sign v) (2 ^ 30 - v) v

-- clear: they are the upper 30 bits of an f64 whose lower 34 are zero
abbrev pub float_bits : ℕ → ℕ
float_bits v = v * 2 ^ 34

-- the number's sign, and its size in units, of which 2 ^ 1074 are 1
unfoldable pub rk_sign : ℕ → Bool
rk_sign w = pick (is_whole w) (whole_sign (w / 4)) (float_sign (float_bits (w / 4)))

unfoldable pub rk_size : ℕ → ℕ
rk_size w = pick (is_whole w) (whole_size (w / 4) * 2 ^ 1074) (float_size (float_bits (w / 4)))

-- the 64 bits of the number divided by d and rounded once
unfoldable pub quotient_bits : ℕ → ℕ → ℕ
quotient_bits w d = signed (rk_sign w) (rounded (rk_size w) d)

-- bit 0 set: the number is divided by 100
abbrev pub is_divided : ℕ → Bool
is_divided w = eqb (w % 2) 1

unfoldable pub rk_bits : ℕ → ℕ
rk_bits w = quotient_bits w (pick (is_divided w) 100 1)

-- bit 1 clear and bits 20 to 30 all set
unfoldable pub means_nothing : ℕ → Bool
means_nothing w = not (is_whole w) && eqb (w / 2 ^ 20 % 2 ^ 11) 2047

unfoldable pub rk_of : ℕ → Option Float
rk_of w = pick (means_nothing w) None (Some (of_bits binary64 (rk_bits w)))
