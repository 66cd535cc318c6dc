-- The whole number from 0 up that 64 bits mean, by the sign and the size of the f64: 2 ^ 1074 of its units are 1. Minus zero isn't one, nor is an infinity
-- or a NaN, whose lower 63 bits are those of an infinity or above.
use Rattle.std.specs.Prelude.{ℕ, ◌*◌, ◌/◌, ◌%◌, ◌^◌, Option, Some, None, leb, eqb}
use Rattle.steps.specs.Choice.{pick}
use Rattle.number.specs.Float64.{float_sign, float_size}

unfoldable pub amount_of : ℕ → ℕ → Option ℕ
amount_of limit b =
    pick (float_sign b) None
    (pick (leb (2047 * 2 ^ 52) (b % 2 ^ 63)) None
    (pick (eqb (float_size b % 2 ^ 1074) 0)
    (pick (leb (float_size b / 2 ^ 1074) limit) (Some (float_size b / 2 ^ 1074)) None)
    None))
