-- The undivided word of an f64: the float form if it fits, else the whole-number form.
use Rattle.std.specs.Prelude.{◌≡◌, ℕ, ◌+◌, ◌-◌, ◌*◌, ◌/◌, ◌%◌, ◌^◌, ◌<◌, Bool, false, ◌&&◌, Option, Some, None, leb, ltb, eqb}
use Rattle.steps.specs.Choice.{pick}
use Rattle.number.specs.Float64.{float_sign, float_size}
use Rattle.number.specs.Rk.{means_nothing, rk_bits}

-- w is an undivided word that means the f64 with the bits b
pub record Means (w b : ℕ) : Type 0 where
  pub fits : w < 2 ^ 32
  pub undivided : w % 2 ≡ 0
  pub meant : means_nothing w ≡ false
  pub bits : rk_bits w ≡ b

-- the 30 bits of the whole number of sign s and size m, and whether it fits them
abbrev pub in_range : Bool → ℕ → Bool
in_range s m = pick s (leb m (2 ^ 29)) (ltb m (2 ^ 29))

abbrev pub thirty_bits : Bool → ℕ → ℕ
thirty_bits s m = pick s (2 ^ 30 - m) m

-- where the size is a whole number of 2 ^ 1074 units, each of which is 1
unfoldable pub whole_form : ℕ → Option ℕ
whole_form b =
    pick (eqb (float_size b % 2 ^ 1074) 0 && in_range (float_sign b) (float_size b / 2 ^ 1074))
    (Some (thirty_bits (float_sign b) (float_size b / 2 ^ 1074) * 4 + 2))
    None

-- None for an infinity or a NaN. The float form has the upper 32 bits, where the lower 34 are zero. `proofs/Means.antt` shows that a word which is given
-- means b, and that where none is given none does.
unfoldable pub pack_of : ℕ → Option ℕ
pack_of b =
    pick (eqb (b / 2 ^ 52 % 2 ^ 11) 2047) None
    (pick (eqb (b % 2 ^ 34) 0) (Some (b / 2 ^ 32))
    (whole_form b))
