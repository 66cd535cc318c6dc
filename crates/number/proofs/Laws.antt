-- What the crates above cite of numbers. Assumes nothing.
use mathlib.Core.Path.{◌≡◌, sym, ap, ◌∙◌}
use mathlib.Core.Bool.{true, false}
use Prim.Native.Nat.{ℕ, ◌^◌, ◌<◌}
use lib.Dec.{T}
use lib.Ieee.{Float, binary64, fits, of_bits, is_nan}
use lib.Ieee.Bits.{of_bits-to_bits, to_bits-of_bits, to_bits-lt}
use Rattle.steps.specs.Choice.{pick}
use Rattle.number.specs.Float64.{is_nan_bits, bits_of}
use Rattle.number.specs.Rk.{rk_bits, means_nothing, rk_of}
use Rattle.number.specs.Packing.{pack_of}
use Rattle.std.specs.Prelude.{Some, None}
use Rattle.number.proofs.Float64.{nan_float, not_T, bits_of_is}
use Rattle.number.proofs.Decoding.{rk_pattern}
pub use Rattle.number.proofs.Float64.{nan_told}
pub use Rattle.number.proofs.Decoding.{nothing_told}
pub use Rattle.number.proofs.Means.{sound, complete, refused_exactly}

-- ---- the 64 bits of an f64

pub bits_of_float : (b : ℕ) → b < 2 ^ 64 → is_nan_bits b ≡ false → bits_of (of_bits binary64 b) ≡ b
bits_of_float b h n = bits_of_is (of_bits binary64 b) ∙ to_bits-of_bits binary64 b h (not_T (is_nan (of_bits binary64 b)) (sym (nan_float b) ∙ n))

pub float_of_bits : (x : Float) → T (fits binary64 x) → of_bits binary64 (bits_of x) ≡ x
float_of_bits x f = ap (of_bits binary64) (bits_of_is x) ∙ of_bits-to_bits binary64 x f

pub bits_of_lt : (x : Float) → T (fits binary64 x) → bits_of x < 2 ^ 64
bits_of_lt x f = rw (bits_of_is x) (to_bits-lt binary64 x f)

-- ---- RK words

pub rk_bits_lt : (w : ℕ) → w < 2 ^ 32 → means_nothing w ≡ false → rk_bits w < 2 ^ 64
rk_bits_lt w f m = (rk_pattern w f m).0

pub rk_bits_number : (w : ℕ) → w < 2 ^ 32 → means_nothing w ≡ false → is_nan_bits (rk_bits w) ≡ false
rk_bits_number w f m = (rk_pattern w f m).1

pub rk_number : (w : ℕ) → means_nothing w ≡ false → rk_of w ≡ Some (of_bits binary64 (rk_bits w))
unfolding rk_of pick
rk_number w m = rw m

pub rk_nothing : (w : ℕ) → means_nothing w ≡ true → rk_of w ≡ None
unfolding rk_of pick
rk_nothing w m = rw m

-- ---- packing, with `sound`, `complete` and `refused_exactly`

-- the word that is given decodes to the number
pub packed_number : (b w : ℕ) → b < 2 ^ 64 → pack_of b ≡ Some w → rk_of w ≡ Some (of_bits binary64 b)
packed_number b w f e = let m = sound b w f e in rk_number w m.meant ∙ ap (λ (n : ℕ). Some (of_bits binary64 n)) m.bits
