-- No flag is set. Assumes nothing.
use Rattle.std.proofs.Common.{◌≡◌, ℕ, zero, suc, ◌/◌, ◌%◌, length, get_or, refl, ap, ◌∙◌}
use Rattle.std.proofs.lemmas.List.{length-replicate}
use Rattle.flags.specs.Flags.{bit_at, flag_at}
use Rattle.flags.specs.Parts.{zeros}

pub zeros_length : (n : ℕ) → length (zeros n) ≡ n
zeros_length n = length-replicate n 0

zeros_at : (n k : ℕ) → get_or (zeros n) k 0 ≡ 0
zeros_at zero k = refl
zeros_at (suc n) zero = refl
zeros_at (suc n) (suc k) = zeros_at n k

bit_none : (k : ℕ) → bit_at 0 k ≡ 0
unfolding bit_at
bit_none zero = refl
bit_none (suc k) = bit_none k

pub flag_none : (n k : ℕ) → flag_at (zeros n) k ≡ 0
unfolding flag_at
flag_none n k = ap (λ (w : ℕ). bit_at w (k % 64)) (zeros_at n (k / 64)) ∙ bit_none (k % 64)
