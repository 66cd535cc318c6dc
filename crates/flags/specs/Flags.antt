-- Flags in words of 64: flag 0 is the lowest digit of the first word.
use Rattle.std.specs.Prelude.{ℕ, zero, suc, ◌+◌, ◌/◌, ◌%◌, List, [], ◌∷◌, get_or}

-- digit k of a word, counted from the lowest
unfoldable pub bit_at : ℕ → ℕ → ℕ
bit_at w zero = w % 2
bit_at w (suc k) = bit_at (w / 2) k

unfoldable pub flag_at : List ℕ → ℕ → ℕ
flag_at l i = bit_at (get_or l (i / 64) 0) (i % 64)

-- the n flags from i on
unfoldable pub flags_from : List ℕ → ℕ → ℕ → List ℕ
flags_from l i zero = []
flags_from l i (suc n) = flag_at l i ∷ flags_from l (i + 1) n

-- how many of the first i are set
unfoldable pub set_below : List ℕ → ℕ → ℕ
set_below l zero = 0
set_below l (suc i) = flag_at l i + set_below l i
