-- Little-endian numbers of a byte list.
use Rattle.std.specs.Prelude.{ℕ, zero, suc, ◌+◌, ◌*◌, ◌/◌, ◌%◌, List, [], ◌∷◌, get_or, take, drop}

abbrev pub byte_at : List ℕ → ℕ → ℕ
byte_at s at = get_or s at 0

-- the number of the w bytes at `at`, the lower first
unfoldable pub num_at : List ℕ → ℕ → ℕ → ℕ
num_at s zero at = 0
num_at s (suc w) at = byte_at s at + 256 * num_at s w (at + 1)

abbrev pub u16_at : List ℕ → ℕ → ℕ
u16_at s at = num_at s 2 at

abbrev pub u32_at : List ℕ → ℕ → ℕ
u32_at s at = num_at s 4 at

abbrev pub u64_at : List ℕ → ℕ → ℕ
u64_at s at = num_at s 8 at

-- the n bytes from p on
unfoldable pub bytes_at : List ℕ → ℕ → ℕ → List ℕ
bytes_at s p n = take n (drop p s)

-- the w bytes of a number, the lower first
unfoldable pub bytes_of : ℕ → ℕ → List ℕ
bytes_of zero n = []
bytes_of (suc w) n = n % 256 ∷ bytes_of w (n / 256)
