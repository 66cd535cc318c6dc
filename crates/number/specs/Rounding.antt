-- n / d units of 2 ^ -1074 rounded to the nearest f64, over whole numbers: by exponent, significand and remainder.
use Rattle.std.specs.Prelude.{◌≡◌, ◌⊎◌, Bool}
use Prim.Native.Nat.{ℕ, zero, suc, ◌+◌, ◌-◌, ◌*◌, ◌/◌, ◌%◌, ◌^◌, ◌<◌, ◌≤◌, compare, Ordering}
use Rattle.steps.specs.Choice.{pick}

-- how many binary digits n has, none for 0; k is a bound on how often n is halved
unfoldable pub halvings : ℕ → ℕ → ℕ
halvings zero n = 0
halvings (suc k) zero = 0
halvings (suc k) (suc n) = suc (halvings k (suc n / 2))

unfoldable pub digits : ℕ → ℕ
unfolding halvings
digits n = halvings n n

-- as many binary digits of the whole part are dropped as it has beyond 53
unfoldable pub exponent : ℕ → ℕ → ℕ
exponent n d = digits (n / d) - 53

-- the significand q, or the one above it, by how twice the remainder compares with the divisor; of two equally near the even one
abbrev pub half_even : ℕ → Ordering → ℕ
half_even q Ordering.lt = q
half_even q Ordering.eq = q + q % 2
half_even q Ordering.gt = suc q

-- The bits, but for the sign, of the f64 nearest to n / d units. The exponent's field is worth 2 ^ 52; the leading digit of a significand of 53 digits
-- adds one to it, and so does a significand that is rounded up to 2 ^ 53.
unfoldable pub rounded : ℕ → ℕ → ℕ
unfolding exponent
rounded n d =
    let e = exponent n d in
    let u = d * 2 ^ e in
    e * 2 ^ 52 + half_even (n / u) (compare (n % u * 2) u)

-- with the sign's bit
abbrev pub signed : Bool → ℕ → ℕ
signed s b = pick s (2 ^ 63) 0 + b

-- The same with no count of digits: a division of n by d * 2 ^ e with a quotient below 2 ^ 53, and e as small as that allows.
-- `proofs/Rounding.antt` shows that `rounded n d` is the one b of which it holds.
pub record IsRounded (n d b : ℕ) : Type 0 where
  pub e : ℕ
  pub significand : ℕ
  pub remainder : ℕ
  pub division : significand * (d * 2 ^ e) + remainder ≡ n
  pub remainder_lt : remainder < d * 2 ^ e
  pub significand_lt : significand < 2 ^ 53
  pub least : (e ≡ 0) ⊎ (2 ^ 52 ≤ significand)
  pub bits : b ≡ e * 2 ^ 52 + half_even significand (compare (remainder * 2) (d * 2 ^ e))
