-- `rounded n d` is the one number of which `IsRounded n d` holds; and the logic's `round` at binary64 gives the f64 with these bits. Assumes nothing.
use mathlib.Core.Path.{◌≡◌, refl, sym, ap, ◌∙◌}
use mathlib.Core.Logic.{◌⊎◌, inl, inr}
use mathlib.Core.Bool.{Bool, true, false, cond}
use Prim.Native.Nat.compare
use Prim.Native.Nat.{ℕ, zero, suc, ◌+◌, ◌-◌, ◌*◌, ◌/◌, ◌%◌, ◌^◌, ◌≤◌, ◌<◌, compare, Ordering, zero-le}
use native.Mathlib.Nat.{le_refl, le_trans, le_of_eq, le_antisymm, le_of_suc-le-suc, lt_of_lt_of_le, lt_of_le_of_lt, lt_of_not-le, eq-or-lt_of_le, eq-zero-or-pos, mod-lt, mul-one, one-mul, mul_comm, mul_assoc, mul-pos, mul-le-mul_right, mul-lt-mul_of_pos_right, mul-div_cancel, le-div_iff_mul-le, div-lt_iff_lt-mul, div-div-eq-div-mul, div-add-mod', add-zero, add_assoc, suc-add, pow-succ'}
use native.Mathlib.Omega.{arith}
use lib.Arith.{digits_div, digits_mod}
use lib.Pow.{pow-add, pow_pos, pow_mono, pow-lt}
use lib.Ieee.{Float, nan, inf, fin, binary64, up, down, size, nearest, units, round, of_bits, to_bits, is_nan}
use lib.Ieee.Digits.{size-lt, size-le, size_reaches}
use lib.Ieee.Fits.{round_is, round-fits, down_pos, nearest-le, kept-lt}
use lib.Ieee.Exact.{HasValue, units_val}
use lib.Ieee.Nearest.{closest, closest_same, div_same, nearest-ge}
use lib.Ieee.Bits.{of_bits-to_bits, to_bits-lt}
use Rattle.steps.specs.Choice.{pick}
use Rattle.number.specs.Float64.{is_nan_bits, in_units}
use Rattle.number.specs.Rounding.{halvings, digits, exponent, half_even, rounded, signed, IsRounded}
use Rattle.number.proofs.Float64.{nan_float}

-- ---- how many binary digits a number has

size_gt : (n j : ℕ) → 2 ^ j ≤ n → j < size n
size_gt n j h = lt_of_not-le (λ (g : size n ≤ j). omega (arith, size-lt n, pow_mono g))

size_exact : (n a : ℕ) → 2 ^ a ≤ n → n < 2 ^ suc a → size n ≡ suc a
size_exact n a lo hi = le_antisymm (size-le n (suc a) hi) (size_gt n a lo)

-- z counts n's digits
Counts : ℕ → ℕ → Type 0
Counts n z = (n < 2 ^ z) × ((j : ℕ) → j < z → 2 ^ j ≤ n)

halvings_count : (k n : ℕ) → n ≤ k → Counts n (halvings k n)
unfolding halvings Counts
halvings_count zero n h = (omega arith, λ j l. absurd (omega arith))
halvings_count (suc k) zero h = (omega arith, λ j l. absurd (omega arith))
halvings_count (suc k) (suc n) h =
    let half = halvings_count k (suc n / 2) (omega arith) in
    let below : suc n < 2 ^ suc (halvings k (suc n / 2)) = omega arith in
    (below, reaches half)
  where
    reaches : Counts (suc n / 2) (halvings k (suc n / 2)) → (j : ℕ) → j < suc (halvings k (suc n / 2)) → 2 ^ j ≤ suc n
    reaches half zero l = omega arith
    reaches half (suc j) l = omega (arith, half.1 j (le_of_suc-le-suc l))

digits_size : (n : ℕ) → digits n ≡ size n
unfolding digits Counts
digits_size n = let c = halvings_count n n (le_refl n) in le_antisymm (reach (halvings n n) c.1) (size-le n (halvings n n) c.0)
  where
    reach : (z : ℕ) → ((j : ℕ) → j < z → 2 ^ j ≤ n) → z ≤ size n
    reach zero lo = zero-le
    reach (suc z) lo = size_gt n z (lo z (le_refl (suc z)))

exponent_is : (n d : ℕ) → exponent n d ≡ size (n / d) - 53
unfolding exponent
exponent_is n d = ap (λ (z : ℕ). z - 53) (digits_size (n / d))

-- where digits are dropped, the quotient has all 53
leads : (w : ℕ) → (size w - 53 ≡ 0) ⊎ (2 ^ 52 ≤ w / 2 ^ (size w - 53))
leads w = go (eq-zero-or-pos (size w - 53))
  where
    go : (size w - 53 ≡ 0) ⊎ (0 < size w - 53) → (size w - 53 ≡ 0) ⊎ (2 ^ 52 ≤ w / 2 ^ (size w - 53))
    go (inl e) = inl e
    go (inr p) =
        inr ((le-div_iff_mul-le (pow_pos (size w - 53))).1
        (le_trans (le_of_eq (sym (pow-add 2 52 (size w - 53)))) (size_reaches w (52 + (size w - 53)) (omega arith))))

-- ---- the relation

pub is_rounded : (n d : ℕ) → 0 < d → IsRounded n d (rounded n d)
unfolding rounded
is_rounded n d D =
    let k = exponent n d in record {
      e = k;
      significand = n / (d * 2 ^ k);
      remainder = n % (d * 2 ^ k);
      division = div-add-mod' n (d * 2 ^ k);
      remainder_lt = mod-lt n (mul-pos D (pow_pos k));
      significand_lt = rw (← div-div-eq-div-mul n d (2 ^ k), exponent_is) (kept-lt 53 (n / d));
      least = rw (← div-div-eq-div-mul n d (2 ^ k), exponent_is) (leads (n / d));
      bits = refl;
    }

-- the exponent is the only one
one_exponent : (w e : ℕ) → w / 2 ^ e < 2 ^ 53 → (e ≡ 0) ⊎ (2 ^ 52 ≤ w / 2 ^ e) → e ≡ size w - 53
one_exponent w e h l = go l
  where
    most : size w ≤ 53 + e
    most = size-le w (53 + e) (lt_of_lt_of_le ((div-lt_iff_lt-mul (pow_pos e)).0 h) (le_of_eq (sym (pow-add 2 53 e))))

    go : (e ≡ 0) ⊎ (2 ^ 52 ≤ w / 2 ^ e) → e ≡ size w - 53
    go (inl z) = omega (arith, most)
    go (inr g) = omega (arith, most, size_gt w (52 + e) (le_trans (le_of_eq (pow-add 2 52 e)) ((le-div_iff_mul-le (pow_pos e)).0 g)))

pub one_rounded : (n d b : ℕ) → IsRounded n d b → b ≡ rounded n d
unfolding rounded
one_rounded n d b s =
    let u = d * 2 ^ s.e in
    let q-is : n / u ≡ s.significand = ap (λ (y : ℕ). y / u) (sym s.division) ∙ digits_div s.significand s.remainder_lt in
    let r-is : n % u ≡ s.remainder = ap (λ (y : ℕ). y % u) (sym s.division) ∙ digits_mod s.significand s.remainder_lt in
    let w-is : n / d / 2 ^ s.e ≡ s.significand = div-div-eq-div-mul n d (2 ^ s.e) ∙ q-is in
    let e-is : exponent n d ≡ s.e = exponent_is n d ∙ sym (one_exponent (n / d) s.e (rw w-is s.significand_lt) (rw w-is s.least)) in
    rw (e-is, q-is, r-is) s.bits

-- ---- the bits of a finite value, from its sign and its size in units

cond_pick : {A : Type 0} (s : Bool) (a b : A) → cond s a b ≡ pick s a b
unfolding pick
cond_pick true a b = refl
cond_pick false a b = refl

to_bits_value : (x : Float) (s : Bool) (a : ℕ) → HasValue x s a (2 ^ 1074) → to_bits binary64 x ≡ signed s ((size a - 53) * 2 ^ 52 + a / 2 ^ (size a - 53))
unfolding to_bits
to_bits_value (fin t m e) s a v =
    let n-is : m * up e * 2 ^ 1074 / down e ≡ a = ap (λ (y : ℕ). y / down e) v.1 ∙ mul-div_cancel a (down_pos e) in
    rw (n-is, v.0, cond_pick, add_assoc)
to_bits_value nan s a v = elim v [ ]
to_bits_value (inf _) s a v = elim v [ ]

bits_at : (a e t : ℕ) → size a - 53 ≡ e → a ≡ t * 2 ^ e → (size a - 53) * 2 ^ 52 + a / 2 ^ (size a - 53) ≡ e * 2 ^ 52 + t
bits_at a e t p h = rw (p, h, mul-div_cancel t (pow_pos e))

scaled_size : (a q k : ℕ) → 2 ^ a ≤ q → q < 2 ^ suc a → size (q * 2 ^ k) ≡ suc (a + k)
scaled_size a q k lo hi =
    size_exact (q * 2 ^ k) (a + k) (le_trans (le_of_eq (pow-add 2 a k)) (mul-le-mul_right (2 ^ k) lo))
    (rw (← suc-add a k, pow-add 2 (suc a) k) (mul-lt-mul_of_pos_right hi (pow_pos k)))

-- q * 2 ^ k units: q has 53 digits, or k is 0, or q is 2 ^ 53
to_bits_units : (s : Bool) (q k : ℕ) → q ≤ 2 ^ 53 → (k ≡ 0) ⊎ (2 ^ 52 ≤ q) → q * 2 ^ k < 2 ^ 2098 → to_bits binary64 (units binary64 s q k) ≡ signed s (k * 2 ^ 52 + q)
to_bits_units s q k hi lo fine = to_bits_value (units binary64 s q k) s (q * 2 ^ k) (units_val binary64 s q k fine) ∙ ap (signed s) (go (eq-or-lt_of_le hi) lo)
  where
    go : (q ≡ 2 ^ 53) ⊎ (q < 2 ^ 53) → (k ≡ 0) ⊎ (2 ^ 52 ≤ q) → (size (q * 2 ^ k) - 53) * 2 ^ 52 + q * 2 ^ k / 2 ^ (size (q * 2 ^ k) - 53) ≡ k * 2 ^ 52 + q
    go (inl e) l =
        bits_at (q * 2 ^ k) (suc k) (2 ^ 52) (omega (arith, scaled_size 53 q k (le_of_eq (sym e)) (omega arith))) (rw (e, pow-succ' 2 k) (omega arith)) ∙ omega arith
    go (inr h) (inl z) = bits_at (q * 2 ^ k) k q (omega (arith, size-le (q * 2 ^ k) 53 (rw (z, mul-one) h))) refl
    go (inr h) (inr l) = bits_at (q * 2 ^ k) k q (omega (arith, scaled_size 52 q k l h)) refl

-- ---- `round` gives the f64 with the bits `rounded`

half_even_lem : (q : ℕ) (o : Ordering) → nearest q o ≡ half_even q o
half_even_lem q Ordering.lt = refl
half_even_lem q Ordering.eq = refl
half_even_lem q Ordering.gt = refl

-- the significand that is kept of n / d units, with its exponent
module _ (n d : ℕ) where
  kept_exponent : ℕ
  kept_exponent = size (n / d) - 53

  kept : ℕ
  kept = closest n (d * 2 ^ kept_exponent)

  kept_le : kept ≤ 2 ^ 53
  unfolding kept kept_exponent
  kept_le =
      let u = d * 2 ^ kept_exponent in
      le_trans (nearest-le (n / u) (compare (n % u * 2) u)) (rw (← div-div-eq-div-mul n d (2 ^ kept_exponent)) (kept-lt 53 (n / d)))

  kept_leads : (kept_exponent ≡ 0) ⊎ (2 ^ 52 ≤ kept)
  unfolding kept kept_exponent
  kept_leads = go (leads (n / d))
    where
      go : (size (n / d) - 53 ≡ 0) ⊎ (2 ^ 52 ≤ n / d / 2 ^ (size (n / d) - 53)) → (kept_exponent ≡ 0) ⊎ (2 ^ 52 ≤ kept)
      go (inl e) = inl e
      go (inr h) =
          let u = d * 2 ^ kept_exponent in
          inr (le_trans (rw div-div-eq-div-mul at h) (nearest-ge (n / u) (compare (n % u * 2) u)))

  -- it is finite where n / d has 2097 digits at most
  kept_finite : n / d < 2 ^ 2097 → kept * 2 ^ kept_exponent < 2 ^ 2098
  unfolding kept kept_exponent
  kept_finite h =
      lt_of_le_of_lt (mul-le-mul_right (2 ^ kept_exponent) kept_le)
      (rw (← pow-add 2 53 kept_exponent) (pow-lt (room (size (n / d)) (size-le (n / d) 2097 h))))
    where
      room : (z : ℕ) → z ≤ 2097 → 53 + (z - 53) < 2098
      room z l = omega arith

  kept_rounded : kept_exponent * 2 ^ 52 + kept ≡ rounded n d
  unfolding kept kept_exponent rounded
  kept_rounded = rw (← exponent_is n d, half_even_lem)

-- num / den is n / d units
module _ (s : Bool) (num den n d : ℕ) (B : 0 < den) (D : 0 < d) (same : num * 2 ^ 1074 * d ≡ n * den) where
  round_units : round binary64 s num den ≡ units binary64 s (kept n d) (kept_exponent n d)
  unfolding kept kept_exponent
  round_units =
      let a = num * 2 ^ 1074 in
      let j = kept_exponent n d in
      let scaled : a * (d * 2 ^ j) ≡ n * (den * 2 ^ j) = sym (mul_assoc a d (2 ^ j)) ∙ ap (λ (x : ℕ). x * 2 ^ j) same ∙ mul_assoc n den (2 ^ j) in
      round_is binary64 s num den
      ∙ ap (λ (x : ℕ). units binary64 s (closest a (den * 2 ^ (size x - 53))) (size x - 53)) (div_same a den n d B D same)
      ∙ ap (λ (q : ℕ). units binary64 s q j) (closest_same a (den * 2 ^ j) n (d * 2 ^ j) (mul-pos B (pow_pos j)) (mul-pos D (pow_pos j)) scaled)

  module _ (small : n / d < 2 ^ 2097) where
    round_bits : to_bits binary64 (round binary64 s num den) ≡ signed s (rounded n d)
    round_bits = ap (to_bits binary64) round_units ∙ to_bits_units s (kept n d) (kept_exponent n d) (kept_le n d) (kept_leads n d) (kept_finite n d small) ∙ ap (signed s) (kept_rounded n d)

    pub round_of : round binary64 s num den ≡ of_bits binary64 (signed s (rounded n d))
    round_of = sym (of_bits-to_bits binary64 (round binary64 s num den) (round-fits binary64 s num den)) ∙ ap (of_bits binary64) round_bits

-- ---- what is rounded is 64 bits, and no NaN's

value_number : (x : Float) (s : Bool) (a c : ℕ) → HasValue x s a c → is_nan x ≡ false
unfolding is_nan
value_number nan s a c v = absurd v
value_number (inf t) s a c v = refl
value_number (fin t m e) s a c v = refl

module _ (s : Bool) (n d : ℕ) (D : 0 < d) (small : n / d < 2 ^ 2097) where
  den_pos : 0 < d * 2 ^ 1074
  den_pos = mul-pos D (pow_pos 1074)

  same : n * 2 ^ 1074 * d ≡ n * (d * 2 ^ 1074)
  same = rw (mul_assoc, mul_comm d (2 ^ 1074))

  pub rounded_lt : signed s (rounded n d) < 2 ^ 64
  rounded_lt = rw (← round_bits s n (d * 2 ^ 1074) n d den_pos D same small) (to_bits-lt binary64 (round binary64 s n (d * 2 ^ 1074)) (round-fits binary64 s n (d * 2 ^ 1074)))

  pub rounded_number : is_nan_bits (signed s (rounded n d)) ≡ false
  rounded_number =
      nan_float (signed s (rounded n d))
      ∙ ap is_nan (sym (round_of s n (d * 2 ^ 1074) n d den_pos D same small) ∙ round_units s n (d * 2 ^ 1074) n d den_pos D same)
      ∙ value_number (units binary64 s (kept n d) (kept_exponent n d)) s (kept n d * 2 ^ kept_exponent n d) (2 ^ 1074) (units_val binary64 s (kept n d) (kept_exponent n d) (kept_finite n d small))

-- ---- an f64's own size is rounded to itself

above_zero : (u : ℕ) → 0 < u → compare 0 u ≡ Ordering.lt
above_zero zero h = absurd (omega arith)
above_zero (suc u) h = compare.zero-suc u

rounded_exact : (e q : ℕ) → q < 2 ^ 53 → (e ≡ 0) ⊎ (2 ^ 52 ≤ q) → rounded (q * 2 ^ e) 1 ≡ e * 2 ^ 52 + q
rounded_exact e q h l = sym (one_rounded (q * 2 ^ e) 1 (e * 2 ^ 52 + q) record {
  e = e;
  significand = q;
  remainder = 0;
  division = rw (one-mul, add-zero);
  remainder_lt = rw one-mul (pow_pos e);
  significand_lt = h;
  least = l;
  bits = ap (λ (o : Ordering). e * 2 ^ 52 + half_even q o) (sym (above_zero (1 * 2 ^ e) (rw one-mul (pow_pos e))));
})

pub rounded_units : (x t : ℕ) → t < 2 ^ 52 → rounded (in_units x t) 1 ≡ x * 2 ^ 52 + t
rounded_units zero t h = ap (λ (n : ℕ). rounded n 1) (sym (mul-one t)) ∙ rounded_exact 0 t (omega arith) (inl refl)
rounded_units (suc x) t h = rounded_exact x (2 ^ 52 + t) (omega arith) (inr (omega arith)) ∙ omega arith
