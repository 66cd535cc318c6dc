-- Laws of little-endian numbers: put together, stored, and read in two streams that agree. Assumes nothing.
use Prim.Native.Nat.{ℕ, zero, suc, ◌+◌, ◌-◌, ◌*◌, ◌/◌, ◌%◌, ◌^◌, ◌≤◌, ◌<◌}
use mathlib.Core.Path.{◌≡◌, refl, sym, ap, ap₂, ◌∙◌}
use mathlib.Core.List.{List, [], ◌∷◌}
use mathlib.Core.Logic.{◌⊎◌, inl, inr}
use native.Mathlib.Numerals.{add-one}
use native.Mathlib.Omega.{arith}
use lib.ListN.{length, get_or, set, length-set, take, drop}
use lib.Seq.{sets, drop-cons, get_or-set_same, get_or-set_other}
use Rattle.byte_numbers.specs.Bytes.{num_at, bytes_at, bytes_of}

-- ---- a number stored byte by byte, up to the byte e
pub store_step : (s : List ℕ) (to e n : ℕ) → to < e → sets s to (bytes_of (e - to) n) ≡ sets (set s to (n % 256)) (to + 1) (bytes_of (e - (to + 1)) (n / 256))
unfolding bytes_of
store_step s to e n h = let left : e - to ≡ suc (e - (to + 1)) = omega arith in rw (left, add-one)

pub store_end : (s : List ℕ) (to e n : ℕ) → e ≤ to → sets s to (bytes_of (e - to) n) ≡ s
unfolding bytes_of
store_end s to e n h = let left : e - to ≡ 0 = omega arith in rw left

-- ---- bytes
pub bytes_first : (s : List ℕ) (p n : ℕ) → p < length s → 0 < n → bytes_at s p n ≡ get_or s p 0 ∷ bytes_at s (p + 1) (n - 1)
unfolding bytes_at
bytes_first s p n h z =
    let a : n ≡ suc (n - 1) = omega arith in
    ap₂ take a (drop-cons s p 0 h) ∙ ap (λ (k : ℕ). get_or s p 0 ∷ take (n - 1) (drop k s)) (sym (add-one p))

-- ---- bytes copied one after the other, i of n so far
pub copy_step : (s o : List ℕ) (p at n i : ℕ) → i < n → p + n ≤ length s → sets o (at + i) (bytes_at s (p + i) (n - i)) ≡ sets (set o (at + i) (get_or s (p + i) 0)) (at + (i + 1)) (bytes_at s (p + (i + 1)) (n - (i + 1)))
copy_step s o p at n i h f =
    let from : p + i + 1 ≡ p + (i + 1) = omega arith in
    let to : suc (at + i) ≡ at + (i + 1) = omega arith in
    let left : n - i - 1 ≡ n - (i + 1) = omega arith in
    ap (sets o (at + i)) (bytes_first s (p + i) (n - i) (omega arith) (omega arith))
    ∙ ap (λ (k : ℕ). sets (set o (at + i) (get_or s (p + i) 0)) k (bytes_at s (p + i + 1) (n - i - 1))) to
    ∙ ap₂ (λ (k l : ℕ). sets (set o (at + i) (get_or s (p + i) 0)) (at + (i + 1)) (bytes_at s k l)) from left

pub copy_end : (s o : List ℕ) (p at n i : ℕ) → n ≤ i → sets o (at + i) (bytes_at s (p + i) (n - i)) ≡ o
unfolding bytes_at
copy_end s o p at n i h = let left : n - i ≡ 0 = omega arith in rw left

-- ---- what is there after a store
pub length_bytes : (w n : ℕ) → length (bytes_of w n) ≡ w
unfolding bytes_of
length_bytes zero n = refl
length_bytes (suc w) n = ap suc (length_bytes w (n / 256))

pub sets_other : (vs s : List ℕ) (p k : ℕ) → (k < p) ⊎ (p + length vs ≤ k) → get_or (sets s p vs) k 0 ≡ get_or s k 0
sets_other [] s p k h = refl
sets_other (v ∷ vs) s p k (inl h) = sets_other vs (set s p v) (suc p) k (inl (omega arith)) ∙ get_or-set_other s p k v 0 (λ e. omega arith)
sets_other (v ∷ vs) s p k (inr h) = sets_other vs (set s p v) (suc p) k (inr (omega arith)) ∙ get_or-set_other s p k v 0 (λ e. omega arith)

-- the bytes beside the w that are stored stay
pub stored_other : (w n : ℕ) (s : List ℕ) (p k : ℕ) → (k < p) ⊎ (p + w ≤ k) → get_or (sets s p (bytes_of w n)) k 0 ≡ get_or s k 0
stored_other w n s p k h = sets_other (bytes_of w n) s p k (rw (length_bytes w n) h)

pub num_stored : (w n : ℕ) (s : List ℕ) (p : ℕ) → p + w ≤ length s → n < 256 ^ w → num_at (sets s p (bytes_of w n)) w p ≡ n
unfolding num_at bytes_of
num_stored zero n s p h f = omega arith
num_stored (suc w) n s p h f =
    let len : length (set s p (n % 256)) ≡ length s = length-set s p (n % 256) in
    let low : get_or (sets (set s p (n % 256)) (suc p) (bytes_of w (n / 256))) p 0 ≡ n % 256 = sets_other (bytes_of w (n / 256)) (set s p (n % 256)) (suc p) p (inl (omega arith)) ∙ get_or-set_same s p (n % 256) 0 (omega arith) in
    let high : num_at (sets (set s p (n % 256)) (suc p) (bytes_of w (n / 256))) w (p + 1) ≡ n / 256 = ap (λ (q : ℕ). num_at (sets (set s p (n % 256)) (suc p) (bytes_of w (n / 256))) w q) (add-one p) ∙ num_stored w (n / 256) (set s p (n % 256)) (suc p) (omega arith) (quotient w n f) in
    omega arith
  where
    quotient : (w n : ℕ) → n < 256 ^ suc w → n / 256 < 256 ^ w
    quotient w n f = omega arith

-- ---- two streams that agree
-- s and s' have the same bytes from a up to b
abbrev pub Same : List ℕ → List ℕ → ℕ → ℕ → Type 0
Same s s' a b = (k : ℕ) → a ≤ k → k < b → get_or s k 0 ≡ get_or s' k 0

pub num_same : (s s' : List ℕ) (w p : ℕ) → Same s s' p (p + w) → num_at s w p ≡ num_at s' w p
unfolding num_at
num_same s s' zero p h = refl
num_same s s' (suc w) p h = ap₂ (λ (a b : ℕ). a + 256 * b) (h p (omega arith) (omega arith)) (num_same s s' w (p + 1) (λ k i j. h k (omega arith) (omega arith)))
