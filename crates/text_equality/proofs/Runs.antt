-- The laws of characters side by side, with what a call gave as the proofs have it. Assumes nothing.
use Prim.Native.Nat.{ℕ, zero, suc, ◌+◌, ◌-◌, ◌*◌, ◌/◌, ◌^◌, ◌≤◌, ◌<◌}
use mathlib.Core.Path.{◌≡◌, refl, sym, ap, ◌∙◌}
use mathlib.Core.Bool.{Bool, true, false}
use mathlib.Core.List.{List, ◌∷◌}
use native.Mathlib.Omega.{arith}
use native.Mathlib.Nat.{suc-mul, mul-le-mul_right, div-one, div-mul-le_self, mul-div_cancel}
use lib.ListN.{length, get_or}
use lib.Dec.{ltb}
use lib.Bits.{bit_or, bit_xor, or_add_and, xor_add_and, and_le_l, and_le_r}
use borrow.Author.Tests.{ltb-true, ltb-false}
use Rattle.std.specs.List.{between}
use Rattle.std.proofs.lemmas.List.Edits.{length-between, get_or-between}
use Rattle.byte_numbers.specs.Bytes.{num_at}
use Rattle.segments.specs.Parts.{nums}
use Rattle.differences.specs.Differences.{chars_from, chars_of}
use Rattle.text_equality.specs.Lists.{Alike}

-- ---- characters by their numbers
chars_get : (b : List ℕ) (w p k i : ℕ) → i < k → get_or (chars_from b w p k) i 0 ≡ num_at b w (p + i * w)
unfolding chars_from
chars_get b w p zero i h = absurd (omega arith)
chars_get b w p (suc k) zero h = ap (num_at b w) (let e : p ≡ p + 0 * w = omega arith in e)
chars_get b w p (suc k) (suc i) h = chars_get b w (p + w) k i (omega arith) ∙ ap (num_at b w) (let e = suc-mul i w in let f : p + w + i * w ≡ p + suc i * w = omega arith in f)

chars_length : (b : List ℕ) (w p k : ℕ) → length (chars_from b w p k) ≡ k
unfolding chars_from
chars_length b w p zero = refl
chars_length b w p (suc k) = ap suc (chars_length b w (p + w) k)

pub chars_count : (b : List ℕ) (w : ℕ) → length (chars_of b w) ≡ length b / w
chars_count b w = chars_length b w 0 (length b / w)

char_at : (b : List ℕ) (w i : ℕ) → i < length b / w → get_or (chars_of b w) i 0 ≡ num_at b w (i * w)
char_at b w i h = chars_get b w 0 (length b / w) i h ∙ ap (num_at b w) (let e : 0 + i * w ≡ i * w = omega arith in e)

module _ (b : List ℕ) (w i : ℕ) (h : i < length (chars_of b w)) where
  within : i < length b / w
  within = let e = chars_count b w in omega arith

  pub char_within : i * w + w ≤ length b
  char_within = let h = within in let d = div-mul-le_self (length b) w in let m = mul-le-mul_right w h in let e = suc-mul i w in omega arith

  pub char_fits : length b < 2 ^ 64 → i * w < 2 ^ 64
  char_fits l = let d = char_within in omega arith

  pub char_is : (x : ℕ) → x ≡ num_at b w (i * w) → x ≡ get_or (chars_of b w) i 0
  char_is x e = e ∙ sym (char_at b w i within)

pub ruleset char_laws = (char_within, char_fits, char_is)

-- ---- numbers by their bytes
num_part : (s b : List ℕ) (n p q : ℕ) → ((i : ℕ) → i < n → get_or b (q + i) 0 ≡ get_or s (p + i) 0) → num_at b n q ≡ num_at s n p
unfolding num_at
num_part s b zero p q h = refl
num_part s b (suc n) p q h =
    let x : q ≡ q + 0 = omega arith in
    let y : p + 0 ≡ p = omega arith in
    let first = ap (λ (j : ℕ). get_or b j 0) x ∙ h 0 (omega arith) ∙ ap (λ (j : ℕ). get_or s j 0) y in
    let rest = num_part s b n (p + 1) (q + 1) (λ i l. let x : q + 1 + i ≡ q + suc i = omega arith in let y : p + suc i ≡ p + 1 + i = omega arith in ap (λ (j : ℕ). get_or b j 0) x ∙ h (suc i) (omega arith) ∙ ap (λ (j : ℕ). get_or s j 0) y) in
    λ z. first z + 256 * rest z

pub bytes_same : (s t : List ℕ) → ((i : ℕ) → get_or s i 0 < 256) → ((i : ℕ) → get_or t i 0 < 256) → (n a : ℕ) → num_at s n a ≡ num_at t n a → (k : ℕ) → k < n → get_or s (a + k) 0 ≡ get_or t (a + k) 0
unfolding num_at
bytes_same s t f g zero a h k l = absurd (omega arith)
bytes_same s t f g (suc n) a h zero l = let i = f a in let j = g a in let o : a + 0 ≡ a = omega arith in ap (λ (m : ℕ). get_or s m 0) o ∙ (omega arith) ∙ ap (λ (m : ℕ). get_or t m 0) (sym o)
bytes_same s t f g (suc n) a h (suc k) l =
    let i = f a in
    let j = g a in
    let o : a + suc k ≡ a + 1 + k = omega arith in
    ap (λ (m : ℕ). get_or s m 0) o ∙ bytes_same s t f g n (a + 1) (omega arith) k (omega arith) ∙ ap (λ (m : ℕ). get_or t m 0) (sym o)

by_bytes : (s t : List ℕ) (w v : ℕ) → length (chars_of s w) ≡ length (chars_of t v) → length s / w ≡ length t / v
by_bytes s t w v long = sym (chars_count s w) ∙ long ∙ chars_count t v

-- ---- by words of eight bytes
le_by : (x y w : ℕ) → 1 ≤ w → x * w ≤ y * w → x ≤ y
le_by x y w i h = by (ltb y x) refl
  where
    by : (b : Bool) → ltb y x ≡ b → x ≤ y
    by true z = absurd (let m = mul-le-mul_right w (ltb-true y x z) in let q = suc-mul y w in omega arith)
    by false z = ltb-false y x z

-- how many characters words have
word_chars : (w n : ℕ) → 1 ≤ w → w ≤ 2 → (8 * n / w) * w ≡ 8 * n
word_chars zero n i j = absurd (omega arith)
word_chars (suc zero) n i j = let d = div-one (8 * n) in omega arith
word_chars (suc (suc zero)) n i j = omega arith
word_chars (suc (suc (suc w))) n i j = absurd (omega arith)

-- the word that character k is in
word_of : (w k n : ℕ) → 1 ≤ w → w ≤ 2 → 8 * n / w ≤ k → k < 8 * (n + 1) / w → (8 * n ≤ k * w) × (k * w + w ≤ 8 * n + 8)
word_of w k n i j h l =
    let a = mul-le-mul_right w h in
    let b = mul-le-mul_right w l in
    let c = word_chars w n i j in
    let d = word_chars w (n + 1) i j in
    let e = suc-mul k w in
    (omega arith, omega arith)

module _ (s t : List ℕ) (w v : ℕ) (i : 1 ≤ w) (j : w ≤ 2) (e : w ≡ v) (long : length (chars_of s w) ≡ length (chars_of t v)) where
  pub words_none : Alike (chars_of s w) (chars_of t v) (8 * 0 / w)
  words_none = record { few = let n = none in omega arith; same = λ k h. absurd (let n = none in omega arith) }
    where
      none : 8 * 0 / w ≤ 0
      none = le_by (8 * 0 / w) 0 w i (let c = word_chars w 0 i j in omega arith)

  module _ (n words : ℕ) (count : ℕ) (counted : count ≡ length (chars_of s w)) (is : words ≡ count * w / 8) (l : n < words) where
    word_room : 8 * n + 8 ≤ length s / w * w
    word_room = let e = ap (λ (k : ℕ). k * w) (counted ∙ chars_count s w) in omega arith

    pub word_first : 8 * n + 8 ≤ length s
    word_first = let a = word_room in let d = div-mul-le_self (length s) w in omega arith

    pub word_second : 8 * n + 8 ≤ length t
    word_second = let a = word_room in let d = div-mul-le_self (length t) v in let f = ap (λ (k : ℕ). k * w) (by_bytes s t w v long) in let g = ap (λ (k : ℕ). length t / v * k) e in omega arith

    pub word_on : Alike (chars_of s w) (chars_of t v) (8 * n / w) → ((k : ℕ) → k < 8 → get_or s (8 * n + k) 0 ≡ get_or t (8 * n + k) 0) → Alike (chars_of s w) (chars_of t v) (8 * (n + 1) / w)
    word_on a f = record { few = within; same = λ k h. by k h (ltb k (8 * n / w)) refl }
      where
        within : 8 * (n + 1) / w ≤ length (chars_of s w)
        within =
            let c = chars_count s w in
            let d = word_chars w (n + 1) i j in
            let r = word_room in
            let l = le_by (8 * (n + 1) / w) (length s / w) w i (omega arith) in
            omega arith

        by : (k : ℕ) → k < 8 * (n + 1) / w → (b : Bool) → ltb k (8 * n / w) ≡ b → get_or (chars_of s w) k 0 ≡ get_or (chars_of t v) k 0
        by k h true z = a.same k (ltb-true _ _ z)
        by k h false z =
            let p = word_of w k n i j (ltb-false _ _ z) h in
            let c = chars_count s w in
            let m : k < length s / w = (let q = within in omega arith) in
            char_at s w k m
            ∙ num_part t s w (k * w) (k * w)
            (λ u h. let q : k * w + u ≡ 8 * n + (k * w + u - 8 * n) = omega arith in
            ap (λ (x : ℕ). get_or s x 0) q ∙ f (k * w + u - 8 * n) (omega arith) ∙ ap (λ (x : ℕ). get_or t x 0) (sym q))
            ∙ ap (λ (u : ℕ). num_at t u (k * u)) e
            ∙ sym (char_at t v k (let o = by_bytes s t w v long in omega arith))

-- ---- by eights
xor_none : (x y : ℕ) → bit_xor x y ≡ 0 → x ≡ y
xor_none x y h = let a = xor_add_and x y in let b = and_le_l x y in let c = and_le_r x y in omega arith

or_first : (x y : ℕ) → bit_or x y ≡ 0 → x ≡ 0
or_first x y h = let a = or_add_and x y in let b = and_le_l x y in let c = and_le_r x y in omega arith

or_second : (x y : ℕ) → bit_or x y ≡ 0 → y ≡ 0
or_second x y h = let a = or_add_and x y in let b = and_le_l x y in let c = and_le_r x y in omega arith

one_byte : (s : List ℕ) (a : ℕ) → num_at s 1 a ≡ get_or s a 0
unfolding num_at
one_byte s a = omega arith

-- where r is 0, the first n characters of one byte at a are those of two bytes at b
pub record Lanes (s : List ℕ) (a : ℕ) (t : List ℕ) (b n r : ℕ) : Type 0 where
  pub agree : r ≡ 0 → (i : ℕ) → i < n → num_at s 1 (a + i) ≡ num_at t 2 (b + 2 * i)

module _ (s : List ℕ) (a : ℕ) (t : List ℕ) (b : ℕ) where
  pub lanes_none : (r : ℕ) → Lanes s a t b 0 r
  lanes_none r = record { agree = λ e i h. absurd (omega arith) }

  pub lanes_on : (n r y : ℕ) → Lanes s a t b n r → y ≡ num_at t 2 (b + 2 * n) → Lanes s a t b (n + 1) (bit_or r (bit_xor (get_or s (a + n) 0) y))
  lanes_on n r y h is = record { agree = λ e i l. by e i l (ltb i n) refl }
    where
      by : bit_or r (bit_xor (get_or s (a + n) 0) y) ≡ 0 → (i : ℕ) → i < n + 1 → (c : Bool) → ltb i n ≡ c → num_at s 1 (a + i) ≡ num_at t 2 (b + 2 * i)
      by e i l true z = h.agree (or_first r (bit_xor (get_or s (a + n) 0) y) e) i (ltb-true i n z)
      by e i l false z =
          let k : i ≡ n = (let m = ltb-false i n z in omega arith) in
          one_byte s (a + i)
          ∙ ap (λ (j : ℕ). get_or s (a + j) 0) k
          ∙ xor_none (get_or s (a + n) 0) y (or_second r (bit_xor (get_or s (a + n) 0) y) e)
          ∙ is
          ∙ sym (ap (λ (j : ℕ). num_at t 2 (b + 2 * j)) k)

module _ (s t : List ℕ) (w v : ℕ) (i : w ≡ 1) (j : v ≡ 2) (long : length (chars_of s w) ≡ length (chars_of t v)) where
  half : length s ≡ length t / 2
  half = sym (div-one (length s)) ∙ sym (ap (λ (k : ℕ). length s / k) i) ∙ by_bytes s t w v long ∙ ap (λ (k : ℕ). length t / k) j

  pub eights_none : Alike (chars_of s w) (chars_of t v) (8 * 0)
  eights_none = record { few = omega arith; same = λ k h. absurd (omega arith) }

  module _ (n : ℕ) (l : n < length s / 8) where
    pub eight_first : 8 * n + 8 ≤ length s
    eight_first = omega arith

    pub eight_second : 16 * n + 16 ≤ length t
    eight_second = let h = half in omega arith

    pub eight_on : Alike (chars_of s w) (chars_of t v) (8 * n) → ((k : ℕ) → k < 8 → num_at s 1 (8 * n + k) ≡ num_at t 2 (16 * n + 2 * k)) → Alike (chars_of s w) (chars_of t v) (8 * (n + 1))
    eight_on a f = record { few = let c = chars_count s w in let h = half in let k = all in omega arith; same = λ k h. by k h (ltb k (8 * n)) refl }
      where
        all : length s / w ≡ length s
        all = ap (λ (k : ℕ). length s / k) i ∙ div-one (length s)

        by : (k : ℕ) → k < 8 * (n + 1) → (b : Bool) → ltb k (8 * n) ≡ b → get_or (chars_of s w) k 0 ≡ get_or (chars_of t v) k 0
        by k h true z = a.same k (ltb-true _ _ z)
        by k h false z =
            let m = ltb-false _ _ z in
            let o = all in
            let c : k < length s / w = omega arith in
            let p : k * 1 ≡ 8 * n + (k - 8 * n) = omega arith in
            let q : 16 * n + 2 * (k - 8 * n) ≡ k * 2 = omega arith in
            char_at s w k c
            ∙ ap (λ (u : ℕ). num_at s u (k * u)) i
            ∙ ap (num_at s 1) p
            ∙ f (k - 8 * n) (omega arith)
            ∙ ap (num_at t 2) q
            ∙ sym (ap (λ (u : ℕ). num_at t u (k * u)) j)
            ∙ sym (char_at t v k (let o = by_bytes s t w v long in omega arith))

-- ---- a part of a stream
nums_part : (s b : List ℕ) (w k p q : ℕ) → ((i : ℕ) → i < k * w → get_or b (q + i) 0 ≡ get_or s (p + i) 0) → chars_from b w q k ≡ nums s w k p
unfolding chars_from nums
nums_part s b w zero p q h = refl
nums_part s b w (suc k) p q h =
    let e = suc-mul k w in
    let first = num_part s b w p q (λ i l. h i (omega arith)) in
    let rest = nums_part s b w k (p + w) (q + w) (λ i l. let x : q + w + i ≡ q + (w + i) = omega arith in let y : p + (w + i) ≡ p + w + i = omega arith in ap (λ (j : ℕ). get_or b j 0) x ∙ h (w + i) (omega arith) ∙ ap (λ (j : ℕ). get_or s j 0) y) in
    λ z. first z ∷ rest z

pub part_chars : (s : List ℕ) (w n p : ℕ) → 1 ≤ w → p + n * w ≤ length s → chars_of (between p (p + n * w) s) w ≡ nums s w n p
part_chars s w n p some h =
    let l : length (between p (p + n * w) s) ≡ n * w = omega (arith, length-between s p (p + n * w) h) in
    let k : length (between p (p + n * w) s) / w ≡ n = ap (λ (m : ℕ). m / w) l ∙ mul-div_cancel n (let o : 0 < w = omega arith in o) in
    ap (chars_from (between p (p + n * w) s) w 0) k ∙ nums_part s (between p (p + n * w) s) w n p 0 (λ i j. let o : 0 + i ≡ i = omega arith in ap (λ (m : ℕ). get_or (between p (p + n * w) s) m 0) o ∙ get_or-between s p (p + n * w) i 0 (omega arith))
