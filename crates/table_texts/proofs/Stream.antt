-- What stands at a place of a stream, as a list that the rest of the stream begins with. Assumes nothing.
use Prim.Native.Nat.{ℕ, zero, suc, ◌+◌, ◌-◌, ◌/◌, ◌%◌, ◌^◌, ◌<◌}
use mathlib.Core.Path.{◌≡◌, sym, ap, ◌∙◌}
use mathlib.Core.List.{List, [], ◌∷◌, ◌++◌}
use native.Mathlib.Omega.{arith}
use lib.ListN.{length, get_or, drop, length-append, length-drop}
use lib.Seq.{drop-append_seam, drop-drop, get_or-drop}
use Rattle.byte_numbers.specs.Bytes.{byte_at, num_at, bytes_of}

module _ (s : List ℕ) (p : ℕ) where
  -- past the bytes a
  pub drop_on : (a b : List ℕ) → drop p s ≡ a ++ b → drop (p + length a) s ≡ b
  drop_on a b h = sym (drop-drop (length a) p s) ∙ ap (drop (length a)) h ∙ drop-append_seam a b

  pub drop_by : (a b : List ℕ) (n : ℕ) → length a ≡ n → drop p s ≡ a ++ b → drop (p + n) s ≡ b
  drop_by a b n e h = ap (λ (k : ℕ). drop (p + k) s) (sym e) ∙ drop_on a b h

  -- how many are left
  pub left_of_lem : (a b : List ℕ) → drop p s ≡ a ++ b → length s - p ≡ length a + length b
  left_of_lem a b h = sym (length-drop p s) ∙ ap length h ∙ length-append a b

  pub byte_here : (x : ℕ) (b : List ℕ) → drop p s ≡ x ∷ b → byte_at s p ≡ x
  byte_here x b h = let e : p + 0 ≡ p = omega arith in ap (λ (k : ℕ). get_or s k 0) (sym e) ∙ sym (get_or-drop p s 0 0) ∙ ap (λ (l : List ℕ). get_or l 0 0) h

-- the number that stands here
pub num_here : (s : List ℕ) (w n p : ℕ) (b : List ℕ) → drop p s ≡ bytes_of w n ++ b → n < 256 ^ w → num_at s w p ≡ n
unfolding num_at bytes_of
num_here s zero n p b h f = omega arith
num_here s (suc w) n p b h f =
    let low : byte_at s p ≡ n % 256 = byte_here s p (n % 256) (bytes_of w (n / 256) ++ b) h in
    let high : num_at s w (p + 1) ≡ n / 256 = num_here s w (n / 256) (p + 1) b (drop_on s p (n % 256 ∷ []) (bytes_of w (n / 256) ++ b) h) (quotient w n f) in
    omega arith
  where
    quotient : (w n : ℕ) → n < 256 ^ suc w → n / 256 < 256 ^ w
    quotient w n f = omega arith
