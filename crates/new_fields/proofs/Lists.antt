-- Stores inside a part of a list. Assumes nothing.
use Prim.Native.Nat.{ℕ, zero, suc, ◌+◌, ◌*◌, ◌/◌, ◌%◌, ◌≤◌, ◌<◌}
use mathlib.Core.Path.{◌≡◌, refl, sym, ap, ap₂, ◌∙◌}
use mathlib.Core.List.{List, [], ◌∷◌, ◌++◌}
use native.Mathlib.Omega.{arith}
use native.Mathlib.Numerals.{add-one}
use lib.ListN.{length, set, take, drop, length-set}
use lib.Seq.{sets, set-append_left, set-get_or, sets-eq}
use Rattle.byte_numbers.specs.Bytes.{byte_at, num_at, bytes_of}

set_after : (pre y : List ℕ) (i a : ℕ) → set (pre ++ y) (length pre + i) a ≡ pre ++ set y i a
set_after [] y i a = let z : 0 + i ≡ i = omega arith in ap (λ (n : ℕ). set y n a) z
set_after (x ∷ pre) y i a = let z : suc (length pre) + i ≡ suc (length pre + i) = omega arith in ap (λ (n : ℕ). set (x ∷ (pre ++ y)) n a) z ∙ ap (λ (r : List ℕ). x ∷ r) (set_after pre y i a)

pub sets_inside : (v pre b post : List ℕ) (i : ℕ) → i + length v ≤ length b → sets (pre ++ (b ++ post)) (length pre + i) v ≡ pre ++ (sets b i v ++ post)
sets_inside [] pre b post i h = refl
sets_inside (a ∷ v) pre b post i h =
    let e : set (pre ++ (b ++ post)) (length pre + i) a ≡ pre ++ (set b i a ++ post) = set_after pre (b ++ post) i a ∙ ap (λ (r : List ℕ). pre ++ r) (set-append_left b post i a (omega arith)) in
    let z : suc (length pre + i) ≡ length pre + suc i = omega arith in
    let n : length (set b i a) ≡ length b = length-set b i a in
    ap₂ (λ (r : List ℕ) (k : ℕ). sets r k v) e z ∙ sets_inside v pre (set b i a) post (suc i) (omega arith)

-- all of the part
pub sets_whole : (v pre b post : List ℕ) → length v ≡ length b → sets (pre ++ (b ++ post)) (length pre) v ≡ pre ++ (v ++ post)
sets_whole v pre b post h =
    let z : length pre ≡ length pre + 0 = omega arith in
    ap (λ (k : ℕ). sets (pre ++ (b ++ post)) k v) z ∙ sets_inside v pre b post 0 (omega arith) ∙ ap (λ (r : List ℕ). pre ++ (r ++ post)) (over v b h)
  where
    over : (v b : List ℕ) → length v ≡ length b → sets b 0 v ≡ v
    over v b h =
        sets-eq v b 0 (omega arith) ∙ ap (λ (r : List ℕ). (take 0 b ++ v) ++ r) (drop_nothing b (0 + length v) (omega arith)) ∙ tail v
      where
        drop_nothing : (l : List ℕ) (n : ℕ) → length l ≤ n → drop n l ≡ []
        drop_nothing [] zero h = refl
        drop_nothing [] (suc n) h = refl
        drop_nothing (x ∷ l) zero h = absurd (omega arith)
        drop_nothing (x ∷ l) (suc n) h = drop_nothing l n (omega arith)

        tail : (v : List ℕ) → v ++ [] ≡ v
        tail [] = refl
        tail (x ∷ v) = ap (λ (r : List ℕ). x ∷ r) (tail v)

-- what was read, put back
pub put_back : (b : List ℕ) → ((k : ℕ) → byte_at b k < 256) → (w i : ℕ) → sets b i (bytes_of w (num_at b w i)) ≡ b
unfolding bytes_of num_at
put_back b bytes zero i = refl
put_back b bytes (suc w) i =
    let h = bytes i in
    let x : (byte_at b i + 256 * num_at b w (i + 1)) % 256 ≡ byte_at b i = omega arith in
    let y : (byte_at b i + 256 * num_at b w (i + 1)) / 256 ≡ num_at b w (i + 1) = omega arith in
    ap₂ (λ (m n : ℕ). sets (set b i m) (suc i) (bytes_of w n)) x y
    ∙ ap₂ (λ (r : List ℕ) (k : ℕ). sets r k (bytes_of w (num_at b w (i + 1)))) (set-get_or b i 0) (sym (add-one i))
    ∙ put_back b bytes w (i + 1)
