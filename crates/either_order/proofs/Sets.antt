-- Numbers stored one after the other: beside each other in either order; the later of two at one place stays. Assumes nothing.
use Prim.Native.Nat.{ℕ, suc, ◌+◌, ◌≤◌, ◌<◌}
use mathlib.Core.Path.{◌≡◌, refl, sym, ap, ◌∙◌}
use mathlib.Core.List.{List, [], ◌∷◌}
use mathlib.Core.Logic.{◌⊎◌, inl, inr}
use native.Mathlib.Omega.{arith}
use lib.ListN.{length, set}
use lib.Seq.{sets, set-set, set_comm}
use Rattle.byte_numbers.specs.Bytes.{bytes_of}
use Rattle.byte_numbers.proofs.Laws.{length_bytes}

-- ---- lists
set_sets : (vs s : List ℕ) (i a p : ℕ) → (i < p) ⊎ (p + length vs ≤ i) → sets (set s i a) p vs ≡ set (sets s p vs) i a
set_sets [] s i a p h = refl
set_sets (v ∷ vs) s i a p (inl h) = ap (λ (l : List ℕ). sets l (suc p) vs) (set_comm s i p a v (λ e. omega arith)) ∙ set_sets vs (set s p v) i a (suc p) (inl (omega arith))
set_sets (v ∷ vs) s i a p (inr h) = ap (λ (l : List ℕ). sets l (suc p) vs) (set_comm s i p a v (λ e. omega arith)) ∙ set_sets vs (set s p v) i a (suc p) (inr (omega arith))

pub sets_apart : (xs ys s : List ℕ) (p q : ℕ) → (p + length xs ≤ q) ⊎ (q + length ys ≤ p) → sets (sets s p xs) q ys ≡ sets (sets s q ys) p xs
sets_apart [] ys s p q h = refl
sets_apart (a ∷ xs) ys s p q (inl h) = sets_apart xs ys (set s p a) (suc p) q (inl (omega arith)) ∙ ap (λ (l : List ℕ). sets l (suc p) xs) (set_sets ys s p a q (inl (omega arith)))
sets_apart (a ∷ xs) ys s p q (inr h) = sets_apart xs ys (set s p a) (suc p) q (inr (omega arith)) ∙ ap (λ (l : List ℕ). sets l (suc p) xs) (set_sets ys s p a q (inr (omega arith)))

pub sets_over : (xs ys s : List ℕ) (p : ℕ) → length xs ≡ length ys → sets (sets s p xs) p ys ≡ sets s p ys
sets_over [] [] s p h = refl
sets_over [] (b ∷ ys) s p h = absurd (omega arith)
sets_over (a ∷ xs) [] s p h = absurd (omega arith)
sets_over (a ∷ xs) (b ∷ ys) s p h =
    ap (λ (l : List ℕ). sets l (suc p) ys) (sym (set_sets xs (set s p a) p b (suc p) (inl (omega arith))) ∙ ap (λ (l : List ℕ). sets l (suc p) xs) (set-set s p a b))
    ∙ sets_over xs ys (set s p b) (suc p) (omega arith)

-- ---- numbers
pub stored_apart : (v w a b : ℕ) (s : List ℕ) (p q : ℕ) → (p + v ≤ q) ⊎ (q + w ≤ p) → sets (sets s p (bytes_of v a)) q (bytes_of w b) ≡ sets (sets s q (bytes_of w b)) p (bytes_of v a)
stored_apart v w a b s p q h = sets_apart (bytes_of v a) (bytes_of w b) s p q (rw (length_bytes v a, length_bytes w b) h)

pub stored_over : (w a b : ℕ) (s : List ℕ) (p : ℕ) → sets (sets s p (bytes_of w a)) p (bytes_of w b) ≡ sets s p (bytes_of w b)
stored_over w a b s p = sets_over (bytes_of w a) (bytes_of w b) s p (length_bytes w a ∙ sym (length_bytes w b))
