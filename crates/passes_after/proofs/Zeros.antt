-- The zeros at the end of a stream. Assumes nothing.
use Prim.Native.Nat.{ℕ, zero, suc, ◌+◌, ◌-◌, ◌≤◌}
use mathlib.Core.Path.{◌≡◌, refl, sym, ap, ◌∙◌}
use mathlib.Core.List.{List, [], ◌∷◌}
use mathlib.Core.Bool.{Bool, true, false}
use native.Mathlib.Omega.{arith}
use lib.ListN.{get_or, drop}
use lib.Seq.{get_or-drop}
use lib.Dec.{eqb}
use borrow.Author.Tests.{eqb-true}
use Rattle.steps.proofs.Choice.{never, pick_by, pick_eq}
use Rattle.top_level.specs.TopLevel.{all_zero}

zeros_each : (l : List ℕ) → all_zero l ≡ true → (j : ℕ) → get_or l j 0 ≡ 0
unfolding all_zero
zeros_each [] h j = refl
zeros_each (x ∷ l) h zero =
    pick_by (λ (b : Bool). b ≡ true → x ≡ 0) (eqb x 0) (λ i _. eqb-true x 0 i) (λ _ i. never (cc)) h
zeros_each (x ∷ l) h (suc j) =
    pick_by (λ (b : Bool). b ≡ true → get_or l j 0 ≡ 0) (eqb x 0) (λ _ i. zeros_each l i j) (λ _ i. never (cc)) h

zeros_all : (l : List ℕ) → ((j : ℕ) → get_or l j 0 ≡ 0) → all_zero l ≡ true
unfolding all_zero
zeros_all [] h = refl
zeros_all (x ∷ l) h = sym (pick_eq true (all_zero l) false x 0 (h zero) (sym (zeros_all l (λ j. h (suc j)))))

-- all bytes from `at` on are zero
pub zeros_from : (s : List ℕ) (at : ℕ) → all_zero (drop at s) ≡ true → (k : ℕ) → at ≤ k → get_or s k 0 ≡ 0
zeros_from s at h k l = ap (λ (j : ℕ). get_or s j 0) (let e : k ≡ at + (k - at) = omega arith in e) ∙ sym (get_or-drop at s (k - at) 0) ∙ zeros_each (drop at s) h (k - at)

pub zeros_to : (s : List ℕ) (at : ℕ) → ((k : ℕ) → at ≤ k → get_or s k 0 ≡ 0) → all_zero (drop at s) ≡ true
zeros_to s at h = zeros_all (drop at s) (λ j. get_or-drop at s j 0 ∙ h (at + j) (omega arith))
