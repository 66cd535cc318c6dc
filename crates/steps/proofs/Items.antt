-- The laws of a list by steps, over the state and the item. Assumes nothing.
use Prim.Native.Nat.{ℕ, zero, suc, ◌-◌, ◌<◌}
use mathlib.Core.Path.{◌≡◌, refl, ap}
use mathlib.Core.List.{List, [], ◌∷◌}
use native.Mathlib.Omega.{arith}
use Rattle.steps.specs.Items.{Item, gives, skips, ends, onto, collect_f, collect, nth}

-- the state that an item leads to is nearer the end
abbrev pub Nearer : {S X : Type 0} → (S → ℕ) → S → Item S X → Type 0
Nearer μ s (gives x t) = μ t < μ s
Nearer μ s (skips t) = μ t < μ s
Nearer μ s ends = Unit {0}

module _ {S X : Type 0} (step : S → Item S X) (μ : S → ℕ) (near : (s : S) → Nearer μ s (step s)) where
  enough_onto : (n m : ℕ) (s : S) → ((t : S) → μ t < μ s → collect_f step n t ≡ collect_f step m t) → (x : Item S X) → Nearer μ s x → onto x (λ t. collect_f step n t) ≡ onto x (λ t. collect_f step m t)
  enough_onto n m s ih (gives x t) l = ap (λ (r : List X). x ∷ r) (ih t l)
  enough_onto n m s ih (skips t) l = ih t l
  enough_onto n m s ih ends l = refl

  enough : (n m : ℕ) (s : S) → μ s < n → μ s < m → collect_f step n s ≡ collect_f step m s
  unfolding collect_f
  enough zero m s p q = absurd (omega arith)
  enough (suc n) zero s p q = absurd (omega arith)
  enough (suc n) (suc m) s p q = enough_onto n m s (λ t l. enough n m t (omega arith) (omega arith)) (step s) (near s)

  -- one step of the list
  pub collect_step : (s : S) → collect step μ s ≡ onto (step s) (λ t. collect step μ t)
  unfolding collect collect_f
  collect_step s = step_by (step s) (near s)
    where
      step_by : (x : Item S X) → Nearer μ s x → onto x (λ t. collect_f step (μ s) t) ≡ onto x (λ t. collect_f step (suc (μ t)) t)
      step_by (gives x t) l = ap (λ (r : List X). x ∷ r) (enough (μ s) (suc (μ t)) t l (omega arith))
      step_by (skips t) l = enough (μ s) (suc (μ t)) t l (omega arith)
      step_by ends l = refl

-- ---- the n-th of a list
module _ {A B : Type 0} (f : A → B) (d : B) where
  pub nth_none : (l : List A) (n : ℕ) → l ≡ [] → d ≡ nth l n f d
  unfolding nth
  nth_none l n e = rw e refl

  pub nth_here : (l : List A) (n : ℕ) (x : A) (r : List A) → l ≡ x ∷ r → n ≡ 0 → f x ≡ nth l n f d
  unfolding nth
  nth_here l n x r e h = rw (e, h) refl

  pub nth_next : (l : List A) (n : ℕ) (x : A) (r : List A) → l ≡ x ∷ r → (n ≡ 0 → ⊥) → nth l n f d ≡ nth r (n - 1) f d
  unfolding nth
  nth_next l zero x r e h = absurd (h refl)
  nth_next l (suc n) x r e h = let p : suc n - 1 ≡ n = omega arith in rw (e, p) refl
