-- The laws of a walk, over the state and the answer. Assumes nothing.
use Prim.Native.Nat.{ℕ, zero, suc, ◌<◌}
use mathlib.Core.Path.{◌≡◌, refl, ap, ◌∙◌}
use native.Mathlib.Omega.{arith}
use Rattle.steps.specs.Walk.{Next, more, stop, next, run_f, run}

-- the measure falls with each step
abbrev pub Falls : {S A : Type 0} → (S → Next S A) → (S → ℕ) → Type 0
Falls {S} step μ = (s t : S) → step s ≡ more t → μ t < μ s

module _ {S A : Type 0} (step : S → Next S A) (d : A) (μ : S → ℕ) (falls : Falls step μ) where
  enough_next : (n m : ℕ) (s : S) → ((t : S) → μ t < μ s → run_f step d n t ≡ run_f step d m t) → (x : Next S A) → step s ≡ x → next x (λ t. run_f step d n t) ≡ next x (λ t. run_f step d m t)
  enough_next n m s ih (more t) e = ih t (falls s t e)
  enough_next n m s ih (stop a) e = refl

  -- the number of steps allowed makes no difference, if it is above μ
  pub enough : (n m : ℕ) (s : S) → μ s < n → μ s < m → run_f step d n s ≡ run_f step d m s
  unfolding run_f
  enough zero m s p q = absurd (omega arith)
  enough (suc n) zero s p q = absurd (omega arith)
  enough (suc n) (suc m) s p q = enough_next n m s (λ t l. enough n m t (omega arith) (omega arith)) (step s) refl

  pub run_more : {s t : S} → step s ≡ more t → run step d μ s ≡ run step d μ t
  unfolding run run_f
  run_more {s} {t} e = rw e (enough (μ s) (suc (μ t)) t (falls s t e) (omega arith))

  pub run_stop : {s : S} {a : A} → step s ≡ stop a → run step d μ s ≡ a
  unfolding run run_f
  run_stop e = rw e refl

  keeps_next : {P : S → Type 0} {Q : A → Type 0} → ((s t : S) → P s → step s ≡ more t → P t) → ((s : S) (a : A) → P s → step s ≡ stop a → Q a)
      → (n : ℕ) (s : S) → P s → ((t : S) → μ t < μ s → P t → Q (run_f step d n t)) → (x : Next S A) → step s ≡ x → Q (next x (λ t. run_f step d n t))
  keeps_next k o n s p ih (more t) e = ih t (falls s t e) (k s t p e)
  keeps_next k o n s p ih (stop a) e = o s a p e

  keeps_f : {P : S → Type 0} {Q : A → Type 0} → ((s t : S) → P s → step s ≡ more t → P t) → ((s : S) (a : A) → P s → step s ≡ stop a → Q a)
      → (n : ℕ) (s : S) → μ s < n → P s → Q (run_f step d n s)
  unfolding run_f
  keeps_f k o zero s l p = absurd (omega arith)
  keeps_f {P} {Q} k o (suc n) s l p = keeps_next {P = P} {Q = Q} k o n s p (λ t l' p'. keeps_f {P = P} {Q = Q} k o n t (omega arith) p') (step s) refl

  -- what each step keeps, and each stop shows, the answer has
  pub run_keeps : (P : S → Type 0) (Q : A → Type 0) → ((s t : S) → P s → step s ≡ more t → P t) → ((s : S) (a : A) → P s → step s ≡ stop a → Q a)
      → (s : S) → P s → Q (run step d μ s)
  unfolding run
  run_keeps P Q k o s p = keeps_f {P = P} {Q = Q} k o (suc (μ s)) s (omega arith) p

-- two steps that agree wherever P holds, which the first keeps
module _ {S A : Type 0} (step step' : S → Next S A) (d : A) (P : S → Type 0) (same : (s : S) → P s → step s ≡ step' s) (keep : (s t : S) → P s → step s ≡ more t → P t) where
  agree_next : (n : ℕ) (s : S) → P s → ((t : S) → P t → run_f step d n t ≡ run_f step' d n t) → (x : Next S A) → step s ≡ x → next x (λ t. run_f step d n t) ≡ next x (λ t. run_f step' d n t)
  agree_next n s p ih (more t) e = ih t (keep s t p e)
  agree_next n s p ih (stop a) e = refl

  agree_f : (n : ℕ) (s : S) → P s → run_f step d n s ≡ run_f step' d n s
  unfolding run_f
  agree_f zero s p = refl
  agree_f (suc n) s p = rw (← same s p) (agree_next n s p (λ t q. agree_f n t q) (step s) refl)

  pub run_agree : (μ μ' : S → ℕ) (s : S) → μ s ≡ μ' s → P s → run step d μ s ≡ run step' d μ' s
  unfolding run
  run_agree μ μ' s e p = agree_f (suc (μ s)) s p ∙ ap (λ (n : ℕ). run_f step' d (suc n) s) e
