-- A walk: a step taken again and again until it stops.
use Rattle.std.specs.Prelude.{ℕ, zero, suc}

-- what a step gives: the next state, or the answer
pub data Next (S A : Type 0) : Type 0 where
  more : S → Next S A
  stop : A → Next S A

abbrev pub next : {S A : Type 0} → Next S A → (S → A) → A
next (more s) k = k s
next (stop a) k = a

-- at most n steps; d where they run out
unfoldable pub run_f : {S A : Type 0} → (S → Next S A) → A → ℕ → S → A
run_f step d zero s = d
run_f step d (suc n) s = next (step s) (λ t. run_f step d n t)

-- μ is a number that falls with each step, so that the steps never run out
unfoldable pub run : {S A : Type 0} → (S → Next S A) → A → (S → ℕ) → S → A
run step d μ s = run_f step d (suc (μ s)) s
