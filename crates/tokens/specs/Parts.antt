-- What only inner contracts cite.
use Rattle.std.specs.Prelude.{ℕ, suc, ◌+◌, ◌-◌, ◌≤◌, ◌≡◌, List, Result, Ok, Err, ltb, length, drop}
use Rattle.steps.specs.Choice.{pick}
use Rattle.refusal.specs.declared.Refusal.{Refusal}
use Rattle.refusal.specs.Refused.{refuse}
use Rattle.tokens.specs.declared.Step.{Step}
use Rattle.tokens.specs.Judge.{Judgement, formula_of}

abbrev pub plain_step : ℕ → ℕ → ℕ → ℕ → ℕ → Result Step Refusal
plain_step offset stack size takes gives = pick (ltb stack takes) (refuse 14 offset) (Ok (record { size = size; stack = stack - takes + gives }))

abbrev pub on_step : (ℕ → ℕ → Judgement) → Result Step Refusal → Judgement
on_step rest (Ok s) = rest s.size s.stack
on_step rest (Err r) = Err r

-- r is the judgement of a formula from a token on, whatever bound on the tokens is enough
unfoldable pub Right : List ℕ → ℕ → ℕ → ℕ → Judgement → Type 0
Right t offset stack depth r = (k : ℕ) → length t ≤ k → r ≡ formula_of k t offset stack depth

-- the judgement from a token on is what its step leads to
unfoldable pub RightStep : List ℕ → ℕ → ℕ → ℕ → Result Step Refusal → Type 0
RightStep t offset stack depth s =
    (k : ℕ) → length t ≤ suc k → on_step (λ size left. formula_of k (drop size t) (offset + size) left depth) s ≡ formula_of (suc k) t offset stack depth

-- a step passes a byte at least, of `left` bytes, and adds one operand at most
unfoldable pub StepWithin : ℕ → ℕ → Result Step Refusal → Type 0
StepWithin left stack (Ok s) = (1 ≤ s.size) × (s.size ≤ left) × (s.stack ≤ stack + 1)
StepWithin left stack (Err r) = Unit
