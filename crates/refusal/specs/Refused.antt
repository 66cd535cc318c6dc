-- A question that is refused.
use Rattle.std.specs.Prelude.{ℕ, Result, Err}
use Rattle.refusal.specs.declared.Refusal.{Refusal}

-- by this number, at this offset
abbrev pub refuse : {A : Type 0} → ℕ → ℕ → Result A Refusal
refuse n o = Err (record { number = n; offset = o })
