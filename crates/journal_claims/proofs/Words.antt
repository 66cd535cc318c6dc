-- The words of these proofs. Assumes nothing.
use Rattle.std.proofs.Common.{ℕ, Result, Ok}
use Rattle.refusal.specs.declared.Refusal.{Refusal}
use Rattle.value.specs.declared.Field.{Field}
use Rattle.correction.specs.declared.Aim.{Aim}

-- the one cell that an address has
abbrev pub aimed : Field → ℕ → ℕ → Result Aim Refusal
aimed f p unique = Ok (record { kind = f; field = p; unique = unique })
