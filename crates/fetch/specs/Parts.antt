-- What the contracts of the inner functions speak of.
use Rattle.std.specs.Prelude.{ℕ, ◌≡◌, List, ◌⊎◌}
use Rattle.globals.proofs.Table.{Stands}

-- an SST of n strings stands at p; p is 0 where there is none
abbrev pub TableAt : List ℕ → ℕ → ℕ → Type 0
TableAt s p n = ((p ≡ 0) × (n ≡ 0)) ⊎ Stands s p n
