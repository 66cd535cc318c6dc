-- What only inner promises cite.
use Rattle.std.specs.Prelude.{ℕ, ◌+◌, ◌-◌, List, Bool, false, Option, Some, None, Result, Ok, ltb, leb, eqb}
use Rattle.steps.specs.Choice.{pick}
use Rattle.refusal.specs.Refused.{refuse}
use Rattle.refusal.specs.declared.Refusal.{Refusal}
use Rattle.value.specs.declared.Field.{Field}
use Rattle.value.specs.Value.{index_fits}
use Rattle.cell.specs.declared.Found.{Found}
use Rattle.cell.specs.Cells.{first_at, length_at, field_at, fields_fit, cell_of}

-- the judgement of a record of n cells with such value fields
abbrev pub judged_in : List ℕ → ℕ → Field → ℕ → ℕ → Result (Option ℕ) Refusal
judged_in s at f n unique =
    pick (eqb n 0) (refuse 6 at)
    (pick (ltb 255 (first_at s at)) (refuse 6 at)
    (pick (fields_fit f s (at + 8) n)
    (pick (index_fits f (field_at f s (at + 8)) unique) (Ok (Some n)) (refuse 9 at))
    (refuse 6 at)))

-- all of a FORMULA but its stored result is right
unfoldable pub formula_sized : List ℕ → ℕ → ℕ → Bool
formula_sized s at z = pick (leb (22 + length_at s (at + 8)) z) (leb (first_at s at) 255) false

-- the k-th of the n cells of a record with such value fields
abbrev pub found_in : List ℕ → ℕ → Field → ℕ → ℕ → Option Found
found_in s at f n k = pick (ltb k n) (Some (record { cell = cell_of s f at k; left = n - (k + 1) })) None
