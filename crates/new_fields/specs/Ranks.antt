-- The new indices of a chunk of strings, from their flags.
use Rattle.std.specs.Prelude.{ℕ, ◌+◌, ◌-◌, List, Option, Some, None, ltb, leb}
use Rattle.steps.specs.Choice.{pick}
use Rattle.flags.specs.Flags.{set_below}

-- the new index of i, where flag 0 is that of base, and start is the new index of the first used one from there on
unfoldable pub rank_in : List ℕ → ℕ → ℕ → ℕ → ℕ
rank_in flags start base i = start + set_below flags (i - base)

-- the new index of i, if it is among the m from base on
unfoldable pub index_among : (ℕ → ℕ) → ℕ → ℕ → ℕ → Option ℕ
index_among index base m i = pick (leb base i) (pick (ltb i (base + m)) (Some (index i)) None) None
