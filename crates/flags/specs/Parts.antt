-- What the contracts of the functions speak of.
use Rattle.std.specs.Prelude.{ℕ, ◌+◌, ◌*◌, ◌/◌, ◌<◌, ◌≡◌, List, length, get_or, replicate, eqb}
use Rattle.steps.specs.Choice.{pick}
use Rattle.flags.specs.Flags.{flag_at, set_below}

-- the flags of l, but flag i set, if it has one
pub record SetOne (i : ℕ) (l l' : List ℕ) : Type 0 where
  pub size : length l' ≡ length l
  pub at : (k : ℕ) → k / 64 < length l → flag_at l' k ≡ pick (eqb k i) 1 (flag_at l k)

abbrev pub zeros : ℕ → List ℕ
zeros n = replicate n 0

-- for each word the number of flags that are set in the words before it, and start
pub record Ranked (start : ℕ) (l ranks : List ℕ) : Type 0 where
  pub size : length ranks ≡ length l
  pub at : (j : ℕ) → j < length l → get_or ranks j 0 ≡ start + set_below l (j * 64)
