-- Flags for the strings that are used, of the indices from a first one on: flag k is that of index base + k.
use Rattle.std.specs.Prelude.{ℕ, ◌+◌, ◌/◌, ◌<◌, ◌≡◌, List, length}
use Rattle.steps.specs.Choice.{pick}
use Rattle.flags.specs.Flags.{flag_at}
use Rattle.new_stream.specs.Compact.{uses}

-- the flags of l, and those of a list of indices set
pub record Marked (x : List ℕ) (base : ℕ) (l l' : List ℕ) : Type 0 where
  pub size : length l' ≡ length l
  pub at : (k : ℕ) → k / 64 < length l → flag_at l' k ≡ pick (uses x (base + k)) 1 (flag_at l k)

-- those of a list of indices set, and no others, in n words
pub record Flagged (x : List ℕ) (base n : ℕ) (l : List ℕ) : Type 0 where
  pub size : length l ≡ n
  pub at : (k : ℕ) → k / 64 < n → flag_at l k ≡ pick (uses x (base + k)) 1 0
