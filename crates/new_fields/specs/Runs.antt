-- The text cells' new indices, chunk by chunk, and what is counted before.
use Rattle.std.specs.Prelude.{ℕ, ◌+◌, ◌≤◌, List, [], ◌∷◌, ltb}
use Rattle.steps.specs.Choice.{pick}
use Rattle.new_stream.specs.Entries.{entries_of}
use Rattle.new_stream.specs.Compact.{texts_in, used_below}
use Rattle.copied_records.specs.Copied.{edited}
use Rattle.new_fields.specs.Edited.{text_change}

-- one more than the highest of a list and r
unfoldable pub top_in : List ℕ → ℕ → ℕ
top_in [] r = r
top_in (x ∷ l) r = top_in l (pick (ltb x r) r (x + 1))

-- the buffer after the chunk of m indices from base on
unfoldable pub reindexed : List ℕ → ℕ → ℕ → ℕ → List ℕ → List ℕ
reindexed s n base m o = edited (text_change s (used_below (texts_in s (entries_of s))) base m) n (entries_of s) o 0

-- from b₀ and o₀ to b and o, chunk after chunk
pub data Runs (s : List ℕ) (n b₀ : ℕ) (o₀ : List ℕ) : ℕ → List ℕ → Type 0 where
  none : Runs s n b₀ o₀ b₀ o₀
  then : {b : ℕ} {o : List ℕ} (m : ℕ) → Runs s n b₀ o₀ b o → Runs s n b₀ o₀ (b + m) (reindexed s n b m o)

-- all indices below `top` are done
pub record Reindexed (s : List ℕ) (n top : ℕ) (o o' : List ℕ) : Type 0 where
  pub to : ℕ
  pub past : top ≤ to
  pub runs : Runs s n 0 o to o'
