-- A session without its unused strings, over its template: the refusals of the template, then those of the session, then the question's, 1 and 12 at 0.
-- One without an SST gets none, and its indices stay.
use Rattle.std.specs.Prelude.{ℕ, List, Result}
use Rattle.pair.specs.declared.PairRefusal.{PairRefusal}
use Rattle.pair.specs.Refused.{refuse_of, questioned}
use Rattle.pair.specs.Pair.{pair_of, on_pair}
use Rattle.new_table.specs.NewTable.{compact_of}
use Rattle.compact.specs.Compacted.{answer_to, buffer_to}

-- t is the template, s the session, b the buffer
unfoldable pub pair_compact_of : List ℕ → List ℕ → List ℕ → Result ℕ PairRefusal
pair_compact_of t s b = on_pair refuse_of (λ g _. questioned (answer_to (compact_of s g.unique) b)) (pair_of t s)

unfoldable pub pair_buffer_after : List ℕ → List ℕ → List ℕ → List ℕ
pair_buffer_after t s b = on_pair (λ _ _ _. b) (λ g _. buffer_to (compact_of s g.unique) b) (pair_of t s)
