-- The answer, and the buffer after it: the check's refusals; then 1 at 0 where the new stream has over 16,777,216 bytes; then 12 at 0 where the buffer has fewer
-- bytes than it; then its length, and the new stream at the front of the buffer, whose other bytes stay.
use Rattle.std.specs.Prelude.{ℕ, List, ◌++◌, Result, Ok, length, drop, ltb}
use Rattle.steps.specs.Choice.{pick}
use Rattle.workbook.specs.Check.{checked_of, on_checked}
use Rattle.new_table.specs.NewTable.{compact_of}
use Rattle.refusal.specs.Refused.{refuse}
use Rattle.refusal.specs.declared.Refusal.{Refusal}

-- t is the new stream, b the buffer
unfoldable pub answer_to : List ℕ → List ℕ → Result ℕ Refusal
answer_to t b = pick (ltb 16777216 (length t)) (refuse 1 0) (pick (ltb (length b) (length t)) (refuse 12 0) (Ok (length t)))

unfoldable pub buffer_to : List ℕ → List ℕ → List ℕ
buffer_to t b = pick (ltb 16777216 (length t)) b (pick (ltb (length b) (length t)) b (t ++ drop (length t) b))

-- of the stream s. u is the unique count of strings where it has no SST, 0 for a stream by itself
unfoldable pub answer_of : List ℕ → ℕ → List ℕ → Result ℕ Refusal
answer_of s u b = on_checked (λ n o. refuse n o) (λ _. answer_to (compact_of s u) b) (checked_of s u)

unfoldable pub buffer_after : List ℕ → ℕ → List ℕ → List ℕ
buffer_after s u b = on_checked (λ n o. b) (λ _. buffer_to (compact_of s u) b) (checked_of s u)
