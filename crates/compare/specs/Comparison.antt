-- Two revisions compared: the check's refusals for the first stream before the second; then 16 for an address twice in one sheet, in the same order; else the
-- differences of their readings, at the keys from `from` on.
use Rattle.std.specs.Prelude.{ℕ, List, ◌++◌, length, take, drop, ltb, Result, Ok, Err}
use Rattle.steps.specs.Choice.{pick}
use Rattle.workbook.specs.Check.{checked_of, on_checked}
use Rattle.reading.specs.Reading.{reading_of}
use Rattle.differences.specs.Differences.{twice_in, differences}
use Rattle.compare.specs.declared.Side.{Side}
use Rattle.compare.specs.declared.Side.TheVariants as side
use Rattle.compare.specs.declared.Compared.{Compared}
use Rattle.compare.specs.declared.CompareRefusal.{CompareRefusal}

pub data Comparison : Type 0 where
  refuses : Side → ℕ → ℕ → Comparison
  lists : List ℕ → Comparison

unfoldable pub comparison_of : List ℕ → List ℕ → ℕ → Comparison
comparison_of s t from =
    on_checked (refuses side.First) (λ _.
    on_checked (refuses side.Second) (λ _.
    pick (twice_in (reading_of s 0).sheets) (refuses side.First 16 0)
    (pick (twice_in (reading_of t 0).sheets) (refuses side.Second 16 0)
    (lists (differences (reading_of s 0) (reading_of t 0) from)))) (checked_of t 0)) (checked_of s 0)

-- the answer, for a buffer of n words: how many it takes, and whether there are more; and the buffer after it: the first of the list, and after them what it
-- held; all that it held where it is refused
abbrev pub answer_of : ℕ → Comparison → Result Compared CompareRefusal
answer_of n (refuses x m o) = Err (record { side = x; number = m; offset = o })
answer_of n (lists l) = Ok (record { words = length (take n l); more = ltb n (length l) })

abbrev pub buffer_after : List ℕ → Comparison → List ℕ
buffer_after b (refuses x m o) = b
buffer_after b (lists l) = take (length b) l ++ drop (length l) b
