-- A shared string fetched into a buffer of 16-bit units: any refusal that the check would give, then 11, then 12, both at 0.
use Rattle.std.specs.Prelude.{ℕ, List, length, Result}
use Rattle.steps.specs.Items.{nth}
use Rattle.refusal.specs.declared.Refusal.{Refusal}
use Rattle.refusal.specs.Refused.{refuse}
use Rattle.strings.specs.Table.{fetched_of, buffer_of}
use Rattle.globals.specs.declared.Globals.{Globals}
use Rattle.workbook.specs.Check.{checked_of, on_checked}
use Rattle.reading.specs.Reading.{strings_at}

-- the answer to a fetch of string i into a buffer b
abbrev pub answer_in : List ℕ → ℕ → List ℕ → Globals → Result ℕ Refusal
answer_in s i b g = nth (strings_at s g.table) i (fetched_of (length b)) (refuse 11 0)

unfoldable pub answer_of : List ℕ → ℕ → List ℕ → Result ℕ Refusal
answer_of s i b = on_checked refuse (answer_in s i b) (checked_of s 0)

-- the buffer after it: the units, and after them what it held; all that it held where it is refused
abbrev pub buffer_in : List ℕ → ℕ → List ℕ → Globals → List ℕ
buffer_in s i b g = nth (strings_at s g.table) i (buffer_of b) b

unfoldable pub buffer_after : List ℕ → ℕ → List ℕ → List ℕ
buffer_after s i b = on_checked (λ _ _. b) (buffer_in s i b) (checked_of s 0)
