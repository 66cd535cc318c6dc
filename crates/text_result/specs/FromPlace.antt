-- The text result of a listed formula from the place of its value field, without a check of the stream. Where no formula with a text result has its value
-- field there, or its text is broken, it is 11 at 0; then 12 at 0, where the buffer has fewer units.
use Rattle.std.specs.Prelude.{ℕ, ◌-◌, List, length, ltb, Option, Some, None, Result}
use Rattle.steps.specs.Choice.{pick}
use Rattle.record.specs.declared.Header.{Header}
use Rattle.record.specs.declared.Header.TheVariants.{Record, Cut, End}
use Rattle.record.specs.Record.{header_at}
use Rattle.refusal.specs.declared.Refusal.{Refusal}
use Rattle.refusal.specs.Refused.{refuse}
use Rattle.segments.specs.Segments.{Got, got, refused}
use Rattle.strings.specs.Table.{fetched_of, buffer_of}
use Rattle.text_result.specs.declared.Formula.{Formula}
use Rattle.text_result.specs.TextResult.{has_text, text_of}

-- the FORMULA with a text result whose header is at f; a FORMULA has at least 22 bytes
abbrev pub on_placed : List ℕ → ℕ → Header → Option Formula
on_placed s f (Record t z e) = pick (ltb z 22) None (pick (has_text s t f) (Some (record { at = f; end = e })) None)
on_placed s f Cut = None
on_placed s f End = None

-- its value field is at p, 10 bytes past its header
unfoldable pub placed_at : List ℕ → ℕ → Option Formula
placed_at s p = pick (ltb p 10) None (on_placed s (p - 10) (header_at s (p - 10)))

abbrev pub placed_text : List ℕ → Option Formula → Got (List ℕ)
placed_text s (Some f) = text_of s f.at f.end
placed_text s None = refused 11 0

-- the answer, for a buffer of n units, with `none` for a text that is refused; and the buffer after it
abbrev pub answer_to : Result ℕ Refusal → ℕ → Got (List ℕ) → Result ℕ Refusal
answer_to none n (got us c) = fetched_of n us
answer_to none n (refused m o) = none

abbrev pub buffer_to : List ℕ → Got (List ℕ) → List ℕ
buffer_to b (got us c) = buffer_of b us
buffer_to b (refused m o) = b

unfoldable pub answer_at : List ℕ → ℕ → List ℕ → Result ℕ Refusal
answer_at s p b = answer_to (refuse 11 0) (length b) (placed_text s (placed_at s p))

unfoldable pub buffer_at : List ℕ → ℕ → List ℕ → List ℕ
buffer_at s p b = buffer_to b (placed_text s (placed_at s p))
