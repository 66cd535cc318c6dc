-- The shared strings one after the other, from a place on. A place is a cursor: a segment's header, the next byte, the segment's end.
use Rattle.std.specs.Prelude.{ℕ, ◌+◌, List, length, ltb, eqb, Option, Some, None, Result, Ok, Err}
use Rattle.steps.specs.Choice.{pick}
use Rattle.byte_numbers.specs.Bytes.{u16_at}
use Rattle.refusal.specs.declared.Refusal.{Refusal}
use Rattle.segments.specs.declared.Cursor.{Cursor}
use Rattle.segments.specs.Segments.{Got, got, refused}
use Rattle.strings.specs.Table.{nowhere, first, fetched_of, buffer_of}
use Rattle.strings.specs.Parts.{next_string}
use Rattle.fetch.specs.declared.NextString.{NextString}

-- the first place in the table whose SST is at p; no place where there is none (p is 0) or where it isn't whole
unfoldable pub first_of : List ℕ → ℕ → Cursor
first_of s p =
    pick (eqb p 0) nowhere
    (pick (ltb (length s) (p + 12)) nowhere
    (pick (ltb (length s) (p + 4 + u16_at s (p + 2))) nowhere
    (first p (p + 4 + u16_at s (p + 2)))))

-- the next string and the place after it: refused where the place isn't one of the stream, and where no whole string follows
unfoldable pub text_at : List ℕ → Cursor → Got (List ℕ)
text_at s c = pick (ltb (length s) c.end) (refused 11 0) (pick (ltb c.end c.at) (refused 11 0) (next_string s c))

-- the answer, for a buffer of n units: as to a fetch of that string, with the place after it
abbrev pub on_fetched : Cursor → Result ℕ Refusal → Result (Option NextString) Refusal
on_fetched c (Ok k) = Ok (Some (record { units = k; next = c }))
on_fetched c (Err e) = Err e

abbrev pub next_seen : ℕ → Got (List ℕ) → Result (Option NextString) Refusal
next_seen n (got us c) = on_fetched c (fetched_of n us)
next_seen n (refused m o) = Ok None

unfoldable pub next_string_of : List ℕ → Cursor → List ℕ → Result (Option NextString) Refusal
next_string_of s c b = next_seen (length b) (text_at s c)

-- the buffer after it
abbrev pub buffer_seen : List ℕ → Got (List ℕ) → List ℕ
buffer_seen b (got us c) = buffer_of b us
buffer_seen b (refused m o) = b

unfoldable pub next_buffer : List ℕ → Cursor → List ℕ → List ℕ
next_buffer s c b = buffer_seen b (text_at s c)
