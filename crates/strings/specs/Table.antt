-- The shared string table: an SST and the CONTINUEs right after it, its segments. A break in it is 8.
use Rattle.std.specs.Prelude.{ℕ, zero, suc, ◌+◌, ◌-◌, ◌*◌, ◌/◌, ◌%◌, List, [], ◌++◌, map, true, false, length, get_or, drop, ltb, eqb, Result, Ok}
use Rattle.steps.specs.Choice.{pick}
use Rattle.byte_numbers.specs.Bytes.{byte_at, u16_at, u32_at}
use Rattle.refusal.specs.declared.Refusal.{Refusal}
use Rattle.refusal.specs.Refused.{refuse}
use Rattle.segments.specs.declared.Cursor.{Cursor}
use Rattle.segments.specs.Segments.{Got, got, refused, then, push, list_of, on, next_segment, filled, need, width_of, items}
use Rattle.strings.specs.declared.Head.{Head}
use Rattle.strings.specs.declared.Table.{Table}

-- ---- a string
-- bits 2 and 3 of its flags, 1 or 0
abbrev pub phonetic_bit : ℕ → ℕ
phonetic_bit flags = flags / 4 % 2

abbrev pub rich_bit : ℕ → ℕ
rich_bit flags = flags / 8 % 2

-- its head: length u16, flags, run count u16 if rich, phonetic size u32 if phonetic
abbrev pub head_size : ℕ → ℕ
head_size flags = 3 + 2 * rich_bit flags + 4 * phonetic_bit flags

unfoldable pub runs_at : List ℕ → ℕ → ℕ → ℕ
runs_at s p flags = pick (eqb (rich_bit flags) 1) (u16_at s (p + 3)) 0

unfoldable pub phonetic_at : List ℕ → ℕ → ℕ → ℕ
phonetic_at s p flags = pick (eqb (phonetic_bit flags) 1) (u32_at s (p + 3 + 2 * rich_bit flags)) 0

unfoldable pub head_at : List ℕ → ℕ → Head
head_at s p = record {
  chars = u16_at s p;
  width = width_of (byte_at s (p + 2));
  runs = runs_at s p (byte_at s (p + 2));
  phonetic = phonetic_at s p (byte_at s (p + 2));
}

-- the bytes of the head and of the first character, if there is one
unfoldable pub start_size : List ℕ → ℕ → ℕ
start_size s p = pick (eqb (u16_at s p) 0) (head_size (byte_at s (p + 2))) (head_size (byte_at s (p + 2)) + width_of (byte_at s (p + 2)))

-- they stand in one segment; length and flags first, which tell their size
unfoldable pub head : List ℕ → Cursor → Got Head
head s d =
    then (need 8 3 d) (λ _ c.
    then (need 8 (start_size s c.at) c) (λ _ e.
    got (head_at s e.at) (on e (head_size (byte_at s (e.at + 2))))))

-- after the characters: 4 bytes a run, phonetic bytes
unfoldable pub rest : List ℕ → Head → Cursor → Got (List ℕ)
rest s h c = then (items 8 s false 4 h.runs c) (λ _ d. items 8 s false 1 h.phonetic d)

-- the string whose head stands at d: its units
unfoldable pub string_at : List ℕ → Cursor → Got (List ℕ)
string_at s d =
    then (head s d) (λ h c.
    then (items 8 s true h.width h.chars c) (λ us e.
    then (rest s h e) (λ _ i. got us i)))

abbrev pub units_at : List ℕ → Cursor → List ℕ
units_at s d = list_of (string_at s d)

-- ---- the table
-- where a new string's head stands: here, or in the next segment where this one has ended
unfoldable pub next_place : List ℕ → Cursor → Got Unit
next_place s c = pick (eqb c.at c.end) (next_segment 8 s c) (got tt c)

-- n strings, one after another: the places of their heads
unfoldable pub strings : List ℕ → ℕ → Cursor → Got (List Cursor)
strings s zero c = got [] c
strings s (suc n) c = then (next_place s c) (λ _ d. then (string_at s d) (λ _ e. push d (strings s n e)))

-- after the two counts of the SST whose header is at p and whose body ends at e
abbrev pub first : ℕ → ℕ → Cursor
first p e = record { seg = p; at = p + 12; end = e }

-- that SST: total u32 (not judged), unique u32, then exactly that many strings filling it and the CONTINUEs right after it; a body under
-- 8 bytes is 8. The places of the strings' heads
unfoldable pub table_of : List ℕ → ℕ → ℕ → Got (List Cursor)
table_of s p e =
    pick (ltb (e - (p + 4)) 8) (refused 8 p)
    (then (strings s (u32_at s (p + 8)) (first p e)) (λ l c.
    then (filled 8 s c) (λ _ d. got l d)))

abbrev pub places_of : List ℕ → ℕ → ℕ → List Cursor
places_of s p e = list_of (table_of s p e)

-- each string's units, in order
abbrev pub strings_of : List ℕ → ℕ → ℕ → List (List ℕ)
strings_of s p e = map (units_at s) (places_of s p e)

-- string i: its place and its units
abbrev pub nowhere : Cursor
nowhere = record { seg = 0; at = 0; end = 0 }

abbrev pub place_of : List ℕ → ℕ → ℕ → ℕ → Cursor
place_of s p e i = get_or (places_of s p e) i nowhere

abbrev pub units_of : List ℕ → ℕ → ℕ → ℕ → List ℕ
units_of s p e i = units_at s (place_of s p e i)

-- ---- the answers
-- to a check: how many strings, and where the table ends
abbrev pub answer_of : Got (List Cursor) → Result Table Refusal
answer_of (got l c) = Ok (record { strings = length l; end = c.end })
answer_of (refused n o) = refuse n o

-- to a fetch of these units into a buffer of n: one of fewer units is refused
unfoldable pub fetched_of : ℕ → List ℕ → Result ℕ Refusal
fetched_of n us = pick (ltb n (length us)) (refuse 12 0) (Ok (length us))

-- the buffer after it: the units, and after them what it held; all that it held if it is refused
unfoldable pub buffer_of : List ℕ → List ℕ → List ℕ
buffer_of b us = pick (ltb (length b) (length us)) b (us ++ drop (length us) b)
