-- What stands in segments: the body of a record, and on through the CONTINUEs right after it.
use Rattle.std.specs.Prelude.{ℕ, zero, suc, ◌+◌, ◌-◌, ◌%◌, List, [], ◌∷◌, Bool, true, false, length, ltb, eqb}
use Rattle.steps.specs.Choice.{pick}
use Rattle.byte_numbers.specs.Bytes.{byte_at, num_at, u16_at}
use Rattle.record.specs.declared.Header.{Header}
use Rattle.record.specs.declared.Header.TheVariants.{Record, Cut, End}
use Rattle.record.specs.Record.{header_at}
use Rattle.segments.specs.declared.Cursor.{Cursor}

-- what was read, and the cursor after it (its segment's header, the next byte, the segment's end); or a refusal's number and offset
pub data Got (A : Type 0) : Type 0 where
  got : A → Cursor → Got A
  refused : ℕ → ℕ → Got A

-- reading on from where x ended
abbrev pub then : {A B : Type 0} → Got A → (A → Cursor → Got B) → Got B
then (got a c) k = k a c
then (refused n o) k = refused n o

abbrev pub push : {A : Type 0} → A → Got (List A) → Got (List A)
push x (got xs c) = got (x ∷ xs) c
push x (refused n o) = refused n o

abbrev pub list_of : {A : Type 0} → Got (List A) → List A
list_of (got l c) = l
list_of (refused n o) = []

-- the cursor k bytes on
abbrev pub on : Cursor → ℕ → Cursor
on c k = record { seg = c.seg; at = c.at + k; end = c.end }

-- ---- segments. n is the number that a break gets: 8 in the string table
-- a whole header of a CONTINUE stands at p
unfoldable pub continues : List ℕ → ℕ → Bool
continues s p = pick (ltb (length s - p) 4) false (eqb (u16_at s p) 0x003c)

-- the segment whose header is at p: an empty one is a break; one that is cut or over 8,224 bytes is 2, whatever n
abbrev pub segment_of : ℕ → ℕ → Header → Got Unit
segment_of n p (Record k z e) = pick (eqb z 0) (refused n p) (got tt (record { seg = p; at = p + 4; end = e }))
segment_of n p Cut = refused 2 p
segment_of n p End = refused 2 p

-- the CONTINUE that is needed after this segment; if there is none, a break at this segment
unfoldable pub next_segment : ℕ → List ℕ → Cursor → Got Unit
next_segment n s c = pick (continues s c.end) (segment_of n c.end (header_at s c.end)) (refused n c.seg)

-- what was read fills its segments: nothing is left of the last one, and no CONTINUE stands right after it
unfoldable pub filled : ℕ → List ℕ → Cursor → Got Unit
filled n s c =
    pick (eqb c.at c.end)
    (pick (continues s c.end) (then (next_segment n s c) (λ _ d. refused n d.seg)) (got tt c))
    (refused n c.seg)

-- ---- items: characters, runs, phonetic bytes
-- w bytes that stand together in this segment
unfoldable pub need : ℕ → ℕ → Cursor → Got ℕ
need n w c = pick (ltb (c.end - c.at) w) (refused n c.seg) (got w c)

-- bit 0 of a flags byte: characters of one or two bytes
abbrev pub width_of : ℕ → ℕ
width_of flags = 1 + flags % 2

-- an item of w bytes where items run on into a segment: before characters, f, a flags byte tells the width anew
abbrev pub enter : ℕ → List ℕ → Bool → ℕ → Cursor → Got ℕ
enter n s true w c = need n (width_of (byte_at s c.at)) (on c 1)
enter n s false w c = need n w c

-- the width and place of an item, which is not cut: here, or in the next segment where this one has ended
unfoldable pub room : ℕ → List ℕ → Bool → ℕ → Cursor → Got ℕ
room n s f w c = pick (eqb c.at c.end) (then (next_segment n s c) (λ _ d. enter n s f w d)) (need n w c)

-- k items of w bytes
unfoldable pub items : ℕ → List ℕ → Bool → ℕ → ℕ → Cursor → Got (List ℕ)
items n s f w zero c = got [] c
items n s f w (suc k) c = then (room n s f w c) (λ v d. push (num_at s v d.at) (items n s f v k (on d v)))
