-- String places kept in a lent table of 32-bit numbers, filled once; and a string fetched through it.
use Rattle.std.specs.Prelude.{ℕ, ◌+◌, ◌-◌, ◌*◌, List, [], ◌∷◌, ◌++◌, Bool, true, length, get_or, replicate, ltb, eqb, Result, Ok}
use Rattle.steps.specs.Choice.{pick}
use Rattle.byte_numbers.specs.Bytes.{u16_at}
use Rattle.record.specs.declared.Header.{Header}
use Rattle.record.specs.declared.Header.TheVariants.{Record, Cut, End}
use Rattle.record.specs.Record.{header_at}
use Rattle.segments.specs.declared.Cursor.{Cursor}
use Rattle.segments.specs.Segments.{Got, got, refused}
use Rattle.refusal.specs.declared.Refusal.{Refusal}
use Rattle.refusal.specs.Refused.{refuse}
use Rattle.strings.specs.Table.{string_at, places_of, fetched_of}
use Rattle.globals.specs.declared.Globals.{Globals}
use Rattle.workbook.specs.Check.{checked_of, on_checked}
use Rattle.fetch.specs.Strings.{buffer_seen}

-- ---- filling
-- two numbers for each string: where its head starts, and the header of the record that it stands in
unfoldable pub numbers_of : List Cursor → List ℕ
numbers_of [] = []
numbers_of (d ∷ l) = d.at ∷ d.seg ∷ numbers_of l

-- each further number
abbrev pub unused : ℕ
unused = 4294967295

-- the places of the strings of the SST whose header is at p, 0 where there is none
unfoldable pub places_at : List ℕ → ℕ → List Cursor
places_at s p = pick (eqb p 0) [] (places_of s p (p + 4 + u16_at s (p + 2)))

-- 12 exactly if the table has under two numbers for each string
unfoldable pub filled_of : ℕ → List Cursor → Result ℕ Refusal
filled_of n l = pick (ltb n (2 * length l)) (refuse 12 0) (Ok (length l))

unfoldable pub table_of : List ℕ → List Cursor → List ℕ
table_of t l = pick (ltb (length t) (2 * length l)) t (numbers_of l ++ replicate (length t - 2 * length l) unused)

-- the answer to a filling of table t, and the table after it; u is the unique count of strings where the stream has no SST
unfoldable pub fill_of : List ℕ → ℕ → List ℕ → Result ℕ Refusal
fill_of s u t = on_checked refuse (λ (g : Globals). filled_of (length t) (places_at s g.table)) (checked_of s u)

unfoldable pub table_after : List ℕ → ℕ → List ℕ → List ℕ
table_after s u t = on_checked (λ _ _. t) (λ (g : Globals). table_of t (places_at s g.table)) (checked_of s u)

-- ---- a fetch through a table, on any stream
-- SST or CONTINUE
abbrev pub holds_strings : ℕ → Bool
holds_strings k = pick (eqb k 0x00FC) true (eqb k 0x003C)

-- the string whose head starts at `at`, in the body of the record whose header is at p; 11 where that is no SST or CONTINUE with the head in its body
abbrev pub on_segment : List ℕ → ℕ → ℕ → Header → Got (List ℕ)
on_segment s at p (Record k z e) =
    pick (holds_strings k)
    (pick (ltb at (p + 4)) (refused 11 0)
    (pick (ltb at e) (string_at s (record { seg = p; at = at; end = e }))
    (refused 11 0)))
    (refused 11 0)
on_segment s at p Cut = refused 11 0
on_segment s at p End = refused 11 0

-- the string of entry i; 11 where the table has no such entry
unfoldable pub string_by : List ℕ → List ℕ → ℕ → Got (List ℕ)
string_by s t i = pick (ltb (2 * i + 1) (length t)) (on_segment s (get_or t (2 * i) 0) (get_or t (2 * i + 1) 0) (header_at s (get_or t (2 * i + 1) 0))) (refused 11 0)

-- the answer, for a buffer of n units: 11 also where reading the whole string would meet 2 or 8; then 12
abbrev pub fetched_by : ℕ → Got (List ℕ) → Result ℕ Refusal
fetched_by n (got us c) = fetched_of n us
fetched_by n (refused m o) = refuse 11 0

unfoldable pub through_of : List ℕ → List ℕ → ℕ → List ℕ → Result ℕ Refusal
through_of s t i b = fetched_by (length b) (string_by s t i)

-- the buffer after it
unfoldable pub buffer_through : List ℕ → List ℕ → ℕ → List ℕ → List ℕ
buffer_through s t i b = buffer_seen b (string_by s t i)
