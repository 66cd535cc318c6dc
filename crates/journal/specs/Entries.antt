-- The journal of granted corrections: a header of four u32, then the entries of 28 bytes each.
use Rattle.std.specs.Prelude.{ℕ, zero, suc, ◌+◌, ◌*◌, ◌^◌, Bool, true, false, List, length, ltb, leb, eqb}
use Rattle.std.proofs.lemmas.List.Edits.{sets}
use Rattle.steps.specs.Choice.{pick}
use Rattle.journal.specs.declared.Entry.{Entry}
use Rattle.byte_numbers.specs.Bytes.{u16_at, u32_at, u64_at, bytes_of}

-- ---- the layout
-- the w bytes at `at` set to the number n
abbrev pub put : ℕ → ℕ → ℕ → List ℕ → List ℕ
put at w n j = sets j at (bytes_of w n)

-- entry count, offset of the entries (16), stream length, unique string count
unfoldable pub header : ℕ → ℕ → List ℕ → List ℕ
header len unique j = put 12 4 unique (put 8 4 len (put 4 4 16 (put 0 4 0 j)))

abbrev pub count_in : List ℕ → ℕ
count_in j = u32_at j 0

-- where the i-th entry stands, counted from 0
abbrev pub entry_at : ℕ → ℕ
entry_at i = 16 + i * 28

-- An entry's old bytes and new value stand in 8 bytes each, with zeros after them: as numbers of 8 bytes, the lower first.
-- sheet u32, row and column u16, value kind u16, old byte count u16, old bytes in 8, new value in 8
unfoldable pub entry_in : List ℕ → ℕ → Entry
entry_in j e = record { sheet = u32_at j e; row = u16_at j (e + 4); column = u16_at j (e + 6); kind = u16_at j (e + 8); width = u16_at j (e + 10); old = u64_at j (e + 12); new = u64_at j (e + 20) }

unfoldable pub entered : ℕ → Entry → List ℕ → List ℕ
entered e x j =
    put (e + 20) 8 x.new
    (put (e + 12) 8 x.old
    (put (e + 10) 2 x.width
    (put (e + 8) 2 x.kind
    (put (e + 6) 2 x.column
    (put (e + 4) 2 x.row
    (put e 4 x.sheet j))))))

-- ---- the form
-- of the 8 bytes whose number is n, all after the first w are zero
abbrev pub zeros_after : ℕ → ℕ → Bool
zeros_after w n = ltb n (256 ^ w)

-- a number has 4 or 8 old bytes, and its 64 bits fill the 8 bytes of the new value
unfoldable pub number_fits : ℕ → ℕ → Bool
number_fits width old =
    pick (eqb width 8) true
    (pick (eqb width 4) (zeros_after 4 old)
    false)

-- an index has 4 and 4, truth and error 2 and 1
unfoldable pub counts_fit : ℕ → ℕ → ℕ → ℕ → ℕ → Bool
counts_fit olds news width old new =
    pick (eqb width olds) (pick (zeros_after olds old) (zeros_after news new) false)
    false

-- a kind over 3 is wrong
unfoldable pub entry_fits : ℕ → ℕ → ℕ → ℕ → Bool
entry_fits kind width old new =
    pick (eqb kind 0) (number_fits width old)
    (pick (eqb kind 1) (counts_fit 4 4 width old new)
    (pick (eqb kind 2) (counts_fit 2 1 width old new)
    (pick (eqb kind 3) (counts_fit 2 1 width old new)
    false)))

unfoldable pub fits_at : List ℕ → ℕ → Bool
fits_at j e = entry_fits (u16_at j (e + 8)) (u16_at j (e + 10)) (u64_at j (e + 12)) (u64_at j (e + 20))

-- the n entries from e on
unfoldable pub entries_fit : List ℕ → ℕ → ℕ → Bool
entries_fit j e zero = true
entries_fit j e (suc n) = pick (fits_at j e) (entries_fit j (e + 28) n) false

-- a journal for a stream of this length and unique count: not cut, the entries at 16, each well-formed. Bytes after the last entry are not looked at
unfoldable pub journal_fits : List ℕ → ℕ → ℕ → Bool
journal_fits j len unique =
    pick (ltb (length j) 16) false
    (pick (eqb (u32_at j 4) 16)
    (pick (eqb (u32_at j 8) len)
    (pick (eqb (u32_at j 12) unique)
    (pick (ltb (length j) (entry_at (count_in j))) false
    (entries_fit j 16 (count_in j)))
    false) false) false)

-- ---- one entry more
-- there is room for one more entry, and the count can grow
unfoldable pub room_for : List ℕ → Bool
room_for j = pick (eqb (count_in j) 4294967295) false (leb (entry_at (count_in j + 1)) (length j))

-- the entry, and the count
unfoldable pub logged : Entry → List ℕ → List ℕ
logged x j = put 0 4 (count_in j + 1) (entered (entry_at (count_in j)) x j)
