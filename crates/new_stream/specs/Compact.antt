-- The stream without its unused strings. T is the new string table: an SST and its CONTINUEs, or nothing where the stream has no SST.
use Rattle.std.specs.Prelude.{ℕ, zero, suc, ◌+◌, ◌-◌, List, [], ◌∷◌, ◌++◌, Bool, false, ◌||◌, length, ltb, eqb}
use Rattle.std.proofs.lemmas.List.Edits.{sets}
use Rattle.steps.specs.Choice.{pick}
use Rattle.byte_numbers.specs.Bytes.{u32_at, bytes_at, bytes_of}
use Rattle.new_stream.specs.declared.Fate.{Fate}
use Rattle.new_stream.specs.declared.Entry.{Entry}
use Rattle.new_stream.specs.declared.Fate.TheVariants.{Stays, Goes, Table, Text, Sheet}
use Rattle.new_stream.specs.Entries.{entries_of}

-- ---- what is written of each record; `index` tells the new string index, `place` the new place of a BOF
abbrev pub new_bytes : List ℕ → List ℕ → (ℕ → ℕ) → (ℕ → ℕ) → ℕ → ℕ → Fate → List ℕ
new_bytes s T index place p n Stays = bytes_at s p n
new_bytes s T index place p n Goes = []
new_bytes s T index place p n Table = T
new_bytes s T index place p n Text = sets (bytes_at s p n) 10 (bytes_of 4 (index (u32_at s (p + 10))))
new_bytes s T index place p n Sheet = sets (bytes_at s p n) 4 (bytes_of 4 (place (u32_at s (p + 4))))

unfoldable pub written : List ℕ → List ℕ → (ℕ → ℕ) → (ℕ → ℕ) → List Entry → List ℕ
written s T index place [] = []
written s T index place (x ∷ l) = new_bytes s T index place x.at x.size x.fate ++ written s T index place l

-- ---- where what stood at p stands now: the bytes that are written of the records before it
abbrev pub new_size : List ℕ → ℕ → Fate → ℕ
new_size T n Stays = n
new_size T n Goes = 0
new_size T n Table = length T
new_size T n Text = n
new_size T n Sheet = n

unfoldable pub place_in : List ℕ → List Entry → ℕ → ℕ
place_in T [] p = 0
place_in T (x ∷ l) p = pick (ltb x.at p) (new_size T x.size x.fate + place_in T l p) 0

-- where a byte of a record that stays stands now: what is written of the records before its own, and how far it is in that
unfoldable pub byte_in : List ℕ → List Entry → ℕ → ℕ
byte_in T [] p = 0
byte_in T (x ∷ l) p = pick (ltb p (x.at + x.size)) (p - x.at) (new_size T x.size x.fate + byte_in T l p)

-- ---- the strings that are used
-- the indices of the listed LABELSSTs, in stream order
abbrev pub on_text : List ℕ → ℕ → Fate → List ℕ → List ℕ
on_text s p Stays l = l
on_text s p Goes l = l
on_text s p Table l = l
on_text s p Text l = u32_at s (p + 10) ∷ l
on_text s p Sheet l = l

unfoldable pub texts_in : List ℕ → List Entry → List ℕ
texts_in s [] = []
texts_in s (x ∷ l) = on_text s x.at x.fate (texts_in s l)

unfoldable pub uses : List ℕ → ℕ → Bool
uses [] i = false
uses (x ∷ l) i = eqb x i || uses l i

-- how many indices below i are used
unfoldable pub used_below : List ℕ → ℕ → ℕ
used_below l zero = 0
used_below l (suc i) = pick (uses l i) 1 0 + used_below l i

-- the new index of string i: how many used ones stand before it; where there is no string table, and so no new one, indices stay
unfoldable pub index_in : List ℕ → List ℕ → List Entry → ℕ → ℕ
index_in s T l i = pick (eqb (length T) 0) i (used_below (texts_in s l) i)

-- ---- the new stream
abbrev pub compact_by : List ℕ → List ℕ → List Entry → List ℕ
compact_by s T l = written s T (index_in s T l) (place_in T l) l

unfoldable pub compact_with : List ℕ → List ℕ → List ℕ
compact_with s T = compact_by s T (entries_of s)
