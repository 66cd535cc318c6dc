-- What the entries take in the new stream, and the new place of an offset, by the size of the new table alone.
use Rattle.std.specs.Prelude.{ℕ, ◌+◌, ◌≡◌, List, [], ◌∷◌, length, ltb}
use Rattle.steps.specs.Choice.{pick}
use Rattle.new_stream.specs.declared.Entry.{Entry}
use Rattle.new_stream.specs.Entries.{size_for}
use Rattle.new_stream.specs.Compact.{compact_with}

-- what all entries take, where the new table has n bytes
unfoldable pub sizes : ℕ → List Entry → ℕ
sizes n [] = 0
sizes n (x ∷ l) = size_for n x.size x.fate + sizes n l

-- how far the new place of p is from that of the first entry
unfoldable pub place_for : ℕ → List Entry → ℕ → ℕ
place_for n [] p = 0
place_for n (x ∷ l) p = pick (ltb x.at p) (size_for n x.size x.fate + place_for n l p) 0

-- r is the length of the new stream, where the new table has n bytes
abbrev pub LengthOf : List ℕ → ℕ → ℕ → Type 0
LengthOf s n r = (T : List ℕ) → length T ≡ n → r ≡ length (compact_with s T)
