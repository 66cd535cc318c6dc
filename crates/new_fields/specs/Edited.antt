-- A buffer after the changes that make the copied stream the new one.
use Rattle.std.specs.Prelude.{ℕ, ◌+◌, ◌≤◌, ◌≡◌, List, length, ltb, leb}
use Rattle.std.proofs.lemmas.List.Edits.{sets}
use Rattle.steps.specs.Choice.{pick}
use Rattle.byte_numbers.specs.Bytes.{u32_at, bytes_of}
use Rattle.new_stream.specs.declared.Fate.TheVariants.{Stays, Goes, Table, Text, Sheet}
use Rattle.new_stream.specs.declared.Entry.{Entry}
use Rattle.new_stream.specs.Entries.{entries_of}
use Rattle.reading.specs.Claims.{Every}
use Rattle.new_places.specs.Places.{sizes}
use Rattle.copied_records.specs.Copied.{Change}

-- the new table in its place
abbrev pub table_change : List ℕ → Change
table_change T p z Stays out q = out
table_change T p z Goes out q = out
table_change T p z Table out q = sets out q T
table_change T p z Text out q = out
table_change T p z Sheet out q = out

-- the new index of a text cell whose old one is among the m from base on
abbrev pub text_change : List ℕ → (ℕ → ℕ) → ℕ → ℕ → Change
text_change s index base m p z Stays out q = out
text_change s index base m p z Goes out q = out
text_change s index base m p z Table out q = out
text_change s index base m p z Text out q = pick (leb base (u32_at s (p + 10))) (pick (ltb (u32_at s (p + 10)) (base + m)) (sets out (q + 10) (bytes_of 4 (index (u32_at s (p + 10))))) out) out
text_change s index base m p z Sheet out q = out

-- the new position of a BOUNDSHEET
abbrev pub sheet_change : List ℕ → (ℕ → ℕ) → Change
sheet_change s place p z Stays out q = out
sheet_change s place p z Goes out q = out
sheet_change s place p z Table out q = out
sheet_change s place p z Text out q = out
sheet_change s place p z Sheet out q = sets out (q + 4) (bytes_of 4 (place (u32_at s (p + 4))))

-- ---- what the functions ask for
-- an entry lies in the stream, and has room for what it gets
pub record Good (s : List ℕ) (x : Entry) : Type 0 where
  pub lies : x.at + x.size ≤ length s
  pub cell : x.fate ≡ Text → 14 ≤ x.size
  pub sheet : x.fate ≡ Sheet → 8 ≤ x.size

-- so do all, and a buffer of m bytes has room for them, where the new table has n
pub record Roomy (s : List ℕ) (n m : ℕ) : Type 0 where
  pub short : length s ≤ 16777216
  pub table : n ≤ 16777216
  pub good : Every (Good s) (entries_of s)
  pub room : sizes n (entries_of s) ≤ m
