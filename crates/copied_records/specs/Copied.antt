-- A buffer after changes entry by entry; and after what stays of a stream is copied into it.
use Rattle.std.specs.Prelude.{ℕ, ◌+◌, List, [], ◌∷◌}
use Rattle.std.proofs.lemmas.List.Edits.{sets}
use Rattle.byte_numbers.specs.Bytes.{bytes_at}
use Rattle.new_stream.specs.declared.Fate.{Fate}
use Rattle.new_stream.specs.declared.Fate.TheVariants.{Stays, Goes, Table, Text, Sheet}
use Rattle.new_stream.specs.declared.Entry.{Entry}
use Rattle.new_stream.specs.Entries.{size_for}

-- a change for each entry: its place, size and fate, the buffer and the new place in it
abbrev pub Change : Type 0
Change = ℕ → ℕ → Fate → List ℕ → ℕ → List ℕ

-- after all entries, the first of them at q, where the new table has n bytes
unfoldable pub edited : Change → ℕ → List Entry → List ℕ → ℕ → List ℕ
edited f n [] out q = out
edited f n (x ∷ l) out q = edited f n l (f x.at x.size x.fate out q) (q + size_for n x.size x.fate)

-- what stays of an entry: a text cell keeps its old index, a BOUNDSHEET its old position; the table's place stays as it was
abbrev pub copied_entry : List ℕ → Change
copied_entry s p z Stays out q = sets out q (bytes_at s p z)
copied_entry s p z Goes out q = out
copied_entry s p z Table out q = out
copied_entry s p z Text out q = sets out q (bytes_at s p z)
copied_entry s p z Sheet out q = sets out q (bytes_at s p z)
