-- The stream without its unused strings, whole: the new string table is made of the strings that are used.
use Rattle.std.specs.Prelude.{ℕ, zero, suc, ◌+◌, ◌<◌, List, [], ◌∷◌, length, eqb}
use Rattle.steps.specs.Choice.{pick}
use Rattle.byte_numbers.specs.Bytes.{byte_at, u16_at}
use Rattle.globals.specs.declared.Globals.{Globals}
use Rattle.workbook.specs.Check.{checked_of, on_checked}
use Rattle.table_texts.specs.Texts.{Text, texts_of, kept}
use Rattle.table_texts.specs.Written.{table_bytes}
use Rattle.new_stream.specs.Entries.{entries_of}
use Rattle.new_stream.specs.Compact.{texts_in, uses, compact_with}

-- each number of the stream is a byte
abbrev pub Bytes : List ℕ → Type 0
Bytes s = (k : ℕ) → byte_at s k < 256

-- a mark for each of the n indices from i on: 1 where it is used
unfoldable pub marks_from : List ℕ → ℕ → ℕ → List ℕ
marks_from l i zero = []
marks_from l i (suc n) = pick (uses l i) 1 0 ∷ marks_from l (i + 1) n

-- the strings of a stream whose globals hold g, each with its runs and phonetic bytes
abbrev pub old_texts : List ℕ → Globals → List Text
old_texts s g = texts_of s g.table (g.table + 4 + u16_at s (g.table + 2))

-- those that some listed cell uses, in the old order
abbrev pub new_texts : List ℕ → Globals → List Text
new_texts s g = kept (marks_from (texts_in s (entries_of s)) 0 g.unique) (old_texts s g)

-- the new table; the total is the number of listed LABELSSTs. Nothing where the stream has no SST
unfoldable pub new_table : List ℕ → Globals → List ℕ
new_table s g = pick (eqb g.table 0) [] (table_bytes (length (texts_in s (entries_of s))) (new_texts s g))

-- the new stream of one whose globals hold g
abbrev pub compacted_of : List ℕ → Globals → List ℕ
compacted_of s g = compact_with s (new_table s g)

-- the stream without its unused strings; one that the check refuses has none. u is the unique count of strings where it has no SST, 0 for a stream by itself
unfoldable pub compact_of : List ℕ → ℕ → List ℕ
compact_of s u = on_checked (λ _ _. []) (compacted_of s) (checked_of s u)
