-- What the contracts of the inner functions speak of.
use Rattle.std.specs.Prelude.{ℕ, ◌+◌, ◌^◌, ◌≤◌, ◌<◌, ◌≡◌, List, Result, length}
use Rattle.table_texts.specs.Written.{table_bytes}
use Rattle.byte_numbers.specs.Bytes.{u32_at}
use Rattle.globals.specs.declared.Globals.{Globals}
use Rattle.workbook.specs.Check.{Right, checked_of}
use Rattle.reading.specs.Claims.{Every}
use Rattle.new_stream.specs.declared.Fate.TheVariants.{Text}
use Rattle.new_stream.specs.declared.Entry.{Entry}
use Rattle.new_stream.specs.Entries.{entries_of}
use Rattle.new_stream.specs.Compact.{compact_with}
use Rattle.new_places.specs.Places.{place_for}
use Rattle.new_table.specs.NewTable.{Bytes, new_table}
use Rattle.table_chunks.specs.Chosen.{used_of}
use Rattle.copied_records.specs.Copied.{edited, copied_entry}
use Rattle.new_fields.specs.Edited.{table_change, sheet_change}
use Rattle.new_fields.specs.Runs.{Reindexed}
use Rattle.refusal.specs.declared.Refusal.{Refusal}
use Rattle.compact.specs.declared.plan.Plan.{Plan}
use Rattle.compact.specs.Compacted.{answer_to}

-- the bytes of the new table
abbrev pub bytes_for : Plan → List ℕ
bytes_for t = table_bytes t.total (used_of 0 t.texts)

-- what stays, and the new table in its place
unfoldable pub tabled : Plan → List ℕ → List ℕ
tabled t o = edited (table_change (bytes_for t)) t.size (entries_of t.texts.stream.now) (edited (copied_entry t.texts.stream.now) t.size (entries_of t.texts.stream.now) o 0) 0

-- new indices below top, then new positions
pub record Rewritten (s : List ℕ) (n top : ℕ) (o o' : List ℕ) : Type 0 where
  pub middle : List ℕ
  pub runs : Reindexed s n top o middle
  pub is : o' ≡ edited (sheet_change s (place_for n (entries_of s))) n (entries_of s) middle 0

-- the stream passes with the globals g, by whatever unique count is lent where it has no table
pub record Passed (s : List ℕ) (g : Globals) : Type 0 where
  pub bytes : Bytes s
  pub lent : ℕ
  pub few : lent ≤ 256 ^ 4
  pub ok : checked_of s lent ≡ Right g

-- and it has a table, or has none
pub record Tabled (s : List ℕ) (g : Globals) : Type 0 where
  pub passed : Passed s g
  pub some : g.table ≡ 0 → ⊥

pub record Untabled (s : List ℕ) (g : Globals) : Type 0 where
  pub passed : Passed s g
  pub no_table : g.table ≡ 0

-- what is known before anything is written: the stream passes with the globals g and has a table, t is the plan for the new one, and each listed text index is
-- below top
pub record Prepared (s : List ℕ) (g : Globals) (t : Plan) (top : ℕ) : Type 0 where
  pub passed : Passed s g
  pub some : g.table ≡ 0 → ⊥
  pub table : bytes_for t ≡ new_table s g
  pub size : t.size ≡ length (new_table s g)
  pub small : t.size ≤ 16777216
  pub below : Every (λ (x : Entry). x.fate ≡ Text → u32_at s (x.at + 10) < top) (entries_of s)
  pub high : top ≤ 4294967296

-- r is the answer, where the new table has n bytes and the buffer m
abbrev pub Measured : List ℕ → ℕ → ℕ → Result ℕ Refusal → Type 0
Measured s n m r = (T b : List ℕ) → length T ≡ n → length b ≡ m → r ≡ answer_to (compact_with s T) b
