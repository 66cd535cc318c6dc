-- What the theorems on the new stream speak of.
use Rattle.std.specs.Prelude.{ℕ, ◌+◌, ◌^◌, ◌≤◌, ◌<◌, ◌≡◌, List, [], ◌++◌, map, true, false, length, drop}
use Rattle.record.specs.declared.Header.TheVariants.{Record}
use Rattle.record.specs.Record.{header_at}
use Rattle.segments.specs.declared.Cursor.{Cursor}
use Rattle.segments.specs.Segments.{got, continues}
use Rattle.strings.specs.Table.{table_of}
use Rattle.sheet_agreement.specs.Agreement.{Sheet}
use Rattle.globals.specs.declared.Globals.{Globals}
use Rattle.globals.specs.Sheets.{sheets_of}
use Rattle.workbook.specs.Check.{Right, checked_of}
use Rattle.record_chain.specs.Chain.{Chain}
use Rattle.new_stream.specs.Entries.{entries_of}
use Rattle.new_stream.specs.Compact.{place_in, texts_in, uses, used_below, compact_with}

-- a CONTINUE stands at x and ends at e
pub record Continued (s : List ℕ) (x e : ℕ) : Type 0 where
  pub size : ℕ
  pub is : header_at s x ≡ Record 0x003C size e

-- y is reached from x over CONTINUEs
abbrev pub Row : List ℕ → ℕ → ℕ → Type 0
Row s x y = Chain (Continued s) x y

-- ---- the new string table, as the half that writes it gives it
-- an SST at q of t, which with its CONTINUEs has `size` bytes, is right and has n strings
pub record TableAt (t : List ℕ) (q size n : ℕ) : Type 0 where
  pub body : ℕ
  pub header : header_at t q ≡ Record 0x00FC body (q + 4 + body)
  pub places : List Cursor
  pub cursor : Cursor
  pub reads : table_of t q (q + 4 + body) ≡ got places cursor
  pub count : length places ≡ n
  pub end : cursor.end ≡ q + size

-- T stands at q of t, and no CONTINUE comes right after it
pub record Standing (t T : List ℕ) (q : ℕ) : Type 0 where
  pub rest : List ℕ
  pub is : drop q t ≡ T ++ rest
  pub free : continues t (q + length T) ≡ false

-- T is a string table of n strings wherever it stands, if no CONTINUE comes right after it
pub record IsTable (T : List ℕ) (n : ℕ) : Type 0 where
  pub some : 4 ≤ length T
  pub few : n ≤ 256 ^ 4
  pub stands : (t : List ℕ) (q : ℕ) → Standing t T q → TableAt t q (length T) n

-- how many of the strings of a stream whose globals hold g are used
abbrev pub used_of : List ℕ → Globals → ℕ
used_of s g = used_below (texts_in s (entries_of s)) g.unique

-- T is a table of the strings that are used, or nothing where the stream has no table
pub record TableOf (s T : List ℕ) (g : Globals) : Type 0 where
  pub table : (g.table ≡ 0 → ⊥) → IsTable T (used_of s g)
  pub nothing : g.table ≡ 0 → T ≡ []

-- ---- the claims
-- the new place of what stood at p
abbrev pub place_of : List ℕ → List ℕ → ℕ → ℕ
place_of s T p = place_in T (entries_of s) p

abbrev pub sheet_moved : List ℕ → List ℕ → Sheet → Sheet
sheet_moved s T x = record { header = place_of s T x.header; position = place_of s T x.position; kind = x.kind }

-- the new stream passes; its string table stands where the old one did and has the strings that are used; its sheets are those of the old stream, moved
pub record Compacted (s T : List ℕ) (u : ℕ) (g : Globals) : Type 0 where
  pub globals : Globals
  pub passes : checked_of (compact_with s T) u ≡ Right globals
  pub no_table : g.table ≡ 0 → (globals.table ≡ 0) × (globals.unique ≡ g.unique)
  pub table : (g.table ≡ 0 → ⊥) → (globals.table ≡ place_of s T g.table) × (globals.unique ≡ used_of s g)
  pub stands : (g.table ≡ 0 → ⊥) → Standing (compact_with s T) T (place_of s T g.table)
  pub sheets : sheets_of (compact_with s T) ≡ map (sheet_moved s T) (sheets_of s)

-- u is the unique count where the stream has no SST
abbrev pub CompactPasses : Type 0
CompactPasses =
    (s T : List ℕ) (u : ℕ) (g : Globals) → u ≤ 256 ^ 4 → checked_of s u ≡ Right g → TableOf s T g → length (compact_with s T) ≤ 16777216 → Compacted s T u g

-- doing it twice changes nothing: T is the table of the new stream too, which the half that writes it gives
abbrev pub CompactTwice : Type 0
CompactTwice =
    (s T : List ℕ) (u : ℕ) (g : Globals) → u ≤ 256 ^ 4 → checked_of s u ≡ Right g → TableOf s T g → length (compact_with s T) ≤ 16777216 → compact_with (compact_with s T) T ≡ compact_with s T

-- what the half that writes the table needs to make T again: as many text cells, and as many used strings, which are all there are
abbrev pub CountsAgain : Type 0
CountsAgain =
    (s T : List ℕ) (u : ℕ) (g : Globals) → u ≤ 256 ^ 4 → checked_of s u ≡ Right g → TableOf s T g → length (compact_with s T) ≤ 16777216
    → (length (texts_in (compact_with s T) (entries_of (compact_with s T))) ≡ length (texts_in s (entries_of s)))
    × ((g.table ≡ 0 → ⊥) → (i : ℕ) → i < used_of s g → uses (texts_in (compact_with s T) (entries_of (compact_with s T))) i ≡ true)
