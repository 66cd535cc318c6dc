-- The claims of the stream without its unused strings: it passes, each cell shows the same text, doing it twice changes nothing.
use Rattle.std.specs.Prelude.{ℕ, ◌^◌, ◌≤◌, ◌≡◌, List, [], map, length}
use Rattle.steps.specs.Items.{nth}
use Rattle.value.specs.declared.CellValue.TheVariants as value
use Rattle.cell.specs.declared.Cell.{Cell}
use Rattle.sheet_agreement.specs.Agreement.{Sheet}
use Rattle.globals.specs.declared.Globals.{Globals}
use Rattle.globals.specs.Sheets.{sheets_of}
use Rattle.workbook.specs.Check.{Right, checked_of}
use Rattle.reading.specs.Reading.{listed_of, reading_of}
use Rattle.record_chain.specs.Chain.{Every, Nth}
use Rattle.new_stream.specs.Compact.{compact_with}
use Rattle.new_stream.specs.Claims.{Compacted}
use Rattle.new_reading.specs.Retexted.{retexted_sheet, index_of, byte_of}
use Rattle.new_table.specs.NewTable.{Bytes, old_texts, new_texts, new_table, compact_of}

-- the stream passes with the globals g, and the new one isn't too long. u is the unique count of strings where it has no SST
pub record Given (s : List ℕ) (u : ℕ) (g : Globals) : Type 0 where
  pub bytes : Bytes s
  pub few : u ≤ 256 ^ 4
  pub ok : checked_of s u ≡ Right g
  pub short : length (compact_of s u) ≤ 16777216

-- the new stream, and that it passes the check: `Compacted` says with which globals and sheets
abbrev pub NewIs : Type 0
NewIs = (s : List ℕ) (u : ℕ) (g : Globals) → checked_of s u ≡ Right g → compact_of s u ≡ compact_with s (new_table s g)

abbrev pub NewPasses : Type 0
NewPasses = (s : List ℕ) (u : ℕ) (g : Globals) → Given s u g → Compacted s (new_table s g) u g

-- its strings are the used ones, with their bits, runs and phonetic bytes
abbrev pub NewTexts : Type 0
NewTexts = (s : List ℕ) (u : ℕ) (g : Globals) (h : Given s u g) (new : Compacted s (new_table s g) u g) → (g.table ≡ 0 → ⊥) → old_texts (compact_of s u) new.globals ≡ new_texts s g

-- same sheets and cells, but for the text indices and the places of the value fields
abbrev pub NewSheets : Type 0
NewSheets = (s : List ℕ) (u : ℕ) (g : Globals) → Given s u g → (reading_of (compact_of s u) u).sheets ≡ map (retexted_sheet (index_of s (new_table s g)) (byte_of s (new_table s g))) (reading_of s u).sheets

-- each listed text cell shows the text that it showed
abbrev pub NewNamed : Type 0
NewNamed =
    (s : List ℕ) (u : ℕ) (g : Globals) → Given s u g → (n : ℕ) (x : Sheet) → Nth (sheets_of s) n x
    → Every (λ (c : Cell). (i : ℕ) → c.value ≡ value.Text i → nth (reading_of (compact_of s u) u).strings (index_of s (new_table s g) i) (λ x. x) [] ≡ nth (reading_of s u).strings i (λ x. x) []) (listed_of s x)

-- doing it twice changes nothing
abbrev pub NewTwice : Type 0
NewTwice = (s : List ℕ) (u : ℕ) (g : Globals) → Given s u g → compact_of (compact_of s u) u ≡ compact_of s u
