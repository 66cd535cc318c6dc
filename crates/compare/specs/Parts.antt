-- What the contracts of the inner functions speak of.
use Rattle.std.specs.Prelude.{ℕ, ◌+◌, ◌-◌, ◌≤◌, ◌≡◌, Bool, true, false, List, [], ◌∷◌, ◌++◌, map, length, ltb, leb, Option, Some, None, Result, Ok, Err}
use Rattle.steps.specs.Choice.{pick}
use Rattle.sheet_agreement.specs.Agreement.{Sheet}
use Rattle.globals.specs.declared.Globals.{Globals}
use Rattle.globals.specs.Sheets.{sheets_of}
use Rattle.workbook.specs.Check.{Checked}
use Rattle.string_marks.specs.declared.table.Table.{Table}
use Rattle.string_links.specs.declared.tables.Tables.{Tables}
use Rattle.listing.specs.declared.NextSheet.{NextSheet}
use Rattle.reading.specs.Reading.{Reading, reading_of, name_at, listed_of, sheet_reading, strings_at}
use Rattle.differences.specs.Differences.{Difference, none, name, same, chars_of, words_of, twice_in, differences}
use Rattle.cell_addresses.specs.Addresses.{AscendFrom, When}
use Rattle.cell_differences.specs.Merge.{cell_words}
use Rattle.compare.specs.declared.Side.{Side}
use Rattle.compare.specs.declared.CompareRefusal.{CompareRefusal}

-- a sheet, if there is one, has a name of one or two bytes a character
abbrev pub Narrow : Option NextSheet → Type 0
Narrow (Some x) = (1 ≤ x.width) × (x.width ≤ 2)
Narrow None = Unit {0}

-- the addresses ascend in each of these sheets; in all sheets of both streams
abbrev pub AllAscend : List ℕ → List Sheet → Type 0
AllAscend s [] = Unit {0}
AllAscend s (x ∷ l) = AscendFrom 0 (listed_of s x) × AllAscend s l

abbrev pub BothAscend : List ℕ → List ℕ → Type 0
BothAscend s t = AllAscend s (sheets_of s) × AllAscend t (sheets_of t)

-- the reading of a stream whose SST is at p
unfoldable pub book_of : List ℕ → ℕ → Reading
book_of s p = record { sheets = map (sheet_reading s) (sheets_of s); strings = strings_at s p }

-- what the check of one of the streams gives
abbrev pub checked_for : Side → Checked → Result Globals CompareRefusal
checked_for x (Ok g) = Ok g
checked_for x (Err r) = Err (record { side = x; number = r.number; offset = r.offset })

-- no address has two cells in one sheet, and where the answer is true, they ascend; or one has
abbrev pub OnceIn : Side → List ℕ → Result Bool CompareRefusal → Type 0
OnceIn x s (Ok up) = (twice_in (reading_of s 0).sheets ≡ false) × When up (AllAscend s (sheets_of s))
OnceIn x s (Err r) = (twice_in (reading_of s 0).sheets ≡ true) × (r ≡ record { side = x; number = 16; offset = 0 })

-- ---- the words of a sheet number, as its sheets are found
-- where its cells start, and where the next sheet is looked for: at the end where there is no sheet
abbrev pub start_in : List ℕ → Option NextSheet → ℕ
start_in s (Some x) = x.cells.at
start_in s None = length s

abbrev pub next_in : List ℕ → Option NextSheet → ℕ
next_in s (Some x) = x.next
next_in s None = length s

unfoldable pub same_names : List ℕ → NextSheet → List ℕ → NextSheet → Bool
same_names s x t y = same (chars_of (name_at s x.header) x.width) (chars_of (name_at t y.header) y.width)

abbrev pub name_seen : List ℕ → Option NextSheet → List ℕ → Option NextSheet → Difference
name_seen s (Some x) t (Some y) = pick (same_names s x t y) none name
name_seen s (Some x) t None = none
name_seen s None t y = none

unfoldable pub name_words : List ℕ → Option NextSheet → List ℕ → Option NextSheet → ℕ → ℕ → List ℕ
name_words s x t y key from = pick (leb from key) (words_of key (name_seen s x t y)) []

unfoldable pub cells_seen : List ℕ → ℕ → ℕ → List ℕ → ℕ → ℕ → ℕ → ℕ → List ℕ
cells_seen s v p t w q key from = pick (ltb from (key + 8589934592)) (cell_words s v p t w q (key + 4294967296) (from - (key + 4294967296))) []

-- the same of both tables
abbrev pub cell_words_in : Tables → ℕ → ℕ → ℕ → ℕ → List ℕ
cell_words_in x v w key from = cells_seen x.first.table.stream.now v x.first.table.place x.second.table.stream.now w x.second.table.place key from

abbrev pub sheet_words_in : Tables → Option NextSheet → Option NextSheet → ℕ → ℕ → List ℕ
sheet_words_in x a b key from =
    name_words x.first.table.stream.now a x.second.table.stream.now b key from ++ cell_words_in x (start_in x.first.table.stream.now a) (start_in x.second.table.stream.now b) key from

-- the words of all sheets
abbrev pub words_in : Table → Table → ℕ → List ℕ
words_in x y from = differences (book_of x.stream.now x.place) (book_of y.stream.now y.place) from
