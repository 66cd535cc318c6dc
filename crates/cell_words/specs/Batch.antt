-- Cells in words: four 64-bit words a cell.
use Rattle.std.specs.Prelude.{ℕ, zero, suc, ◌+◌, ◌*◌, ◌/◌, List, [], ◌∷◌, Option, Some, None, length}
use Rattle.std.proofs.lemmas.List.Edits.{sets}
use Rattle.number.specs.Float64.{bits_of}
use Rattle.value.specs.declared.FormulaResult.{FormulaResult}
use Rattle.value.specs.declared.FormulaResult.TheVariants as result
use Rattle.value.specs.declared.CellValue.{CellValue}
use Rattle.value.specs.declared.CellValue.TheVariants as value
use Rattle.cell.specs.declared.Cell.{Cell}
use Rattle.cell.specs.declared.Tokens.{Tokens}
use Rattle.reading.specs.declared.Place.{Place}
use Rattle.reading.specs.Reading.{trailing_size}
use Rattle.listing.specs.declared.Listed.{Listed}
use Rattle.listing.specs.Listing.{next_of}
use Rattle.cell_words.specs.declared.Filled.{Filled}

-- the kind of a value: blank 0, number 1, text 2, truth 3, error 4; a formula's result: number 5, text 6, truth 7, error 8, empty 9
abbrev pub result_kind : FormulaResult → ℕ
result_kind (result.Number x) = 5
result_kind (result.NotNumber b) = 5
result_kind result.Text = 6
result_kind (result.Truth t) = 7
result_kind (result.Error e) = 8
result_kind result.Empty = 9

abbrev pub value_kind : CellValue → ℕ
value_kind value.Blank = 0
value_kind (value.Number x) = 1
value_kind (value.NotNumber b) = 1
value_kind (value.Text i) = 2
value_kind (value.Truth t) = 3
value_kind (value.Error e) = 4
value_kind (value.Formula r) = result_kind r

-- what it holds: a number's 64 bits, a text's index, a truth or code; else 0
abbrev pub result_word : FormulaResult → ℕ
result_word (result.Number x) = bits_of x
result_word (result.NotNumber b) = b
result_word result.Text = 0
result_word (result.Truth t) = t
result_word (result.Error e) = e
result_word result.Empty = 0

abbrev pub value_word : CellValue → ℕ
value_word value.Blank = 0
value_word (value.Number x) = bits_of x
value_word (value.NotNumber b) = b
value_word (value.Text i) = i
value_word (value.Truth t) = t
value_word (value.Error e) = e
value_word (value.Formula r) = result_word r

-- row in the lowest 16 bits, then column, then format, then the kind of the value
abbrev pub head_word : Cell → ℕ
head_word c = c.row + c.column * 65536 + c.format * 4294967296 + value_kind c.value * 281474976710656

-- how many token bytes a formula has in the lowest 16 bits, and then how many bytes come after them
abbrev pub sizes_word : List ℕ → Tokens → ℕ
sizes_word s t = t.length + trailing_size s t * 65536

-- the value field's offset; a formula's token bytes start 16 bytes after it
abbrev pub words_of : List ℕ → Cell → List ℕ
words_of s c = head_word c ∷ value_word c.value ∷ c.field ∷ sizes_word s c.tokens ∷ []

-- how far a listing came: the words, the number of cells, and where it goes on if it has not ended
pub record Batch : Type 0 where
  pub words : List ℕ
  pub cells : ℕ
  pub rest : Option Place

abbrev pub on_listed : (Cell → Place → Batch) → Batch → Option Listed → Batch
on_listed on end (Some x) = on x.cell x.next
on_listed on end None = end

-- at most k cells from v on, put into b after the n that it has
unfoldable pub filled : ℕ → List ℕ → Place → ℕ → List ℕ → Batch
filled zero s v n b = record { words = b; cells = n; rest = Some v }
filled (suc k) s v n b = on_listed (λ c w. filled k s w (n + 1) (sets b (4 * n) (words_of s c))) (record { words = b; cells = n; rest = None }) (next_of s v)

-- as many as there is room for
abbrev pub filled_from : List ℕ → Place → List ℕ → Batch
filled_from s v b = filled (length b / 4) s v 0 b

abbrev pub filled_seen : Batch → Filled
filled_seen x = record { cells = x.cells; rest = x.rest }
