-- What the contracts of the inner functions speak of.
use Rattle.std.specs.Prelude.{ℕ, zero, suc, ◌+◌, ◌-◌, ◌*◌, ◌≤◌, ◌<◌, ◌≡◌, List, Option, Some, None, length, eqb}
use Rattle.std.proofs.lemmas.List.Edits.{sets}
use Rattle.steps.specs.Choice.{pick}
use Rattle.value.specs.declared.Field.{Field}
use Rattle.value.specs.Value.{value_of}
use Rattle.byte_numbers.specs.Bytes.{u16_at}
use Rattle.steps.specs.Items.{Item, gives, skips, ends}
use Rattle.cell.specs.declared.Cell.{Cell}
use Rattle.cell.specs.Cells.{part_of, cell_of}
use Rattle.listing.specs.Listing.{next_of}
use Rattle.cell_words.specs.declared.Said.{Said}
use Rattle.cell_words.specs.declared.Cells.{Cells}
use Rattle.cell_words.specs.declared.Done.{Done}
use Rattle.cell_words.specs.declared.Done.TheVariants as done
use Rattle.cell_words.specs.declared.Reached.{Reached}
use Rattle.reading.specs.declared.Place.{Place}
use Rattle.reading.specs.Cells.{place_at, remaining}
use Rattle.cell_words.specs.Batch.{value_kind, value_word, words_of, filled}

-- what a value field says
abbrev pub said_of : Field → ℕ → Said
said_of f n = record { kind = value_kind (value_of f n); word = value_word (value_of f n) }

-- the cells of the record at `at`
abbrev pub cells_at : List ℕ → ℕ → Field → Cells
cells_at s at f = record { at = at; field = f; row = u16_at s (at + 4); first = u16_at s (at + 6) }

-- j cells of the record at `at` from the k-th on, put into b after the n that it has
unfoldable pub parts_in : List ℕ → Field → ℕ → ℕ → ℕ → ℕ → List ℕ → List ℕ
parts_in s f at k zero n b = b
parts_in s f at k (suc j) n b = parts_in s f at (k + 1) j (n + 1) (sets b (4 * n) (words_of s (cell_of s f at k)))

-- the k-th part lies in the stream, its column is one, and there is room for its words
abbrev pub PartRoom : List ℕ → Field → ℕ → ℕ → List ℕ → ℕ → Type 0
PartRoom s f at k b n = (at + 8 + k * part_of f + part_of f ≤ length s) × (u16_at s (at + 6) + k < 65536) × (4 * n + 4 ≤ length b)

-- the parts up to the last-th lie in the stream, their columns are columns, and there is room for their words
abbrev pub PartsRoom : List ℕ → Field → ℕ → ℕ → ℕ → List ℕ → ℕ → Type 0
PartsRoom s f at k last b n = (k ≤ last) × (at + 8 + last * part_of f ≤ length s) × (u16_at s (at + 6) + last ≤ 256) × (4 * (n + (last - k)) ≤ length b)

-- of a record's cells, `count` in all, were put into b, after the n that it has, from the k-th on up to the last-th, at least one
pub record Put (s : List ℕ) (f : Field) (at count k n room : ℕ) (b : List ℕ) (last : ℕ) (d : List ℕ) : Type 0 where
  pub order : k < last
  pub within : last ≤ count
  pub fits : last - k ≤ room
  pub words : d ≡ parts_in s f at k (last - k) n b

-- what was done with a record: its one cell was put, or of its parts those up to the last-th, or it has none from the k-th on
abbrev pub Did : List ℕ → Field → ℕ → ℕ → ℕ → ℕ → ℕ → List ℕ → List ℕ → Done → Type 0
Did s f at count k n room b d done.One = (count ≡ 1) × Put s f at count k n room b 1 d
Did s f at count k n room b d (done.Parts c last) = (c ≡ count) × Put s f at count k n room b last d
Did s f at count k n room b d done.None = (count ≤ k) × (d ≡ b)

-- the k-th of the count cells of the record at `at`; after them the next record, at e
unfoldable pub spot_in : ℕ → ℕ → ℕ → ℕ → Place
spot_in at e count k = pick (eqb (count - k) 0) (place_at e 0) (record { at = at; part = k; level = 0 })

-- from n cells to k: what fills the words from there on is the same
pub record Went (s : List ℕ) (m : ℕ) (v : Place) (n : ℕ) (b : List ℕ) (w : Place) (k : ℕ) (d : List ℕ) : Type 0 where
  pub same : filled (m - n) s v n b ≡ filled (m - k) s w k d
  pub size : length d ≡ length b
  pub from : n ≤ k
  pub to : k ≤ m

-- a step over a record that has no cell here
abbrev pub past_step : ℕ → Item Place Cell → Option Reached
past_step n (gives c w) = None
past_step n (skips w) = Some (record { place = w; cells = n })
past_step n ends = None

abbrev pub Stepped : List ℕ → ℕ → Place → ℕ → List ℕ → List ℕ → Option Reached → Type 0
Stepped s m v n b d (Some x) = Went s m v n b x.place x.cells d × (remaining s x.place < remaining s v)
Stepped s m v n b d None = (next_of s v ≡ None) × (d ≡ b)
