-- What the contracts of a pair of records speak of.
use Rattle.std.specs.Prelude.{ℕ, ◌+◌, ◌*◌, ◌<◌, ◌≡◌, List}
use Rattle.byte_numbers.specs.Bytes.{u32_at}
use Rattle.record.specs.declared.Header.TheVariants.{Record}
use Rattle.record.specs.Record.{header_at}
use Rattle.cell.specs.Cells.{shape_of, field_of, row_at, first_at}
use Rattle.records_abreast.specs.declared.pair.Pair.{Pair}
use Rattle.records_abreast.specs.Abreast.{AllAgree}

-- the records at a and at b
pub record Beside (s : List ℕ) (a : ℕ) (t : List ℕ) (b : ℕ) (p : Pair) : Type 0 where
  pub first : p.first.now ≡ s
  pub here : p.here ≡ a
  pub second : p.second.now ≡ t
  pub there : p.there ≡ b
  pub first_header : header_at p.first.now p.here ≡ Record p.kind p.size (p.here + 4 + p.size)
  pub second_header : header_at p.second.now p.there ≡ Record p.kind p.size (p.there + 4 + p.size)

-- their first cells stand at one address
pub record SameAddress (p : Pair) : Type 0 where
  pub row : row_at p.first.now p.here ≡ row_at p.second.now p.there
  pub column : first_at p.first.now p.here ≡ first_at p.second.now p.there

-- the first n RK words, in parts of 6 bytes, are the same
abbrev pub SameWords : Pair → ℕ → Type 0
SameWords p n = (k : ℕ) → k < n → u32_at p.first.now (p.here + 8 + 6 * k + 2) ≡ u32_at p.second.now (p.there + 8 + 6 * k + 2)

-- their cells have equal values, as long as the first m strings are the same in both tables
abbrev pub SameValues : Pair → ℕ → Type 0
SameValues p m = AllAgree p.first.now p.second.now m (field_of (shape_of p.kind)) (p.here + 8) (p.there + 8) p.count
