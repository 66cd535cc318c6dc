-- What the laws speak of. Nothing here is part of the claims.
use Rattle.std.specs.Prelude.{ℕ, ◌+◌, ◌*◌, ◌≤◌, ◌<◌, ◌≡◌, List, ◌⊎◌, Bool, true, ◌&&◌, eqb, length, get_or}
use Rattle.steps.specs.Choice.{pick}
use Rattle.record.specs.declared.Header.TheVariants.{Record}
use Rattle.record.specs.Record.{header_at}
use Rattle.value.specs.declared.CellValue.{CellValue}
use Rattle.value.specs.Value.{width_of, value_of}
use Rattle.cell.specs.declared.Cell.{Cell}
use Rattle.cell.specs.Cells.{shape_of, field_of, part_of, count_of, field_at}
use Rattle.record_after.specs.Claims.{place_of, revalued}
use Rattle.substream.specs.declared.Here.{Here}
use Rattle.std.specs.Prelude.{Ok}
use Rattle.substream.specs.Substream.{records_from, substream_in}
use Rattle.segments.specs.Parts.{Passes}
use Rattle.text_result.specs.TextResult.{has_text, text_of}
use Rattle.record_chain.specs.Chain.{Plain}
use Rattle.passes_after.specs.Granted.{Listed}

-- ---- a stream in which one value field was written
-- where the value field of the k-th cell of a record of type t starts, and where it ends
abbrev pub field_from : ℕ → ℕ → ℕ → ℕ
field_from t a k = place_of (field_of (shape_of t)) a k

abbrev pub field_to : ℕ → ℕ → ℕ → ℕ
field_to t a k = field_from t a k + width_of (field_of (shape_of t))

-- s' differs from s only in the value field of the k-th cell of the record that stands from a to e, which then says v
pub record Corrected (s s' : List ℕ) (a t z e k : ℕ) (v : CellValue) : Type 0 where
  pub size : length s ≡ length s'
  pub whole : header_at s a ≡ Record t z e
  pub below : k < count_of (shape_of t) s a z
  pub else : (j : ℕ) → (j < field_from t a k) ⊎ (field_to t a k ≤ j) → get_or s j 0 ≡ get_or s' j 0
  pub now : value_of (field_of (shape_of t)) (field_at (field_of (shape_of t)) s' (a + 8 + k * part_of (field_of (shape_of t)))) ≡ v

-- a cell, where the value field at p was written and says v
unfoldable pub written : ℕ → CellValue → Cell → Cell
written p v c = pick (eqb c.field p) (revalued c v) c

-- whether a cell has the address, as `cells_at` asks it
abbrev pub addressed : ℕ → ℕ → Cell → Bool
addressed row column c = eqb c.row row && eqb c.column column

-- ---- where the listing of a worksheet's cells goes
-- a record at `at`, inside l substreams of the worksheet that ends at `to`: the walk of each of them from there on comes to its end. The walk goes past a
-- formula's text result in one step: the records of it are plain, and lead to where the walk goes on
pub data Inside (s : List ℕ) (u to : ℕ) : ℕ → ℕ → Type 0 where
  sheet : {l at : ℕ} (h : Here) → l ≡ 0 → h.at ≡ at → records_from (substream_in 3 s u 0x0020) s 0x0010 u h ≡ Ok to → Inside s u to l at
  chart : {l at : ℕ} (m d e : ℕ) (h : Here) → l ≡ m + 1 → m + d ≡ 2 → h.at ≡ at → records_from (substream_in d s u 0x0020) s 0x0020 u h ≡ Ok e → Inside s u to m e → Inside s u to l at
  plain : {l at : ℕ} (e : ℕ) → Plain s at e → Inside s u to l e → Inside s u to l at

-- a listed cell whose record ends at or before `to`; where it is a formula with a text result, nothing of that is refused
pub record ListedTo (s : List ℕ) (from to : ℕ) (c : Cell) : Type 0 where
  pub listed : Listed s from c
  pub ends : listed.end ≤ to
  pub text : has_text s listed.type listed.at ≡ true → Passes (text_of s listed.at listed.end)
