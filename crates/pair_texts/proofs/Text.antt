-- The laws of a text result over the pair. Assumes nothing.
use Prim.Native.Nat.{ℕ}
use mathlib.Core.Path.{◌≡◌}
use mathlib.Core.List.{List}
use lib.ListN.{length}
use Rattle.std.specs.Prelude.{Result}
use Rattle.reading.specs.Cells.{listed_from}
use Rattle.reading.specs.Reading.{start_by}
use Rattle.correction.specs.Correction.{cells_at}
use Rattle.cell_text.specs.CellText.{answer_to, buffer_to}
use Rattle.pair.specs.declared.PairRefusal.{PairRefusal}
use Rattle.pair.specs.declared.Where.{Where}
use Rattle.pair.specs.Pair.{sheet_from}
use Rattle.pair.specs.Parts.{stream_of, found_of}
use Rattle.pair.proofs.Laws.{and_then, on_found, seen}
use Rattle.pair_texts.specs.declared.PairFetched.{PairFetched}
use Rattle.pair_texts.specs.Texts.{told_of, pair_text_of, pair_text_buffer}

module _ (t s : List ℕ) (n row column : ℕ) (b : List ℕ) where
  abbrev text_in : Where → Result PairFetched PairRefusal
  text_in w = let x = stream_of w.whose t s in told_of w.whose (answer_to x b (cells_at row column (listed_from x (start_by (length x) w.sheet.position w.sheet.kind))))

  abbrev buffer_in : Where → List ℕ
  buffer_in w = let x = stream_of w.whose t s in buffer_to x b (cells_at row column (listed_from x (start_by (length x) w.sheet.position w.sheet.kind)))

  pub text_by : pair_text_of t s n row column b ≡ and_then text_in (found_of t s n)
  unfolding pair_text_of sheet_from
  text_by = seen t s n (and_then text_in)

  pub buffer_by : pair_text_buffer t s n row column b ≡ on_found b buffer_in (found_of t s n)
  unfolding pair_text_buffer sheet_from
  buffer_by = seen t s n (on_found b buffer_in)

pub ruleset text_laws = (text_by, buffer_by)
