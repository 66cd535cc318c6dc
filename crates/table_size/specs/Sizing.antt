-- How many bytes a table that is written anew has. Counting stops past the most that a stream may have.
use Rattle.std.specs.Prelude.{ℕ, zero, suc, ◌+◌, ◌-◌, ◌≤◌, ◌<◌, ◌≡◌, List, [], ◌∷◌, length, ltb}
use Rattle.steps.specs.Choice.{pick}
use Rattle.table_texts.specs.Texts.{Text}
use Rattle.table_texts.specs.Written.{Piece, table_size}
use Rattle.table_size.specs.declared.span.Span.{Span}

abbrev pub most : ℕ
most = 16777216

-- the room that is left in the segment at hand and the bytes so far, after a piece of n bytes before which k stand where it opens a CONTINUE
abbrev pub plus : Span → ℕ → ℕ → Span
plus g k n = pick (ltb g.room n) (record { room = 8224 - (k + n); size = g.size + (4 + k + n) }) (record { room = g.room - n; size = g.size + n })

unfoldable pub sized_by : Span → ℕ → ℕ → Span
sized_by g k n = pick (ltb most g.size) g (plus g k n)

-- m such pieces
unfoldable pub sized_items : Span → ℕ → ℕ → ℕ → Span
sized_items g k n zero = g
sized_items g k n (suc m) = sized_items (sized_by g k n) k n m

-- pieces one after another
unfoldable pub sized : Span → List Piece → Span
sized g [] = g
sized g (p ∷ ps) = sized (sized_by g (length p.opening) (length p.body)) ps

-- the size of the table of these strings; where that is over the most, some number over it
pub record Counted (ts : List Text) (n : ℕ) : Type 0 where
  pub right : table_size ts ≤ most → n ≡ table_size ts
  pub over : most < table_size ts → most < n
