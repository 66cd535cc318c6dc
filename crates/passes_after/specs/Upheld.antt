-- After a granted correction the stream passes the check.
use Rattle.std.specs.Prelude.{ℕ, ◌≡◌, List}
use Rattle.value.specs.declared.Field.{Field}
use Rattle.new_value.specs.declared.NewValue.{NewValue}
use Rattle.new_value.specs.Change.{Held}
use Rattle.workbook.specs.Check.{checked_of}
use Rattle.correction.specs.Correction.{correction_of, writes, stream_after}

-- where a correction is granted, the stream after it passes the check with the same globals: they end at the same place, with the same string table
-- and the same unique count
abbrev pub Upheld : Type 0
Upheld =
    (s : List ℕ) (lent sheets n row column : ℕ) (v : NewValue) (f : Field) (p b : ℕ) → Held v → correction_of s lent sheets n row column v ≡ writes f p b
    → checked_of (stream_after s (writes f p b)) lent ≡ checked_of s lent
