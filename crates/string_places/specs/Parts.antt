-- What the contracts of the inner functions speak of.
use Rattle.std.specs.Prelude.{ℕ, ◌+◌, ◌≤◌, set, eqb, ◌≡◌, List, true}
use Rattle.segments.specs.Segments.{Got, got, refused}
use Rattle.steps.specs.Choice.{pick}
use Rattle.record.specs.declared.Header.TheVariants.{Record}
use Rattle.record.specs.Record.{header_at}
use Rattle.segments.specs.declared.Cursor.{Cursor}
use Rattle.string_places.specs.Places.{holds_strings}

-- a cursor in the body of an SST or a CONTINUE, or at its end
pub record Segment (s : List ℕ) (c : Cursor) : Type 0 where
  pub kind : ℕ
  pub size : ℕ
  pub header : header_at s c.seg ≡ Record kind size c.end
  pub holds : holds_strings kind ≡ true
  pub low : c.seg + 4 ≤ c.at

-- the table with a string's place at j
abbrev pub with_entry : List ℕ → ℕ → Got Unit → List ℕ
with_entry t j (got u d) = set (set t j d.at) (j + 1) d.seg
with_entry t j (refused n o) = t

-- how many strings there are, of what the check gave: its unique count is lent where the stream has no SST
unfoldable pub count_of : ℕ → ℕ → ℕ
count_of table unique = pick (eqb table 0) 0 unique
