-- What the contracts speak of.
use Rattle.std.specs.Prelude.{ℕ, ◌≡◌}
use Rattle.segments.specs.declared.Cursor.{Cursor}
use Rattle.segments.specs.Segments.{got}
use Rattle.segments.specs.Parts.{ends}
use Rattle.strings.specs.Table.{strings, first}
use Rattle.string_marks.specs.declared.table.Table.{Table}
use Rattle.string_marks.specs.Marks.{end_at}
use Rattle.string_links.specs.Links.{strings_in}
use Rattle.records_abreast.specs.Abreast.{Common}

-- the cursor after the first i strings of a table
unfoldable pub Reached : Table → ℕ → Cursor → Type 0
Reached t i c = ends (strings t.stream.now i (first t.place (end_at t.stream.now t.place))) ≡ got tt c

-- the first i strings of both tables are the same
pub record Shared (t u : Table) (i : ℕ) : Type 0 where
  pub common : Common (strings_in t) (strings_in u) i
