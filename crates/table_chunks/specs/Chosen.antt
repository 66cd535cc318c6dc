-- The strings that are used, from a cursor and an index on.
use Rattle.std.specs.Prelude.{ℕ, List}
use Rattle.segments.specs.declared.Cursor.{Cursor}
use Rattle.table_texts.specs.Texts.{Text, kept}
use Rattle.table_writer.specs.declared.texts.Texts.{Texts}
use Rattle.table_writer.specs.Writing.{texts_from}
use Rattle.new_stream.specs.Entries.{entries_of}
use Rattle.new_stream.specs.Compact.{texts_in}
use Rattle.new_table.specs.NewTable.{marks_from}

-- of k strings from c on, the first of which has the index base
abbrev pub chosen : List ℕ → ℕ → ℕ → Cursor → List Text
chosen s base k c = kept (marks_from (texts_in s (entries_of s)) base k) (texts_from s k c)

-- of all of them
abbrev pub used_of : ℕ → Texts → List Text
used_of base x = chosen x.stream.now base x.count x.place
