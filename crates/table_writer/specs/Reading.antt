-- What is read where a struct says that it stands.
use Rattle.std.specs.Prelude.{ℕ, List, true}
use Rattle.segments.specs.declared.Cursor.{Cursor}
use Rattle.segments.specs.Segments.{Got, list_of, items}
use Rattle.segments.specs.Parts.{ends}
use Rattle.strings.specs.Table.{strings}
use Rattle.table_texts.specs.Texts.{Text}
use Rattle.table_writer.specs.declared.chars.Chars.{Chars}
use Rattle.table_writer.specs.declared.texts.NextText.{NextText}
use Rattle.table_writer.specs.declared.texts.Texts.{Texts}
use Rattle.table_writer.specs.Writing.{next_text, texts_from}

-- the characters of a string, and where they end
abbrev pub units_in : Chars → List ℕ
units_in x = list_of (items 8 x.stream.now true x.head.width x.head.chars x.place)

abbrev pub end_of : Chars → Got Unit
end_of x = ends (items 8 x.stream.now true x.head.width x.head.chars x.place)

-- the next string
abbrev pub next_in : NextText → Got Text
next_in x = next_text x.stream.now x.place

-- strings one after another, by their places and with all that stands with them
abbrev pub strings_in : Texts → Got (List Cursor)
strings_in x = strings x.stream.now x.count x.place

abbrev pub texts_in : Texts → List Text
texts_in x = texts_from x.stream.now x.count x.place
