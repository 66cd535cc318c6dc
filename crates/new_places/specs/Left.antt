-- The entries that an iterator has left.
use Rattle.std.specs.Prelude.{List}
use Rattle.new_stream.specs.declared.Entry.{Entry}
use Rattle.new_stream.specs.Entries.{entries_from}
use Rattle.new_places.specs.declared.Entries.{Entries}

abbrev pub left : Entries → List Entry
left e = entries_from e.stream.now e.spot
