-- The sheets that an iterator has left.
use Rattle.std.specs.Prelude.{List}
use Rattle.sheet_agreement.specs.Agreement.{Sheet}
use Rattle.globals.specs.declared.Boundsheets.{Boundsheets}
use Rattle.globals.specs.Sheets.{sheets_from}

abbrev pub left : Boundsheets → List Sheet
left e = sheets_from e.stream.now e.at
