use Rattle.std.proofs.lemmas.Iterator.Consumers.{YieldsList-from_first, count_from_yields_List}
use Rattle.globals.specs.Sheets.{declared, sheets_of}
use Rattle.globals.specs.Left.{left}
use Rattle.workbook.proofs.sheet_count.Goals as goal

pub returns : goal.returns
returns c = count_from_yields_List _ _ c.count.ensures.ran (YieldsList-from_first declared left (sheets_of c.args.s.now) c.of.ensures)
