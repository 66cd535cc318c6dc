use Rattle.std.proofs.Common.{◌∙◌}
use Rattle.std.proofs.lemmas.Iterator.Consumers.{YieldsList-from_first, nth_from_yields_List}
use Rattle.globals.specs.Sheets.{declared, sheets_of}
use Rattle.globals.specs.Left.{left}
use Rattle.listing.proofs.Laws.{sought_none, sought_some, sought_room}
use Rattle.listing.proofs.find_sheet.Goals as goal

pub returns-in_err-sheet-clause-value : goal.returns-in_err-sheet-clause-value
returns-in_err-sheet-clause-value c =
    let got = nth_from_yields_List c.nth.result c.nth.new.self c.args.n c.nth.ensures.ran (YieldsList-from_first declared left (sheets_of c.args.s.now) c.of.ensures) in
    c.from_residual.ensures ∙ sought_none _ _ _ got c.in_err-sheet.was

pub returns : goal.returns
returns c =
    let got = nth_from_yields_List c.nth.result c.nth.new.self c.args.n c.nth.ensures.ran (YieldsList-from_first declared left (sheets_of c.args.s.now) c.of.ensures) in
    record { value = sought_some _ _ _ got _ c.in_ok-sheet.was; sought_within = sought_room _ _ _ got _ c.in_ok-sheet.was }
