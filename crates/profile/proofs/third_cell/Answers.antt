use Rattle.std.proofs.Common.{refl}
use Rattle.std.proofs.lemmas.Iterator.Consumers.{YieldsList-from_first, nth_from_yields_List}
use Rattle.reading.specs.Cells.{listed_from}
use Rattle.listing.specs.Left.{left}
use Rattle.profile.proofs.Laws.{third_got}
use Rattle.profile.proofs.third_cell.Goals as goal

pub returns : goal.returns
returns c = third_got _ _ (nth_from_yields_List c.nth.result c.nth.new.self 2 c.nth.ensures.ran (YieldsList-from_first (λ x. x) left (listed_from c.args.s.now c.args.from) refl))
