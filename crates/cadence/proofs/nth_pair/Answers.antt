use Rattle.std.proofs.Common.{refl, ap, ◌∙◌, ok_or}
use Rattle.std.proofs.lemmas.Iterator.Consumers.{YieldsList-from_first, nth_from_yields_List}
use Rattle.cadence.specs.Left.{left}
use Rattle.cadence.specs.Steps.{pairs_from}
use Rattle.cadence.proofs.Steps.{nth_got}
use Rattle.cadence.proofs.nth_pair.Goals as goal

pub returns : goal.returns
returns c =
    c.ok_or.ensures.value
    ∙ nth_got c.args.s.now c.args.from c.args.n c.nth.result (nth_from_yields_List c.nth.result c.nth.new.self c.args.n c.nth.ensures.ran (YieldsList-from_first (λ x. x) left (pairs_from c.args.s.now c.args.from) refl))
