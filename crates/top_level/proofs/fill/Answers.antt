use Rattle.std.proofs.Common.{rules}
use Rattle.top_level.proofs.Laws.{fill_laws}
use Rattle.top_level.proofs.fill.Goals as goal

pub loop-at-init : goal.loop-at-init
loop-at-init c = search (fill_laws, rules)

pub returns-in_err-bof : goal.returns-in_err-bof
returns-in_err-bof c = rw c.from_residual.ensures (search (fill_laws, c.in_err-bof.was, rules))

pub loop-at-preserved : goal.loop-at-preserved
loop-at-preserved c = search (fill_laws, c.in_ok-bof.was, rules)

pub returns : goal.returns
returns c = search (fill_laws, rules)
