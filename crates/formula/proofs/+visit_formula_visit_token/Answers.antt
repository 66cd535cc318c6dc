use Rattle.std.proofs.Common.{rules}
use Rattle.formula.specs.Parts.{left}
use Rattle.formula.proofs.Visits.{on_next, on_memory}
use Rattle.formula.proofs.+visit_formula_visit_token.Goals as goal

pub visit_formula-loop-place-preserved : goal.visit_formula-loop-place-preserved
visit_formula-loop-place-preserved t c =
    let a = c.after-place.ensures in
    on_next c.args.formula c.loop-place.place (left c.args.before) (left c.loop-place.seen) c.loop-place.invariant (search rules) c.in-Ok.token (c.in-Ok.ensures) c.visit_token.result c.visit_token.ensures c.size.result c.size.ensures c.after-place.result a.bytes a.offset a.depth c.in_ok-seen.seen c.in_ok-seen.was

pub visit_token-returns-in-Memory : goal.visit_token-returns-in-Memory
visit_token-returns-in-Memory t c =
    let p = c.args.place in
    let i = c.inside.ensures in
    on_memory p.bytes.now p.offset p.depth (left c.args.seen) c.requires.some c.args.token c.requires.there c.after_token.result c.after_token.ensures c.in_ok-here.here c.in_ok-here.was c.in-Memory.size c.in-Memory.head c.in-Memory.is c.inside.result i.bytes i.offset i.depth c.visit_formula.result c.visit_formula.ensures
