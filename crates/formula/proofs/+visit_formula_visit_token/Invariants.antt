-- Each call on inner bytes has fewer of them: the measure is twice the bytes that are left, and one more for a formula than for its first token.
use Rattle.std.proofs.Common.{◌+◌, ◌*◌, length}
use Rattle.formula.specs.Parts.{left}
use Rattle.formula.proofs.Visits.{Reached}
use Rattle.formula.proofs.+visit_formula_visit_token.Given as goal

abbrev pub decreases-visit_formula : goal.decreases-visit_formula
decreases-visit_formula l = 2 * length l.formula.bytes.now + 1

abbrev pub decreases-visit_token : goal.decreases-visit_token
decreases-visit_token l = 2 * length l.place.bytes.now

abbrev pub invariant-visit_formula-loop-place : goal.invariant-visit_formula-loop-place
invariant-visit_formula-loop-place l = Reached l.formula l.place (left l.before) (left l.seen)

abbrev pub decreases-visit_formula-loop-place : goal.decreases-visit_formula-loop-place
decreases-visit_formula-loop-place l = length l.place.bytes.now
