-- Each call on inner bytes has fewer of them: the measure is twice the bytes that are left, and one more for a formula than for its first token.
use Rattle.std.proofs.Common.{◌+◌, ◌*◌, length}
use Rattle.tokens.proofs.Formula.{Reached}
use Rattle.tokens.proofs.+judge_formula_judge_token.Given as goal

abbrev pub decreases-judge_formula : goal.decreases-judge_formula
decreases-judge_formula l = 2 * length l.formula.bytes.now + 1

abbrev pub decreases-judge_token : goal.decreases-judge_token
decreases-judge_token l = 2 * length l.place.bytes.now

abbrev pub invariant-judge_formula-loop-place : goal.invariant-judge_formula-loop-place
invariant-judge_formula-loop-place l = Reached l.formula l.place l.stack

abbrev pub decreases-judge_formula-loop-place : goal.decreases-judge_formula-loop-place
decreases-judge_formula-loop-place l = length l.place.bytes.now
