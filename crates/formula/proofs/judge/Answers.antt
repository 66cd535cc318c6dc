use Rattle.formula.proofs.Judged.{judged}
use Rattle.formula.proofs.judge.Goals as goal

pub returns-in-Ok : goal.returns-in-Ok
returns-in-Ok c = judged c.args.tokens.now c.args.trailing.now c.judge_tokens.result c.judge_tokens.ensures c.in_ok-judge_tokens.field-0 c.in_ok-judge_tokens.was c.visit_formula.result c.visit_formula.ensures c.in-Ok.seen c.verdict.result c.in-Ok.is c.verdict.ensures
