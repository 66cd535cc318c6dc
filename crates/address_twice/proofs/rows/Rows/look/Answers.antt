use Rattle.address_twice.proofs.Laws.{step_below, step_after}
use borrow.Author.Rules.{rules}
use Rattle.address_twice.proofs.rows.Rows.look.Goals as goal

pub returns-then-row-self : goal.returns-then-row-self
returns-then-row-self c = step_below _ _ _ _ _ _ c.args.self.now.round _ _ _ c.from-first.ensures c.from-count.ensures c.from-row.ensures c.if-first-count-gt256.false c.if-row-self.true

pub returns-then-self-row : goal.returns-then-self-row
returns-then-self-row c =
    step_after _ _ _ _ _ _ c.args.self.now.round _ _ _ c.from-first.ensures c.from-count.ensures c.from-row.ensures c.if-first-count-gt256.false (search rules) c.if-self-row.true _ c.min.ensures
