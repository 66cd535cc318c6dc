use mathlib.Core.Path.{sym, ◌∙◌}
use borrow.Author.Tests.{ne_eqb}
use Rattle.text_equality.proofs.Lists.{order_same, apart_not_same}
use Rattle.text_equality.proofs.standing.Run.is_same.Goals as goal

pub returns-then-count : goal.returns-then-count
returns-then-count c = c.is_eq.ensures ∙ order_same _ _ _ c.order.ensures

pub returns-else-count : goal.returns-else-count
returns-else-count c = ne_eqb _ _ c.if-count.false ∙ apart_not_same _ _ _ _ (sym c.count.ensures) (sym c.count-2.ensures) c.if-count.false
