use Rattle.compact.proofs.Laws.{entry_table}
use Rattle.compact.proofs.plan.Plan.put_table.Goals as goal

pub returns-in-Table : goal.returns-in-Table
returns-in-Table c = entry_table c.args.self.now c.args.x.at c.args.x.size c.args.place c.args.out.now c.args.x.fate _ c.in-Table.is c.put_new.ensures.buf_after
