use Rattle.std.proofs.Common.{rules}
use Rattle.cell_words.proofs.Steps.{step_laws}
use Rattle.cell_words.proofs.step_record.Goals as goal

pub returns-in-One : goal.returns-in-One
returns-in-One c = search (step_laws, rules)

pub returns-in-Parts : goal.returns-in-Parts
returns-in-Parts c = search (step_laws, rules)
