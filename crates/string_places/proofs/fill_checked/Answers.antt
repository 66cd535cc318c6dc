use Rattle.string_places.proofs.Filling.{fill_short, table_short, fill_done, table_done}
use Rattle.string_places.proofs.fill_checked.Goals as goal

pub returns-then-table-numbers-clause-value : goal.returns-then-table-numbers-clause-value
returns-then-table-numbers-clause-value c = fill_short _ _ _ c.requires.1 _ c.if-table-numbers.true

pub returns-then-table-numbers-clause-table_after : goal.returns-then-table-numbers-clause-table_after
returns-then-table-numbers-clause-table_after c = table_short _ _ _ c.requires.1 _ c.if-table-numbers.true

pub returns-clause-value : goal.returns-clause-value
returns-clause-value c = fill_done _ _ _ c.requires.1 _ c.if-table-numbers.false

pub returns-clause-table_after : goal.returns-clause-table_after
returns-clause-table_after c = table_done _ _ _ c.requires.1 _ c.if-table-numbers.false _ _ c.put_all.ensures c.put_unused.ensures
