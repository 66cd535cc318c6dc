use Rattle.string_places.proofs.Laws.{entry_second}
use borrow.Author.Rules.{rules}
use Rattle.string_places.proofs.put_entry.Goals as goal

pub bounds-table-j-2 : goal.bounds-table-j-2
bounds-table-j-2 c = search (entry_second, rules)
