use Rattle.std.proofs.Common.{rules}
use Rattle.cell_words.proofs.Parts.{parts_fit}
use Rattle.cell_words.proofs.put_many.Goals as goal

pub put_parts-requires-clause-room : goal.put_parts-requires-clause-room
put_parts-requires-clause-room c = search (parts_fit, rules)
