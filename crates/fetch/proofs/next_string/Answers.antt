use Rattle.std.proofs.Common.{rules}
use Rattle.strings.proofs.Laws.{place_inside}
use Rattle.fetch.proofs.next_string.Goals as goal

pub string_from-requires : goal.string_from-requires
string_from-requires c = search (place_inside, rules)
