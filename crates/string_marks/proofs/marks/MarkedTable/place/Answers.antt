use Rattle.string_marks.proofs.Laws.{mark_low, mark_on, place_ok, place_there}
use borrow.Author.Rules.{rules}
use Rattle.string_marks.proofs.marks.MarkedTable.place.Goals as goal

pub cursor-requires : goal.cursor-requires
cursor-requires c = mark_low c.args.self.now c.args.i _ c.requires.0 c.requires.1

pub next_place-requires : goal.next_place-requires
next_place-requires c = search (mark_on, rules)

pub unwrap-requires : goal.unwrap-requires
unwrap-requires c = search place_ok

pub returns : goal.returns
returns c = search place_there
