use borrow.Author.Rules.{rules}
use Rattle.table_writer.proofs.Parts.{from_laws, some_item, some_laws}
use Rattle.table_writer.proofs.put_some.Goals as goal

pub num_at-requires : goal.num_at-requires
num_at-requires c =
    let i = some_item c.args.chars.now.stream.now c.args.flags c.args.chars.now.head c.args.chars.now.place c.args.chars.now.passes _ c.room_for.ensures _ c.unwrap-width.ensures c.requires.0 c.args.chars.now.some c.args.chars.now.small in
    search (some_laws, i, rules)

pub put_start-requires : goal.put_start-requires
put_start-requires c = search (some_laws, from_laws, rules)

pub put_items-requires : goal.put_items-requires
put_items-requires c = search (some_laws, from_laws, rules)

pub returns-clause-out_after : goal.returns-clause-out_after
returns-clause-out_after c = search (some_laws, from_laws, rules)
