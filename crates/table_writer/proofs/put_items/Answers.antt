use mathlib.Core.Path.{refl}
use native.Mathlib.Omega.{arith}
use Rattle.table_writer.proofs.Stay.{plain_room, plain_ends, plain_wrote}
use Rattle.table_writer.proofs.put_items.Goals as goal

pub add_from-requires : goal.add_from-requires
add_from-requires c =
    let t = c.stays.ensures.0 c.if-stays.true in
    let within = t.2 in
    (omega arith, t.3, plain_room c.args.s.now c.type_inv.s c.args.flagged c.args.w c.args.v c.args.n c.args.c c.args.o.now.room t c.args.buf.now c.args.o.now refl c.requires.4)

pub returns-then-stays-clause-place_after : goal.returns-then-stays-clause-place_after
returns-then-stays-clause-place_after c = plain_ends c.args.s.now c.type_inv.s c.args.flagged c.args.w c.args.v c.args.n c.args.c c.args.o.now.room (c.stays.ensures.0 c.if-stays.true) _ refl

pub returns-then-stays-clause-out_after : goal.returns-then-stays-clause-out_after
returns-then-stays-clause-out_after c = plain_wrote c.args.s.now c.type_inv.s c.args.flagged c.args.w c.args.v c.args.n c.args.c c.args.o.now.room (c.stays.ensures.0 c.if-stays.true) _ _ refl _ _ c.add_from.ensures
