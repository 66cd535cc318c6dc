use Rattle.std.proofs.Common.{◌+◌, ◌*◌, arith}
use Rattle.std.proofs.lemmas.Grind.{common_steps}
use Rattle.flags.proofs.Laws.{set_most, set_whole}
use Rattle.flags.proofs.rank_words.Goals as goal

pub overflow_add-r : goal.overflow_add-r
overflow_add-r c =
    let e = set_whole c.args.flags.now c.loop-j.j (c.type_inv.flags c.loop-j.j) in
    omega (arith, set_most c.args.flags.now ((c.loop-j.j + 1) * 64))

pub loop-j-preserved : goal.loop-j-preserved
loop-j-preserved c =
    let e = set_whole c.args.flags.now c.loop-j.j (c.type_inv.flags c.loop-j.j) in
    (omega arith, λ k h. grind (arith, common_steps, c.loop-j.invariant.1 k))
