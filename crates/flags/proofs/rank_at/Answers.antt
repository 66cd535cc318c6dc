use Rattle.std.proofs.Common.{◌/◌, arith}
use Rattle.flags.proofs.Laws.{set_most, set_masked}
use Rattle.flags.proofs.rank_at.Goals as goal

pub overflow_add-result : goal.overflow_add-result
overflow_add-result c =
    let rank = c.requires.0.at (c.args.i / 64) c.requires.1 in
    omega (arith, set_masked c.args.flags.now c.args.i, set_most c.args.flags.now c.args.i)
