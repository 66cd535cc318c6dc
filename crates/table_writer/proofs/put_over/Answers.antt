use Prim.Native.Nat.{◌+◌, ◌-◌}
use mathlib.Core.Path.{◌≡◌}
use native.Mathlib.Omega.{arith}
use borrow.Author.Rules.{rules}
use Rattle.table_writer.proofs.Laws.{turn_laws}
use Rattle.table_writer.proofs.put_over.Goals as goal

pub num_at-requires : goal.num_at-requires
num_at-requires c = search (turn_laws, rules)

pub loop-preserved : goal.loop-preserved
loop-preserved c =
    let more : c.args.n - c.loop.counter ≡ c.args.n - (c.loop.counter + 1) + 1 = omega arith in
    search (turn_laws, rules)
