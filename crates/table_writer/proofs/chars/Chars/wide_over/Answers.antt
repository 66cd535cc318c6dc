use Prim.Native.Nat.{◌+◌, ◌-◌}
use mathlib.Core.Path.{◌≡◌}
use native.Mathlib.Omega.{arith}
use borrow.Author.Rules.{rules}
use Rattle.table_writer.proofs.Laws.{wide_laws}
use Rattle.table_writer.proofs.chars.Chars.wide_over.Goals as goal

pub num_at-requires : goal.num_at-requires
num_at-requires c = search (wide_laws, rules)

pub loop-preserved : goal.loop-preserved
loop-preserved c =
    let more : c.args.self.now.head.chars - c.loop.counter ≡ c.args.self.now.head.chars - (c.loop.counter + 1) + 1 = omega arith in
    search (wide_laws, rules)
