use native.Mathlib.Omega.{arith}
use Rattle.table_writer.proofs.Stay.{plain_wide}
use Rattle.table_writer.proofs.chars.Chars.is_wide.Goals as goal

pub returns-then-self-place : goal.returns-then-self-place
returns-then-self-place c =
    plain_wide c.args.self.now.stream.now (λ i. let b = c.args.self.now.bytes i in omega arith) c.args.self.now.head.width c.args.self.now.head.chars c.args.self.now.place c.if-self-eq1.true c.if-self-place.true
