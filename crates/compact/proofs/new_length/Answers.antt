use Rattle.std.proofs.Common.{arith}
use Rattle.compact.proofs.Answers.{measured_large, measured_short, measured_written}
use Rattle.compact.proofs.new_length.Goals as goal

pub returns-then-n-gt16777216 : goal.returns-then-n-gt16777216
returns-then-n-gt16777216 c = measured_large _ _ c.args.room _ c.length_with-n.ensures (omega arith)

pub returns-then-room-n : goal.returns-then-room-n
returns-then-room-n c = measured_short _ _ c.args.room _ c.length_with-n.ensures (omega arith) (omega arith)

pub returns : goal.returns
returns c = measured_written _ _ c.args.room _ c.length_with-n.ensures (omega arith) (omega arith)
