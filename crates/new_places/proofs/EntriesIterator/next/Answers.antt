use Rattle.std.proofs.Common.{arith}
use Rattle.new_places.proofs.Walking.{step_ahead}
use Rattle.new_places.proofs.EntriesIterator.next.Goals as goal

pub invariant_of-self : goal.invariant_of-self
invariant_of-self c =
    let s = c.args.self.now in
    let a = step_ahead s.stream.now s.spot _ c.step_at.ensures _ c.in_ok-step.was in
    record { within = omega arith; level = omega arith }
