use Rattle.std.proofs.Common.{◌≡◌, ◌≤◌, ◌-◌, length}
use Rattle.trailing.specs.Trailing.{elements_of}
use Rattle.trailing.proofs.elements.Given as goal

abbrev pub invariant-loop : goal.invariant-loop
invariant-loop l = (l.at ≤ length l.t) × (elements_of (l.count - l.counter) l.t l.at ≡ elements_of l.count l.t 3)
