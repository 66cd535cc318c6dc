use Rattle.compact.proofs.Prepare.{check_laws}
use Rattle.std.proofs.Common.{rules}
use Rattle.compact.proofs.compact.Goals as goal

pub returns-clause-out_after : goal.returns-clause-out_after
returns-clause-out_after c = search (check_laws, rules, c.in_ok-check_with.was)
