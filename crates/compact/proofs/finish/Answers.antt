use Rattle.std.proofs.Common.{rules}
use Rattle.compact.proofs.Answers.{finish_laws}
use Rattle.compact.proofs.finish.Goals as goal

pub returns-in_err-n-clause-out_after : goal.returns-in_err-n-clause-out_after
returns-in_err-n-clause-out_after c = search (finish_laws, rules, c.in_err-n.was)

pub write_new-requires : goal.write_new-requires
write_new-requires c =
    (search (finish_laws, rules), search (finish_laws, rules, c.in_ok-n.was))

pub returns-clause-out_after : goal.returns-clause-out_after
returns-clause-out_after c = search (finish_laws, rules, c.in_ok-n.was)
