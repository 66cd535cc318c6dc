use Rattle.std.proofs.Common.{rules}
use Rattle.compact.proofs.None.{without_laws, none_answer}
use Rattle.compact.proofs.with_slots.Goals as goal

pub new_length-requires : goal.new_length-requires
new_length-requires c = (search (without_laws, rules), search rules)

pub returns-in_err-n-clause-value : goal.returns-in_err-n-clause-value
returns-in_err-n-clause-value c = let h = none_answer c.args.s.now c.args.g c.requires c.args.out.now c.new_length.ensures in search (rules, h)

pub returns-in_err-n-clause-out_after : goal.returns-in_err-n-clause-out_after
returns-in_err-n-clause-out_after c = search (without_laws, rules, c.in_err-n.was)

pub copy_kept-requires : goal.copy_kept-requires
copy_kept-requires c = (search (without_laws, rules), search rules, search (without_laws, rules, c.in_ok-n.was))

pub put_positions-requires : goal.put_positions-requires
put_positions-requires c = (search (without_laws, rules, c.in_ok-n.was), search rules)

pub returns-clause-value : goal.returns-clause-value
returns-clause-value c = search (without_laws, rules, c.in_ok-n.was)

pub returns-clause-out_after : goal.returns-clause-out_after
returns-clause-out_after c = search (without_laws, rules, c.in_ok-n.was)
