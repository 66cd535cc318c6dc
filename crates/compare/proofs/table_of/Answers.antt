use native.Mathlib.Omega.{arith}
use Rattle.compare.proofs.Laws.{tabled}
use Rattle.compare.proofs.table_of.Goals as goal

pub invariant_of-result : goal.invariant_of-result
invariant_of-result c =
    let t = tabled c.args.stream.now c.args.g c.requires in record { absent = t.absent; within = t.stands; counted = t.counted }

pub returns-clause-within : goal.returns-clause-within
returns-clause-within c = (tabled c.args.stream.now c.args.g c.requires).within

pub returns-clause-short : goal.returns-clause-short
returns-clause-short c = let t = (tabled c.args.stream.now c.args.g c.requires).short in omega arith

pub returns-clause-small : goal.returns-clause-small
returns-clause-small c = (tabled c.args.stream.now c.args.g c.requires).small
