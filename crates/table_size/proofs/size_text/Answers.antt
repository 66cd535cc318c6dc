use native.Mathlib.Omega.{arith}
use borrow.Author.Rules.{rules}
use Rattle.table_size.proofs.Counting.{text_laws}
use Rattle.table_size.proofs.size_text.Goals as goal

pub invariant_of-chars : goal.invariant_of-chars
invariant_of-chars c = record { bytes = λ i. let b = c.type_inv.s i in omega arith; inside = search (text_laws, rules); some = search (text_laws, rules); small = search (text_laws, rules); passes = search (text_laws, rules) }

pub bounds-s-d : goal.bounds-s-d
bounds-s-d c = search (text_laws, rules)

pub returns : goal.returns
returns c = search (text_laws, rules)
