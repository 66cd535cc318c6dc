use Rattle.std.proofs.Common.{rules, arith, ◌<◌, sum, map, ◌∙◌}
use Rattle.std.proofs.lemmas.Iterator.{YieldsList-from_map}
use Rattle.std.proofs.lemmas.Iterator.Consumers.{YieldsList-from_first, YieldsList-at, fits_from_yields_list, sum_from_yields_List}
use Rattle.new_stream.specs.declared.Entry.{Entry}
use Rattle.new_stream.specs.Entries.{entries_of, size_for, start}
use Rattle.new_places.specs.Left.{left}
use Rattle.new_places.proofs.Whole.{sizes_small, sizes_sum, length_of}
use Rattle.new_places.proofs.length_with.Goals as goal

pub sum-requires-clause-fits : goal.sum-requires-clause-fits
sum-requires-clause-fits c =
    let n = c.args.table in
    let s = c.args.s.now in
    let small : sum (map (λ (x : Entry). size_for n x.size x.fate) (entries_of s)) < 18446744073709551616 = omega (arith, sizes_sum n (entries_of s), sizes_small s n (omega arith) start) in
    fits_from_yields_list _ _ (YieldsList-from_map _ (λ (x : Entry). size_for n x.size x.fate) (YieldsList-at c.map.ensures.source (YieldsList-from_first (λ x. x) left (entries_of s) c.of.ensures)) c.map.ensures.closure (λ x r q k. search rules)) small

pub returns : goal.returns
returns c =
    let n = c.args.table in
    let s = c.args.s.now in
    length_of s n _ (sum_from_yields_List _ _ c.sum.ensures.ran (YieldsList-from_map _ (λ (x : Entry). size_for n x.size x.fate) (YieldsList-at c.map.ensures.source (YieldsList-from_first (λ x. x) left (entries_of s) c.of.ensures)) c.map.ensures.closure (λ x r q k. search rules)) ∙ sizes_sum n (entries_of s))
