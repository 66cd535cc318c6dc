use Rattle.std.proofs.Common.{rules, refl, arith, ◌≤◌}
use Rattle.compact.proofs.Prepare.{with_laws, with_inside, with_passes, with_plan}
use Rattle.compact.proofs.with_flags.Goals as goal

pub count_texts-census-requires : goal.count_texts-census-requires
count_texts-census-requires c = search (with_laws, rules)

pub invariant_of-texts : goal.invariant_of-texts
invariant_of-texts c = record {
  short = search (with_laws, rules);
  few = search (with_laws, rules);
  inside = with_inside _ _ c.requires _ c.args.g.unique c.table_end-end.ensures refl;
  passes = with_passes _ _ c.requires _ c.args.g.unique c.table_end-end.ensures refl;
}

pub overflow_cast-plan : goal.overflow_cast-plan
overflow_cast-plan c = record { fits = search (with_laws, rules) }

pub overflow_cast-plan-2 : goal.overflow_cast-plan-2
overflow_cast-plan-2 c = record { fits = search (with_laws, rules) }

pub invariant_of-plan : goal.invariant_of-plan
invariant_of-plan c = record { counted = search (with_laws, rules); sized = search (with_laws, rules) }

pub finish-requires : goal.finish-requires
finish-requires c =
    let small : c.size_all-new.result.size ≤ 16777216 = omega arith in
    let census = c.count_texts-census.ensures in
    with_plan _ _ c.requires _ c.args.g.unique c.table_end-end.ensures refl _ _ refl census.0 small census.1
