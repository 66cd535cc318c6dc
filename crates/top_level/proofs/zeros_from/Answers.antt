use Rattle.std.proofs.Common.{◌≡◌, refl, ap, drop, eqb, ◌∙◌, rules, tests, List, ℕ, arith}
use Rattle.std.proofs.lemmas.Iterator.{YieldsList-from_slice}
use Rattle.std.proofs.lemmas.Iterator.Search.{all_from_yields_List}
use Rattle.std.proofs.lemmas.Grind.{common_steps}
use Rattle.top_level.specs.TopLevel.{all_zero}
use Rattle.top_level.proofs.Bofs.{zeros_all}
use Rattle.top_level.proofs.zeros_from.Goals as goal

pub returns-else-s-at : goal.returns-else-s-at
returns-else-s-at c =
    let xs : List ℕ = c.iter.result.rest.now in
    let is : xs ≡ drop c.args.at c.args.s.now = grind (arith, common_steps) in
    all_from_yields_List (λ x. eqb x 0) _ _ c.all.result c.all.ensures.ran (YieldsList-from_slice xs refl) (λ x b q k. search (rules, tests)) ∙ zeros_all xs ∙ ap all_zero is
