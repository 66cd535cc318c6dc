use Rattle.std.proofs.Common.{◌≡◌, sym, ◌∙◌, bit_or, rules}
use Rattle.std.specs.List.{fold}
use borrow.Author.Tests.{eqb-true}
use Rattle.top_level.proofs.Laws.{or_none}
use Rattle.top_level.proofs.none_left.Goals as goal

pub returns : goal.returns
returns c =
    let all : c.fold.result ≡ fold bit_or 0 c.args.slots.now = search rules in
    λ none j _. (or_none c.args.slots.now 0 (sym all ∙ eqb-true c.fold.result 0 none)).1 j
