use Prim.Native.Nat.{◌+◌, ◌-◌, ◌*◌}
use mathlib.Core.Path.{◌≡◌}
use native.Mathlib.Omega.{arith}
use borrow.Author.Rules.{rules}
use Rattle.string_places.proofs.Laws.{next_ok, places_end, places_laws}
use Rattle.string_places.proofs.put_places.Goals as goal

pub unwrap-d-requires : goal.unwrap-d-requires
unwrap-d-requires c = search (next_ok, rules)

pub loop-i-preserved : goal.loop-i-preserved
loop-i-preserved c =
    let left : c.args.n - c.loop-i.i ≡ c.args.n - (c.loop-i.i + 1) + 1 = omega arith in
    let on : 2 * (c.loop-i.i + 1) ≡ 2 * c.loop-i.i + 2 = omega arith in
    search (places_laws, rules)

pub returns : goal.returns
returns c = places_end _ _ _ _ _ _ c.loop-i.invariant.4 (omega arith)
