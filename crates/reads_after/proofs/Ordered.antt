-- The items of a list by steps, each with those that come later. Assumes nothing.
use Prim.Native.Nat.{ℕ, zero, suc, ◌<◌}
use mathlib.Core.List.{List, [], ◌∷◌}
use native.Mathlib.Omega.{arith}
use Rattle.steps.specs.Items.{Item, gives, skips, ends, onto, collect_f, collect}
use Rattle.record_chain.specs.Chain.{Every, Nth, first, next}
use Rattle.record_chain.proofs.Chain.{every_nth, every_map}

-- R holds of each with each later one
abbrev pub Ordered : {X : Type 0} → (X → X → Type 0) → List X → Type 0
Ordered R [] = Unit {0}
Ordered R (x ∷ l) = Every (R x) l × Ordered R l

pub ordered_nth : {X : Type 0} (R : X → X → Type 0) {l : List X} {i j : ℕ} {x y : X} → Ordered R l → Nth l i x → Nth l j y → i < j → R x y
ordered_nth R o first first h = absurd (omega arith)
ordered_nth R {x = x} o first (next q) h = every_nth (R x) o.0 q
ordered_nth R o (next p) first h = absurd (omega arith)
ordered_nth R o (next p) (next q) h = ordered_nth R o.1 p q (omega arith)

-- an item that may come from v on has Q v
module _ {S X : Type 0} (step : S → Item S X) (Q : S → X → Type 0) (R : X → X → Type 0) where
  abbrev pub Leads : S → Item S X → Type 0
  Leads v (gives x t) = Q v x × ((y : X) → Q t y → Q v y × R x y)
  Leads v (skips t) = (y : X) → Q t y → Q v y
  Leads v ends = Unit {0}

  module _ (leads : (v : S) → Leads v (step v)) where
    ordered_onto : (n : ℕ) → ((t : S) → Every (Q t) (collect_f step n t) × Ordered R (collect_f step n t)) → (v : S) (x : Item S X) → Leads v x
        → Every (Q v) (onto x (λ t. collect_f step n t)) × Ordered R (onto x (λ t. collect_f step n t))
    ordered_onto n ih v (gives x t) k =
        let l = collect_f step n t in
        let h = ih t in
        ((k.0, every_map (Q t) (Q v) (λ y q. (k.1 y q).0) l h.0), (every_map (Q t) (R x) (λ y q. (k.1 y q).1) l h.0, h.1))
    ordered_onto n ih v (skips t) k = let h = ih t in (every_map (Q t) (Q v) k (collect_f step n t) h.0, h.1)
    ordered_onto n ih v ends k = (tt, tt)

    ordered_f : (n : ℕ) (v : S) → Every (Q v) (collect_f step n v) × Ordered R (collect_f step n v)
    unfolding collect_f
    ordered_f zero v = (tt, tt)
    ordered_f (suc n) v = ordered_onto n (λ t. ordered_f n t) v (step v) (leads v)

    pub collect_ordered : (μ : S → ℕ) (v : S) → Ordered R (collect step μ v)
    unfolding collect
    collect_ordered μ v = (ordered_f (suc (μ v)) v).1
