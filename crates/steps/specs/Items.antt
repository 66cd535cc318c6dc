-- A list given by steps: each gives an item, or passes on, or ends the list.
use Rattle.std.specs.Prelude.{ℕ, zero, suc, List, [], ◌∷◌}

pub data Item (S X : Type 0) : Type 0 where
  gives : X → S → Item S X
  skips : S → Item S X
  ends : Item S X

abbrev pub onto : {S X : Type 0} → Item S X → (S → List X) → List X
onto (gives x t) k = x ∷ k t
onto (skips t) k = k t
onto ends k = []

unfoldable pub collect_f : {S X : Type 0} → (S → Item S X) → ℕ → S → List X
collect_f step zero s = []
collect_f step (suc n) s = onto (step s) (λ t. collect_f step n t)

unfoldable pub collect : {S X : Type 0} → (S → Item S X) → (S → ℕ) → S → List X
collect step μ s = collect_f step (suc (μ s)) s

-- what f says of the n-th of a list, counted from 0; d where there is none
unfoldable pub nth : {A B : Type 0} → List A → ℕ → (A → B) → B → B
nth [] n f d = d
nth (x ∷ l) zero f d = f x
nth (x ∷ l) (suc n) f d = nth l n f d

-- A step that is called again and again, each time from the place that its last answer gave: from s on it gives the items of l, in order, and then the end.
-- `Next s x t` says that from s it gives x and the place t, `End s` that it gives the end.
pub data Lists {S X : Type 0} (Next : S → X → S → Type 0) (End : S → Type 0) : S → List X → Type 0 where
  at_end : {s : S} → End s → Lists Next End s []
  and_then : {s t : S} {x : X} {l : List X} → Next s x t → Lists Next End t l → Lists Next End s (x ∷ l)
