-- Laws of lists: what holds of each, and two lists by steps whose items differ by a function. Assumes nothing.
use Prim.Native.Nat.{ℕ, zero, suc}
use mathlib.Core.Path.{◌≡◌, refl, sym, ap, ap₂, ◌∙◌}
use mathlib.Core.List.{List, [], ◌∷◌, map}
use native.Mathlib.Omega.{arith}
use Rattle.steps.specs.Items.{Item, gives, skips, ends, onto, collect_f, collect}
use Rattle.record_chain.specs.Chain.{Every, Nth, first, next}
use Rattle.record_chain.proofs.Chain.{Keeps}
use Rattle.reads_after.specs.Replaced.{on_nth}

-- ---- each of a list
pub every_both : {A : Type 0} (P Q R : A → Type 0) → ((x : A) → P x → Q x → R x) → (l : List A) → Every P l → Every Q l → Every R l
every_both P Q R f [] h i = tt
every_both P Q R f (x ∷ l) h i = (f x h.0 i.0, every_both P Q R f l h.1 i.1)

pub map_every : {A B : Type 0} (f g : A → B) (l : List A) → Every (λ x. f x ≡ g x) l → map f l ≡ map g l
map_every f g [] h = refl
map_every {A} {B} f g (x ∷ l) h = ap₂ (λ (y : B) (r : List B). y ∷ r) h.0 (map_every f g l h.1)

pub map_same : {A : Type 0} (l : List A) → map (λ x. x) l ≡ l
map_same [] = refl
map_same {A} (x ∷ l) = ap (λ (r : List A). x ∷ r) (map_same l)

pub map_map : {A B C : Type 0} (f : A → B) (g : B → C) (l : List A) → map g (map f l) ≡ map (λ x. g (f x)) l
map_map f g [] = refl
map_map {A} {B} {C} f g (x ∷ l) = ap (λ (r : List C). g (f x) ∷ r) (map_map f g l)

-- ---- the n-th of a list
pub nth_one : {A : Type 0} {l : List A} {n : ℕ} {x y : A} → Nth l n x → Nth l n y → x ≡ y
nth_one first first = refl
nth_one (next i) (next j) = nth_one i j

map_nth : {A B : Type 0} (f g : A → B) (l : List A) → ((m : ℕ) (x : A) → Nth l m x → f x ≡ g x) → map f l ≡ map g l
map_nth f g [] h = refl
map_nth {A} {B} f g (x ∷ l) h = ap₂ (λ (y : B) (r : List B). y ∷ r) (h 0 x first) (map_nth f g l (λ m y i. h (suc m) y (next i)))

-- a list whose n-th item alone is changed
pub on_nth_lem : {A B : Type 0} (f f' : A → B) (g : B → B) (l : List A) (n : ℕ) → ((m : ℕ) (x : A) → Nth l m x → (m ≡ n → ⊥) → f' x ≡ f x) → ((x : A) → Nth l n x → f' x ≡ g (f x)) → map f' l ≡ on_nth n g (map f l)
unfolding on_nth
on_nth_lem f f' g [] n h i = refl
on_nth_lem {A} {B} f f' g (x ∷ l) zero h i = ap₂ (λ (y : B) (r : List B). y ∷ r) (i x first) (map_nth f' f l (λ m y j. h (suc m) y (next j) (λ e. omega arith)))
on_nth_lem {A} {B} f f' g (x ∷ l) (suc n) h i =
    ap₂ (λ (y : B) (r : List B). y ∷ r) (h 0 x first (λ e. omega arith)) (on_nth_lem f f' g l n (λ m y j d. h (suc m) y (next j) (λ e. d (omega arith))) (λ y j. i y (next j)))

-- ---- a list by steps
abbrev pub map_item : {S X Y : Type 0} → (X → Y) → Item S X → Item S Y
map_item f (gives x t) = gives (f x) t
map_item f (skips t) = skips t
map_item f ends = ends

module _ {S X Y : Type 0} (step : S → Item S X) (step' : S → Item S Y) (f : X → Y) (P : S → Type 0) (Q : X → Type 0)
    (keep : (s : S) → P s → Keeps P Q (step s)) (same : (s : S) → P s → step' s ≡ map_item f (step s)) where
  map_onto : (n : ℕ) → ((t : S) → P t → collect_f step' n t ≡ map f (collect_f step n t)) → (x : Item S X) → Keeps P Q x → onto (map_item f x) (λ t. collect_f step' n t) ≡ map f (onto x (λ t. collect_f step n t))
  map_onto n ih (gives x t) h = ap (λ (r : List Y). f x ∷ r) (ih t h.1)
  map_onto n ih (skips t) h = ih t h
  map_onto n ih ends h = refl

  map_f : (n : ℕ) (s : S) → P s → collect_f step' n s ≡ map f (collect_f step n s)
  unfolding collect_f
  map_f zero s p = refl
  map_f (suc n) s p = ap (λ (x : Item S Y). onto x (λ t. collect_f step' n t)) (same s p) ∙ map_onto n (λ t q. map_f n t q) (step s) (keep s p)

  -- steps whose items differ by f give lists that differ by f
  pub collect_map : (μ μ' : S → ℕ) (s : S) → μ s ≡ μ' s → P s → collect step' μ' s ≡ map f (collect step μ s)
  unfolding collect
  collect_map μ μ' s e p = ap (λ (n : ℕ). collect_f step' (suc n) s) (sym e) ∙ map_f (suc (μ s)) s p
