-- The laws of chains, and of the places beside a record. Assumes nothing.
use Prim.Native.Nat.{ℕ, zero, suc, ◌≤◌, ◌<◌}
use mathlib.Core.Path.{◌≡◌, refl, sym, ap, ◌∙◌, subst}
use mathlib.Core.List.{List, [], ◌∷◌}
use mathlib.Core.Logic.{◌⊎◌, inl, inr}
use native.Mathlib.Omega.{arith}
use lib.ListN.{length}
use Rattle.steps.specs.Items.{Item, gives, skips, ends, onto, collect_f, collect, nth}
use Rattle.record.specs.declared.Header.TheVariants.{Record}
use Rattle.record.specs.Record.{header_at}
use Rattle.record.proofs.Laws.{whole}
use Rattle.cell.specs.declared.Shape.TheVariants.{OTHER}
use Rattle.cell.specs.Cells.{shape_of}
use Rattle.record_chain.specs.Chain.{Chain, here, on, Over, Plain, Reach, Beside, Every, Nth, first, next}

-- ---- any steps
module _ {Step : ℕ → ℕ → Type 0} where
  pub chain_trans : {x y z : ℕ} → Chain Step x y → Chain Step y z → Chain Step x z
  chain_trans here r = r
  chain_trans (on h q) r = on h (chain_trans q r)

  -- what each step keeps
  pub chain_keeps : (P : ℕ → Type 0) → ((x e : ℕ) → P x → Step x e → P e) → {x y : ℕ} → Chain Step x y → P x → P y
  chain_keeps P k here p = p
  chain_keeps P k (on {x = x} {e = e} h q) p = chain_keeps P k q (k x e p h)

  -- each step goes ahead, and from one place there is one step
  module _ (ahead : (x e : ℕ) → Step x e → x < e) (one : (x e f : ℕ) → Step x e → Step x f → e ≡ f) where
    pub chain_ahead : {x y : ℕ} → Chain Step x y → x ≤ y
    chain_ahead {x} q = chain_keeps (λ (w : ℕ). x ≤ w) (λ w e l h. let i = ahead w e h in omega arith) q (omega arith)

    -- of two places that are reached from one, the earlier reaches the later
    pub chain_between : {x y z : ℕ} → Chain Step x y → Chain Step x z → y ≤ z → Chain Step y z
    chain_between here r l = r
    chain_between (on {x = x} {e = e} {y = y} h q) here l = let i = ahead x e h in let j = chain_ahead q in absurd (omega arith)
    chain_between (on {x = x} {e = e} h q) (on {e = f} {y = z} i r) l = chain_between q (subst (λ (w : ℕ). Chain Step w z) (one x f e i h) r) l

    -- past the step from y, if z is not y
    pub chain_past : {y z e : ℕ} → Chain Step y z → Step y e → y < z → Chain Step e z
    chain_past here i l = absurd (omega arith)
    chain_past (on {x = y} {e = f} {y = z} h q) i l = subst (λ (w : ℕ). Chain Step w z) (one y f _ h i) q

-- steps of one kind, each of them a chain of another
pub chain_by : {Step Other : ℕ → ℕ → Type 0} → ((x e : ℕ) → Step x e → Chain Other x e) → {x y : ℕ} → Chain Step x y → Chain Other x y
chain_by f here = here
chain_by f (on {x = x} {e = e} h q) = chain_trans (f x e h) (chain_by f q)

-- ---- whole records
module _ (s : List ℕ) where
  pub over_ahead : (x e : ℕ) → Over s x e → x < e
  over_ahead x e h = let w = whole s x h.type h.size e h.is in omega arith

  pub over_one : (x e f : ℕ) → Over s x e → Over s x f → e ≡ f
  over_one x e f h i = let p = h.is in let q = i.is in cc

  pub over : {x t z e : ℕ} → header_at s x ≡ Record t z e → Over s x e
  over {x} {t} {z} {e} h = record { type = t; size = z; is = h }

  pub reach_one : {x t z e : ℕ} → header_at s x ≡ Record t z e → Reach s x e
  reach_one h = on (over h) here

  pub reach_ahead : {x y : ℕ} → Reach s x y → x ≤ y
  reach_ahead q = chain_ahead over_ahead over_one q

  -- ---- the record from a to e
  module _ (a e : ℕ) (at : Over s a e) where
    -- a whole record at x: it is that one, or ends before it, or starts past it
    pub beside_cases : (x f : ℕ) → Beside s a e x → Over s x f → (x ≡ a) ⊎ ((f ≤ a) ⊎ (e ≤ x))
    beside_cases x f (inl here) h = inl refl
    beside_cases x f (inl (on {e = g} i q)) h = let j = over_one x f g h i in let l = reach_ahead q in inr (inl (omega arith))
    beside_cases x f (inr l) h = inr (inr l)

    -- and its end is beside too
    pub beside_past : (x f : ℕ) → Beside s a e x → Over s x f → Beside s a e f
    beside_past x f (inl here) h = let j = over_one x f e h at in inr (omega arith)
    beside_past x f (inl (on {e = g} i q)) h = inl (subst (λ (w : ℕ). Reach s w a) (over_one x g f i h) q)
    beside_past x f (inr l) h = let j = over_ahead x f h in inr (omega arith)

    pub beside_reach : {x y : ℕ} → Reach s x y → Beside s a e x → Beside s a e y
    beside_reach q b = chain_keeps (Beside s a e) beside_past q b

  -- a record that holds cells stands at a: records that hold none and are reached from before it end before it
  module _ (a t z e : ℕ) (is : header_at s a ≡ Record t z e) (cells : shape_of t ≡ OTHER → ⊥) where
    plain_before : {x y : ℕ} → Reach s x a → Chain (Plain s) x y → y ≤ a
    plain_before r here = reach_ahead r
    plain_before here (on h q) = let i = h.over.is in let j : h.over.type ≡ t = cc in absurd (cells (ap shape_of (sym j) ∙ h.other))
    plain_before (on {x = x} {e = f} i r) (on {e = g} h q) = plain_before (subst (λ (w : ℕ). Reach s w a) (over_one x f g i h.over) r) q

    pub plain_beside : {x y : ℕ} → Beside s a e x → Chain (Plain s) x y → (y ≤ a) ⊎ (e ≤ x)
    plain_beside (inl r) q = inl (plain_before r q)
    plain_beside (inr l) q = inr l

-- ---- lists
pub every_nth : {A : Type 0} (P : A → Type 0) {l : List A} {n : ℕ} {x : A} → Every P l → Nth l n x → P x
every_nth P e first = e.0
every_nth P e (next i) = every_nth P e.1 i

pub every_map : {A : Type 0} (P Q : A → Type 0) → ((x : A) → P x → Q x) → (l : List A) → Every P l → Every Q l
every_map P Q f [] e = tt
every_map P Q f (x ∷ l) e = (f x e.0, every_map P Q f l e.1)

-- what each item of a list by steps has, if P holds where the list begins and each step keeps it
abbrev pub Keeps : {S X : Type 0} → (S → Type 0) → (X → Type 0) → Item S X → Type 0
Keeps P Q (gives x t) = Q x × P t
Keeps P Q (skips t) = P t
Keeps P Q ends = Unit {0}

module _ {S X : Type 0} (step : S → Item S X) (P : S → Type 0) (Q : X → Type 0) (keep : (s : S) → P s → Keeps P Q (step s)) where
  every_onto : (n : ℕ) → ((t : S) → P t → Every Q (collect_f step n t)) → (x : Item S X) → Keeps P Q x → Every Q (onto x (λ t. collect_f step n t))
  every_onto n ih (gives x t) k = (k.0, ih t k.1)
  every_onto n ih (skips t) k = ih t k
  every_onto n ih ends k = tt

  every_f : (n : ℕ) (s : S) → P s → Every Q (collect_f step n s)
  unfolding collect_f
  every_f zero s p = tt
  every_f (suc n) s p = every_onto n (λ t q. every_f n t q) (step s) (keep s p)

  pub collect_every : (μ : S → ℕ) (s : S) → P s → Every Q (collect step μ s)
  unfolding collect
  collect_every μ s p = every_f (suc (μ s)) s p

-- two lists by steps agree where their steps do, at every place that has P, which the steps keep
module _ {S X : Type 0} (step step' : S → Item S X) (P : S → Type 0) (same : (s : S) → P s → step s ≡ step' s) (keep : (s : S) → P s → Keeps P (λ (x : X). Unit {0}) (step s)) where
  agree_onto : (n : ℕ) → ((t : S) → P t → collect_f step n t ≡ collect_f step' n t) → (x : Item S X) → Keeps P (λ (x : X). Unit {0}) x → onto x (λ t. collect_f step n t) ≡ onto x (λ t. collect_f step' n t)
  agree_onto n ih (gives x t) k = ap (λ (l : List X). x ∷ l) (ih t k.1)
  agree_onto n ih (skips t) k = ih t k
  agree_onto n ih ends k = refl

  agree_f : (n : ℕ) (s : S) → P s → collect_f step n s ≡ collect_f step' n s
  unfolding collect_f
  agree_f zero s p = refl
  agree_f (suc n) s p = agree_onto n (λ t q. agree_f n t q) (step s) (keep s p) ∙ ap (λ (x : Item S X). onto x (λ t. collect_f step' n t)) (same s p)

  pub collect_agree : (μ μ' : S → ℕ) (s : S) → μ s ≡ μ' s → P s → collect step μ s ≡ collect step' μ' s
  unfolding collect
  collect_agree μ μ' s e p = agree_f (suc (μ s)) s p ∙ ap (λ (n : ℕ). collect_f step' (suc n) s) e

-- ---- the n-th of a list
pub nth_is : {A B : Type 0} (f : A → B) (d : B) {l : List A} {n : ℕ} {x : A} → Nth l n x → nth l n f d ≡ f x
unfolding nth
nth_is f d first = refl
nth_is f d (next i) = nth_is f d i

pub nth_missing : {A B : Type 0} (f : A → B) (d : B) (l : List A) (n : ℕ) → length l ≤ n → nth l n f d ≡ d
unfolding nth
nth_missing f d [] n h = refl
nth_missing f d (x ∷ l) zero h = absurd (omega arith)
nth_missing f d (x ∷ l) (suc n) h = nth_missing f d l n (omega arith)

pub nth_either : {A B : Type 0} (f : A → B) (d y : B) (G : Type 0) (l : List A) (n : ℕ) → ((x : A) → Nth l n x → f x ≡ y → G) → (length l ≤ n → d ≡ y → G) → nth l n f d ≡ y → G
unfolding nth
nth_either f d y G [] n some none h = none (omega arith) h
nth_either f d y G (x ∷ l) zero some none h = some x first h
nth_either f d y G (x ∷ l) (suc n) some none h = nth_either f d y G l n (λ z i. some z (next i)) (λ i. none (omega arith)) h
