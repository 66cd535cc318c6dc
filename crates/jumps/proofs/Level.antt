-- A jump is looked up from its own token on: that is as good as from the start of its level, whose tokens end where it does. Assumes nothing.
use Rattle.std.proofs.Common.{◌≡◌, ℕ, zero, suc, ◌+◌, ◌-◌, ◌≤◌, ◌<◌, List, [], ◌∷◌, Bool, true, false, Result, Ok, Err, ltb, eqb, eqb-true, ltb-true, ltb-false, length, drop, length-drop, refl, sym, ap, ◌∙◌, add_assoc, add-zero, arith}
use Rattle.std.proofs.lemmas.Bool.{eqb-false}
use Rattle.std.proofs.Math.Seq.{drop-drop}
use Rattle.steps.specs.Walk.{more, stop, run_f, run}
use Rattle.steps.proofs.Choice.{never}
use Rattle.steps.proofs.Walk.{run_more, run_stop, run_keeps}
use Rattle.steps.specs.Choice.{pick}
use Rattle.tokens.specs.declared.Token.{Token}
use Rattle.tokens.specs.declared.Token.TheVariants.{Plain, Memory}
use Rattle.refusal.specs.declared.Refusal.{Refusal}
use Rattle.refusal.specs.Refused.{refuse}
use Rattle.tokens.specs.Tokens.{token_of}
use Rattle.tokens.specs.Judge.{Judgement, if_accepted, on_token, formula_of}
use Rattle.tokens.proofs.Within.{TokenWithin, token_within}
use Rattle.jumps.specs.Jumps.{size_of, towards, lands_from, lands_on, AsFromStart, AcceptedEnds}
use Rattle.jumps.proofs.Laws.{here, to_target, to_end, to_next, falls}

module _ (l : List ℕ) (offset depth : ℕ) where
  -- ---- a walk that is past its target doesn't come back to it
  past : (target at : ℕ) → target < at → lands_from l offset depth target at ≡ false
  unfolding lands_from
  past target at h = run_keeps (towards l offset depth target) false (λ p. length l - p) (falls l offset depth target) (λ p. target < p) (λ b. b ≡ false) onward ends at h
    where
      onward : (p q : ℕ) → target < p → towards l offset depth target p ≡ more q → target < q
      onward p q i e = go (eqb (here l offset depth target p) 0) refl
        where
          apart : p ≡ target → ⊥
          apart j = omega arith

          go : (b : Bool) → eqb (here l offset depth target p) 0 ≡ b → target < q
          go true f = let z : stop false ≡ more q = sym (to_end l offset depth target p apart (eqb-true (here l offset depth target p) 0 f)) ∙ e in never (cc)
          go false f =
              let z : more (p + here l offset depth target p) ≡ more q = sym (to_next l offset depth target p apart (eqb-false (here l offset depth target p) 0 f)) ∙ e in
              let n : p + here l offset depth target p ≡ q = cc in
              omega arith

      ends : (p : ℕ) (a : Bool) → target < p → towards l offset depth target p ≡ stop a → a ≡ false
      ends p a i e = go (eqb (here l offset depth target p) 0) refl
        where
          apart : p ≡ target → ⊥
          apart j = omega arith

          go : (b : Bool) → eqb (here l offset depth target p) 0 ≡ b → a ≡ false
          go true f = let z : stop false ≡ stop a = sym (to_end l offset depth target p apart (eqb-true (here l offset depth target p) 0 f)) ∙ e in (cc)
          go false f = let z : more (p + here l offset depth target p) ≡ stop a = sym (to_next l offset depth target p apart (eqb-false (here l offset depth target p) 0 f)) ∙ e in never (cc)

  before : (target at : ℕ) → lands_from l offset depth target at ≡ true → at ≤ target
  before target at h = go (ltb target at) refl
    where
      go : (b : Bool) → ltb target at ≡ b → at ≤ target
      go true f = let z : true ≡ false = sym h ∙ past target at (ltb-true target at f) in never (cc)
      go false f = ltb-false target at f

  -- ---- a walk to a place further on comes by each token start before it
  comes_by : (n at target p : ℕ) → length l - p < n → lands_from l offset depth at p ≡ true → lands_from l offset depth (at + target) p ≡ lands_from l offset depth (at + target) at
  unfolding lands_from
  comes_by zero at target p m h = absurd (omega arith)
  comes_by (suc n) at target p m h = go (λ q i j. comes_by n at target q i j) (eqb p at) refl (eqb (here l offset depth at p) 0) refl
    where
      go : ((q : ℕ) → length l - q < n → lands_from l offset depth at q ≡ true → lands_from l offset depth (at + target) q ≡ lands_from l offset depth (at + target) at)
          → (a : Bool) → eqb p at ≡ a → (b : Bool) → eqb (here l offset depth at p) 0 ≡ b → lands_from l offset depth (at + target) p ≡ lands_from l offset depth (at + target) at
      go ih true e b f = ap (lands_from l offset depth (at + target)) (eqb-true p at e)
      go ih false e true f =
          let z : true ≡ false = sym h ∙ run_stop (towards l offset depth at) false (λ q. length l - q) (falls l offset depth at) (to_end l offset depth at p (eqb-false p at e) (eqb-true (here l offset depth at p) 0 f)) in
          never (cc)
      go ih false e false f =
          let apart : p ≡ at + target → ⊥ = λ i. eqb-false p at e (omega (arith, before at p h)) in
          let here_on = to_next l offset depth at p (eqb-false p at e) (eqb-false (here l offset depth at p) 0 f) in
          let there-on = to_next l offset depth (at + target) p apart (eqb-false (here l offset depth at p) 0 f) in
          run_more (towards l offset depth (at + target)) false (λ q. length l - q) (falls l offset depth (at + target)) there-on
          ∙ ih (p + here l offset depth at p) (omega (arith, falls l offset depth at p (p + here l offset depth at p) here_on)) (sym (run_more (towards l offset depth at) false (λ q. length l - q) (falls l offset depth at) here_on) ∙ h)

  -- ---- places counted from a token, and from the level's start
  shifted : (at target n q : ℕ) → run_f (towards (drop at l) (offset + at) depth target) false n q ≡ run_f (towards l offset depth (at + target)) false n (at + q)
  unfolding run_f
  shifted at target zero q = refl
  shifted at target (suc n) q = go (λ r. shifted at target n r) (eqb q target) refl (eqb (here (drop at l) (offset + at) depth target q) 0) refl
    where
      same : here (drop at l) (offset + at) depth target q ≡ here l offset depth (at + target) (at + q)
      same = rw (drop-drop, add_assoc) refl

      go : ((r : ℕ) → run_f (towards (drop at l) (offset + at) depth target) false n r ≡ run_f (towards l offset depth (at + target)) false n (at + r))
          → (a : Bool) → eqb q target ≡ a → (b : Bool) → eqb (here (drop at l) (offset + at) depth target q) 0 ≡ b
          → run_f (towards (drop at l) (offset + at) depth target) false (suc n) q ≡ run_f (towards l offset depth (at + target)) false (suc n) (at + q)
      go ih true e b f = rw (to_target (drop at l) (offset + at) depth target q (eqb-true q target e), to_target l offset depth (at + target) (at + q) (omega (arith, eqb-true q target e))) refl
      go ih false e true f =
          rw (to_end (drop at l) (offset + at) depth target q (eqb-false q target e) (eqb-true _ 0 f), to_end l offset depth (at + target) (at + q) (λ i. eqb-false q target e (omega arith)) (sym same ∙ eqb-true _ 0 f)) refl
      go ih false e false f =
          rw (to_next (drop at l) (offset + at) depth target q (eqb-false q target e) (eqb-false _ 0 f), to_next l offset depth (at + target) (at + q) (λ i. eqb-false q target e (omega arith)) (λ i. eqb-false _ 0 f (same ∙ i)))
          (ih (q + here (drop at l) (offset + at) depth target q) ∙ rw (same, add_assoc) refl)

  from_token : (at target : ℕ) → lands_on (drop at l) (offset + at) depth target ≡ lands_from l offset depth (at + target) at
  unfolding lands_on lands_from run
  from_token at target =
      let left : length (drop at l) - 0 ≡ length l - (at + 0) = omega (arith, length-drop at l) in
      let here_on : lands_from (drop at l) (offset + at) depth target 0 ≡ lands_from l offset depth (at + target) (at + 0) = rw left (shifted at target (suc (length l - (at + 0))) 0) in
      here_on ∙ ap (lands_from l offset depth (at + target)) (add-zero at)

  -- from a token of the level l, at the place `at`, the target lands exactly where the walk from the level's start lands
  from_start : (at target : ℕ) → lands_from l offset depth at 0 ≡ true → lands_on (drop at l) (offset + at) depth target ≡ lands_from l offset depth (at + target) 0
  from_start at target h = from_token at target ∙ sym (comes_by (suc (length l)) at target 0 (omega arith) h)

pub as_from_start : AsFromStart
as_from_start l offset depth at target h = from_start l offset depth at target h

-- ---- the tokens of a level that is accepted end where it does
module _ (t : List ℕ) (offset depth : ℕ) where
  ends_here : length t ≡ 0 → lands_on t offset depth (length t) ≡ true
  unfolding lands_on lands_from
  ends_here z = run_stop (towards t offset depth (length t)) false (λ q. length t - q) (falls t offset depth (length t)) (to_target t offset depth (length t) 0 (sym z))

  ends_after : (size : ℕ) → size_of (token_of t offset depth) ≡ size → 1 ≤ size → size ≤ length t → lands_on (drop size t) (offset + size) depth (length (drop size t)) ≡ true → lands_on t offset depth (length t) ≡ true
  unfolding lands_on lands_from
  ends_after size e p q h =
      let first : here t offset depth (length t) 0 ≡ size = rw add-zero e in
      let far : size + length (drop size t) ≡ length t = omega (arith, length-drop size t) in
      let step : towards t offset depth (length t) 0 ≡ more (0 + here t offset depth (length t) 0) = to_next t offset depth (length t) 0 (λ i. omega arith) (λ i. omega arith) in
      let next : 0 + here t offset depth (length t) 0 ≡ size = omega arith in
      run_more (towards t offset depth (length t)) false (λ r. length t - r) (falls t offset depth (length t)) step
      ∙ ap (lands_from t offset depth (length t)) next
      ∙ ap (λ (n : ℕ). lands_from t offset depth n size) (sym far)
      ∙ sym (from_token t offset depth size (length (drop size t)))
      ∙ h

  -- what the first token says, and what is left of the level
  on_first_lem : (k stack : ℕ) (x : Result Token Refusal) → token_of t offset depth ≡ x → TokenWithin (length t) depth x → (inner : ℕ → ℕ → Judgement) → ((size left : ℕ) → 1 ≤ size → formula_of k (drop size t) (offset + size) left depth ≡ Ok tt → lands_on (drop size t) (offset + size) depth (length (drop size t)) ≡ true)
      → on_token inner (λ size left. formula_of k (drop size t) (offset + size) left depth) offset stack x ≡ Ok tt → lands_on t offset depth (length t) ≡ true
  unfolding TokenWithin pick
  on_first_lem k stack (Ok (Plain size takes gives)) e w inner ih h = go (ltb stack takes) h
    where
      go : (b : Bool) → pick b (refuse 14 offset) (formula_of k (drop size t) (offset + size) (stack - takes + gives) depth) ≡ Ok tt → lands_on t offset depth (length t) ≡ true
      go true i = never (cc)
      go false i = ends_after size (ap size_of e) (omega arith) (omega arith) (ih size (stack - takes + gives) (omega arith) i)
  on_first_lem k stack (Ok (Memory size head)) e w inner ih h = go (inner head size) h
    where
      go : (j : Judgement) → if_accepted j (formula_of k (drop size t) (offset + size) (stack + 1) depth) ≡ Ok tt → lands_on t offset depth (length t) ≡ true
      go (Ok u) i = ends_after size (ap size_of e) (omega arith) (omega arith) (ih size (stack + 1) (omega arith) i)
      go (Err r) i = never (cc)
  on_first_lem k stack (Err r) e w inner ih h = never (cc)

pub accepted_ends : AcceptedEnds
unfolding formula_of
accepted_ends zero t offset stack depth l h = ends_here t offset depth (omega arith)
accepted_ends (suc k) [] offset stack depth l h = ends_here [] offset depth refl
accepted_ends (suc k) (b ∷ t) offset stack depth l h =
    on_first_lem (b ∷ t) offset depth k stack (token_of (b ∷ t) offset depth) refl (token_within (b ∷ t) depth offset (omega arith)) _
    (λ size left p i. accepted_ends k (drop size (b ∷ t)) (offset + size) left depth (simp length-drop (omega arith)) i) h
