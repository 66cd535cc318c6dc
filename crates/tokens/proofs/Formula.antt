-- How the judgement of a formula goes on, one token at a time. Assumes nothing.
use Rattle.std.proofs.Common.{◌≡◌, ℕ, zero, suc, ◌+◌, ◌-◌, ◌^◌, ◌≤◌, ◌<◌, List, [], ◌∷◌, Bool, true, false, Result, Ok, Err, ltb, length, take, drop, length-drop, refl, ◌∙◌, arith, le_refl}
use Rattle.steps.specs.Choice.{pick}
use Rattle.refusal.specs.declared.Refusal.{Refusal}
use Rattle.refusal.specs.Refused.{refuse}
use Rattle.tokens.specs.declared.Token.{Token}
use Rattle.tokens.specs.declared.Token.TheVariants.{Plain, Memory}
use Rattle.tokens.specs.declared.Step.{Step}
use Rattle.tokens.specs.declared.Place.{Place}
use Rattle.tokens.specs.Tokens.{token_of}
use Rattle.tokens.specs.Judge.{Judgement, at_end, on_token, formula_of}
use Rattle.tokens.specs.Parts.{plain_step, on_step, Right, RightStep, StepWithin}
use Rattle.tokens.proofs.Within.{plain_facts, memory_facts, inner_shorter, inner_laws}

-- ---- the token that t starts with
abbrev inner : List ℕ → ℕ → ℕ → ℕ → ℕ → ℕ → Judgement
inner t offset depth k from end = formula_of k (take (end - from) (drop from t)) (offset + from) 0 (depth + 1)

abbrev rest : List ℕ → ℕ → ℕ → ℕ → ℕ → ℕ → Judgement
rest t offset depth k size left = formula_of k (drop size t) (offset + size) left depth

by_token : (t : List ℕ) (offset stack depth k : ℕ) → 0 < length t → on_token (inner t offset depth k) (rest t offset depth k) offset stack (token_of t offset depth) ≡ formula_of (suc k) t offset stack depth
unfolding formula_of
by_token [] offset stack depth k h = absurd (omega arith)
by_token (b ∷ t) offset stack depth k h = refl

module _ (t : List ℕ) (offset stack depth : ℕ) (some : 0 < length t) where
  known : (x : Result Token Refusal) → x ≡ token_of t offset depth → (k : ℕ) → on_token (inner t offset depth k) (rest t offset depth k) offset stack x ≡ formula_of (suc k) t offset stack depth
  known x e k = rw e (by_token t offset stack depth k some)

  module _ (x : Result Token Refusal) (e : x ≡ token_of t offset depth) where
    pub on_invalid : (r : Refusal) (s : Result Step Refusal) → x ≡ Err r → s ≡ Err r → RightStep t offset stack depth s
    unfolding RightStep
    on_invalid r s f g k l = rw g (rw f at (known x e k))

    pub on_plain : (s : Result Step Refusal) (size takes gives : ℕ) → x ≡ Ok (Plain size takes gives) → s ≡ plain_step offset stack size takes gives → RightStep t offset stack depth s
    unfolding RightStep pick
    on_plain s size takes gives f g k l = rw g (go (ltb stack takes) ∙ (rw f at (known x e k)))
      where
        go : (b : Bool) → on_step (rest t offset depth k) (pick b (refuse 14 offset) (Ok (record { size = size; stack = stack - takes + gives }))) ≡ pick b (refuse 14 offset) (rest t offset depth k size (stack - takes + gives))
        go true = refl
        go false = refl

    pub plain_within : (s : Result Step Refusal) (size takes gives : ℕ) → x ≡ Ok (Plain size takes gives) → s ≡ plain_step offset stack size takes gives → StepWithin (length t) stack s
    unfolding pick StepWithin
    plain_within s size takes gives f g = rw g (go (ltb stack takes) (plain_facts t offset depth some x e size takes gives f))
      where
        go : (b : Bool) → (1 ≤ size) × (size ≤ length t) × (gives ≤ 1) → StepWithin (length t) stack (pick b (refuse 14 offset) (Ok (record { size = size; stack = stack - takes + gives })))
        go true p = tt
        go false p = omega arith

    pub gives_fit : (size takes gives : ℕ) → x ≡ Ok (Plain size takes gives) → gives < 2 ^ 32
    gives_fit size takes gives f = omega (arith, plain_facts t offset depth some x e size takes gives f)

    -- i is the inner formula, and j its judgement
    module _ (size head : ℕ) (f : x ≡ Ok (Memory size head)) (i : Place) (a : i.bytes.now ≡ take (size - head) (drop head t)) (b : i.offset ≡ offset + head) (c : i.depth ≡ depth + 1) (j : Judgement) (right : Right i.bytes.now i.offset 0 i.depth j) where
      inner_right : (k : ℕ) → length t ≤ suc k → j ≡ inner t offset depth k head size
      unfolding Right
      inner_right k l = rw (a, b, c) at right k (inner_shorter t offset depth some x e size head f k l)

      pub on_inner_refused : (r : Refusal) (s : Result Step Refusal) → j ≡ Err r → s ≡ Err r → RightStep t offset stack depth s
      unfolding RightStep
      on_inner_refused r s g h k l = rw h (rw (← inner_right k l, g) at (rw f at (known x e k)))

      pub on_inner : (u : Unit {0}) → j ≡ Ok u → RightStep t offset stack depth (Ok (record { size = size; stack = stack + 1 }))
      unfolding RightStep
      on_inner u g k l = rw (← inner_right k l, g) at (rw f at (known x e k))

    pub memory_within : (size head : ℕ) → x ≡ Ok (Memory size head) → StepWithin (length t) stack (Ok (record { size = size; stack = stack + 1 }))
    unfolding StepWithin
    memory_within size head f = omega (arith, memory_facts t offset depth some x e size head f)

  pub refused_within : (r : Refusal) (s : Result Step Refusal) → s ≡ Err r → StepWithin (length t) stack s
  unfolding StepWithin
  refused_within r s e = rw e tt

pub ruleset on_token_lem = (on_invalid, on_plain, plain_within, gives_fit, on_inner_refused, on_inner, memory_within, refused_within, inner_laws)

-- ---- the formula f, of which the tokens before p are passed
-- a judgement that is right from there on is right for the whole of f
pub record Reached (f p : Place) (stack : ℕ) : Type 0 where
  pub left : length p.bytes.now ≤ length f.bytes.now
  pub operands : stack ≤ p.offset
  pub onward : (r : Judgement) → Right p.bytes.now p.offset stack p.depth r → Right f.bytes.now f.offset 0 f.depth r

pub at_start : (f : Place) → Reached f f 0
at_start f = record { left = le_refl (length f.bytes.now); operands = omega arith; onward = λ r h. h }

module _ (f p : Place) (stack : ℕ) (on : Reached f p stack) where
  pub at_the_end : (r : Judgement) → length p.bytes.now ≡ 0 → r ≡ at_end stack p.offset → Right f.bytes.now f.offset 0 f.depth r
  unfolding Right formula_of
  at_the_end r h e = on.onward r (λ k l. e ∙ go p.bytes.now h k)
    where
      go : (t : List ℕ) → length t ≡ 0 → (k : ℕ) → at_end stack p.offset ≡ formula_of k t p.offset stack p.depth
      go [] z zero = refl
      go [] z (suc k) = refl
      go (b ∷ t) z k = absurd (omega arith)

  module _ (some : 0 < length p.bytes.now) (s : Result Step Refusal) (right : RightStep p.bytes.now p.offset stack p.depth s) where
    from_step : (r : Judgement) → ((k : ℕ) → length p.bytes.now ≤ suc k → r ≡ on_step (rest p.bytes.now p.offset p.depth k) s) → Right p.bytes.now p.offset stack p.depth r
    unfolding Right RightStep
    from_step r q zero l = absurd (omega arith)
    from_step r q (suc k) l = q k l ∙ right k l

    pub on_step_refused : (r : Refusal) (j : Judgement) → s ≡ Err r → j ≡ Err r → Right f.bytes.now f.offset 0 f.depth j
    on_step_refused r j e g = on.onward _ (from_step _ (λ k l. rw (e, g) refl))

    -- q is the next token's place
    module _ (n : Step) (e : s ≡ Ok n) (within : StepWithin (length p.bytes.now) stack s) where
      next_facts : (1 ≤ n.size) × (n.size ≤ length p.bytes.now) × (n.stack ≤ stack + 1)
      unfolding StepWithin
      next_facts = rw e at within

      pub next_within : n.size ≤ length p.bytes.now
      next_within = omega (arith, next_facts)

      module _ (q : Place) (a : q.bytes.now ≡ drop n.size p.bytes.now) where
        pub next_nearer : length q.bytes.now < length p.bytes.now
        next_nearer = rw a (simp length-drop (omega (arith, next_facts)))

        pub on_next : q.offset ≡ p.offset + n.size → q.depth ≡ p.depth → Reached f q n.stack
        unfolding Right
        on_next b c = record {
          left = omega (arith, next_nearer, on.left);
          operands = omega (arith, next_facts, on.operands);
          onward = λ r h. on.onward r (from_step r (λ k l. rw e (rw (a, b, c) at h k (simp length-drop (omega (arith, next_facts))))));
        }

pub ruleset on_step_laws = (at_start, at_the_end, on_step_refused, next_within, next_nearer, on_next)

-- ---- the answer on the whole
pub judged : (b : List ℕ) (r : Judgement) → Right b 0 0 0 r → r ≡ formula_of (length b) b 0 0 0
unfolding Right
judged b r h = h (length b) (le_refl (length b))
