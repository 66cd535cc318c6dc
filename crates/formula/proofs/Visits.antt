-- How the walk over a formula's tokens goes on, one token at a time, those inside it included. Assumes nothing.
use Rattle.std.proofs.Common.{◌≡◌, ℕ, zero, suc, ◌+◌, ◌-◌, ◌≤◌, ◌<◌, List, [], ◌∷◌, ◌++◌, Result, Ok, Err, length, take, drop, length-drop, refl, ap, ◌∙◌, arith, le_refl}
use Rattle.steps.specs.Choice.{pick}
use Rattle.refusal.specs.declared.Refusal.{Refusal}
use Rattle.tokens.specs.declared.Token.{Token}
use Rattle.tokens.specs.declared.Token.TheVariants.{Plain, Memory}
use Rattle.tokens.specs.declared.Place.{Place}
use Rattle.tokens.specs.Tokens.{size_of, base_of, any_of, token_of}
use Rattle.tokens.proofs.Within.{plain_facts, memory_facts, inner_shorter, inner_laws}
use Rattle.jumps.specs.Jumps.{size_of as size_there}
use Rattle.formula.specs.declared.Seen.{Seen}
use Rattle.formula.specs.Judge.{in_order, places_of}
use Rattle.formula.specs.Judge as judge
use Rattle.formula.specs.Parts.{Left, left, seen_is, seen_after, and_then, seen_of, Right, RightToken}

seen_append : (ps qs : List judge.Place) (s : Left) → and_then (seen_of qs) (seen_of ps s) ≡ seen_of (ps ++ qs) s
unfolding seen_of
seen_append [] qs s = refl
seen_append (p ∷ ps) qs s = go (λ n. seen_append ps qs n) (seen_after p.bytes p.offset p.depth s)
  where
    go : ((n : Left) → and_then (seen_of qs) (seen_of ps n) ≡ seen_of (ps ++ qs) n) → (x : Result Left ℕ) → and_then (seen_of qs) (and_then (seen_of ps) x) ≡ and_then (seen_of (ps ++ qs)) x
    go h (Ok n) = h n
    go h (Err n) = refl

-- ---- the token that t starts with
abbrev inner : List ℕ → ℕ → ℕ → ℕ → ℕ → ℕ → List judge.Place
inner t offset depth k from end = places_of k (take (end - from) (drop from t)) (offset + from) (depth + 1)

abbrev rest : List ℕ → ℕ → ℕ → ℕ → ℕ → List judge.Place
rest t offset depth k size = places_of k (drop size t) (offset + size) depth

abbrev here : List ℕ → ℕ → ℕ → judge.Place
here t offset depth = record { bytes = t; offset = offset; depth = depth }

known : (t : List ℕ) (offset depth : ℕ) (x : Result Token Refusal) → x ≡ token_of t offset depth → (k : ℕ) → places_of (suc k) t offset depth ≡ in_order (here t offset depth) (inner t offset depth k) (rest t offset depth k) x
unfolding places_of
known t offset depth x e k = rw e refl

module _ (t : List ℕ) (offset depth : ℕ) (s : Left) (some : 0 < length t) (token : Token) (e : Ok token ≡ token_of t offset depth) where
  token_facts : (1 ≤ size_of token) × (size_of token ≤ length t)
  token_facts = go token refl
    where
      go : (y : Token) → token ≡ y → (1 ≤ size_of y) × (size_of y ≤ length t)
      go (Plain size takes gives) f = let p = plain_facts t offset depth some (Ok token) e size takes gives (ap (λ (x : Token). Ok x) f) in (p.0, p.1)
      go (Memory size head) f = let p = memory_facts t offset depth some (Ok token) e size head (ap (λ (x : Token). Ok x) f) in (omega arith, p.2)

  pub size_some : 0 < size_there (token_of t offset depth)
  size_some = rw (← e) (omega (arith, token_facts))

  pub size_within : size_of token ≤ length t
  size_within = token_facts.1

  -- n is what is seen after the token itself
  module _ (n : Result Seen ℕ) (g : seen_is n ≡ seen_after t offset depth s) where
    pub token_bad : (m : ℕ) (y : Result Seen ℕ) → n ≡ Err m → y ≡ Err m → RightToken t offset depth token s (seen_is y)
    unfolding RightToken seen_of
    token_bad m y f h k l = rw h (rw (known t offset depth (Ok token) e k) (go token (rw f at g)))
      where
        go : (z : Token) → Err m ≡ seen_after t offset depth s → Err m ≡ seen_of (in_order (here t offset depth) (inner t offset depth k) (rest t offset depth k) (Ok z)) s
        go (Plain size takes gives) i = rw (← i) refl
        go (Memory size head) i = rw (← i) refl

    module _ (m : Seen) (f : n ≡ Ok m) where
      seen_here : Ok (left m) ≡ seen_after t offset depth s
      seen_here = rw f at g

      pub on_plain : (size takes gives : ℕ) → token ≡ Plain size takes gives → RightToken t offset depth token s (seen_is (Ok m))
      unfolding RightToken seen_of
      on_plain size takes gives h k l = rw (known t offset depth (Ok token) e k, h) (rw (← seen_here) refl)

      pub on_memory : (size head : ℕ) → token ≡ Memory size head → (i : Place) → i.bytes.now ≡ take (size - head) (drop head t) → i.offset ≡ offset + head → i.depth ≡ depth + 1
          → (y : Result Seen ℕ) → Right i.bytes.now i.offset i.depth (left m) (seen_is y) → RightToken t offset depth token s (seen_is y)
      unfolding RightToken seen_of Right
      on_memory size head h i a b c y r k l =
          let f' : Ok token ≡ Ok (Memory size head) = ap (λ (x : Token). Ok x) h in
          let enough = inner_shorter t offset depth some (Ok token) e size head f' k l in
          let inside : seen_is y ≡ seen_of (inner t offset depth k head size) (left m) = rw (a, b, c) at r k enough in
          rw (known t offset depth (Ok token) e k, h, inside) (rw (← seen_here) (seen_append (inner t offset depth k head size) (rest t offset depth k size) (left m)))

pub ruleset on_token_lem = (size_some, token_bad, on_plain, on_memory, inner_laws)

-- ---- the formula f, of which the tokens before p are passed and s is seen; s₀ was seen before it
pub record Reached (f p : Place) (s₀ s : Left) : Type 0 where
  pub shorter : length p.bytes.now ≤ length f.bytes.now
  pub onward : (r : Result Left ℕ) → Right p.bytes.now p.offset p.depth s r → Right f.bytes.now f.offset f.depth s₀ r

pub at_start : (f : Place) (s : Left) → Reached f f s s
at_start f s = record { shorter = le_refl (length f.bytes.now); onward = λ r h. h }

module _ (f p : Place) (s₀ s : Left) (on : Reached f p s₀ s) where
  no_more : ((k : ℕ) → places_of k p.bytes.now p.offset p.depth ≡ []) → Right f.bytes.now f.offset f.depth s₀ (Ok s)
  unfolding Right seen_of
  no_more h = on.onward (Ok s) (λ k l. rw (h k) refl)

  pub at_the_end : length p.bytes.now ≡ 0 → Right f.bytes.now f.offset f.depth s₀ (Ok s)
  unfolding places_of token_of any_of base_of pick
  at_the_end h = no_more (go p.bytes.now h)
    where
      go : (t : List ℕ) → length t ≡ 0 → (k : ℕ) → places_of k t p.offset p.depth ≡ []
      go [] z zero = refl
      go [] z (suc k) = refl
      go (b ∷ t) z k = absurd (omega arith)

  pub no_token : (x : Result Token Refusal) (r : Refusal) → x ≡ token_of p.bytes.now p.offset p.depth → x ≡ Err r → Right f.bytes.now f.offset f.depth s₀ (Ok s)
  unfolding places_of
  no_token x r e h = no_more go
    where
      go : (k : ℕ) → places_of k p.bytes.now p.offset p.depth ≡ []
      go zero = refl
      go (suc k) = rw (known p.bytes.now p.offset p.depth x e k, h) refl

  module _ (some : 0 < length p.bytes.now) (token : Token) (e : Ok token ≡ token_of p.bytes.now p.offset p.depth) (v : Result Seen ℕ) (right : RightToken p.bytes.now p.offset p.depth token s (seen_is v)) where
    from_token : (r : Result Left ℕ) → ((k : ℕ) → length p.bytes.now ≤ suc k → r ≡ and_then (seen_of (rest p.bytes.now p.offset p.depth k (size_of token))) (seen_is v)) → Right f.bytes.now f.offset f.depth s₀ r
    unfolding Right RightToken
    from_token r q = on.onward r go
      where
        go : (k : ℕ) → length p.bytes.now ≤ k → r ≡ seen_of (places_of k p.bytes.now p.offset p.depth) s
        go zero l = absurd (omega arith)
        go (suc k) l = q k l ∙ right k l

    pub token_refused : (m : ℕ) (y : Result Seen ℕ) → v ≡ Err m → y ≡ Err m → Right f.bytes.now f.offset f.depth s₀ (seen_is y)
    token_refused m y g h = rw h (from_token (Err m) (λ k l. rw g refl))

    -- q is the next token's place, n bytes further on
    module _ (n : ℕ) (z : n ≡ size_of token) (q : Place) (a : q.bytes.now ≡ drop n p.bytes.now) where
      facts : (1 ≤ n) × (n ≤ length p.bytes.now)
      facts = rw z (token_facts p.bytes.now p.offset p.depth s some token e)

      pub next_nearer : length q.bytes.now < length p.bytes.now
      next_nearer = rw a (simp length-drop (omega (arith, facts)))

      pub on_next : q.offset ≡ p.offset + n → q.depth ≡ p.depth → (m : Seen) → v ≡ Ok m → Reached f q s₀ (left m)
      unfolding Right
      on_next b c m g = record {
        shorter = omega (arith, next_nearer, on.shorter);
        onward = λ r h. from_token r (λ k l. rw (g, ← z) (rw (a, b, c) at h k (simp length-drop (omega (arith, facts)))));
      }

pub ruleset on_visit_lem = (at_start, at_the_end, no_token, token_refused, size_within, next_nearer, on_next)
