-- From token to token of a level, and what a token's size says of its bytes. Assumes nothing.
use Rattle.std.proofs.Common.{◌≡◌, ℕ, suc, ◌+◌, ◌-◌, ◌*◌, ◌^◌, ◌≤◌, ◌<◌, List, [], ◌∷◌, Bool, true, false, Result, Ok, Err, ltb, eqb, eqb-true, ltb-false, length, drop, length-drop, refl, sym, ap, ◌∙◌, Fits, w64, arith}
use Rattle.tokens.specs.declared.Place.{Place}
use Rattle.std.proofs.lemmas.Bool.{eqb-false}
use borrow.Author.Tests.{le-ltb}
use Rattle.steps.specs.Choice.{pick}
use Rattle.steps.specs.Walk.{more, stop}
use Rattle.steps.proofs.Choice.{never, pick_eq, pick_ne, refl'}
use Rattle.steps.proofs.Walk.{Falls, run_more, run_stop}
use Rattle.byte_numbers.specs.Bytes.{byte_at, u16_at}
use Rattle.tokens.specs.declared.Token.{Token}
use Rattle.tokens.specs.declared.Token.TheVariants.{Plain, Memory}
use Rattle.refusal.specs.declared.Refusal.{Refusal}
use Rattle.tokens.specs.Tokens.{choice_of, attribute_by, attribute_of, base_of, standing, any_of, token_of}
use Rattle.tokens.proofs.Within.{TokenWithin, token_within}
use Rattle.jumps.specs.Jumps.{table_of, targets_by, targets_of, size_of, towards, lands_from, lands_on, all_land, lands_of}

-- ---- the size of a token
-- a token lies within the bytes that are left
pub size_in : (t : List ℕ) (offset depth : ℕ) → size_of (token_of t offset depth) ≤ length t
unfolding token_of any_of base_of pick TokenWithin
size_in [] offset depth = omega arith
size_in (b ∷ t) offset depth = go (token_of (b ∷ t) offset depth) (token_within (b ∷ t) depth offset (omega arith))
  where
    go : (x : Result Token Refusal) → TokenWithin (length (b ∷ t)) depth x → size_of x ≤ length (b ∷ t)
    go (Ok (Plain size takes gives)) h = omega arith
    go (Ok (Memory size head)) h = omega arith
    go (Err r) h = omega arith

-- and has a byte at least
at_least_one : (t : List ℕ) (offset depth : ℕ) (y : Token) → 0 < length t → token_of t offset depth ≡ Ok y → size_of (Ok y) ≡ 0 → ⊥
unfolding TokenWithin
at_least_one t offset depth y some e = go y (rw e at (token_within t depth offset some))
  where
    go : (y : Token) → TokenWithin {E = Refusal} (length t) depth (Ok y) → size_of (Ok y) ≡ 0 → ⊥
    go (Plain size takes gives) h z = omega arith
    go (Memory size head) h z = omega arith

module _ (t : List ℕ) (offset depth : ℕ) (some : 0 < size_of (token_of t offset depth)) where
  pub token_some : 0 < length t
  token_some = omega (arith, size_in t offset depth)

  module _ (jump : byte_at t 0 ≡ 0x19) where
    size_attribute : 0 < size_of (standing offset (attribute_of t))
    unfolding token_of any_of base_of pick
    size_attribute = rw jump at some

    pub attribute_whole : 4 ≤ length t
    unfolding attribute_of pick
    attribute_whole = go (ltb (length t) 4) refl size_attribute
      where
        go : (b : Bool) → ltb (length t) 4 ≡ b → 0 < size_of (standing offset (pick b (Err 13) (attribute_by (byte_at t 1) t))) → 4 ≤ length t
        go true e h = absurd (omega arith)
        go false e h = ltb-false (length t) 4 e

    pub kind_some : 1 < length t
    kind_some = omega (arith, attribute_whole)

    as_choice : byte_at t 1 ≡ 0x04 → attribute_of t ≡ choice_of (u16_at t 2) t
    unfolding attribute_of attribute_by pick
    as_choice kind = let l : ltb (length t) 4 ≡ false = le-ltb (length t) 4 attribute_whole in rw (l, kind) refl

    pub choice_whole : byte_at t 1 ≡ 0x04 → 4 + 2 * (u16_at t 2 + 1) ≤ length t
    unfolding choice_of pick
    choice_whole kind = go (ltb (length t) (4 + 2 * (u16_at t 2 + 1))) refl (rw (as_choice kind) at size_attribute)
      where
        go : (b : Bool) → ltb (length t) (4 + 2 * (u16_at t 2 + 1)) ≡ b → 0 < size_of (standing offset (pick b (Err 13) (Ok (Plain (4 + 2 * (u16_at t 2 + 1)) 0 0)))) → 4 + 2 * (u16_at t 2 + 1) ≤ length t
        go true e h = absurd (omega arith)
        go false e h = ltb-false (length t) (4 + 2 * (u16_at t 2 + 1)) e

pub ruleset sized = (token_some, attribute_whole, kind_some, choice_whole)

-- ---- from token to token
module _ (t : List ℕ) (offset depth target : ℕ) where
  abbrev pub here : ℕ → ℕ
  here at = size_of (token_of (drop at t) (offset + at) depth)

  pub to_target : (at : ℕ) → at ≡ target → towards t offset depth target at ≡ stop true
  unfolding towards
  to_target at h = sym (pick_eq _ _ _ at target h refl')

  pub to_end : (at : ℕ) → (at ≡ target → ⊥) → here at ≡ 0 → towards t offset depth target at ≡ stop false
  unfolding towards
  to_end at h i = sym (pick_ne _ _ _ at target h (pick_eq _ _ _ (here at) 0 i refl'))

  pub to_next : (at : ℕ) → (at ≡ target → ⊥) → (here at ≡ 0 → ⊥) → towards t offset depth target at ≡ more (at + here at)
  unfolding towards
  to_next at h i = sym (pick_ne _ _ _ at target h (pick_ne _ _ _ (here at) 0 i refl'))

  pub falls : Falls (towards t offset depth target) (λ at. length t - at)
  falls at next e = go (eqb at target) refl (eqb (here at) 0) refl
    where
      go : (p : Bool) → eqb at target ≡ p → (q : Bool) → eqb (here at) 0 ≡ q → length t - next < length t - at
      go true f q g = let z : stop true ≡ more next = sym (to_target at (eqb-true at target f)) ∙ e in never (cc)
      go false f true g = let z : stop false ≡ more next = sym (to_end at (eqb-false at target f) (eqb-true (here at) 0 g)) ∙ e in never (cc)
      go false f false g =
          let z : more (at + here at) ≡ more next = sym (to_next at (eqb-false at target f) (eqb-false (here at) 0 g)) ∙ e in
          let n : at + here at ≡ next = cc in
          omega (arith, eqb-false (here at) 0 g, size_in (drop at t) (offset + at) depth, length-drop at t)

-- the tokens up to `at` are passed, and none of them is the target
pub record Reached (t : List ℕ) (offset depth target at : ℕ) : Type 0 where
  pub within : at ≤ length t
  pub same : lands_from t offset depth target at ≡ lands_on t offset depth target

pub at_start : (t : List ℕ) (offset depth target : ℕ) → Reached t offset depth target 0
unfolding lands_on
at_start t offset depth target = record { within = omega arith; same = refl }

module _ (t : List ℕ) (offset depth target at : ℕ) (on : Reached t offset depth target at) where
  stopped : (a : Bool) → towards t offset depth target at ≡ stop a → a ≡ lands_on t offset depth target
  unfolding lands_from
  stopped a e = sym (run_stop (towards t offset depth target) false (λ at. length t - at) (falls t offset depth target) e) ∙ on.same

  pub reached : at ≡ target → true ≡ lands_on t offset depth target
  reached h = stopped true (to_target t offset depth target at h)

  pub at_end_lem : length t ≤ at → eqb at target ≡ lands_on t offset depth target
  at_end_lem h = go (eqb at target) refl
    where
      go : (b : Bool) → eqb at target ≡ b → b ≡ lands_on t offset depth target
      go true f = reached (eqb-true at target f)
      go false f = stopped false (to_end t offset depth target at (eqb-false at target f) (omega (arith, size_in (drop at t) (offset + at) depth, length-drop at t)))

  -- q is the place there, and x its token
  module _ (q : Place) (a : q.bytes.now ≡ drop at t) (b : q.offset ≡ offset + at) (c : q.depth ≡ depth) (apart : at ≡ target → ⊥) (some : at < length t) (x : Result Token Refusal) (r : x ≡ token_of q.bytes.now q.offset q.depth) where
    is_here : size_of x ≡ here t offset depth target at
    is_here = rw (r, a, b, c) refl

    pub no_token : (y : Refusal) → x ≡ Err y → false ≡ lands_on t offset depth target
    no_token y z = stopped false (to_end t offset depth target at apart (sym is_here ∙ ap size_of z))

    module _ (y : Token) (z : x ≡ Ok y) (size : ℕ) (s : size ≡ size_of (Ok y)) where
      is_size : size ≡ here t offset depth target at
      is_size = s ∙ ap size_of (sym z) ∙ is_here

      size_some : size ≡ 0 → ⊥
      size_some h = at_least_one (drop at t) (offset + at) depth y (simp length-drop (omega arith)) (sym (rw (a, b, c, z) at r)) (sym s ∙ h)

      next_within : at + size ≤ length t
      next_within = omega (arith, is_size, size_in (drop at t) (offset + at) depth, length-drop at t, on.within)

      pub next_token : Reached t offset depth target (at + size)
      unfolding lands_from
      next_token = record {
        within = next_within;
        same = rw is_size (sym (run_more (towards t offset depth target) false (λ at. length t - at) (falls t offset depth target) (to_next t offset depth target at apart (λ i. size_some (is_size ∙ i)))) ∙ on.same);
      }

      pub next_fits : offset + length t < 2 ^ 32 → Fits w64 (at + size)
      next_fits h = record { fits = omega (arith, next_within) }

      pub next_nearer : length t - (at + size) < length t - at
      next_nearer = omega (arith, next_within, size_some)

pub ruleset on_token_lem = (at_start, reached, at_end_lem, no_token, next_token, next_fits, next_nearer)

-- ---- the words of a table: e is the answer from the first on, and i of n words are behind
module _ (t : List ℕ) (offset depth n i : ℕ) (e : Bool) (on : all_land t offset depth (table_of (n - i) t (4 + 2 * i)) ≡ e) where
  pub table_done : n ≤ i → true ≡ e
  unfolding table_of all_land
  table_done h = let z : n - i ≡ 0 = omega arith in rw z at on

  module _ (w : ℕ) (lands : Bool) (some : i < n) (f : w ≡ u16_at t (4 + 2 * i)) (r : lands ≡ lands_on t offset depth (4 + w)) where
    stepped : pick lands (all_land t offset depth (table_of (n - (i + 1)) t (4 + 2 * (i + 1)))) false ≡ e
    unfolding table_of all_land
    stepped =
        let s : n - i ≡ suc (n - (i + 1)) = omega arith in
        let next : 4 + 2 * (i + 1) ≡ 4 + 2 * i + 2 = omega arith in
        rw (r, f, next) (rw s at on)

    pub table_next : lands ≡ true → all_land t offset depth (table_of (n - (i + 1)) t (4 + 2 * (i + 1))) ≡ e
    unfolding pick
    table_next h = rw h at stepped

    pub table_astray : lands ≡ false → false ≡ e
    unfolding pick
    table_astray h = rw h at stepped

pub ruleset on_word = (table_done, table_next, table_astray)

-- ---- by the kind
module _ (t : List ℕ) (offset depth : ℕ) where
  one_target : (x : ℕ) → lands_on t offset depth x ≡ all_land t offset depth (x ∷ [])
  unfolding all_land pick
  one_target x = go (lands_on t offset depth x)
    where
      go : (b : Bool) → b ≡ pick b true false
      go true = refl
      go false = refl

  module _ (r : Bool) (n : ℕ) (f : n ≡ u16_at t 2) where
    pub lands_if : byte_at t 1 ≡ 0x02 → r ≡ lands_on t offset depth (4 + n) → r ≡ all_land t offset depth (targets_by (byte_at t 1) t)
    unfolding targets_by pick
    lands_if k h = rw k (h ∙ ap (λ (m : ℕ). lands_on t offset depth (4 + m)) f ∙ one_target (4 + u16_at t 2))

    pub lands_goto : byte_at t 1 ≡ 0x08 → r ≡ lands_on t offset depth (4 + n + 1) → r ≡ all_land t offset depth (targets_by (byte_at t 1) t)
    unfolding targets_by pick
    lands_goto k h = rw k (h ∙ ap (λ (m : ℕ). lands_on t offset depth (4 + m + 1)) f ∙ one_target (4 + u16_at t 2 + 1))

    pub lands_choose : byte_at t 1 ≡ 0x04 → r ≡ all_land t offset depth (table_of (n + 1) t 4) → r ≡ all_land t offset depth (targets_by (byte_at t 1) t)
    unfolding targets_by pick
    lands_choose k h = rw k (h ∙ ap (λ (m : ℕ). all_land t offset depth (table_of (m + 1) t 4)) f)

  pub lands_plain : (byte_at t 1 ≡ 0x02 → ⊥) → (byte_at t 1 ≡ 0x08 → ⊥) → (byte_at t 1 ≡ 0x04 → ⊥) → true ≡ all_land t offset depth (targets_by (byte_at t 1) t)
  unfolding all_land targets_by
  lands_plain p q r = ap (all_land t offset depth) (pick_ne [] _ _ (byte_at t 1) 0x02 p (pick_ne _ _ _ (byte_at t 1) 0x08 q (pick_ne _ _ _ (byte_at t 1) 0x04 r refl)))

pub ruleset on_kind = (sized, lands_if, lands_goto, lands_choose, lands_plain)

-- ---- any token
module _ (t : List ℕ) (offset depth : ℕ) where
  pub lands_attribute : (r : Bool) → byte_at t 0 ≡ 0x19 → r ≡ all_land t offset depth (targets_by (byte_at t 1) t) → r ≡ lands_of t offset depth
  unfolding lands_of targets_of pick
  lands_attribute r e h = rw e h

  pub lands_other : (byte_at t 0 ≡ 0x19 → ⊥) → true ≡ lands_of t offset depth
  unfolding lands_of targets_of all_land
  lands_other e = ap (all_land t offset depth) (pick_ne [] _ _ (byte_at t 0) 0x19 e refl)

pub ruleset any_token = (token_some, lands_attribute, lands_other)
