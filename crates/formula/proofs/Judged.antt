-- From what was seen of all tokens to the judgement. Assumes nothing.
use Rattle.std.proofs.Common.{◌≡◌, ℕ, ◌+◌, ◌-◌, ◌^◌, ◌≤◌, ◌<◌, Bool, true, false, List, [], ◌∷◌, Option, Some, None, Result, Ok, Err, ltb, eqb, ltb-true, ltb-false, length, drop, length-drop, refl, sym, ◌∙◌, le_refl, arith}
use Rattle.std.proofs.Math.Seq.{drop-drop}
use Rattle.steps.specs.Choice.{pick}
use Rattle.steps.proofs.Choice.{never, pick_eq, pick_ne, pick_lt, pick_nlt, pick_yes, pick_no, refl'}
use Rattle.byte_numbers.specs.Bytes.{byte_at}
use Rattle.refusal.specs.declared.Refusal.{Refusal}
use Rattle.refusal.specs.Refused.{refuse}
use Rattle.tokens.specs.Judge.{Judgement, if_accepted, formula_of, tokens_judged}
use Rattle.jumps.specs.Jumps.{lands_of}
use Rattle.formula.specs.declared.Seen.{Seen}
use Rattle.formula.specs.Judge.{Place, places_of, data_of, on_data, trailing_of, jumps_of, after_tokens, judge_of}
use Rattle.formula.specs.Parts.{Left, left, seen_is, astray_after, seen_after, and_then, seen_of, unless_astray, rest_judged, verdict_of, Right}
use Rattle.formula.proofs.OneToken.{size_within}

-- ---- the walk sees what the trailing data and the jumps say one after the other
module _ (d : List ℕ) (end : ℕ) where
  -- the trailing bytes from `at` on are left
  abbrev from : ℕ → Option ℕ → Left
  from at astray = record { rest = drop at d; astray = astray }

  -- the jumps, after those that were seen
  abbrev jumps_after : Option ℕ → List Place → Judgement
  jumps_after None ps = jumps_of ps
  jumps_after (Some o) ps = refuse 13 o

  offset_at : (at : ℕ) → at ≤ length d → end + length d - length (drop at d) ≡ end + at
  offset_at at l = omega (arith, length-drop at d)

  none_left : (at : ℕ) (astray : Option ℕ) → at ≤ length d → if_accepted (trailing_of d end [] at) (jumps_after astray []) ≡ verdict_of (end + length d) (Ok (from at astray))
  unfolding trailing_of jumps_of rest_judged pick
  none_left at astray l = by (ltb at (length d)) refl
    where
      done : (a : Option ℕ) → jumps_after a [] ≡ unless_astray a
      done None = refl
      done (Some o) = refl

      by : (b : Bool) → ltb at (length d) ≡ b → if_accepted (pick b (refuse 13 (end + at)) (Ok tt)) (jumps_after astray []) ≡ verdict_of (end + length d) (Ok (from at astray))
      by true e = pick_ne _ _ _ (length (drop at d)) 0 (λ z. omega (arith, length-drop at d, ltb-true at (length d) e)) (rw (offset_at at l) refl)
      by false e = done astray ∙ pick_eq _ _ _ (length (drop at d)) 0 (omega (arith, length-drop at d, ltb-false at (length d) e)) refl

  -- the jumps from a token on, by whether its own land
  abbrev jumps_with : List Place → ℕ → Option ℕ → Bool → Judgement
  jumps_with ps offset None lands = pick lands (jumps_of ps) (refuse 13 offset)
  jumps_with ps offset (Some o) lands = refuse 13 o

  jumps_more : (p : Place) (ps : List Place) (a : Option ℕ) → jumps_after a (p ∷ ps) ≡ jumps_with ps p.offset a (lands_of p.bytes p.offset p.depth)
  unfolding jumps_of
  jumps_more p ps None = refl
  jumps_more p ps (Some o) = refl

  jumps_same : (ps : List Place) (offset : ℕ) (a : Option ℕ) (b : Bool) → jumps_with ps offset a b ≡ jumps_after (astray_after a b offset) ps
  unfolding pick
  jumps_same ps offset (Some o) b = refl
  jumps_same ps offset None true = refl
  jumps_same ps offset None false = refl

  one_more : (p : Place) (ps : List Place) (at : ℕ) (astray : Option ℕ) → at ≤ length d
      → ((size : ℕ) (a : Option ℕ) → at + size ≤ length d → if_accepted (trailing_of d end ps (at + size)) (jumps_after a ps) ≡ verdict_of (end + length d) (seen_of ps (from (at + size) a)))
      → if_accepted (trailing_of d end (p ∷ ps) at) (jumps_after astray (p ∷ ps)) ≡ verdict_of (end + length d) (seen_of (p ∷ ps) (from at astray))
  unfolding trailing_of seen_of seen_after
  one_more p ps at astray l ih = rw (jumps_more p ps astray, jumps_same ps p.offset astray (lands_of p.bytes p.offset p.depth)) (by (astray_after astray (lands_of p.bytes p.offset p.depth) p.offset) (data_of (byte_at p.bytes 0) (drop at d)) refl)
    where
      by : (a : Option ℕ) (x : Option ℕ) → x ≡ data_of (byte_at p.bytes 0) (drop at d)
          → if_accepted (on_data (refuse 13 (end + at)) (λ size. trailing_of d end ps (at + size)) x) (jumps_after a ps)
          ≡ verdict_of (end + length d) (and_then (seen_of ps) (on_data (Err (length (drop at d))) (λ size. Ok (record { rest = drop size (drop at d); astray = a })) x))
      by a (Some size) e =
          let m : at + size ≤ length d = omega (arith, size_within (byte_at p.bytes 0) (drop at d) (Some size) size e refl, length-drop at d) in
          rw drop-drop (ih size a m)
      by a None e = rw (offset_at at l) refl

  all_left : (ps : List Place) (at : ℕ) (astray : Option ℕ) → at ≤ length d → if_accepted (trailing_of d end ps at) (jumps_after astray ps) ≡ verdict_of (end + length d) (seen_of ps (from at astray))
  unfolding seen_of
  all_left [] at astray l = none_left at astray l
  all_left (p ∷ ps) at astray l = one_more p ps at astray l (λ size a m. all_left ps (at + size) a m)

  pub as_seen : (ps : List Place) → after_tokens d end ps ≡ verdict_of (end + length d) (seen_of ps (record { rest = d; astray = None }))
  unfolding after_tokens
  as_seen ps = all_left ps 0 None (omega arith)

-- ---- what was seen of all tokens
-- no more trailing bytes are left than there were
unfoldable LeftWithin : ℕ → Result Left ℕ → Type 0
LeftWithin n (Ok s) = length s.rest ≤ n
LeftWithin n (Err m) = m ≤ n

seen_within : (ps : List Place) (s : Left) (n : ℕ) → length s.rest ≤ n → LeftWithin n (seen_of ps s)
unfolding seen_of seen_after LeftWithin
seen_within [] s n l = l
seen_within (p ∷ ps) s n l = by (λ m h. seen_within ps m n h) (data_of (byte_at p.bytes 0) s.rest)
  where
    by : ((m : Left) → length m.rest ≤ n → LeftWithin n (seen_of ps m)) → (x : Option ℕ)
        → LeftWithin n (and_then (seen_of ps) (on_data (Err (length s.rest)) (λ size. Ok (record { rest = drop size s.rest; astray = astray_after s.astray (lands_of p.bytes p.offset p.depth) p.offset })) x))
    by ih (Some size) = ih _ (omega (arith, length-drop size s.rest))
    by ih None = l

pub no_astray : (a : Option ℕ) → a ≡ None → Ok tt ≡ unless_astray a
no_astray a e = rw e refl

pub one_astray : (a : Option ℕ) (o : ℕ) → a ≡ Some o → refuse 13 o ≡ unless_astray a
one_astray a o e = rw e refl

pub ruleset on_verdict = (pick_yes, pick_no, no_astray, one_astray, refl')

-- ---- the answer on the whole
module _ (b d : List ℕ) (first : Judgement) (e : first ≡ tokens_judged b) where
  pub tokens_refused : (r : Refusal) (y : Judgement) → first ≡ Err r → y ≡ Err r → y ≡ judge_of b d
  unfolding judge_of
  tokens_refused r y f g = rw (g, ← e, f) refl

  module _ (u : Unit {0}) (f : first ≡ Ok u) where
    pub short : length b < 2 ^ 32
    unfolding tokens_judged pick
    short = go (eqb (length b) 0) (ltb 1800 (length b)) refl (sym e ∙ f)
      where
        go : (p q : Bool) → ltb 1800 (length b) ≡ q → pick p (refuse 13 0) (pick q (refuse 13 0) (formula_of (length b) b 0 0 0)) ≡ Ok u → length b < 2 ^ 32
        go true q g h = never (cc)
        go false true g h = never (cc)
        go false false g h = omega (arith, ltb-false 1800 (length b) g)

    -- r is what is seen of all tokens
    module _ (r : Result Seen ℕ) (right : Right b 0 0 (record { rest = d; astray = None }) (seen_is r)) where
      all_seen : verdict_of (length b + length d) (seen_is r) ≡ judge_of b d
      unfolding judge_of Right
      all_seen = rw (← e, f) (rw (right (length b) (le_refl (length b))) (sym (as_seen d (length b) (places_of (length b) b 0 0))))

      within : LeftWithin (length d) (seen_is r)
      unfolding Right
      within = rw (right (length b) (le_refl (length b))) (seen_within (places_of (length b) b 0 0) _ (length d) (le_refl (length d)))

      pub rest_fits : (s : Seen) → r ≡ Ok s → length s.rest.now ≤ length b + length d
      unfolding LeftWithin
      rest_fits s g = omega (arith, rw g at within)

      pub left_fits : (n : ℕ) → r ≡ Err n → n ≤ length b + length d
      unfolding LeftWithin
      left_fits n g = omega (arith, rw g at within)

      pub judged : (s : Seen) (y : Judgement) → r ≡ Ok s → y ≡ rest_judged (length b + length d) (left s) → y ≡ judge_of b d
      judged s y g h = h ∙ (rw g at all_seen)

      pub data_refused : (n : ℕ) → r ≡ Err n → refuse 13 (length b + length d - n) ≡ judge_of b d
      data_refused n g = rw g at all_seen

pub ruleset on_answer = (tokens_refused, short, rest_fits, left_fits, judged, data_refused)
