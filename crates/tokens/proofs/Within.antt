-- Every token lies within what is left of its formula. Assumes nothing.
use Rattle.std.proofs.Common.{◌≡◌, ℕ, suc, ◌+◌, ◌-◌, ◌*◌, ◌%◌, ◌^◌, ◌≤◌, ◌<◌, List, Bool, true, false, Option, Some, None, Result, Ok, Err, eqb, length, take, drop, length-take, length-drop, lit≤, ltb-false, leb-false, eqb-true, Fits, w8, w64, refl, sym, ◌∙◌, arith}
use Rattle.std.proofs.lemmas.Bool.{eqb-false}
use Rattle.steps.specs.Choice.{pick}
use Rattle.byte_numbers.specs.Bytes.{byte_at, u16_at}
use Rattle.refusal.specs.declared.Refusal.{Refusal}
use Rattle.function_counts.specs.declared.Counts.{Counts}
use Rattle.function_counts.specs.Counts.{counts_of}
use Rattle.tokens.specs.declared.Token.{Token}
use Rattle.tokens.specs.declared.Token.TheVariants.{Plain, Memory}
use Rattle.tokens.specs.Tokens.{uncut, operand_of, whole_of, text_of, choice_of, attribute_by, attribute_of, error_of, truth_of, base_of, reference_of, area_of, fixed_by, fixed_of, called_of, variable_by, variable_of, inner_of, memory_of, classified_of, standing, any_of, token_of}

-- a token has a byte at least, and all are there; it gives one operand at most; a memory token has inner bytes, and lies inside less than eight others
unfoldable pub TokenWithin : {E : Type 0} → ℕ → ℕ → Result Token E → Type 0
TokenWithin left depth (Ok (Plain size takes gives)) = (1 ≤ size) × (size ≤ left) × (gives ≤ 1)
TokenWithin left depth (Ok (Memory size head)) = (1 ≤ head) × (head < size) × (size ≤ left) × (depth < 8)
TokenWithin left depth (Err e) = Unit

invalid : (left depth number : ℕ) → TokenWithin {E = ℕ} left depth (Err number)
unfolding TokenWithin
invalid left depth number = tt

plain : (left depth size takes gives : ℕ) → 1 ≤ size → size ≤ left → gives ≤ 1 → TokenWithin {E = ℕ} left depth (Ok (Plain size takes gives))
unfolding TokenWithin
plain left depth size takes gives p q r = (p, q, r)

memory : (left depth size head : ℕ) → 1 ≤ head → head < size → size ≤ left → depth < 8 → TokenWithin {E = ℕ} left depth (Ok (Memory size head))
unfolding TokenWithin
memory left depth size head p q r s = (p, q, r, s)

either : (left depth : ℕ) (b : Bool) (x y : Result Token ℕ) → TokenWithin left depth x → TokenWithin left depth y → TokenWithin left depth (pick b x y)
unfolding pick
either left depth true x y p q = p
either left depth false x y p q = q

ruleset sides = (either, invalid, plain, lit≤)

-- what is known of the test may be used on either side
tested : (left depth : ℕ) (b : Bool) (x y : Result Token ℕ) → (b ≡ true → TokenWithin left depth x) → (b ≡ false → TokenWithin left depth y) → TokenWithin left depth (pick b x y)
unfolding pick
tested left depth true x y p q = p refl
tested left depth false x y p q = q refl

module _ (t : List ℕ) (depth : ℕ) where
  uncut_in : (size : ℕ) (x : Result Token ℕ) → (size ≤ length t → TokenWithin (length t) depth x) → TokenWithin (length t) depth (uncut size t x)
  uncut_in size x f = tested _ _ _ _ _ (λ e. invalid _ _ 13) (λ e. f (ltb-false _ _ e))

  operand_in : (size : ℕ) → 1 ≤ size → TokenWithin (length t) depth (operand_of size t)
  unfolding operand_of
  operand_in size p = uncut_in size _ (λ h. plain _ _ size 0 1 p h (omega arith))

  whole_in : (offset : ℕ) → TokenWithin (length t) depth (whole_of offset t)
  unfolding whole_of
  whole_in offset =
      either _ _ _ _ _
      (tested _ _ (eqb (length t) 5) _ _ (λ e. plain _ _ 5 0 1 (omega arith) (omega (arith, eqb-true (length t) 5 e)) (omega arith)) (λ e. invalid _ _ 13))
      (invalid _ _ 13)

  text_in : TokenWithin (length t) depth (text_of t)
  unfolding text_of
  text_in = uncut_in 3 _ (λ h. operand_in _ (omega arith))

  choice_in : (n : ℕ) → TokenWithin (length t) depth (choice_of n t)
  unfolding choice_of
  choice_in n = uncut_in (4 + 2 * (n + 1)) _ (λ h. plain _ _ (4 + 2 * (n + 1)) 0 0 (omega arith) h (omega arith))

  attribute_in : TokenWithin (length t) depth (attribute_of t)
  unfolding attribute_of attribute_by
  attribute_in = uncut_in 4 _ (λ h. search (sides, choice_in) depth 24)

  error_in : TokenWithin (length t) depth (error_of t)
  unfolding error_of
  error_in = uncut_in 2 _ (λ h. search sides)

  truth_in : TokenWithin (length t) depth (truth_of t)
  unfolding truth_of
  truth_in = uncut_in 2 _ (λ h. search sides)

  base_in : (id offset : ℕ) → 0 < length t → TokenWithin (length t) depth (base_of id offset t)
  unfolding base_of
  base_in id offset h = search (sides, whole_in, text_in, attribute_in, error_in, truth_in, operand_in) depth 24

  reference_in : (size : ℕ) → 1 ≤ size → TokenWithin (length t) depth (reference_of size t)
  unfolding reference_of
  reference_in size p = uncut_in size _ (λ h. search sides)

  area_in : (size : ℕ) → 1 ≤ size → TokenWithin (length t) depth (area_of size t)
  unfolding area_of
  area_in size p = uncut_in size _ (λ h. search (sides, reference_in))

  fixed_in : TokenWithin (length t) depth (fixed_of t)
  unfolding fixed_of
  fixed_in = uncut_in 3 _ (λ h. go (counts_of (u16_at t 1)) h)
    where
      go : (c : Option Counts) → 3 ≤ length t → TokenWithin (length t) depth (fixed_by c)
      go None h = invalid _ _ 15
      go (Some c) h = search sides

  variable_in : TokenWithin (length t) depth (variable_of t)
  unfolding variable_of called_of
  variable_in = uncut_in 4 _ (λ h. go (counts_of (u16_at t 2)) h)
    where
      go : (c : Option Counts) → 4 ≤ length t → TokenWithin (length t) depth (variable_by (byte_at t 1 % 128) c)
      go None h = invalid _ _ 15
      go (Some c) h = search sides depth 8

  memory_in : (head : ℕ) → 1 ≤ head → TokenWithin (length t) depth (memory_of head depth t)
  unfolding memory_of inner_of
  memory_in head p =
      uncut_in head _
      (λ h. tested _ _ _ _ _ (λ e. invalid _ _ 13)
      (λ d. tested _ _ _ _ _ (λ e. invalid _ _ 13)
      (λ e. uncut_in _ _ (λ i. memory _ _ _ head p (longer head _ (eqb-false _ _ e)) i (leb-false _ _ d)))))
    where
      longer : (a n : ℕ) → (n ≡ 0 → ⊥) → a < a + n
      longer a n z = omega arith

  classified_in : (id : ℕ) → TokenWithin (length t) depth (classified_of id depth t)
  unfolding classified_of
  classified_in id = search (sides, operand_in, reference_in, area_in, fixed_in, variable_in, memory_in) depth 24 fits 10000

  any_in : (offset : ℕ) → 0 < length t → TokenWithin (length t) depth (any_of t offset depth)
  unfolding any_of
  any_in offset h = either _ _ _ _ _ (base_in _ offset h) (either _ _ _ _ _ (classified_in _) (invalid _ _ 13))

  standing_in : (offset : ℕ) (x : Result Token ℕ) → TokenWithin (length t) depth x → TokenWithin (length t) depth (standing offset x)
  unfolding TokenWithin
  standing_in offset (Ok (Plain size takes gives)) h = h
  standing_in offset (Ok (Memory size head)) h = h
  standing_in offset (Err number) h = tt

  pub token_within : (offset : ℕ) → 0 < length t → TokenWithin (length t) depth (token_of t offset depth)
  unfolding token_of
  token_within offset h = standing_in offset _ (any_in offset h)

-- ---- the token that t starts with, x
module _ (t : List ℕ) (offset depth : ℕ) (some : 0 < length t) (x : Result Token Refusal) (e : x ≡ token_of t offset depth) where
  pub plain_facts : (size takes gives : ℕ) → x ≡ Ok (Plain size takes gives) → (1 ≤ size) × (size ≤ length t) × (gives ≤ 1)
  unfolding TokenWithin
  plain_facts size takes gives f = rw (sym e ∙ f) at (token_within t depth offset some)

  pub memory_facts : (size head : ℕ) → x ≡ Ok (Memory size head) → (1 ≤ head) × (head < size) × (size ≤ length t) × (depth < 8)
  unfolding TokenWithin
  memory_facts size head f = rw (sym e ∙ f) at (token_within t depth offset some)

  -- what a call on a memory token's inner bytes asks
  module _ (size head : ℕ) (f : x ≡ Ok (Memory size head)) where
    pub head_within : head ≤ size
    head_within = omega (arith, memory_facts size head f)

    pub size_within : size ≤ length t
    size_within = omega (arith, memory_facts size head f)

    pub offset_fits : offset + length t < 2 ^ 32 → Fits w64 (offset + head)
    offset_fits h = omega (arith, memory_facts size head f)

    pub depth_fits : Fits w8 (depth + 1)
    depth_fits = omega (arith, memory_facts size head f)

    pub inner_falls : (m : ℕ) → 2 * length t ≡ m → 2 * length (take (size - head) (drop head t)) + 1 < m
    inner_falls m h = simp (length-take, length-drop) (omega (arith, memory_facts size head f))

    pub inner_fits : offset + length t < 2 ^ 32 → offset + head + length (take (size - head) (drop head t)) < 2 ^ 32
    inner_fits h = simp (length-take, length-drop) (omega (arith, memory_facts size head f))

    pub inner_shorter : (k : ℕ) → length t ≤ suc k → length (take (size - head) (drop head t)) ≤ k
    inner_shorter k l = simp (length-take, length-drop) (omega (arith, memory_facts size head f))

pub ruleset inner_laws = (head_within, size_within, offset_fits, depth_fits, inner_falls, inner_fits)
