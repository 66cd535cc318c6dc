-- That trailing data lies within the bytes that are left. Assumes nothing.
use Rattle.std.proofs.Common.{ℕ, zero, suc, ◌+◌, ◌-◌, ◌^◌, ◌<◌, ◌*◌, ◌%◌, ◌≤◌, ◌≡◌, List, Option, Some, None, option_and_then, Bool, true, false, length, take, drop, length-drop, ltb, ltb-false, refl, sym, ap, ◌∙◌, bit_and, Fits, w64, arith}
use Rattle.std.proofs.Math.Seq.{take_all}
use Rattle.std.specs.Bool.{then_some}
use Rattle.std.proofs.lemmas.Nat.{and_mask}
use Rattle.steps.specs.Choice.{pick}
use Rattle.steps.proofs.Choice.{pick_by, pick_any}
use Rattle.byte_numbers.specs.Bytes.{byte_at, u16_at}
use Rattle.trailing.specs.Trailing.{uncut, sized_of, text_of, truth_of, error_of, element_by, element_of, elements_of, array_of, areas_of}

-- ---- within what is left
unfoldable pub DataWithin : ℕ → Option ℕ → Type 0
DataWithin left (Some size) = size ≤ left
DataWithin left None = Unit

module _ (left : ℕ) where
  bad : DataWithin left None
  unfolding DataWithin
  bad = tt

  takes : (size : ℕ) → size ≤ left → DataWithin left (Some size)
  unfolding DataWithin
  takes size h = h

  pub takes_within : (size : ℕ) (x : Option ℕ) → DataWithin left x → x ≡ Some size → size ≤ left
  unfolding DataWithin
  takes_within size x h e = rw e at h

module _ (t : List ℕ) where
  uncut_in : (size : ℕ) (x : Option ℕ) → (size ≤ length t → DataWithin (length t) x) → DataWithin (length t) (uncut size t x)
  uncut_in size x f = pick_by (DataWithin (length t)) (ltb (length t) size) (λ e. bad (length t)) (λ e. f (ltb-false (length t) size e))

  sized_in : (size : ℕ) → DataWithin (length t) (sized_of size t)
  unfolding sized_of
  sized_in size = uncut_in size (Some size) (λ h. takes (length t) size h)

  text_in : DataWithin (length t) (text_of t)
  unfolding text_of
  text_in = uncut_in 4 _ (λ h. sized_in _)

  truth_in : DataWithin (length t) (truth_of t)
  unfolding truth_of
  truth_in = uncut_in 9 _ (λ h. pick_any (DataWithin (length t)) _ (takes (length t) 9 h) (bad (length t)))

  error_in : DataWithin (length t) (error_of t)
  unfolding error_of
  error_in = uncut_in 9 _ (λ h. pick_any (DataWithin (length t)) _ (takes (length t) 9 h) (bad (length t)))

  pub element_in : DataWithin (length t) (element_of t)
  unfolding element_of element_by
  element_in =
      let W = DataWithin (length t) in
      uncut_in 1 _ (λ h. pick_any W _ (sized_in 9) (pick_any W _ (sized_in 9) (pick_any W _ text_in (pick_any W _ truth_in (pick_any W _ error_in (bad (length t)))))))

elements_in : (n : ℕ) (t : List ℕ) (at : ℕ) → at ≤ length t → DataWithin (length t) (elements_of n t at)
unfolding elements_of
elements_in zero t at h = takes (length t) at h
elements_in (suc n) t at h = go (λ next l. elements_in n t next l) (element_of (drop at t)) (element_in (drop at t))
  where
    go : ((next : ℕ) → next ≤ length t → DataWithin (length t) (elements_of n t next)) → (x : Option ℕ) → DataWithin (length (drop at t)) x → DataWithin (length t) (option_and_then (λ size. elements_of n t (at + size)) x)
    go ih (Some size) w = ih (at + size) (omega (arith, takes_within (length (drop at t)) size (Some size) w refl, length-drop at t))
    go ih None w = bad (length t)

module _ (t : List ℕ) where
  pub array_within : DataWithin (length t) (array_of t)
  unfolding array_of
  array_within = uncut_in t 3 _ (λ h. elements_in _ t 3 h)

  pub areas_within : DataWithin (length t) (areas_of t)
  unfolding areas_of
  areas_within = uncut_in t 2 _ (λ h. sized_in t _)

-- ---- as the code comes to them
-- what a call said of its test, r, after a size that was asked for
pub some_if : (r t : Bool) (n m : ℕ) (x : Option ℕ) → x ≡ then_some r n → r ≡ t → n ≡ m → x ≡ pick t (Some m) None
unfolding pick
some_if true t n m x d e f = rw (← e, d, f) refl
some_if false t n m x d e f = rw (← e, d) refl

pub characters : (t : List ℕ) (x : Option ℕ) (n m w : ℕ) → x ≡ sized_of (4 + n * (1 + w)) t → n ≡ m → m ≡ u16_at t 1 → w ≡ bit_and (byte_at t 3) 1 → x ≡ sized_of (4 + u16_at t 1 * (1 + byte_at t 3 % 2)) t
characters t x n m w d e f g = let b : w ≡ byte_at t 3 % 2 = g ∙ and_mask (byte_at t 3) 1 in rw (← b, ← f, ← e) d

-- ---- one element after the other: e is the answer from the first on, and i of n elements are behind
module _ (t : List ℕ) (n i at : ℕ) (e : Option ℕ) (on : elements_of (n - i) t at ≡ e) where
  pub elements_done : n ≤ i → Some at ≡ e
  unfolding elements_of
  elements_done h = let z : n - i ≡ 0 = omega arith in rw z at on

  module _ (x : Option ℕ) (within : at ≤ length t) (some : i < n) (r : x ≡ element_of (take (length t - at) (drop at t))) where
    whole : x ≡ element_of (drop at t)
    whole = r ∙ ap element_of (take_all (length t - at) (drop at t) (omega (arith, length-drop at t)))

    stepped : option_and_then (λ size. elements_of (n - (i + 1)) t (at + size)) x ≡ e
    unfolding elements_of
    stepped = let s : n - i ≡ suc (n - (i + 1)) = omega arith in rw whole (rw s at on)

    pub elements_bad : x ≡ None → None ≡ e
    elements_bad h = rw h at stepped

    pub elements_next : (size : ℕ) → x ≡ Some size → elements_of (n - (i + 1)) t (at + size) ≡ e
    elements_next size h = rw h at stepped

    pub next_within : (size : ℕ) → x ≡ Some size → at + size ≤ length t
    next_within size h = omega (arith, takes_within (length (drop at t)) size (element_of (drop at t)) (element_in (drop at t)) (sym whole ∙ h), length-drop at t)

    pub next_fits : (size : ℕ) → x ≡ Some size → length t < 2 ^ 64 → Fits w64 (at + size)
    next_fits size h f = record { fits = omega (arith, next_within size h) }

pub ruleset on_element = (elements_done, elements_bad, elements_next, next_within, next_fits)
