-- The laws that the functions' proofs cite. Assumes nothing.
use Prim.Native.Nat.{ℕ, suc, ◌+◌, ◌-◌, ◌≤◌, ◌<◌}
use mathlib.Core.Path.{◌≡◌, refl, sym, ap, ◌∙◌, subst}
use mathlib.Core.List.{List, ◌∷◌, append_assoc}
use native.Mathlib.Omega.{arith}
use lib.ListN.{length, set, take, drop, replicate, length-set, length-take, length-drop, length-replicate}
use Rattle.std.proofs.Common.{drop-drop}
use lib.Seq.{sets, sets-eq}
use borrow.Rule.Slice.PartMut.{put_mid}
use Rattle.segments.specs.declared.Cursor.{Cursor}
use Rattle.std.specs.Prelude.{Result, Ok, Err, IsOk}
use Rattle.refusal.specs.declared.Refusal.{Refusal}
use Rattle.segments.specs.Segments.{Got, got, refused, then, push, list_of}
use Rattle.segments.specs.Parts.{Inside, ends, moved, Passes, stored}
use Rattle.segments.proofs.Local.{refused_not}
use Rattle.strings.specs.Table.{string_at, next_place, strings}
use Rattle.strings.specs.Parts.{next_string}
use Rattle.strings.proofs.Laws.{place_inside, next_inside, next_ends}
use Rattle.string_places.specs.Places.{numbers_of, unused}
use Rattle.string_places.specs.Parts.{Segment, with_entry}
use Rattle.string_places.proofs.Standing.{segment_place, segment_string}

-- ---- all numbers from a place on
pub unused_put : (t y : List ℕ) (j : ℕ) → j ≤ length t → y ≡ replicate (length (take (length t - j) (drop j t))) unused → put_mid j (length t - j) t y ≡ stored t j (replicate (length t - j) unused)
unfolding stored
unused_put t y j h e =
    let len : length (take (length t - j) (drop j t)) ≡ length t - j = simp (length-take, length-drop) (omega arith) in
    let long : length (replicate (length t - j) unused) ≡ length t - j = length-replicate (length t - j) unused in
    rw (e, len, sets-eq (replicate (length t - j) unused) t j (omega arith), long, drop-drop, append_assoc)

-- ---- the places of n strings from a place on
passes_push : {A : Type 0} (v : A) (x : Got (List A)) → Passes (push v x) → Passes x
passes_push v (got l c) h = tt
passes_push v (refused n o) h = h

numbers_push : (d : Cursor) (x : Got (List Cursor)) → Passes x → numbers_of (list_of (push d x)) ≡ d.at ∷ d.seg ∷ numbers_of (list_of x)
unfolding numbers_of
numbers_push d (got l c) h = refl
numbers_push d (refused n o) h = absurd h

module _ (s : List ℕ) (d : Cursor) (n : ℕ) where
  pub places_end : (x t : List ℕ) (j : ℕ) → x ≡ stored t j (numbers_of (list_of (strings s n d))) → n ≤ 0 → t ≡ x
  unfolding strings stored numbers_of
  places_end x t j h i = let e : n ≡ 0 = omega arith in sym (h ∙ ap (λ (k : ℕ). sets t j (numbers_of (list_of (strings s k d)))) e)

  -- one of n is read, and `rest` are left
  module _ (rest : ℕ) (left : n ≡ rest + 1) (passes : Passes (strings s n d)) (m : Result Cursor Refusal) (is : moved m ≡ ends (next_string s d)) where
    abbrev Rest : Cursor → Got (List ℕ) → Got (List Cursor)
    Rest e x = then x (λ _ f. push e (strings s rest f))

    one_more : strings s n d ≡ then (next_place s d) (λ _ e. Rest e (string_at s e))
    unfolding strings
    one_more = let e : n ≡ suc rest = omega arith in ap (λ (k : ℕ). strings s k d) e

    -- a string stands at e, and f is after it
    record One (f : Cursor) : Type 0 where
      place : Cursor
      here : next_place s d ≡ got tt place
      more : strings s n d ≡ push place (strings s rest f)

    abbrev Next : Result Cursor Refusal → Type 0
    Next (Ok f) = One f
    Next (Err e) = ⊥

    next_by : Next m
    unfolding next_string
    next_by = at_place (next_place s d) refl (subst Passes one_more passes) is
      where
        at_end_lem : (e : Cursor) → next_place s d ≡ got tt e → (us : List ℕ) (g : Cursor) → string_at s e ≡ got us g → (x : Result Cursor Refusal) → moved x ≡ got tt g → Next x
        at_end_lem e p us g q (Ok f) i =
            let j : ◌≡◌ {A = Cursor} g f = cc in
            record { place = e; here = p; more = one_more ∙ ap (λ (z : Got Unit). then z (λ _ e. Rest e (string_at s e))) p ∙ ap (Rest e) q ∙ ap (λ (z : Cursor). push e (strings s rest z)) j }
        at_end_lem e p us g q (Err r) i = refused_not i

        at_string : (e : Cursor) → next_place s d ≡ got tt e → (x : Got (List ℕ)) → string_at s e ≡ x → Passes (Rest e x) → moved m ≡ ends x → Next m
        at_string e p (got us g) q h i = at_end_lem e p us g q m i
        at_string e p (refused a b) q h i = absurd h

        at_place : (x : Got Unit) → next_place s d ≡ x → Passes (then x (λ _ e. Rest e (string_at s e))) → moved m ≡ ends (then x (λ _ e. string_at s e)) → Next m
        at_place (got u e) p h i = at_string e p (string_at s e) refl h i
        at_place (refused a b) p h i = absurd h

    next_is : (x : Result Cursor Refusal) → Next x → IsOk x
    next_is (Ok f) h = refl
    next_is (Err e) h = absurd h

    read_ok : IsOk m
    read_ok = next_is m next_by

    module _ (f : Cursor) (h : m ≡ Ok f) where
      one : One f
      one = subst Next h next_by

      pub places_pass : Passes (strings s rest f)
      places_pass = passes_push one.place (strings s rest f) (subst Passes one.more passes)

      pub places_step : (x t y : List ℕ) (j k : ℕ) → k ≡ j + 2 → x ≡ stored t j (numbers_of (list_of (strings s n d))) → y ≡ with_entry t j (next_place s d)
          → x ≡ stored y k (numbers_of (list_of (strings s rest f)))
      unfolding stored
      places_step x t y j k k-is i w =
          let e = one.place in
          let k1 : suc j ≡ j + 1 = omega arith in
          let k2 : suc (suc j) ≡ k = omega arith in
          i ∙ ap (λ (z : Got (List Cursor)). sets t j (numbers_of (list_of z))) one.more
          ∙ ap (sets t j) (numbers_push e (strings s rest f) places_pass)
          ∙ (λ o. sets (set (set t j e.at) (k1 o) e.seg) (k2 o) (numbers_of (list_of (strings s rest f))))
          ∙ ap (λ (z : List ℕ). sets z k (numbers_of (list_of (strings s rest f)))) (sym (w ∙ ap (with_entry t j) one.here))

  pub next_ok : (m : Result Cursor Refusal) → 0 < n → Passes (strings s n d) → moved m ≡ ends (next_string s d) → IsOk m
  next_ok m some passes is = read_ok (n - 1) (omega arith) passes m is

entry_length : (t y : List ℕ) (j : ℕ) (x : Got Unit) → y ≡ with_entry t j x → length y ≡ length t
entry_length t y j (got u d) h = ap length h ∙ simp length-set
entry_length t y j (refused a b) h = ap length h

module _ (s t y : List ℕ) (j : ℕ) (d : Cursor) (h : y ≡ with_entry t j (next_place s d)) where
  pub next_length : (k : ℕ) → length t ≡ k → length y ≡ k
  next_length k i = entry_length t y j (next_place s d) h ∙ i

pub segment_next : (s : List ℕ) (c d : Cursor) (m : Result Cursor Refusal) → moved m ≡ ends (next_string s c) → m ≡ Ok d → Segment s c → Segment s d
unfolding next_string
segment_next s c d m is h g = go (next_place s c) refl (sym is ∙ ap moved h)
  where
    go : (x : Got Unit) → next_place s c ≡ x → ends (then x (λ _ e. string_at s e)) ≡ got tt d → Segment s d
    go (got u e) p i = segment_string s e d (Ok d) (sym i) refl (segment_place s c e (Ok e) (sym p) refl g)
    go (refused a b) p i = absurd (refused_not i)

pub ruleset places_laws = (places_end, places_pass, places_step, next_length, next_inside, segment_next)

-- ---- the next string's place
module _ (s : List ℕ) (c e : Cursor) (m : Result Cursor Refusal) (is : moved m ≡ next_place s c) (h : m ≡ Ok e) (inside : Inside s c) (l : length s ≤ 16777216) where
  pub at_small : e.at ≤ 16777216
  at_small = let i = place_inside s c e m is h inside in omega arith

  pub seg_small : Segment s c → e.seg ≤ 16777216
  seg_small g = let i = place_inside s c e m is h inside in let k = segment_place s c e m is h g in omega arith

pub entry_second : (t : List ℕ) (j a : ℕ) → j + 2 ≤ length t → j + 1 < length (set t j a)
entry_second t j a h = rw length-set (omega arith)
