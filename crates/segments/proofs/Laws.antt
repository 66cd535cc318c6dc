-- The laws that the functions' proofs cite, with their premises as the calls give them. Assumes nothing.
use Prim.Native.Nat.{ℕ, zero, suc, ◌+◌, ◌-◌, ◌*◌, ◌/◌, ◌^◌, ◌≤◌, ◌<◌}
use mathlib.Core.Path.{◌≡◌, refl, sym, ap, ◌∙◌, subst}
use mathlib.Core.List.{List, [], ◌∷◌, ◌++◌}
use mathlib.Core.Bool.{Bool, true, false}
use Rattle.std.specs.Prelude.{Result, Ok, Err}
use native.Mathlib.Omega.{arith}
use native.Mathlib.Nat.{mul-le-mul_right, div-mul-le_self, suc-mul, zero-mul, zero-add, suc-add}
use native.Mathlib.Numerals.{add-one}
use lib.ListN.{length, set}
use lib.Seq.{length-sets}
use mir.Val.{Fits as FitsIn}
use mir.Syntax.{w64}
use Rattle.steps.proofs.Choice.{Picks-told, pick_lt, pick_nlt}
use Rattle.byte_numbers.specs.Bytes.{byte_at, num_at, u16_at}
use Rattle.record.specs.declared.Header.{Header}
use Rattle.record.specs.Record.{header_at}
use Rattle.refusal.specs.declared.Refusal.{Refusal}
use Rattle.segments.specs.declared.Cursor.{Cursor}
use Rattle.segments.specs.declared.Room.{Room}
use Rattle.segments.specs.Segments.{Got, got, refused, then, push, list_of, on, segment_of, next_segment, need, width_of, enter, room, items}
use Rattle.segments.specs.Parts.{Inside, ends, moved, roomed, Passes, Fits, nums, stored}
use Rattle.segments.proofs.Local.{refused_not, Within, After, next_after, ItemAt, room_item, room_here, within_items}

-- ---- the end of what is read, part by part: x is read first, and m is what a call gave for its end
module _ {A B : Type 0} (x : Got A) (k : A → Cursor → Got B) (y : Got Unit) (m : Result Cursor Refusal) (is : moved m ≡ ends x) where
  pub ends_to : (d : Cursor) → m ≡ Ok d → ((a : A) → y ≡ ends (k a d)) → y ≡ ends (then x k)
  ends_to d q h = by x (sym is ∙ ap moved q)
    where
      by : (x : Got A) → ends x ≡ got tt d → y ≡ ends (then x k)
      by (got a c) e = let i : ◌≡◌ {A = Cursor} d c = cc in subst (λ (z : Cursor). y ≡ ends (k a z)) i (h a)
      by (refused a b) e = absurd (refused_not e)

  pub ends_refused : (e : Refusal) → m ≡ Err e → y ≡ refused e.number e.offset → y ≡ ends (then x k)
  ends_refused e q h = by x (sym is ∙ ap moved q)
    where
      by : (x : Got A) → ends x ≡ refused e.number e.offset → y ≡ ends (then x k)
      by (got u c) i = absurd (refused_not (sym i))
      by (refused n o) i = h ∙ sym i

pub moved_got : (m : Result Cursor Refusal) (d : Cursor) → moved m ≡ got tt d → m ≡ Ok d
moved_got (Ok c) d e = let i : ◌≡◌ {A = Cursor} c d = cc in ap Ok i
moved_got (Err r) d e = absurd (refused_not e)

-- where x ended, whatever was read there, the reading went on
pub ends_then : {A B : Type 0} (x : Got A) (k : Cursor → Got B) → ends (then x (λ _ d. k d)) ≡ then (ends x) (λ _ d. ends (k d))
ends_then (got a c) k = refl
ends_then (refused n o) k = refl

-- it lies within the stream
pub ends_inside : {A : Type 0} (s : List ℕ) (c d : Cursor) (x : Got A) (m : Result Cursor Refusal) → Within s c x → moved m ≡ ends x → m ≡ Ok d → Inside s d
ends_inside s c d (got a e) m h p q = let i : ◌≡◌ {A = Cursor} e d = cc in subst (Inside s) i h.0
ends_inside s c d (refused n o) m h p q = absurd (refused_not (sym p ∙ ap moved q))

pub items_inside : (n : ℕ) (s : List ℕ) (f : Bool) (w k : ℕ) (c d : Cursor) (m : Result Cursor Refusal) → moved m ≡ ends (items n s f w k c) → m ≡ Ok d → Inside s c → Inside s d
items_inside n s f w k c d m p q h = ends_inside s c d (items n s f w k c) m (within_items n s f w k c h) p q

-- ---- what a call gave is what the definition goes by
module _ {A : Type 0} (x : Got Unit) (m : Result Cursor Refusal) (k : Unit → Cursor → Got A) (y : Got A) (is : moved m ≡ x) where
  pub moved_to : (d : Cursor) → m ≡ Ok d → y ≡ k tt d → y ≡ then x k
  moved_to d q h = rw (← is, q) h

  pub moved_refused : (e : Refusal) → m ≡ Err e → y ≡ refused e.number e.offset → y ≡ then x k
  moved_refused e q h = rw (← is, q) h

pub header_is : (n : ℕ) (s : List ℕ) (p : ℕ) (r x : Header) (y : Got Unit) → r ≡ header_at s p → r ≡ x → y ≡ segment_of n p x → y ≡ segment_of n p (header_at s p)
header_is n s p r x y e q h = rw (← e, q) h

pub need_read : (n w v : ℕ) (d : Cursor) (x : Got ℕ) → w ≡ v → x ≡ need n w d → x ≡ need n v d
need_read n w v d x e h = rw e at h

-- into a segment, with a flags byte or without
module _ (n : ℕ) (s : List ℕ) (f : Bool) (w : ℕ) (c : Cursor) (x : Got ℕ) where
  pub enter_flagged : f ≡ true → x ≡ need n (width_of (byte_at s c.at)) (on c 1) → x ≡ enter n s f w c
  enter_flagged e h = rw e h

  pub enter_plain : f ≡ false → x ≡ need n w c → x ≡ enter n s f w c
  enter_plain e h = rw e h

pub ruleset segment_laws = (Picks-told, header_is, moved_to, moved_refused, need_read, enter_flagged, enter_plain)

-- ---- where the next segment is
module _ (n : ℕ) (s : List ℕ) (c d : Cursor) (m : Result Cursor Refusal) (is : moved m ≡ next_segment n s c) (q : m ≡ Ok d) where
  pub next_is : After s c d
  next_is = next_after n s c tt d (sym is ∙ ap moved q)

  pub next_below : d.at < length s
  next_below = let h = next_is in omega arith

  pub next_fits : length s < 2 ^ 64 → FitsIn w64 (d.at + 1)
  next_fits l = let h = next_is in omega arith

  pub next_flag : d.at + 1 ≤ d.end
  next_flag = let h = next_is in omega arith

  pub next_low : d.at ≤ d.end
  next_low = let h = next_is in omega arith

pub ruleset next_laws = (next_below, next_fits, next_flag, next_low)

-- ---- items that stand in one segment: the law over the width
abbrev pub append : {A : Type 0} → List A → Got (List A) → Got (List A)
append xs (got ys c) = got (xs ++ ys) c
append xs (refused n o) = refused n o

append_nil : {A : Type 0} (y : Got (List A)) → y ≡ append [] y
append_nil (got ys c) = refl
append_nil (refused n o) = refl

append_push : {A : Type 0} (x : A) (xs : List A) (y : Got (List A)) → push x (append xs y) ≡ append (x ∷ xs) y
append_push x xs (got ys c) = refl
append_push x xs (refused n o) = refl

ends_append : {A : Type 0} (xs : List A) (y : Got (List A)) → ends (append xs y) ≡ ends y
ends_append xs (got ys c) = refl
ends_append xs (refused n o) = refl

pub ends_push : {A : Type 0} (x : A) (y : Got (List A)) → ends (push x y) ≡ ends y
ends_push x (got ys c) = refl
ends_push x (refused n o) = refl

on_is : (c : Cursor) (i : ℕ) → c.at ≡ i → c ≡ record { seg = c.seg; at = i; end = c.end }
on_is c i e = ap (λ (k : ℕ). record { seg = c.seg; at = k; end = c.end }) e

module _ (n : ℕ) (s : List ℕ) (f : Bool) where
  -- k items that fit in what is left of the segment are read there
  pub items_fit : (w k m : ℕ) (c : Cursor) → 1 ≤ w → k * w ≤ c.end - c.at → items n s f w (k + m) c ≡ append (nums s w k c.at) (items n s f w m (on c (k * w)))
  unfolding nums items
  items_fit w zero m c i j =
      let z = zero-mul w in
      ap (λ (l : ℕ). items n s f w l c) (zero-add m) ∙ append_nil (items n s f w m c) ∙ ap (λ (d : Cursor). append [] (items n s f w m d)) (on_is c (c.at + 0 * w) (omega arith))
  items_fit w (suc k) m c i j =
      let e = suc-mul k w in
      ap (λ (l : ℕ). items n s f w l c) (suc-add k m)
      ∙ ap (λ (x : Got ℕ). then x (λ v d. push (num_at s v d.at) (items n s f v (k + m) (on d v)))) (room_here n s f w c i (omega arith))
      ∙ ap (push (num_at s w c.at)) (items_fit w k m (on c w) i (omega arith))
      ∙ append_push (num_at s w c.at) (nums s w k (c.at + w)) (items n s f w m (on (on c w) (k * w)))
      ∙ ap (λ (d : Cursor). append (nums s w (suc k) c.at) (items n s f w m d)) (on_is (on (on c w) (k * w)) (c.at + suc k * w) (omega arith))

  pub items_room : (w k : ℕ) (c : Cursor) (v : ℕ) (d : Cursor) → 1 ≤ w → Inside s c → room n s f w c ≡ got v d → items n s f w (suc k) c ≡ items n s f v (suc k) d
  unfolding items
  items_room w k c v d i inside e =
      let r = room_item n s f w c v d inside e in
      ap (λ (x : Got ℕ). then x (λ v d. push (num_at s v d.at) (items n s f v k (on d v)))) (e ∙ sym (room_here n s f v d (r.some i) r.here))

  pub items_refused : (w k : ℕ) (c : Cursor) (a b : ℕ) → room n s f w c ≡ refused a b → items n s f w (suc k) c ≡ refused a b
  unfolding items
  items_refused w k c a b e = ap (λ (x : Got ℕ). then x (λ v d. push (num_at s v d.at) (items n s f v k (on d v)))) e

  -- one turn of a walk over items: room, then k of the m items, of b bytes together
  pub items_turn : (w m : ℕ) (c : Cursor) (v : ℕ) (d : Cursor) (k b : ℕ) → 1 ≤ w → Inside s c → room n s f w c ≡ got v d → Fits (d.end - d.at) v m k b
      → items n s f w m c ≡ append (nums s v k d.at) (items n s f v (m - k) (on d b))
  items_turn w m c v d k b i inside e fit =
      let r = room_item n s f w c v d inside e in
      let m-is : m ≡ suc (m - 1) = omega (arith, fit.some, fit.few) in
      let m-sum : suc (m - 1) ≡ k + (m - k) = omega (arith, fit.some, fit.few) in
      ap (λ (l : ℕ). items n s f w l c) m-is ∙ items_room w (m - 1) c v d i inside e ∙ ap (λ (l : ℕ). items n s f v l d) m-sum
      ∙ items_fit v k (m - k) d (r.some i) (subst (λ (l : ℕ). l ≤ d.end - d.at) fit.bytes fit.fit)
      ∙ ap (λ (l : ℕ). append (nums s v k d.at) (items n s f v (m - k) (on d l))) (sym fit.bytes)

-- ---- what a call of `room_for` gave
module _ (n : ℕ) (s : List ℕ) (f : Bool) (w : ℕ) (c : Cursor) (r : Result Room Refusal) (is : roomed r ≡ room n s f w c) where
  module _ (y : Room) (inside : Inside s c) (h : r ≡ Ok y) where
    pub item : ItemAt s c w y.width y.place
    item = room_item n s f w c y.width y.place inside (sym is ∙ ap roomed h)

    pub item_low : y.place.at ≤ y.place.end
    item_low = item.inside.0

    pub item_here : y.width ≤ y.place.end - y.place.at
    item_here = item.here

    pub item_some : 1 ≤ w → 1 ≤ y.width
    item_some = item.some

    pub item_small : w ≤ 2 → y.width ≤ 2
    item_small = item.small

    pub item_inside : Inside s y.place
    item_inside = item.inside

    pub item_on : (b : ℕ) → b ≤ y.place.end - y.place.at → Inside s (on y.place b)
    item_on b i = let z = item in (omega arith, omega arith)

    pub item_add : (m k b : ℕ) → Fits (y.place.end - y.place.at) y.width m k b → length s < 2 ^ 64 → FitsIn w64 (y.place.at + b)
    item_add m k b fit l = let z = item in let i = fit.fit in omega arith

    -- a turn of the skip: from room to room
    pub skip_turn : (x : Got Unit) (m k b : ℕ) → x ≡ ends (items n s f w m c) → 1 ≤ w → Fits (y.place.end - y.place.at) y.width m k b → x ≡ ends (items n s f y.width (m - k) (on y.place b))
    skip_turn x m k b inv i fit =
        inv ∙ ap ends (items_turn n s f w m c y.width y.place k b i inside (sym is ∙ ap roomed h) fit) ∙ ends_append (nums s y.width k y.place.at) (items n s f y.width (m - k) (on y.place b))

  pub skip_refused : (x : Got Unit) (m : ℕ) (e : Refusal) → x ≡ ends (items n s f w m c) → 0 < m → r ≡ Err e → refused e.number e.offset ≡ x
  skip_refused x m e inv i h =
      let m-is : m ≡ suc (m - 1) = omega arith in
      sym (inv ∙ ap (λ (l : ℕ). ends (items n s f w l c)) m-is ∙ ap ends (items_refused n s f w (m - 1) c e.number e.offset (sym is ∙ ap roomed h)))

module _ (n : ℕ) (s : List ℕ) (f : Bool) (w m : ℕ) (c : Cursor) where
  pub skip_end : (x : Got Unit) → x ≡ ends (items n s f w m c) → m ≤ 0 → got tt c ≡ x
  unfolding items
  skip_end x inv i = sym (inv ∙ ap (λ (l : ℕ). ends (items n s f w l c)) (let e : m ≡ 0 = omega arith in e))

-- ---- what fits
module _ (here w most : ℕ) (is : most ≡ here / w) where
  pub fit_all : (m : ℕ) → m ≤ most → m * w ≤ here
  fit_all m h = let a : m * w ≤ here / w * w = mul-le-mul_right w (rw is at h) in let b = div-mul-le_self here w in omega arith

-- all items stand in this segment
module _ (s : List ℕ) (w m : ℕ) (c : Cursor) (most : ℕ) (is : most ≡ (c.end - c.at) / w) (h : m ≤ most) where
  pub skip_all : (n : ℕ) (f : Bool) → 1 ≤ w → got tt (on c (m * w)) ≡ ends (items n s f w m c)
  unfolding items
  skip_all n f i =
      let e : m ≡ m + 0 = omega arith in
      sym (ap (λ (l : ℕ). ends (items n s f w l c)) e ∙ ap ends (items_fit n s f w m 0 c i (fit_all (c.end - c.at) w most is m h)) ∙ ends_append (nums s w m c.at) (got [] (on c (m * w))))

pub ruleset skip_laws = (item_low, item_here, item_some, item_inside, item_on, item_add, skip_turn, skip_refused, skip_end, skip_all)

-- ---- characters: the fact that both widths share
module _ (s : List ℕ) (w p x : ℕ) where
  pub unit_one : w ≡ 1 → x ≡ byte_at s p → x ≡ num_at s w p
  unfolding num_at
  unit_one e h = rw e (omega arith)

  pub unit_two : 1 ≤ w → w ≤ 2 → (w ≡ 1 → ⊥) → x ≡ u16_at s p → x ≡ num_at s w p
  unit_two i j k h = let e : w ≡ 2 = omega arith in rw e h

pub ruleset unit_laws = (unit_one, unit_two)

-- one more character is stored, narrow or of any width
pub stored_more : (s : List ℕ) (w k p : ℕ) (b : List ℕ) (j : ℕ) → stored b j (nums s w (k + 1) p) ≡ set (stored b j (nums s w k p)) (j + k) (num_at s w (p + k * w))
unfolding nums stored
stored_more s w zero p b j =
    let e : p + 0 * w ≡ p = omega (arith, zero-mul w) in
    let f : j + 0 ≡ j = omega arith in
    rw (e, f) refl
stored_more s w (suc k) p b j =
    let e : p + w + k * w ≡ p + suc k * w = omega (arith, suc-mul k w) in
    let f : suc j + k ≡ j + suc k = omega arith in
    let g : k + 1 ≡ suc k = omega arith in
    ap (λ (l : ℕ). stored b j (nums s w l p)) (add-one (suc k)) ∙ ap (λ (l : ℕ). stored (set b j (num_at s w p)) (suc j) (nums s w l (p + w))) (sym g)
    ∙ stored_more s w k (p + w) (set b j (num_at s w p)) (suc j) ∙ rw (e, f) refl

pub stored_byte : (s : List ℕ) (k p : ℕ) (b : List ℕ) (j : ℕ) → stored b j (nums s 1 (k + 1) p) ≡ set (stored b j (nums s 1 k p)) (j + k) (byte_at s (p + k))
unfolding num_at
stored_byte s k p b j =
    let e : num_at s 1 (p + k * 1) ≡ byte_at s (p + k) = (let f : p + k * 1 ≡ p + k = omega arith in rw f (omega arith)) in
    stored_more s 1 k p b j ∙ ap (set (stored b j (nums s 1 k p)) (j + k)) e

-- ---- the characters of a string, segment by segment
stored_append : (l : List ℕ) (i : ℕ) (xs ys : List ℕ) → stored l i (xs ++ ys) ≡ stored (stored l i xs) (i + length xs) ys
unfolding stored
stored_append l i [] ys = let e : i ≡ i + 0 = omega arith in ap (λ (k : ℕ). stored l k ys) e
stored_append l i (x ∷ xs) ys =
    let e : suc i + length xs ≡ i + suc (length xs) = omega arith in
    stored_append (set l i x) (suc i) xs ys ∙ ap (λ (k : ℕ). stored (stored (set l i x) (suc i) xs) k ys) e

pub nums_length : (s : List ℕ) (w k p : ℕ) → length (nums s w k p) ≡ k
unfolding nums
nums_length s w zero p = refl
nums_length s w (suc k) p = ap suc (nums_length s w k (p + w))

pub list_append : {A : Type 0} (xs : List A) (y : Got (List A)) → Passes (append xs y) → list_of (append xs y) ≡ xs ++ list_of y
list_append xs (got ys c) h = refl
list_append xs (refused n o) h = absurd h

pub passes_append : {A : Type 0} (xs : List A) (y : Got (List A)) → Passes (append xs y) → Passes y
passes_append xs (got ys c) h = tt
passes_append xs (refused n o) h = absurd h

pub chars_start : (n : ℕ) (s : List ℕ) (w m : ℕ) (c : Cursor) → Passes (items n s true w m c) → Passes (items n s true w (m - 0) c)
chars_start n s w m c h = let e : m ≡ m - 0 = omega arith in subst (λ (l : ℕ). Passes (items n s true w l c)) e h

-- x is what the buffer is to hold, a what it holds with j of the m characters written
module _ (n : ℕ) (s : List ℕ) (w m j : ℕ) (c : Cursor) where
  pub chars_end : (a x : List ℕ) (v : ℕ) (d : Cursor) → stored x 0 (list_of (items n s true v (m - 0) d)) ≡ stored a j (list_of (items n s true w (m - j) c)) → m ≤ j → a ≡ stored x 0 (list_of (items n s true v m d))
  unfolding items stored
  chars_end a x v d inv h =
      let e : m - j ≡ 0 = omega arith in
      let f : m - 0 ≡ m = omega arith in
      sym (inv ∙ ap (λ (l : ℕ). stored a j (list_of (items n s true w l c))) e) ∙ ap (λ (l : ℕ). stored x 0 (list_of (items n s true v l d))) f

module _ (n : ℕ) (s : List ℕ) (w m j : ℕ) (c : Cursor) (passes : Passes (items n s true w (m - j) c)) where
  module _ (r : Result Room Refusal) (is : roomed r ≡ room n s true w c) where
    pub chars_refused : (a : Refusal) → j < m → r ≡ Err a → ⊥
    chars_refused a i h =
        let e : m - j ≡ suc (m - j - 1) = omega arith in
        subst Passes (ap (λ (l : ℕ). items n s true w l c) e ∙ items_refused n s true w (m - j - 1) c a.number a.offset (sym is ∙ ap roomed h)) passes

    module _ (y : Room) (inside : Inside s c) (h : r ≡ Ok y) (some : 1 ≤ w) (k b : ℕ) (fit : Fits (y.place.end - y.place.at) y.width (m - j) k b) where
      turn : items n s true w (m - j) c ≡ append (nums s y.width k y.place.at) (items n s true y.width (m - (j + k)) (on y.place b))
      turn =
          let e : m - j - k ≡ m - (j + k) = omega arith in
          items_turn n s true w (m - j) c y.width y.place k b some inside (sym is ∙ ap roomed h) fit ∙ ap (λ (l : ℕ). append (nums s y.width k y.place.at) (items n s true y.width l (on y.place b))) e

      pub chars_passes : Passes (items n s true y.width (m - (j + k)) (on y.place b))
      chars_passes = passes_append (nums s y.width k y.place.at) (items n s true y.width (m - (j + k)) (on y.place b)) (subst Passes turn passes)

      pub chars_turn : (a a' x : List ℕ) → x ≡ stored a j (list_of (items n s true w (m - j) c)) → a' ≡ stored a j (nums s y.width k y.place.at) → x ≡ stored a' (j + k) (list_of (items n s true y.width (m - (j + k)) (on y.place b)))
      chars_turn a a' x inv e =
          let rest = items n s true y.width (m - (j + k)) (on y.place b) in
          inv ∙ ap (λ (g : Got (List ℕ)). stored a j (list_of g)) turn ∙ ap (stored a j) (list_append (nums s y.width k y.place.at) rest (subst Passes turn passes)) ∙ stored_append a j (nums s y.width k y.place.at) (list_of rest)
          ∙ ap (λ (l : ℕ). stored (stored a j (nums s y.width k y.place.at)) (j + l) (list_of rest)) (nums_length s y.width k y.place.at)
          ∙ ap (λ (l : List ℕ). stored l (j + k) (list_of rest)) (sym e)

module _ (here v k b j m : ℕ) (fit : Fits here v (m - j) k b) (less : j < m) where
  pub taken_fits : FitsIn w64 m → FitsIn w64 (j + k)
  taken_fits h = let i = fit.few in omega arith

  pub taken_less : m - (j + k) < m - j
  taken_less = let i = fit.few in let l = fit.some in omega arith

-- a buffer keeps its length
module _ (a a' xs : List ℕ) (j m : ℕ) (e : a' ≡ stored a j xs) where
  pub copied_length : length a ≡ m → length a' ≡ m
  unfolding stored
  copied_length h = ap length e ∙ length-sets a j xs ∙ h

  pub copied_room : m ≤ length a → m ≤ length a'
  unfolding stored
  copied_room h = let l : length a' ≡ length a = ap length e ∙ length-sets a j xs in omega arith

pub ruleset chars_laws = (item_low, item_here, item_some, item_small, item_inside, item_on, chars_start, chars_end, chars_passes, chars_turn, taken_fits, taken_less, copied_length, copied_room)

-- as many items as were asked for
abbrev pub Count : ℕ → Got (List ℕ) → Type 0
Count m (got l c) = length l ≡ m
Count m (refused a b) = Unit {0}

pub count_items : (n : ℕ) (s : List ℕ) (f : Bool) (w m : ℕ) (c : Cursor) → Count m (items n s f w m c)
unfolding items
count_items n s f w zero c = refl
count_items n s f w (suc m) c = go (λ v d. count_items n s f v m d) (room n s f w c)
  where
    more : (u : ℕ) (y : Got (List ℕ)) → Count m y → Count (suc m) (push u y)
    more u (got l d) h = ap suc h
    more u (refused a b) h = tt

    go : ((v : ℕ) (d : Cursor) → Count m (items n s f v m d)) → (x : Got ℕ) → Count (suc m) (then x (λ v d. push (num_at s v d.at) (items n s f v m (on d v))))
    go ih (got v d) = more _ (items n s f v m (on d v)) (ih v (on d v))
    go ih (refused a b) = tt
