-- What is read lies within the stream, ahead of where the reading began; and a stream with the same bytes up to the end of the segment that it
-- came to reads the same. Both are said together and carried through each way in which readings are put together. Assumes nothing.
use Prim.Native.Nat.{ℕ, zero, suc, ◌+◌, ◌-◌, ◌≤◌, ◌<◌}
use mathlib.Core.Path.{◌≡◌, refl, sym, ap, ◌∙◌, subst}
use mathlib.Core.List.{List, []}
use mathlib.Core.Bool.{Bool, true, false}
use native.Mathlib.Omega.{arith}
use lib.ListN.{length}
use lib.Dec.{ltb, eqb}
use borrow.Author.Tests.{ltb-false, eqb-true, eqb-false}
use Rattle.steps.specs.Choice.{pick}
use Rattle.steps.proofs.Choice.{never, pick_any, pick_by, pick_true, pick_false, pick_nlt, pick_eq, pick_ne}
use Rattle.byte_numbers.specs.Bytes.{byte_at, num_at, u16_at}
use Rattle.byte_numbers.proofs.Laws.{Same, num_same}
use Rattle.record.specs.declared.Header.{Header}
use Rattle.record.specs.declared.Header.TheVariants.{Record, Cut, End}
use Rattle.record.specs.Record.{header_at}
use Rattle.record.proofs.Laws.{whole, header_alike}
use Rattle.segments.specs.declared.Cursor.{Cursor}
use Rattle.segments.specs.Segments.{Got, got, refused, then, push, on, continues, segment_of, next_segment, filled, need, width_of, enter, room, items}
use Rattle.segments.specs.Parts.{Inside}

pub refused_not : {A : Type 0} {n o : ℕ} {v : A} {d : Cursor} → refused n o ≡ got v d → ⊥
refused_not h = let z : ◌≡◌ {A = ℕ} 0 1 = cc in omega arith

abbrev pub Within : {A : Type 0} → List ℕ → Cursor → Got A → Type 0
Within s c (got v d) = Inside s d × (c.at ≤ d.at) × (c.end ≤ d.end)
Within s c (refused n o) = Unit {0}

-- x is read in s from c on, and y in a stream that has the same bytes up to b
pub record Reads {A : Type 0} (s : List ℕ) (b : ℕ) (c : Cursor) (x y : Got A) : Type 0 where
  pub within : Within s c x
  pub kept : (v : A) (d : Cursor) → x ≡ got v d → d.end ≤ b → y ≡ got v d

pub within_from : {A : Type 0} (s : List ℕ) (c d : Cursor) (x : Got A) → c.at ≤ d.at → c.end ≤ d.end → Within s d x → Within s c x
within_from s c d (got v e) l m h = (h.0, omega arith, omega arith)
within_from s c d (refused n o) l m h = tt

module _ {A : Type 0} (s : List ℕ) (b : ℕ) where
  pub reads_same : (c : Cursor) (x : Got A) → Within s c x → Reads s b c x x
  reads_same c x h = record { within = h; kept = λ v d e l. e }

  pub reads_got : (c : Cursor) (v : A) → Inside s c → Reads s b c (got v c) (got v c)
  reads_got c v h = reads_same c (got v c) (h, omega arith, omega arith)

  pub reads_from : (c d : Cursor) (x y : Got A) → c.at ≤ d.at → c.end ≤ d.end → Reads s b d x y → Reads s b c x y
  reads_from c d x y l m r = record { within = within_from s c d x l m r.within; kept = r.kept }

  -- y may be told otherwise where the bytes here are the same
  pub reads_by : (c : Cursor) (x y z : Got A) → Reads s b c x y → (c.end ≤ b → y ≡ z) → Reads s b c x z
  reads_by c x y z r h = record {
    within = r.within;
    kept = λ v d e l. let w : Within s c (got v d) = subst (Within s c) e r.within in sym (h (omega arith)) ∙ r.kept v d e l;
  }

  pub reads_pick : (c : Cursor) (t : Bool) (x x' y y' : Got A) → Reads s b c x y → Reads s b c x' y' → Reads s b c (pick t x x') (pick t y y')
  unfolding pick
  reads_pick c true x x' y y' r r' = r
  reads_pick c false x x' y y' r r' = r'

pub reads_push : {A : Type 0} (s : List ℕ) (b : ℕ) (c : Cursor) (v : A) (x y : Got (List A)) → Reads s b c x y → Reads s b c (push v x) (push v y)
reads_push s b c v (got vs e) y r = record {
  within = r.within;
  kept = λ ws d q l. let i : ◌≡◌ {A = Cursor} e d = cc in let j : e.end ≡ d.end = ap (λ (z : Cursor). z.end) i in ap (push v) (r.kept vs e refl (omega arith)) ∙ q;
}
reads_push s b c v (refused n o) y r = record { within = tt; kept = λ ws d q l. absurd (refused_not q) }

pub reads_then : {A B : Type 0} (s : List ℕ) (b : ℕ) (c : Cursor) (x y : Got A) (k k' : A → Cursor → Got B) → Reads s b c x y
    → ((v : A) (d : Cursor) → x ≡ got v d → Inside s d → c.at ≤ d.at → Reads s b d (k v d) (k' v d)) → Reads s b c (then x k) (then y k')
reads_then {A} s b c (got u e) y k k' r h =
    let w = r.within in
    let i = h u e refl w.0 w.1 in
    record {
      within = within_from s c e (k u e) w.1 w.2 i.within;
      kept = λ v d q l.
          let z : Within s e (got v d) = subst (Within s e) q i.within in
          ap (λ (z : Got A). then z k') (r.kept u e refl (omega arith)) ∙ i.kept v d q l;
    }
reads_then s b c (refused n o) y k k' r h = record { within = tt; kept = λ v d q l. absurd (refused_not q) }

-- ---- the next segment
pub record After (s : List ℕ) (c d : Cursor) : Type 0 where
  pub seg : d.seg ≡ c.end
  pub at : d.at ≡ c.end + 4
  pub low : d.at < d.end
  pub within : d.end ≤ length s

module _ (n : ℕ) (s : List ℕ) (c : Cursor) where
  abbrev Next : Got Unit → Type 0
  Next (got u d) = After s c d
  Next (refused m o) = Unit {0}

  positive : (z : ℕ) → (z ≡ 0 → ⊥) → 0 < z
  positive zero h = absurd (h refl)
  positive (suc z) h = omega arith

  next_of : (h : Header) → header_at s c.end ≡ h → Next (segment_of n c.end h)
  next_of (Record k z e) q =
      let w = whole s c.end k z e q in
      pick_by Next _ (λ _. tt) (λ t. let l : 0 < z = positive z (eqb-false z 0 t) in record { seg = refl; at = refl; low = omega arith; within = omega arith })
  next_of Cut q = tt
  next_of End q = tt

  pub next_after : (u : Unit) (d : Cursor) → next_segment n s c ≡ got u d → After s c d
  unfolding next_segment
  next_after u d e = subst Next e (pick_any Next _ (next_of (header_at s c.end) refl) tt)

-- ---- what was read fills its segments
pub record Filled (s : List ℕ) (c d : Cursor) : Type 0 where
  pub here : c ≡ d
  pub full : c.at ≡ c.end
  pub alone : continues s c.end ≡ false

module _ (n : ℕ) (s : List ℕ) (c : Cursor) where
  pub filled_got : c.at ≡ c.end → continues s c.end ≡ false → filled n s c ≡ got tt c
  unfolding filled
  filled_got h k = sym (pick_eq (got tt c) _ _ _ _ h (pick_false (got tt c) _ _ _ k refl))

  abbrev Full : Got Unit → Type 0
  Full (got v d) = Filled s c d
  Full (refused m o) = Unit {0}

  pub filled_is : (v : Unit {0}) (d : Cursor) → filled n s c ≡ got v d → Filled s c d
  unfolding filled
  filled_is v d h = subst Full h (pick_by Full _ (λ i. pick_by Full _ (λ _. go (next_segment n s c)) (λ j. record { here = refl; full = eqb-true c.at c.end i; alone = j })) (λ _. tt))
    where
      go : (x : Got Unit) → Full (then x (λ _ g. refused n g.seg))
      go (got u g) = tt
      go (refused m o) = tt

-- ---- room
pub record Needed (w : ℕ) (c : Cursor) (v : ℕ) (d : Cursor) : Type 0 where
  pub width : v ≡ w
  pub same : d ≡ c
  pub here : w ≤ c.end - c.at

pub need_is : (n w : ℕ) (c : Cursor) (v : ℕ) (d : Cursor) → need n w c ≡ got v d → Needed w c v d
unfolding need
need_is n w c v d e = subst Holds e (pick_by Holds _ (λ _. tt) (λ q. record { width = refl; same = refl; here = ltb-false _ _ q }))
  where
    Holds : Got ℕ → Type 0
    Holds (got v d) = Needed w c v d
    Holds (refused m o) = Unit {0}

-- where there is room, there is
pub room_here : (n : ℕ) (s : List ℕ) (f : Bool) (w : ℕ) (c : Cursor) → 1 ≤ w → w ≤ c.end - c.at → room n s f w c ≡ got w c
unfolding room need
room_here n s f w c i j =
    let h : c.at ≡ c.end → ⊥ = λ e. omega arith in
    sym (pick_ne (got w c) _ _ _ _ h (pick_nlt (got w c) _ _ _ _ j refl))

pub reads_need : (s : List ℕ) (b n w : ℕ) (c : Cursor) → Inside s c → Reads s b c (need n w c) (need n w c)
reads_need s b n w c inside = reads_same s b c (need n w c) (go (need n w c) refl)
  where
    go : (x : Got ℕ) → need n w c ≡ x → Within s c x
    go (got v d) e = let h = need_is n w c v d e in subst (λ (z : Cursor). Within s c (got v z)) (sym h.same) (inside, omega arith, omega arith)
    go (refused m o) e = tt

-- ---- two streams with the same bytes from a up to b
pub continue_type : (s : List ℕ) (p : ℕ) → continues s p ≡ true → u16_at s p ≡ 0x003C
unfolding continues
continue_type s p h = pick_by (λ (b : Bool). b ≡ true → u16_at s p ≡ 0x003C) (ltb (length s - p) 4) (λ _ i. never (cc)) (λ _ i. eqb-true (u16_at s p) 0x003C i) h

module _ (s s' : List ℕ) (a b : ℕ) (same : Same s s' a b) where
  pub num_kept : (w p : ℕ) → a ≤ p → p + w ≤ b → num_at s w p ≡ num_at s' w p
  num_kept w p l m = num_same s s' w p (λ k i j. same k (omega arith) (omega arith))

  pub continues_kept : length s ≡ length s' → (p : ℕ) → a ≤ p → p + 2 ≤ b → continues s p ≡ continues s' p
  unfolding continues
  continues_kept len p l m = rw (len, num_kept 2 p l m)

  -- what lies in the first up to b lies in the second
  module _ (long : (e : ℕ) → e ≤ b → e ≤ length s → e ≤ length s') (n : ℕ) where
    segment_end : (c : Cursor) (k z e : ℕ) (u : Unit) (d : Cursor) → segment_of n c.end (Record k z e) ≡ got u d → e ≡ d.end
    segment_end c k z e u d q =
        pick_by (λ (x : Got Unit). x ≡ got u d → e ≡ d.end) (eqb z 0)
        (λ _ i. absurd (refused_not i))
        (λ _ i. let x : ◌≡◌ {A = Cursor} (record { seg = c.end; at = c.end + 4; end = e }) d = cc in ap (λ (y : Cursor). y.end) x) q

    next_by : (c : Cursor) → a ≤ c.end → u16_at s c.end ≡ 0x003C → (u : Unit) (d : Cursor) → d.end ≤ b → (h : Header) → header_at s c.end ≡ h → segment_of n c.end h ≡ got u d
        → next_segment n s' c ≡ got u d
    unfolding next_segment continues
    next_by c l t u d m (Record k z e) h q =
        let w = whole s c.end k z e h in
        let i = segment_end c k z e u d q in
        let j : e ≤ length s' = long e (omega arith) w.within in
        let g : u16_at s' c.end ≡ 0x003C = sym (num_kept 2 c.end l (omega arith)) ∙ t in
        sym (pick_true (got u d) _ _ _ (sym (pick_nlt true false _ (length s' - c.end) 4 (omega arith) (sym (ap (λ (k : ℕ). eqb k 0x003C) g))))
        (sym (ap (segment_of n c.end) (header_alike s s' c.end k z e h (λ o x y. same o (omega arith) (omega arith)) j) ∙ q)))
    next_by c l t u d m Cut h q = absurd (refused_not q)
    next_by c l t u d m End h q = absurd (refused_not q)

    next_kept : (c : Cursor) → a ≤ c.end → (u : Unit) (d : Cursor) → d.end ≤ b → next_segment n s c ≡ got u d → next_segment n s' c ≡ got u d
    unfolding next_segment
    next_kept c l u d m h =
        pick_by (λ (x : Got Unit). x ≡ got u d → next_segment n s' c ≡ got u d) (continues s c.end)
        (λ i. next_by c l (continue_type s c.end i) u d m (header_at s c.end) refl)
        (λ _ q. absurd (refused_not q)) h

    pub reads_next : (c : Cursor) → Inside s c → a ≤ c.at → Reads s b c (next_segment n s c) (next_segment n s' c)
    reads_next c inside l = record {
      within = go (next_segment n s c) refl;
      kept = λ u d e m. next_kept c (omega arith) u d m e;
    }
      where
        go : (x : Got Unit) → next_segment n s c ≡ x → Within s c x
        go (got u d) e = let h = next_after n s c u d e in ((omega arith, omega arith), omega arith, omega arith)
        go (refused m o) e = tt

    reads_enter : (f : Bool) (w : ℕ) (c : Cursor) → c.at < c.end → c.end ≤ length s → a ≤ c.at → Reads s b c (enter n s f w c) (enter n s' f w c)
    reads_enter true w c i j l =
        reads_by s b c _ (enter n s true w c) _ (reads_from s b c (on c 1) _ _ (omega arith) (omega arith) (reads_need s b n (width_of (byte_at s c.at)) (on c 1) (omega arith, omega arith)))
        (λ m. ap (λ (k : ℕ). need n (width_of k) (on c 1)) (same c.at l (omega arith)))
    reads_enter false w c i j l = reads_need s b n w c (omega arith, omega arith)

    pub reads_room : (f : Bool) (w : ℕ) (c : Cursor) → Inside s c → a ≤ c.at → Reads s b c (room n s f w c) (room n s' f w c)
    unfolding room
    reads_room f w c inside l =
        reads_pick s b c _ _ _ _ _
        (reads_then s b c _ _ _ _ (reads_next c inside l) (λ u d e i m. let h = next_after n s c u d e in reads_enter f w d (omega arith) (omega arith) (omega arith)))
        (reads_need s b n w c inside)

-- ---- what is told of one stream, which has the same bytes as itself
within_room : (n : ℕ) (s : List ℕ) (f : Bool) (w : ℕ) (c : Cursor) → Inside s c → Within s c (room n s f w c)
within_room n s f w c inside = (reads_room s s 0 0 (λ k i j. refl) (λ e i j. j) n f w c inside (omega arith)).within

-- room for v bytes at d, where w were asked at c
pub record ItemAt (s : List ℕ) (c : Cursor) (w v : ℕ) (d : Cursor) : Type 0 where
  pub inside : Inside s d
  pub ahead : c.at ≤ d.at
  pub further : c.end ≤ d.end
  pub here : v ≤ d.end - d.at
  pub some : 1 ≤ w → 1 ≤ v
  pub small : w ≤ 2 → v ≤ 2

module _ (n : ℕ) (s : List ℕ) (f : Bool) (w : ℕ) (c : Cursor) where
  abbrev Wide : Got ℕ → Type 0
  Wide (got v d) = (v ≤ d.end - d.at) × (1 ≤ w → 1 ≤ v) × (w ≤ 2 → v ≤ 2)
  Wide (refused m o) = Unit {0}

  wide_need : (u : ℕ) (d : Cursor) → (1 ≤ w → 1 ≤ u) → (w ≤ 2 → u ≤ 2) → (x : Got ℕ) → need n u d ≡ x → Wide x
  wide_need u d some small (got v e) q =
      let h = need_is n u d v e q in
      let i : e.at ≡ d.at = ap (λ (z : Cursor). z.at) h.same in
      let j : e.end ≡ d.end = ap (λ (z : Cursor). z.end) h.same in
      (omega arith, λ k. let m = some k in omega arith, λ k. let m = small k in omega arith)
  wide_need u d some small (refused m o) q = tt

  wide_next : (x : Got Unit) → Wide (then x (λ _ d. enter n s f w d))
  wide_next (got u d) = by f
    where
      by : (g : Bool) → Wide (enter n s g w d)
      by true = wide_need _ (on d 1) (λ k. omega arith) (λ k. omega arith) _ refl
      by false = wide_need w d (λ k. k) (λ k. k) _ refl
  wide_next (refused m o) = tt

  pub room_item : (v : ℕ) (d : Cursor) → Inside s c → room n s f w c ≡ got v d → ItemAt s c w v d
  unfolding room
  room_item v d inside e =
      let i : Within s c (got v d) = subst (Within s c) e (within_room n s f w c inside) in
      let j : Wide (got v d) = subst Wide e (pick_any Wide _ (wide_next (next_segment n s c)) (wide_need w c (λ k. k) (λ k. k) _ refl)) in
      record { inside = i.0; ahead = i.1; further = i.2; here = j.0; some = j.1; small = j.2 }

-- ---- items
module _ (s s' : List ℕ) (a b : ℕ) (same : Same s s' a b) (long : (e : ℕ) → e ≤ b → e ≤ length s → e ≤ length s') (n : ℕ) where
  pub reads_items : (f : Bool) (w k : ℕ) (c : Cursor) → Inside s c → a ≤ c.at → Reads s b c (items n s f w k c) (items n s' f w k c)
  unfolding items
  reads_items f w zero c inside l = reads_got s b c [] inside
  reads_items f w (suc k) c inside l =
      reads_then s b c _ _ _ _ (reads_room s s' a b same long n f w c inside l) (λ v d e i m.
      let y = room_item n s f w c v d inside e in
      reads_by s b d _ (push (num_at s v d.at) (items n s' f v k (on d v))) _
      (reads_push s b d _ _ _ (reads_from s b d (on d v) _ _ (omega arith) (omega arith) (reads_items f v k (on d v) (omega arith, omega arith) (omega arith))))
      (λ o. ap (λ (z : ℕ). push z (items n s' f v k (on d v))) (num_kept s s' a b same v d.at (omega arith) (omega arith))))

pub within_items : (n : ℕ) (s : List ℕ) (f : Bool) (w k : ℕ) (c : Cursor) → Inside s c → Within s c (items n s f w k c)
within_items n s f w k c inside = (reads_items s s 0 0 (λ k i j. refl) (λ e i j. j) n f w k c inside (omega arith)).within
