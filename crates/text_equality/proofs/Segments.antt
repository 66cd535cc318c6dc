-- The laws of a string's characters in its segments, with what a call gave as the proofs have it. Assumes nothing.
use Prim.Native.Nat.{ℕ, suc, ◌+◌, ◌-◌, ◌*◌, ◌≤◌, ◌<◌}
use mathlib.Core.Path.{◌≡◌, refl, sym, ap, ◌∙◌, subst}
use mathlib.Core.Bool.{true}
use mathlib.Core.List.{List, ◌++◌}
use native.Mathlib.Omega.{arith}
use lib.ListN.{length}
use Rattle.steps.proofs.Choice.{pick_any, pick_eq, pick_ne}
use Rattle.byte_numbers.specs.Bytes.{byte_at, u16_at}
use Rattle.record.specs.declared.Header.{Header}
use Rattle.record.specs.declared.Header.TheVariants.{Record, Cut, End}
use Rattle.record.specs.Record.{header_at}
use Rattle.record.proofs.Laws.{whole}
use Rattle.segments.specs.declared.Cursor.{Cursor}
use Rattle.segments.specs.Segments.{Got, got, refused, then, list_of, on, segment_of, next_segment, width_of, enter, room, items}
use Rattle.segments.specs.Parts.{Inside, Passes, nums}
use Rattle.segments.proofs.Laws.{append, items_fit, items_room, items_refused, list_append, passes_append, Count, count_items}
use Rattle.segments.proofs.Local.{need_is, room_item, refused_not}

pub units_length : (s : List ℕ) (w n : ℕ) (c : Cursor) → Passes (items 8 s true w n c) → length (list_of (items 8 s true w n c)) ≡ n
units_length s w n c p = by (items 8 s true w n c) p (count_items 8 s true w n c)
  where
    by : (y : Got (List ℕ)) → Passes y → Count n y → length (list_of y) ≡ n
    by (got l d) h k = k
    by (refused a b) h k = absurd h

-- the segment after this one
abbrev next_of : List ℕ → ℕ → Cursor
next_of s p = record { seg = p; at = p + 4; end = p + 4 + u16_at s (p + 2) }

next_is : (n : ℕ) (s : List ℕ) (c : Cursor) (u : Unit) (d : Cursor) → next_segment n s c ≡ got u d → d ≡ next_of s c.end
unfolding next_segment
next_is n s c u d e = subst Holds e (pick_any Holds _ (by (header_at s c.end) refl) tt)
  where
    Holds : Got Unit → Type 0
    Holds (got v d) = d ≡ next_of s c.end
    Holds (refused m o) = Unit {0}

    by : (h : Header) → header_at s c.end ≡ h → Holds (segment_of n c.end h)
    by (Record k z e) q = let w = whole s c.end k z e q in pick_any Holds _ tt (ap (λ (i : ℕ). record { seg = c.end; at = c.end + 4; end = i }) (w.end ∙ ap (λ (i : ℕ). c.end + 4 + i) w.size))
    by Cut q = tt
    by End q = tt

module _ (s : List ℕ) (w n : ℕ) (c : Cursor) (inside : Inside s c) (some : 1 ≤ w) (small : w ≤ 2) (passes : Passes (items 8 s true w n c)) where
  -- n characters of v bytes at d that stand there, in this segment, and are the same
  pub record Standing (v : ℕ) (d : Cursor) : Type 0 where
    pub d_inside : Inside s d
    pub v_some : 1 ≤ v
    pub v_small : v ≤ 2
    pub d_passes : Passes (items 8 s true v n d)
    pub units : list_of (items 8 s true w n c) ≡ list_of (items 8 s true v n d)
    pub here : v ≤ d.end - d.at

  module _ (more : 1 ≤ n) where
    -- the first of them stands in this segment, or in the next one where this one has ended
    stands : {A : Type 0} → ((v : ℕ) (d : Cursor) → room 8 s true w c ≡ got v d → A) → A
    stands {A} k = go (room 8 s true w c) refl
      where
        go : (y : Got ℕ) → room 8 s true w c ≡ y → A
        go (got v d) e = k v d e
        go (refused a b) e =
            let i : n ≡ suc (n - 1) = omega arith in
            absurd (subst Passes (ap (λ (l : ℕ). items 8 s true w l c) i ∙ items_refused 8 s true w (n - 1) c a b e) passes)

    standing : (v : ℕ) (d : Cursor) → room 8 s true w c ≡ got v d → Standing v d
    standing v d e =
        let item = room_item 8 s true w c v d inside e in
        let k : n ≡ suc (n - 1) = omega arith in
        let same : items 8 s true w n c ≡ items 8 s true v n d =
        ap (λ (l : ℕ). items 8 s true w l c) k ∙ items_room 8 s true w (n - 1) c v d some inside e ∙ ap (λ (l : ℕ). items 8 s true v l d) (sym k) in
        record { d_inside = item.inside; v_some = item.some some; v_small = item.small small; d_passes = subst Passes same passes; units = ap list_of same; here = item.here }

    standing_as : (v u : ℕ) (d e : Cursor) → room 8 s true w c ≡ got v d → v ≡ u → d ≡ e → Standing u e
    standing_as v u d e q i j = subst (Standing u) j (subst (λ (x : ℕ). Standing x d) i (standing v d q))

    pub stands_here : (c.at ≡ c.end → ⊥) → w ≤ c.end - c.at
    unfolding room
    stands_here h = stands (λ v d e. let i = need_is 8 w c v d (pick_ne _ _ _ _ _ h refl ∙ e) in (standing_as v w d c e i.width i.same).here)

    module _ (full : c.at ≡ c.end) where
      -- what is entered: its width and its place
      entered : (v : ℕ) (d : Cursor) → room 8 s true w c ≡ got v d → (v ≡ width_of (byte_at s (c.end + 4))) × (d ≡ on (next_of s c.end) 1)
      unfolding room
      entered v d e = by (next_segment 8 s c) refl (pick_eq _ _ _ _ _ full refl ∙ e)
        where
          by : (y : Got Unit) → next_segment 8 s c ≡ y → then y (λ _ g. enter 8 s true w g) ≡ got v d → (v ≡ width_of (byte_at s (c.end + 4))) × (d ≡ on (next_of s c.end) 1)
          by (got u g) q h =
              let i = next_is 8 s c u g q in
              let k = need_is 8 (width_of (byte_at s g.at)) (on g 1) v d h in
              (k.width ∙ ap (λ (z : Cursor). width_of (byte_at s z.at)) i, k.same ∙ ap (λ (z : Cursor). on z 1) i)
          by (refused a b) q h = absurd (refused_not h)

      pub stands_next : (v z y : ℕ) → v ≡ width_of (byte_at s (c.end + 4)) → z ≡ y → y ≡ u16_at s (c.end + 2) → Standing v (record { seg = c.end; at = c.end + 4 + 1; end = c.end + 4 + z })
      stands_next v z y i j k =
          stands (λ u d e.
          let h = entered u d e in
          standing_as u v d _ e (h.0 ∙ sym i) (h.1 ∙ ap (λ (m : ℕ). record { seg = c.end; at = c.end + 4 + 1; end = c.end + 4 + m }) (sym (j ∙ k))))

      pub next_within : c.end + 4 + 1 ≤ length s
      next_within =
          stands (λ v d e.
          let h : d.at ≡ c.end + 4 + 1 = ap (λ (z : Cursor). z.at) (entered v d e).1 in
          let i = (room_item 8 s true w c v d inside e).inside in
          omega arith)

      pub next_byte : c.end + 4 < length s
      next_byte = let h = next_within in omega arith

      pub next_word : c.end + 2 + 2 ≤ length s
      next_word = let h = next_within in omega arith

  -- past the first k of them
  module _ (k : ℕ) (few : k ≤ n) (fit : c.at + k * w ≤ c.end) where
    turn : items 8 s true w n c ≡ append (nums s w k c.at) (items 8 s true w (n - k) (on c (k * w)))
    turn =
        let e : n ≡ k + (n - k) = omega arith in
        ap (λ (l : ℕ). items 8 s true w l c) e ∙ items_fit 8 s true w k (n - k) c some (omega arith)

    turn_passes : Passes (append (nums s w k c.at) (items 8 s true w (n - k) (on c (k * w))))
    turn_passes = subst Passes turn passes

    pub after_units : list_of (items 8 s true w n c) ≡ nums s w k c.at ++ list_of (items 8 s true w (n - k) (on c (k * w)))
    after_units = ap list_of turn ∙ list_append (nums s w k c.at) (items 8 s true w (n - k) (on c (k * w))) turn_passes

    pub after_passes : Passes (items 8 s true w (n - k) (on c (k * w)))
    after_passes = passes_append (nums s w k c.at) (items 8 s true w (n - k) (on c (k * w))) turn_passes

pub ruleset after_laws = (after_units, after_passes)
