-- Wherever the reading of strings comes to, it stands in the body of an SST or a CONTINUE, if it began in one. Assumes nothing.
use Prim.Native.Nat.{ℕ, zero, suc, ◌+◌, ◌-◌, ◌≤◌, ◌<◌}
use mathlib.Core.Path.{◌≡◌, refl, sym, ap, ◌∙◌, subst}
use mathlib.Core.List.{List}
use mathlib.Core.Bool.{Bool, true, false}
use native.Mathlib.Omega.{arith}
use lib.ListN.{length}
use borrow.Author.Tests.{eqb-true, ltb-false}
use Rattle.steps.specs.Choice.{pick}
use Rattle.steps.proofs.Choice.{pick_any, pick_by}
use Rattle.byte_numbers.specs.Bytes.{byte_at, u16_at}
use Rattle.record.specs.declared.Header.{Header}
use Rattle.record.specs.declared.Header.TheVariants.{Record, Cut, End}
use Rattle.record.specs.Record.{header_at}
use Rattle.record.proofs.Laws.{whole}
use Rattle.segments.specs.declared.Cursor.{Cursor}
use Rattle.std.specs.Prelude.{Result, Ok}
use Rattle.refusal.specs.declared.Refusal.{Refusal}
use Rattle.segments.specs.Segments.{Got, got, refused, then, push, on, continues, segment_of, next_segment, need, width_of, enter, room, items}
use Rattle.segments.specs.Parts.{ends, moved, Passes}
use Rattle.segments.proofs.Local.{refused_not}
use Rattle.strings.specs.Table.{head_size, head_at, start_size, head, rest, string_at, next_place, strings, first, places_of, place_of}
use Rattle.strings.proofs.Laws.{stands}
use Rattle.string_places.specs.Places.{holds_strings}
use Rattle.string_places.specs.Parts.{Segment}

-- where a reading ends, it stands in a segment
abbrev pub Stays : {A : Type 0} → List ℕ → Got A → Type 0
Stays s (got a c) = Segment s c
Stays s (refused n o) = Unit {0}

pub segment_on : (s : List ℕ) (c : Cursor) (k : ℕ) → Segment s c → Segment s (on c k)
segment_on s c k h = record { kind = h.kind; size = h.size; header = h.header; holds = h.holds; low = omega (arith, h.low) }

continue_holds : (k : ℕ) → k ≡ 0x003C → holds_strings k ≡ true
unfolding pick
continue_holds k i = ap holds_strings i

pub sst_holds : (k : ℕ) → k ≡ 0x00FC → holds_strings k ≡ true
unfolding pick
sst_holds k i = ap holds_strings i

module _ (s : List ℕ) where
  stays_then : {A B : Type 0} (x : Got A) (k : A → Cursor → Got B) → Stays s x → ((v : A) (d : Cursor) → Segment s d → Stays s (k v d)) → Stays s (then x k)
  stays_then (got v d) k h f = f v d h
  stays_then (refused n o) k h f = tt

  stays_push : {A : Type 0} (v : A) (x : Got (List A)) → Stays s x → Stays s (push v x)
  stays_push v (got l d) h = h
  stays_push v (refused n o) h = tt

  stays_need : (n w : ℕ) (c : Cursor) → Segment s c → Stays s (need n w c)
  unfolding need
  stays_need n w c h = pick_any (Stays s) _ tt h

  next_of : (n p : ℕ) → u16_at s p ≡ 0x003C → (h : Header) → header_at s p ≡ h → Stays s (segment_of n p h)
  next_of n p t (Record k z e) q =
      let w = whole s p k z e q in
      let c : Segment s (record { seg = p; at = p + 4; end = e }) = record { kind = k; size = z; header = q; holds = continue_holds k (w.kind ∙ t); low = omega arith } in
      pick_any (Stays s) _ tt c
  next_of n p t Cut q = tt
  next_of n p t End q = tt

  continues_kind : (p : ℕ) → continues s p ≡ true → u16_at s p ≡ 0x003C
  unfolding continues
  continues_kind p h = pick_by (λ (x : Bool). x ≡ true → u16_at s p ≡ 0x003C) _ (λ _ i. absurd (let z : ◌≡◌ {A = ℕ} 0 1 = cc in omega arith)) (λ _ i. eqb-true (u16_at s p) 0x003C i) h

  stays_next : (n : ℕ) (c : Cursor) → Stays s (next_segment n s c)
  unfolding next_segment
  stays_next n c = pick_by (Stays s) _ (λ t. next_of n c.end (continues_kind c.end t) (header_at s c.end) refl) (λ _. tt)

  stays_enter : (n : ℕ) (f : Bool) (w : ℕ) (c : Cursor) → Segment s c → Stays s (enter n s f w c)
  stays_enter n true w c h = stays_need n (width_of (byte_at s c.at)) (on c 1) (segment_on s c 1 h)
  stays_enter n false w c h = stays_need n w c h

  stays_room : (n : ℕ) (f : Bool) (w : ℕ) (c : Cursor) → Segment s c → Stays s (room n s f w c)
  unfolding room
  stays_room n f w c h = pick_any (Stays s) _ (stays_then (next_segment n s c) (λ _ d. enter n s f w d) (stays_next n c) (λ _ d i. stays_enter n f w d i)) (stays_need n w c h)

  stays_items : (n : ℕ) (f : Bool) (w k : ℕ) (c : Cursor) → Segment s c → Stays s (items n s f w k c)
  unfolding items
  stays_items n f w zero c h = h
  stays_items n f w (suc k) c h = stays_then (room n s f w c) _ (stays_room n f w c h) (λ v d i. stays_push _ (items n s f v k (on d v)) (stays_items n f v k (on d v) (segment_on s d v i)))

  stays_head : (d : Cursor) → Segment s d → Stays s (head s d)
  unfolding head
  stays_head d h = stays_then (need 8 3 d) _ (stays_need 8 3 d h) (λ _ c i. stays_then (need 8 (start_size s c.at) c) _ (stays_need 8 (start_size s c.at) c i) (λ _ e j. segment_on s e (head_size (byte_at s (e.at + 2))) j))

  pub stays_string : (d : Cursor) → Segment s d → Stays s (string_at s d)
  unfolding string_at rest
  stays_string d h =
      stays_then (head s d) _ (stays_head d h) (λ x c i.
      stays_then (items 8 s true x.width x.chars c) _ (stays_items 8 true x.width x.chars c i) (λ us e j.
      stays_then (rest s x e) _ (stays_then (items 8 s false 4 x.runs e) _ (stays_items 8 false 4 x.runs e j) (λ _ g k. stays_items 8 false 1 x.phonetic g k)) (λ _ g k. k)))

  pub stays_place : (c : Cursor) → Segment s c → Stays s (next_place s c)
  unfolding next_place
  stays_place c h = pick_any (Stays s) _ (stays_next 8 c) h

  stays_strings : (n : ℕ) (c : Cursor) → Segment s c → Stays s (strings s n c)
  unfolding strings
  stays_strings zero c h = h
  stays_strings (suc n) c h =
      stays_then (next_place s c) _ (stays_place c h) (λ _ d i.
      stays_then (string_at s d) _ (stays_string d i) (λ _ e j.
      stays_push d (strings s n e) (stays_strings n e j)))

  stays_ends : {A : Type 0} (x : Got A) → Stays s x → (c : Cursor) → ends x ≡ got tt c → Segment s c
  stays_ends (got a d) h c q = let i : ◌≡◌ {A = Cursor} d c = cc in subst (Segment s) i h
  stays_ends (refused n o) h c q = absurd (refused_not q)

  -- as the calls give them
  pub segment_place : (c d : Cursor) (m : Result Cursor Refusal) → moved m ≡ next_place s c → m ≡ Ok d → Segment s c → Segment s d
  segment_place c d m p q h = stays_ends (next_place s c) (stays_place c h) d (go (next_place s c) (sym p ∙ ap moved q))
    where
      go : (x : Got Unit) → x ≡ got tt d → ends x ≡ got tt d
      go x i = ap ends i

  pub segment_string : (c d : Cursor) (m : Result Cursor Refusal) → moved m ≡ ends (string_at s c) → m ≡ Ok d → Segment s c → Segment s d
  segment_string c d m p q h = stays_ends (string_at s c) (stays_string c h) d (sym p ∙ ap moved q)

  -- string i of a table
  pub segment_of_lem : (p e i : ℕ) → i < length (places_of s p e) → Segment s (first p e) → Segment s (place_of s p e i)
  segment_of_lem p e i l h =
      let k = stands s p e i l in
      let f : Segment s k.from = stays_ends (strings s i (first p e)) (stays_strings i (first p e) h) k.from k.before in
      segment_place k.from (place_of s p e i) (Ok (place_of s p e i)) (sym k.here) refl f

  -- a string that is there has a head of three bytes at least
  pub string_head : (d : Cursor) → Passes (string_at s d) → d.at + 3 ≤ d.end
  unfolding string_at head need
  string_head d h =
      pick_by (λ (x : Got ℕ). Passes (then (then x (λ _ c. then (need 8 (start_size s c.at) c) (λ _ e. got (head_at s e.at) (on e (head_size (byte_at s (e.at + 2))))))) (λ h c.
      then (items 8 s true h.width h.chars c) (λ us e. then (rest s h e) (λ _ i. got us i)))) → d.at + 3 ≤ d.end) _
      (λ _ i. absurd i) (λ t i. let k = ltb-false (d.end - d.at) 3 t in omega arith) h
