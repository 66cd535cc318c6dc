-- The drop laws of what stands in segments, and of the text result of a formula. They ask nothing of the stream. Assumes nothing.
use Prim.Native.Nat.{ℕ, zero, suc, ◌+◌, ◌-◌}
use mathlib.Core.Path.{◌≡◌, refl, ap, ap₂, ◌∙◌}
use mathlib.Core.List.{List}
use mathlib.Core.Bool.{Bool, true, false}
use native.Mathlib.Omega.{arith}
use lib.ListN.{length, drop, length-drop}
use lib.Dec.{ltb, leb, eqb}
use Rattle.steps.specs.Choice.{pick}
use Rattle.byte_numbers.specs.Bytes.{byte_at, num_at, u16_at}
use Rattle.record.specs.declared.Header.{Header}
use Rattle.record.specs.declared.Header.TheVariants.{Record, Cut, End}
use Rattle.record.specs.Record.{header_at}
use Rattle.segments.specs.declared.Cursor.{Cursor}
use Rattle.segments.specs.Segments.{Got, got, refused, then, push, on, continues, segment_of, next_segment, filled, need, width_of, enter, room, items}
use Rattle.value.specs.Value.{result_of}
use Rattle.text_result.specs.TextResult.{is_text, has_text, between, past_one, string_place, is_string, start_size, string_at, body, on_string, text_at, text_of}
use Rattle.moved_records.proofs.Later.{later_header, later_cursor, later_got}
use Rattle.moved_records.proofs.Numbers.{pick_map, leb_same, eqb_later, num_drop, num_at_lem, byte_at_lem}

-- ---- what is read one after the other
module _ (p : ℕ) where
  on_drop : (c : Cursor) (k : ℕ) → later_cursor p (on c k) ≡ on (later_cursor p c) k
  on_drop c k = let e : p + (c.at + k) ≡ p + c.at + k = omega arith in λ i. record { seg = p + c.seg; at = e i; end = p + c.end }

  then_drop : {A B : Type 0} (x : Got A) (k k' : A → Cursor → Got B) → ((v : A) (d : Cursor) → later_got p (k v d) ≡ k' v (later_cursor p d)) → later_got p (then x k) ≡ then (later_got p x) k'
  then_drop (got v d) k k' h = h v d
  then_drop (refused n o) k k' h = refl

  push_drop : {A : Type 0} (v : A) (x : Got (List A)) → later_got p (push v x) ≡ push v (later_got p x)
  push_drop v (got l c) = refl
  push_drop v (refused n o) = refl

  need_drop : (n w : ℕ) (c : Cursor) → later_got p (need n w c) ≡ need n w (later_cursor p c)
  unfolding need
  need_drop n w c =
      let e : c.end - c.at ≡ p + c.end - (p + c.at) = omega arith in
      pick_map (later_got p) (ltb (c.end - c.at) w) refl refl ∙ ap (λ (k : ℕ). pick (ltb k w) (refused n (p + c.seg)) (got w (later_cursor p c))) e

  segment_drop : (n i : ℕ) (h : Header) → later_got p (segment_of n i h) ≡ segment_of n (p + i) (later_header p h)
  segment_drop n i (Record k z e) = let a : p + (i + 4) ≡ p + i + 4 = omega arith in pick_map (later_got p) _ refl (λ m. got tt (record { seg = p + i; at = a m; end = p + e }))
  segment_drop n i Cut = refl
  segment_drop n i End = refl

  past_drop : (i : ℕ) (h : Header) → p + past_one i h ≡ past_one (p + i) (later_header p h)
  past_drop i (Record t z e) = pick_map (λ (n : ℕ). p + n) (between t) refl refl
  past_drop i Cut = refl
  past_drop i End = refl

module _ (s : List ℕ) (p : ℕ) where
  left_drop : (i j : ℕ) → p + i ≡ j → length (drop p s) - i ≡ length s - j
  left_drop i j e = let l = length-drop p s in omega arith

  end_drop : (i j : ℕ) → p + i ≡ j → leb (length (drop p s)) i ≡ leb (length s) j
  end_drop i j e = let l = length-drop p s in leb_same (length (drop p s)) i (length s) j (λ h. omega arith) (λ h. omega arith)

  -- ---- headers
  pub header_drop : (i j : ℕ) → p + i ≡ j → later_header p (header_at (drop p s) i) ≡ header_at s j
  unfolding header_at
  header_drop i j e =
      let size : u16_at (drop p s) (i + 2) ≡ u16_at s (j + 2) = num_at_lem s p 2 (i + 2) (j + 2) (omega arith) in
      let kind : u16_at (drop p s) i ≡ u16_at s j = num_at_lem s p 2 i j e in
      let four : length (drop p s) - (i + 4) ≡ length s - (j + 4) = left_drop (i + 4) (j + 4) (omega arith) in
      let end : p + (i + 4 + u16_at s (j + 2)) ≡ j + 4 + u16_at s (j + 2) = omega arith in
      rw (end_drop i j e, left_drop i j e, four, size, kind)
      (pick_map (later_header p) _ refl (pick_map (later_header p) _ refl (pick_map (later_header p) _ refl (pick_map (later_header p) _ refl (ap (Record (u16_at s j) (u16_at s (j + 2))) end)))))

  -- ---- segments
  pub continues_drop : (i j : ℕ) → p + i ≡ j → continues (drop p s) i ≡ continues s j
  unfolding continues
  continues_drop i j e = ap₂ (λ (a b : ℕ). pick (ltb a 4) false (eqb b 0x003C)) (left_drop i j e) (num_at_lem s p 2 i j e)

  next_drop : (n : ℕ) (c : Cursor) → later_got p (next_segment n (drop p s) c) ≡ next_segment n s (later_cursor p c)
  unfolding next_segment
  next_drop n c =
      rw (continues_drop c.end (p + c.end) refl)
      (pick_map (later_got p) _ (segment_drop p n c.end (header_at (drop p s) c.end) ∙ ap (segment_of n (p + c.end)) (header_drop c.end (p + c.end) refl)) refl)

  filled_drop : (n : ℕ) (c : Cursor) → later_got p (filled n (drop p s) c) ≡ filled n s (later_cursor p c)
  unfolding filled
  filled_drop n c =
      rw (eqb_later p c.at c.end, continues_drop c.end (p + c.end) refl)
      (pick_map (later_got p) _
      (pick_map (later_got p) _
      (then_drop p (next_segment n (drop p s) c) (λ _ d. refused n d.seg) (λ _ d. refused n d.seg) (λ v d. refl) ∙ ap (λ (x : Got Unit). then x (λ _ d. refused n d.seg)) (next_drop n c))
      refl)
      refl)

  enter_drop : (n : ℕ) (f : Bool) (w : ℕ) (c : Cursor) → later_got p (enter n (drop p s) f w c) ≡ enter n s f w (later_cursor p c)
  enter_drop n true w c =
      need_drop p n (width_of (byte_at (drop p s) c.at)) (on c 1)
      ∙ ap₂ (λ (b : ℕ) (d : Cursor). need n (width_of b) d) (byte_at_lem s p c.at (p + c.at) refl) (on_drop p c 1)
  enter_drop n false w c = need_drop p n w c

  room_drop : (n : ℕ) (f : Bool) (w : ℕ) (c : Cursor) → later_got p (room n (drop p s) f w c) ≡ room n s f w (later_cursor p c)
  unfolding room
  room_drop n f w c =
      rw (eqb_later p c.at c.end)
      (pick_map (later_got p) _
      (then_drop p (next_segment n (drop p s) c) (λ _ d. enter n (drop p s) f w d) (λ _ d. enter n s f w d) (λ v d. enter_drop n f w d) ∙ ap (λ (x : Got Unit). then x (λ _ d. enter n s f w d)) (next_drop n c))
      (need_drop p n w c))

  items_drop : (n : ℕ) (f : Bool) (w k : ℕ) (c : Cursor) → later_got p (items n (drop p s) f w k c) ≡ items n s f w k (later_cursor p c)
  unfolding items
  items_drop n f w zero c = refl
  items_drop n f w (suc k) c =
      then_drop p (room n (drop p s) f w c) (λ v d. push (num_at (drop p s) v d.at) (items n (drop p s) f v k (on d v))) (λ v d. push (num_at s v d.at) (items n s f v k (on d v)))
      (λ v d. push_drop p (num_at (drop p s) v d.at) (items n (drop p s) f v k (on d v))
      ∙ ap₂ (λ (x : ℕ) (y : Got (List ℕ)). push x y) (num_drop s p v d.at) (items_drop n f v k (on d v) ∙ ap (items n s f v k) (on_drop p d v)))
      ∙ ap (λ (x : Got ℕ). then x (λ v d. push (num_at s v d.at) (items n s f v k (on d v)))) (room_drop n f w c)

  -- ---- a text result
  start_drop : (i : ℕ) → start_size (drop p s) i ≡ start_size s (p + i)
  unfolding start_size
  start_drop i = ap₂ (λ (a b : ℕ). pick (eqb a 0) 3 (3 + width_of b)) (num_drop s p 2 i) (byte_at_lem s p (i + 2) (p + i + 2) (omega arith))

  string_drop : (c : Cursor) → later_got p (string_at (drop p s) c) ≡ string_at s (later_cursor p c)
  unfolding string_at
  string_drop c =
      then_drop p (need 6 (start_size (drop p s) c.at) c) (λ _ d. read (drop p s) d) (λ _ d. read s d) (λ v d. read_drop d)
      ∙ ap (λ (x : Got ℕ). then x (λ _ d. read s d)) (need_drop p 6 (start_size (drop p s) c.at) c ∙ ap (λ (k : ℕ). need 6 k (later_cursor p c)) (start_drop c.at))
    where
      tail : List ℕ → List ℕ → Cursor → Got (List ℕ)
      tail l us e = then (filled 6 l e) (λ _ i. got us i)

      read : List ℕ → Cursor → Got (List ℕ)
      read l d = then (items 6 l true (width_of (byte_at l (d.at + 2))) (u16_at l d.at) (on d 3)) (λ us e. tail l us e)

      tail_drop : (us : List ℕ) (e : Cursor) → later_got p (tail (drop p s) us e) ≡ tail s us (later_cursor p e)
      tail_drop us e = then_drop p (filled 6 (drop p s) e) (λ _ i. got us i) (λ _ i. got us i) (λ v i. refl) ∙ ap (λ (x : Got Unit). then x (λ _ i. got us i)) (filled_drop 6 e)

      read_drop : (d : Cursor) → later_got p (read (drop p s) d) ≡ read s (later_cursor p d)
      read_drop d =
          then_drop p (items 6 (drop p s) true (width_of (byte_at (drop p s) (d.at + 2))) (u16_at (drop p s) d.at) (on d 3)) (λ us e. tail (drop p s) us e) (λ us e. tail s us e) (λ us e. tail_drop us e)
          ∙ ap (λ (x : Got (List ℕ)). then x (λ us e. tail s us e))
          (items_drop 6 true (width_of (byte_at (drop p s) (d.at + 2))) (u16_at (drop p s) d.at) (on d 3)
          ∙ ap (items 6 s true (width_of (byte_at (drop p s) (d.at + 2))) (u16_at (drop p s) d.at)) (on_drop p d 3)
          ∙ ap₂ (λ (a b : ℕ). items 6 s true (width_of a) b (on (later_cursor p d) 3)) (byte_at_lem s p (d.at + 2) (p + d.at + 2) (omega arith)) (num_drop s p 2 d.at))

  is_drop : (i : ℕ) → is_string (drop p s) i ≡ is_string s (p + i)
  unfolding is_string
  is_drop i = ap₂ (λ (a b : ℕ). pick (ltb a 4) false (eqb b 0x0207)) (left_drop i (p + i) refl) (num_drop s p 2 i)

  place_drop : (i : ℕ) → p + string_place (drop p s) i ≡ string_place s (p + i)
  unfolding string_place
  place_drop i = past_drop p i (header_at (drop p s) i) ∙ ap (past_one (p + i)) (header_drop i (p + i) refl)

  on_string_drop : (i : ℕ) (h : Header) → later_got p (on_string (drop p s) i h) ≡ on_string s (p + i) (later_header p h)
  on_string_drop i (Record t z e) = let a : p + (i + 4) ≡ p + i + 4 = omega arith in string_drop (body i e) ∙ (λ m. string_at s (record { seg = p + i; at = a m; end = p + e }))
  on_string_drop i Cut = refl
  on_string_drop i End = refl

  text_at_drop : (f i : ℕ) → later_got p (text_at (drop p s) f i) ≡ text_at s (p + f) (p + i)
  unfolding text_at
  text_at_drop f i =
      rw (is_drop i)
      (pick_map (later_got p) _ (on_string_drop i (header_at (drop p s) i) ∙ ap (on_string s (p + i)) (header_drop i (p + i) refl)) refl)

  pub text_drop : (f e : ℕ) → later_got p (text_of (drop p s) f e) ≡ text_of s (p + f) (p + e)
  unfolding text_of
  text_drop f e = text_at_drop f (string_place (drop p s) e) ∙ ap (text_at s (p + f)) (place_drop e)

  pub has_drop : (t : ℕ) → has_text (drop p s) t 0 ≡ has_text s t p
  unfolding has_text
  has_drop t = ap (λ (n : ℕ). pick (eqb t 0x0006) (is_text (result_of n)) false) (num_drop s p 8 10)
