-- Bytes that are written as they are: items of one byte that stand in one segment, and go into one. Assumes nothing.
use Prim.Native.Nat.{ℕ, zero, suc, ◌+◌, ◌-◌, ◌*◌, ◌≤◌, ◌<◌}
use mathlib.Core.Path.{◌≡◌, refl, sym, ap, ap₂, ◌∙◌, subst}
use mathlib.Core.List.{List, [], ◌∷◌, append-nil}
use mathlib.Core.Bool.{Bool, true}
use native.Mathlib.Omega.{arith}
use lib.ListN.{length, get_or}
use lib.Seq.{sets}
use mir.Val.{Fits as FitsIn}
use mir.Syntax.{w8}
use Rattle.steps.proofs.Choice.{pick_nlt}
use Rattle.byte_numbers.specs.Bytes.{num_at, bytes_at, bytes_of}
use Rattle.byte_numbers.proofs.Laws.{length_bytes, bytes_first}
use Rattle.segments.specs.declared.Cursor.{Cursor}
use Rattle.segments.specs.Segments.{Got, got, list_of, on, items}
use Rattle.segments.specs.Parts.{ends, nums, stored}
use Rattle.segments.proofs.Laws.{items_fit, nums_length}
use Rattle.table_texts.specs.Written.{piece_of, item_pieces, wide_bit}
use Rattle.table_writer.specs.declared.writer.Out.{Out}
use Rattle.table_writer.specs.Writing.{Wrote, state, added, step, wrote, Long, Stays}
use Rattle.table_writer.proofs.Laws.{none, one_byte}
use Rattle.table_writer.proofs.Starts.{added_append}
use Rattle.table_writer.proofs.Finish.{wrote_at}

-- ---- read: the bytes, and the place after them
items_all : (s : List ℕ) (f : Bool) (n : ℕ) (c : Cursor) → n ≤ c.end - c.at → items 8 s f 1 n c ≡ got (nums s 1 n c.at) (on c n)
unfolding items
items_all s f n c h =
    let a : n ≡ n + 0 = omega arith in
    let m : n * 1 ≡ n = omega arith in
    ap (λ (k : ℕ). items 8 s f 1 k c) a
    ∙ items_fit 8 s f 1 n 0 c (omega arith) (omega arith)
    ∙ (λ i. got (append-nil (nums s 1 n c.at) i) (on c (m i)))

-- ---- written
step_plain : (f : Bool) (w : Wrote) (x : ℕ) → x < 256 → 1 ≤ w.out.room → step w (piece_of f 1 x) ≡ added w (x ∷ [])
unfolding step
step_plain f w x h r =
    let l : length (bytes_of 1 x) ≤ w.out.room = (let e = length_bytes 1 x in omega arith) in
    sym (pick_nlt (added w (bytes_of 1 x)) _ _ w.out.room (length (bytes_of 1 x)) l refl) ∙ ap (added w) (one_byte x h)

room_after : (w : Wrote) (x n : ℕ) → n + 1 ≤ w.out.room → n ≤ (added w (x ∷ [])).out.room
unfolding added
room_after w x n h = omega arith

added_ends : (w : Wrote) (l : List ℕ) → (added w l).out.at ≡ w.out.at + length l
unfolding added
added_ends w l = refl

module _ (s : List ℕ) (bytes : (i : ℕ) → FitsIn w8 (get_or s i 0)) where
  num_low : (p : ℕ) → num_at s 1 p < 256
  unfolding num_at
  num_low p = let a = bytes p in omega arith

  wrote_plain : (f : Bool) (n p : ℕ) (w : Wrote) → n ≤ w.out.room → wrote w (item_pieces f 1 (nums s 1 n p)) ≡ added w (nums s 1 n p)
  unfolding wrote item_pieces nums
  wrote_plain f zero p w h = sym (none w)
  wrote_plain f (suc n) p w h =
      ap (λ (z : Wrote). wrote z (item_pieces f 1 (nums s 1 n (p + 1)))) (step_plain f w (num_at s 1 p) (num_low p) (omega arith))
      ∙ wrote_plain f n (p + 1) (added w (num_at s 1 p ∷ [])) (room_after w (num_at s 1 p) n (omega arith))
      ∙ added_append w (num_at s 1 p ∷ []) (nums s 1 n (p + 1))

  wide_none : (n p : ℕ) → 0 ≡ wide_bit (nums s 1 n p)
  unfolding wide_bit nums
  wide_none zero p = refl
  wide_none (suc n) p = pick_nlt 0 1 _ 255 (num_at s 1 p) (let a = num_low p in omega arith) (wide_none n (p + 1))

  module _ (f : Bool) (w v n : ℕ) (c : Cursor) (room : ℕ) (t : Stays w v n (c.end - c.at) room) where
    list_is : items 8 s f w n c ≡ got (nums s 1 n c.at) (on c n)
    list_is = ap (λ (k : ℕ). items 8 s f k n c) t.0 ∙ items_all s f n c t.2

    pub plain_ends : (d : Cursor) → d ≡ on c n → got tt d ≡ ends (items 8 s f w n c)
    plain_ends d e = ap (λ (y : Cursor). got tt y) e ∙ ap ends (sym list_is)

    pieces_are : item_pieces f v (list_of (items 8 s f w n c)) ≡ item_pieces f 1 (nums s 1 n c.at)
    pieces_are = let a = t.1 in λ j. item_pieces f (a j) (list_of (list_is j))

    module _ (b : List ℕ) (o : Out) (r : room ≡ o.room) where
      fits : n ≤ o.room
      fits = let a = t.3 in omega arith

      pub plain_room : Long (state b o) (item_pieces f v (list_of (items 8 s f w n c))) → o.at + n ≤ length b
      unfolding Long state
      plain_room l =
          let k : Long (state b o) (item_pieces f 1 (nums s 1 n c.at)) = subst (Long (state b o)) pieces_are l in
          let y = wrote_at (item_pieces f 1 (nums s 1 n c.at)) (state b o) in
          let z = ap (λ (q : Wrote). q.out.at) (wrote_plain f n c.at (state b o) fits) in
          let q = added_ends (state b o) (nums s 1 n c.at) in
          let m = nums_length s 1 n c.at in
          omega arith

      pub plain_wrote : (b' : List ℕ) (g : Out) → state b' g ≡ added (state b o) (nums s 1 n c.at) → state b' g ≡ wrote (state b o) (item_pieces f v (list_of (items 8 s f w n c)))
      unfolding state
      plain_wrote b' g e = e ∙ sym (wrote_plain f n c.at (state b o) fits) ∙ ap (wrote (state b o)) (sym pieces_are)

  pub plain_wide : (w n : ℕ) (c : Cursor) → w ≡ 1 → n ≤ c.end - c.at → 0 ≡ wide_bit (list_of (items 8 s true w n c))
  plain_wide w n c e h = wide_none n c.at ∙ ap (λ (y : Got (List ℕ)). wide_bit (list_of y)) (sym (ap (λ (k : ℕ). items 8 s true k n c) e ∙ items_all s true n c h))

-- ---- bytes copied
nums_bytes : (s : List ℕ) (n p : ℕ) → p + n ≤ length s → bytes_at s p n ≡ nums s 1 n p
unfolding bytes_at nums num_at
nums_bytes s zero p h = refl
nums_bytes s (suc n) p h =
    let e : suc n - 1 ≡ n = omega arith in
    let b : get_or s p 0 ≡ num_at s 1 p = omega arith in
    bytes_first s p (suc n) (omega arith) (omega arith) ∙ ap (λ (m : ℕ). get_or s p 0 ∷ bytes_at s (p + 1) m) e ∙ ap₂ ◌∷◌ b (nums_bytes s n (p + 1) (omega arith))

pub bytes_added : (s : List ℕ) (n p : ℕ) (b b' : List ℕ) (o e : Out) → b' ≡ sets b o.at (bytes_at s p n) → p + n ≤ length s → e.seg ≡ o.seg → e.at ≡ o.at + n → e.room ≡ o.room - n → state b' e ≡ added (state b o) (nums s 1 n p)
unfolding added stored state
bytes_added s n p b b' o e h l seg at room =
    let m : n ≡ length (nums s 1 n p) = sym (nums_length s 1 n p) in
    let f = h ∙ ap (sets b o.at) (nums_bytes s n p l) in
    let x : e.at ≡ o.at + length (nums s 1 n p) = omega arith in
    let y : e.room ≡ o.room - length (nums s 1 n p) = omega arith in
    λ i. record { buf = f i; out = record { seg = seg i; at = x i; room = y i } }
