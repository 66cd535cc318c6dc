-- A table that was written is read as it was. Assumes nothing.
use Prim.Native.Nat.{ℕ, ◌+◌, ◌-◌, ◌^◌, ◌≤◌, ◌<◌}
use mathlib.Core.Path.{◌≡◌, refl, sym, ap, ap₂, ◌∙◌, subst}
use mathlib.Core.List.{List, [], ◌∷◌, ◌++◌, append_assoc}
use mathlib.Core.Bool.{Bool, true, false}
use native.Mathlib.Omega.{arith}
use lib.ListN.{length, drop, length-append}
use borrow.Author.Tests.{ltb-false}
use lib.Dec.{eqb}
use Rattle.steps.proofs.Choice.{pick_eq, pick_ne, pick_nlt, pick_true, pick_false}
use Rattle.byte_numbers.specs.Bytes.{byte_at, num_at, u16_at, bytes_of}
use Rattle.byte_numbers.proofs.Laws.{length_bytes}
use Rattle.record.specs.declared.Header.TheVariants.{Record}
use Rattle.record.specs.Record.{header_at}
use Rattle.record.proofs.Laws.{header_whole}
use Rattle.segments.specs.declared.Cursor.{Cursor}
use Rattle.segments.specs.Segments.{Got, got, then, push, on, continues, segment_of, next_segment, need, width_of, enter, room, items}
use Rattle.segments.proofs.Local.{room_here}
use Rattle.strings.specs.Table.{next_place}
use Rattle.table_texts.specs.Texts.{Below}
use Rattle.table_texts.specs.Written.{Piece, Laid, put, opens, room_after, lay, opening_of, piece_of, item_pieces, record_bytes, continue_bytes}
use Rattle.table_texts.proofs.Stream.{drop_on, drop_by, left_of_lem, byte_here, num_here}

-- ---- a record that stands at p
module _ (s : List ℕ) (p k : ℕ) (b t : List ℕ) (small : length b ≤ 8224) (low : k < 65536) (h : drop p s ≡ record_bytes k b ++ t) where
  parts : drop p s ≡ bytes_of 2 k ++ (bytes_of 2 (length b) ++ (b ++ t))
  unfolding record_bytes
  parts = h ∙ append_assoc (bytes_of 2 k) (bytes_of 2 (length b) ++ b) t ∙ ap (λ (l : List ℕ). bytes_of 2 k ++ l) (append_assoc (bytes_of 2 (length b)) b t)

  type_here : u16_at s p ≡ k
  type_here = num_here s 2 k p _ parts (omega arith)

  size_place : drop (p + 2) s ≡ bytes_of 2 (length b) ++ (b ++ t)
  size_place = drop_by s p (bytes_of 2 k) (bytes_of 2 (length b) ++ (b ++ t)) 2 (length_bytes 2 k) parts

  size_here : u16_at s (p + 2) ≡ length b
  size_here = num_here s 2 (length b) (p + 2) (b ++ t) size_place (omega arith)

  pub body_here : drop (p + 4) s ≡ b ++ t
  body_here =
      let e : p + 2 + 2 ≡ p + 4 = omega arith in
      ap (λ (n : ℕ). drop n s) (sym e) ∙ drop_by s (p + 2) (bytes_of 2 (length b)) (b ++ t) 2 (length_bytes 2 (length b)) size_place

  pub record_left : length s - p ≡ 4 + (length b + length t)
  record_left =
      let a = left_of_lem s p (bytes_of 2 k) (bytes_of 2 (length b) ++ (b ++ t)) parts in
      let c = length-append (bytes_of 2 (length b)) (b ++ t) in
      let d = length-append b t in
      let e = length_bytes 2 k in
      let f = length_bytes 2 (length b) in
      omega arith

  pub record_here : header_at s p ≡ Record k (length b) (p + 4 + length b)
  record_here = let l = record_left in sym (header_whole s p (length b) (length b) (sym size_here) refl (omega arith) k (sym type_here) small (omega arith))

-- a CONTINUE, which is the next segment
module _ (s : List ℕ) (c : Cursor) (b t : List ℕ) (some : 1 ≤ length b) (small : length b ≤ 8224) (h : drop c.end s ≡ record_bytes 0x003c b ++ t) where
  abbrev pub in_next : Cursor
  in_next = record { seg = c.end; at = c.end + 4; end = c.end + 4 + length b }

  pub continues_here : continues s c.end ≡ true
  unfolding continues
  continues_here =
      let l = record_left s c.end 0x003c b t small (omega arith) h in
      sym (pick_nlt true false _ _ _ (omega arith) (ap (λ (x : ℕ). eqb x 0x003c) (sym (type_here s c.end 0x003c b t small (omega arith) h))))

  pub next_here : (n : ℕ) → next_segment n s c ≡ got tt in_next
  unfolding next_segment
  next_here n =
      sym (pick_true (got tt in_next) _ _ _ continues_here
      (pick_ne (got tt in_next) _ _ (length b) 0 (λ e. omega arith) refl
      ∙ ap (segment_of n c.end) (sym (record_here s c.end 0x003c b t small (omega arith) h))))

-- ---- what is laid stands at a cursor, and after it t
pub record Lies (s : List ℕ) (c : Cursor) (l : Laid) (t : List ℕ) : Type 0 where
  pub end : c.end ≡ c.at + length l.here
  pub bytes : drop c.at s ≡ l.here ++ (continue_bytes l.more ++ t)

-- never more than there is room for
pub here_small : (r : ℕ) (ps : List Piece) → length (lay r ps).here ≤ r
unfolding lay
here_small r [] = omega arith
here_small r (p ∷ ps) = by (opens r p) refl (here_small (room_after r p) ps)
  where
    by : (b : Bool) → opens r p ≡ b → length (lay (room_after r p) ps).here ≤ room_after r p → length (put b p (lay (room_after r p) ps)).here ≤ r
    by true e h = omega arith
    by false e h =
        let l : length p.body ≤ r = ltb-false r (length p.body) e in
        let m : r - length p.body ≡ room_after r p = pick_false (r - length p.body) _ _ (opens r p) e refl in
        let a = length-append p.body (lay (room_after r p) ps).here in
        omega arith

-- a piece of a few bytes
pub record Few (p : Piece) : Type 0 where
  pub some : 1 ≤ length p.body
  pub few : length p.opening + length p.body ≤ 8224

-- the piece first in line stands at d, and after it all that is laid after it
pub record Stands (s : List ℕ) (d : Cursor) (p : Piece) (l : Laid) (t : List ℕ) : Type 0 where
  pub end : d.end ≡ d.at + (length p.body + length l.here)
  pub bytes : drop d.at s ≡ p.body ++ (l.here ++ (continue_bytes l.more ++ t))

-- it was opened or it wasn't
module _ (s : List ℕ) (c : Cursor) (r : ℕ) (p : Piece) (ps : List Piece) (t : List ℕ) (few : Few p) where
  abbrev after : Laid
  after = lay (room_after r p) ps

  stands_here : Lies s c (put false p after) t → Stands s c p after t
  stands_here h = record {
    end = let a = length-append p.body after.here in let b = h.end in omega arith;
    bytes = h.bytes ∙ append_assoc p.body after.here (continue_bytes after.more ++ t);
  }

  opened : List ℕ
  opened = p.opening ++ (p.body ++ after.here)

  opened_length : length opened ≡ length p.opening + (length p.body + length after.here)
  unfolding opened
  opened_length = let a = length-append p.opening (p.body ++ after.here) in let b = length-append p.body after.here in omega arith

  opened_small : opens r p ≡ true → length opened ≤ 8224
  opened_small e =
      let a = opened_length in
      let b = here_small (room_after r p) ps in
      let m : 8224 - (length p.opening + length p.body) ≡ room_after r p = pick_true (8224 - (length p.opening + length p.body)) _ _ (opens r p) e refl in
      let f = few.few in
      omega arith

  module _ (h : Lies s c (put true p after) t) where
    at_end_lem : c.at ≡ c.end
    at_end_lem = let e = h.end in omega arith

    next_bytes : drop c.end s ≡ record_bytes 0x003c opened ++ (continue_bytes after.more ++ t)
    unfolding continue_bytes opened
    next_bytes = ap (λ (n : ℕ). drop n s) (sym at_end_lem) ∙ h.bytes ∙ append_assoc (record_bytes 0x003c opened) (continue_bytes after.more) t

    module _ (e : opens r p ≡ true) where
      some : 1 ≤ length opened
      some = let a = opened_length in let b = few.some in omega arith

      abbrev next : Cursor
      next = in_next s c opened (continue_bytes after.more ++ t) some (opened_small e) next_bytes

      next_is : (n : ℕ) → next_segment n s c ≡ got tt next
      next_is n = next_here s c opened (continue_bytes after.more ++ t) some (opened_small e) next_bytes n

      next_body : drop (c.end + 4) s ≡ p.opening ++ (p.body ++ (after.here ++ (continue_bytes after.more ++ t)))
      unfolding opened
      next_body =
          body_here s c.end 0x003c opened (continue_bytes after.more ++ t) (opened_small e) (omega arith) next_bytes
          ∙ append_assoc p.opening (p.body ++ after.here) (continue_bytes after.more ++ t)
          ∙ ap (λ (l : List ℕ). p.opening ++ l) (append_assoc p.body after.here (continue_bytes after.more ++ t))

      stands_next : Stands s (on next (length p.opening)) p after t
      stands_next = record {
        end = let a = opened_length in omega arith;
        bytes = drop_on s (c.end + 4) p.opening _ next_body;
      }

-- past a piece
pub past : (s : List ℕ) (d : Cursor) (p : Piece) (l : Laid) (t : List ℕ) (n : ℕ) → length p.body ≡ n → Stands s d p l t → Lies s (on d n) l t
past s d p l t n e h = record {
  end = let a = h.end in omega arith;
  bytes = drop_by s d.at p.body _ n e h.bytes;
}

pub on_none : (d : Cursor) → on d 0 ≡ d
on_none d = let e : d.at + 0 ≡ d.at = omega arith in λ i. record { seg = d.seg; at = e i; end = d.end }

-- ---- the place of a head
pub record Placed (s : List ℕ) (x : Got Unit) (p : Piece) (l : Laid) (t : List ℕ) : Type 0 where
  pub to : Cursor
  pub is : x ≡ got tt to
  pub stands : Stands s to p l t

abbrev pub plain : List ℕ → Piece
plain b = record { opening = []; body = b }

pub place_read : (s : List ℕ) (c : Cursor) (r : ℕ) (b : List ℕ) (ps : List Piece) (t : List ℕ) → Few (plain b) → Lies s c (lay r (plain b ∷ ps)) t
    → Placed s (next_place s c) (plain b) (lay (room_after r (plain b)) ps) t
unfolding lay next_place
place_read s c r b ps t few h = by (opens r (plain b)) refl h
  where
    l : Laid
    l = lay (room_after r (plain b)) ps

    by : (o : Bool) → opens r (plain b) ≡ o → Lies s c (put o (plain b) l) t → Placed s (next_place s c) (plain b) l t
    by true e h = record {
      to = next s c r (plain b) ps t few h e;
      is = sym (pick_eq (got tt (next s c r (plain b) ps t few h e)) _ _ c.at c.end (at_end_lem s c r (plain b) ps t few h) (sym (next_is s c r (plain b) ps t few h e 8)));
      stands = subst (λ (d : Cursor). Stands s d (plain b) l t) (on_none (next s c r (plain b) ps t few h e)) (stands_next s c r (plain b) ps t few h e);
    }
    by false e h =
        let i = stands_here s c r (plain b) ps t few h in
        let m : c.at ≡ c.end → ⊥ = λ q. let a = i.end in let o = few.some in omega arith in
        record { to = c; is = sym (pick_ne (got tt c) _ _ c.at c.end m refl); stands = i }

-- ---- items
pub record Roomed (s : List ℕ) (x : Got ℕ) (w : ℕ) (p : Piece) (l : Laid) (t : List ℕ) : Type 0 where
  pub to : Cursor
  pub is : x ≡ got w to
  pub stands : Stands s to p l t

-- the widths of items: characters, f, of 1 or 2 bytes, others of up to 4
abbrev pub Width : Bool → ℕ → Type 0
Width true w = (1 ≤ w) × (w ≤ 2)
Width false w = (1 ≤ w) × (w ≤ 4)

item_few : (f : Bool) (w n : ℕ) → Width f w → Few (piece_of f w n)
item_few true w n h = let a = length_bytes w n in record { some = omega arith; few = omega arith }
item_few false w n h = let a = length_bytes w n in record { some = omega arith; few = omega arith }

width_low : (f : Bool) (w : ℕ) → Width f w → 1 ≤ w
width_low true w h = h.0
width_low false w h = h.0

-- room for what is there
pub need_there : (n w : ℕ) (c : Cursor) → w ≤ c.end - c.at → need n w c ≡ got w c
unfolding need
need_there n w c h = sym (pick_nlt (got w c) _ _ _ _ h refl)

module _ (s : List ℕ) (c : Cursor) (r w n : ℕ) (ps : List Piece) (t : List ℕ) where
  enter_there : (f : Bool) (wide : Width f w) (h : Lies s c (put true (piece_of f w n) (lay (room_after r (piece_of f w n)) ps)) t) (e : opens r (piece_of f w n) ≡ true)
      → (let d = next s c r (piece_of f w n) ps t (item_few f w n wide) h e in enter 8 s f w d ≡ got w (on d (length (opening_of f w))))
  enter_there true wide h e =
      let k = item_few true w n wide in
      let d = next s c r (piece_of true w n) ps t k h e in
      let b : byte_at s d.at ≡ w - 1 = byte_here s (c.end + 4) (w - 1) _ (next_body s c r (piece_of true w n) ps t k h e) in
      let v : width_of (byte_at s d.at) ≡ w = omega arith in
      let i = stands_next s c r (piece_of true w n) ps t k h e in
      let j = i.end in
      let q = length_bytes w n in
      ap (λ (z : ℕ). need 8 z (on d 1)) v ∙ need_there 8 w (on d 1) (omega arith)
  enter_there false wide h e =
      let k = item_few false w n wide in
      let d = next s c r (piece_of false w n) ps t k h e in
      let i = stands_next s c r (piece_of false w n) ps t k h e in
      let j = i.end in
      let q = length_bytes w n in
      need_there 8 w d (omega arith) ∙ ap (got w) (sym (on_none d))

  pub room_read : (f : Bool) → Width f w → Lies s c (lay r (piece_of f w n ∷ ps)) t → Roomed s (room 8 s f w c) w (piece_of f w n) (lay (room_after r (piece_of f w n)) ps) t
  unfolding lay room
  room_read f wide h = by (opens r (piece_of f w n)) refl h
    where
      k : Few (piece_of f w n)
      k = item_few f w n wide

      l : Laid
      l = lay (room_after r (piece_of f w n)) ps

      by : (o : Bool) → opens r (piece_of f w n) ≡ o → Lies s c (put o (piece_of f w n) l) t → Roomed s (room 8 s f w c) w (piece_of f w n) l t
      by true e h =
          let d = next s c r (piece_of f w n) ps t k h e in
          record {
            to = on d (length (opening_of f w));
            is = sym (pick_eq (got w (on d (length (opening_of f w)))) _ _ c.at c.end (at_end_lem s c r (piece_of f w n) ps t k h)
                (sym (ap (λ (x : Got Unit). then x (λ _ d. enter 8 s f w d)) (next_is s c r (piece_of f w n) ps t k h e 8) ∙ enter_there f wide h e)));
            stands = stands_next s c r (piece_of f w n) ps t k h e;
          }
      by false e h =
          let i = stands_here s c r (piece_of f w n) ps t k h in
          let a = i.end in
          let q = length_bytes w n in
          record { to = c; is = room_here 8 s f w c (width_low f w wide) (omega arith); stands = i }

pub record ItemsRead (s : List ℕ) (x : Got (List ℕ)) (ns : List ℕ) (ps : List Piece) (t : List ℕ) : Type 0 where
  pub to : Cursor
  pub room : ℕ
  pub is : x ≡ got ns to
  pub lies : Lies s to (lay room ps) t

module _ (s : List ℕ) (f : Bool) (w : ℕ) (wide : Width f w) (ps : List Piece) (t : List ℕ) where
  pub items_read : (ns : List ℕ) (r : ℕ) (c : Cursor) → Below (256 ^ w) ns → Lies s c (lay r (item_pieces f w ns ++ ps)) t → ItemsRead s (items 8 s f w (length ns) c) ns ps t
  unfolding items item_pieces
  items_read [] r c below h = record { to = c; room = r; is = refl; lies = h }
  items_read (n ∷ ns) r c below h =
      let q = room_read s c r w n (item_pieces f w ns ++ ps) t f wide h in
      let i = past s q.to (piece_of f w n) _ t w (length_bytes w n) q.stands in
      let m = items_read ns (room_after r (piece_of f w n)) (on q.to w) below.1 i in
      let v : num_at s w q.to.at ≡ n = num_here s w n q.to.at _ q.stands.bytes below.0 in
      record {
        to = m.to;
        room = m.room;
        is = ap (λ (x : Got ℕ). then x (λ v d. push (num_at s v d.at) (items 8 s f v (length ns) (on d v)))) q.is
            ∙ ap₂ (λ (z : ℕ) (y : Got (List ℕ)). push z y) v m.is;
        lies = m.lies;
      }
