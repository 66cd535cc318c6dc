-- The laws that the functions' proofs cite, with their premises as the calls give them. Assumes nothing.
use Prim.Native.Nat.{ℕ, zero, suc, ◌+◌, ◌-◌, ◌≤◌, ◌<◌, ◌^◌}
use mathlib.Core.Path.{◌≡◌, refl, sym, ap, ◌∙◌, subst}
use mathlib.Core.List.{List, [], ◌∷◌}
use mathlib.Core.Bool.{Bool, true, false}
use Rattle.std.specs.Prelude.{Result, Ok, Err, IsOk}
use native.Mathlib.Omega.{arith}
use native.Mathlib.Nat.{mod-eq_of_lt}
use lib.ListN.{length}
use lib.Seq.{length-sets}
use mir.Val.{Fits as FitsIn}
use mir.Syntax.{w64}
use Rattle.steps.specs.Choice.{pick}
use Rattle.steps.proofs.Choice.{pick_any, pick_by, pick_true, pick_false, pick_lt, pick_nlt}
use Rattle.byte_numbers.specs.Bytes.{byte_at, num_at, u16_at, u32_at, bytes_of}
use Rattle.byte_numbers.proofs.Laws.{length_bytes}
use Rattle.segments.specs.declared.Cursor.{Cursor}
use Rattle.segments.specs.declared.Room.{Room}
use Rattle.refusal.specs.declared.Refusal.{Refusal}
use Rattle.segments.specs.Segments.{Got, got, refused, then, push, list_of, on, next_segment, need, width_of, enter, room, items}
use Rattle.segments.specs.Parts.{Inside, ends, roomed, Passes, stored}
use Rattle.segments.proofs.Local.{need_is, ItemAt, room_item}
use Rattle.segments.proofs.Laws.{ends_push}
use Rattle.table_texts.specs.Written.{Piece, opens, room_after, laid_size, opening_of, piece_of, item_pieces, wide_bit}
use Rattle.table_writer.specs.declared.writer.Out.{Out}
use Rattle.table_writer.specs.Writing.{Reached, Wrote, state, closed, added, opened, step, wrote, Long, Item}

-- ---- what a call gave
pub stored_length : (b : List ℕ) (i : ℕ) (xs : List ℕ) → length (stored b i xs) ≡ length b
unfolding stored
stored_length b i xs = length-sets b i xs

pub added_length : (w : Wrote) (bs : List ℕ) → length (added w bs).buf ≡ length w.buf
unfolding added
added_length w bs = stored_length w.buf w.out.at bs

pub opened_length : (w : Wrote) → length (opened w).buf ≡ length w.buf
unfolding opened closed
opened_length w = stored_length (closed w) w.out.at (bytes_of 2 0x003c) ∙ stored_length w.buf (w.out.seg + 2) (bytes_of 2 (w.out.at - (w.out.seg + 4)))

module _ (b b' : List ℕ) (o e : Out) (is : state b' e ≡ opened (state b o)) where
  pub opened_at_lem : e.at ≡ o.at + 4
  unfolding opened state
  opened_at_lem = ap (λ (w : Wrote). w.out.at) is

  pub opened_room : e.room ≡ 8224
  unfolding opened state
  opened_room = ap (λ (w : Wrote). w.out.room) is

  pub opened_long : length b' ≡ length b
  unfolding state
  opened_long = ap (λ (w : Wrote). length w.buf) is ∙ opened_length (state b o)

-- nothing more
pub none : (w : Wrote) → added w [] ≡ w
unfolding added stored
none w = let e : w.out.at + 0 ≡ w.out.at = omega arith in let f : w.out.room - 0 ≡ w.out.room = omega arith in λ i. record { buf = w.buf; out = record { seg = w.out.seg; at = e i; room = f i } }

pub one_byte : (m : ℕ) → m < 256 → bytes_of 1 m ≡ m ∷ []
unfolding bytes_of
one_byte m h = ap (λ (x : ℕ). x ∷ []) (mod-eq_of_lt h)

four : (w : ℕ) → (w ≡ 1 → ⊥) → (w ≡ 2 → ⊥) → 1 ≤ w → w ≤ 4 → (w ≡ 3 → ⊥) → w ≡ 4
four zero a b c d g = absurd (omega arith)
four (suc zero) a b c d g = absurd (a refl)
four (suc (suc zero)) a b c d g = absurd (b refl)
four (suc (suc (suc zero))) a b c d g = absurd (g refl)
four (suc (suc (suc (suc w)))) a b c d g = omega arith

-- ---- a CONTINUE for an item
flag_length : (f : Bool) (w : ℕ) → f ≡ true → length (opening_of f w) ≡ 1
flag_length f w e = ap (λ (g : Bool). length (opening_of g w)) e

flags_few : (f : Bool) (w : ℕ) → length (opening_of f w) ≤ 1
flags_few true w = omega arith
flags_few false w = omega arith

module _ (b : List ℕ) (o : Out) (f : Bool) (w : ℕ) where
  pub for_open : o.at + (4 + length (opening_of f w)) ≤ length b → o.at + 4 ≤ length b
  for_open h = omega arith

  module _ (b' : List ℕ) (e : Out) (is : state b' e ≡ opened (state b o)) where
    pub for_flag : o.at + (4 + length (opening_of f w)) ≤ length b → f ≡ true → e.at + 1 ≤ length b'
    for_flag h t = let p = opened_at_lem b b' o e is in let q = opened_long b b' o e is in let s = flag_length f w t in omega arith

    pub for_room : 1 ≤ e.room
    for_room = let p = opened_room b b' o e is in omega arith

    pub for_flagged : f ≡ true → w ≤ 4 → (b'' : List ℕ) (g : Out) → state b'' g ≡ added (state b' e) (bytes_of 1 (w - 1)) → state b'' g ≡ added (opened (state b o)) (opening_of f w)
    for_flagged t i b'' g q =
        let m : w - 1 < 256 = omega arith in
        q ∙ ap (λ (z : Wrote). added z (bytes_of 1 (w - 1))) is ∙ ap (added (opened (state b o))) (one_byte (w - 1) m) ∙ ap (λ (g : Bool). added (opened (state b o)) (opening_of g w)) (sym t)

    pub for_plain : f ≡ false → state b' e ≡ added (opened (state b o)) (opening_of f w)
    for_plain t = is ∙ sym (none (opened (state b o))) ∙ ap (λ (g : Bool). added (opened (state b o)) (opening_of g w)) (sym t)

pub ruleset for_laws = (for_open, for_flag, for_room, for_flagged, for_plain)

-- ---- an item
module _ (b : List ℕ) (o : Out) (f : Bool) (w n : ℕ) (room : Long (state b o) (piece_of f w n ∷ [])) where
  item_opens : o.room < w → o.at + (4 + length (opening_of f w) + w) ≤ length b
  unfolding Long laid_size state
  item_opens h =
      let r : o.at + (pick (opens o.room (piece_of f w n)) (4 + length (opening_of f w)) 0 + (length (bytes_of w n) + 0)) ≤ length b = room in
      let l : o.room < length (bytes_of w n) = (let e = length_bytes w n in omega arith) in
      let e = length_bytes w n in
      let p = pick_lt (4 + length (opening_of f w)) (4 + length (opening_of f w)) 0 o.room (length (bytes_of w n)) l refl in
      omega arith

  pub item_here : w ≤ o.room → o.at + w ≤ length b
  unfolding Long laid_size state
  item_here h =
      let r : o.at + (pick (opens o.room (piece_of f w n)) (4 + length (opening_of f w)) 0 + (length (bytes_of w n) + 0)) ≤ length b = room in
      let l : length (bytes_of w n) ≤ o.room = (let e = length_bytes w n in omega arith) in
      let e = length_bytes w n in
      let p = pick_nlt 0 (4 + length (opening_of f w)) 0 o.room (length (bytes_of w n)) l refl in
      omega arith

  pub item_open : o.room < w → o.at + (4 + length (opening_of f w)) ≤ length b
  item_open h = let a = item_opens h in omega arith

  module _ (b' : List ℕ) (e : Out) (is : state b' e ≡ added (opened (state b o)) (opening_of f w)) (h : o.room < w) where
    pub item_last : e.at + w ≤ length b'
    unfolding added opened state
    item_last =
        let a = item_opens h in
        let p : e.at ≡ o.at + 4 + length (opening_of f w) = ap (λ (w : Wrote). w.out.at) is in
        let q : length b' ≡ length b = ap (λ (w : Wrote). length w.buf) is ∙ added_length (opened (state b o)) (opening_of f w) ∙ opened_length (state b o) in
        omega arith

    pub item_last_room : w ≤ 4 → w ≤ e.room
    unfolding added opened state
    item_last_room i = let p : e.room ≡ 8224 - length (opening_of f w) = ap (λ (w : Wrote). w.out.room) is in let a = flags_few f w in omega arith

module _ (b : List ℕ) (o : Out) (f : Bool) (w n : ℕ) (b₃ : List ℕ) (r : Out) where
  pub step_here : w ≤ o.room → state b₃ r ≡ added (state b o) (bytes_of w n) → state b₃ r ≡ step (state b o) (piece_of f w n)
  unfolding step state
  step_here h e =
      let l : length (bytes_of w n) ≤ o.room = (let a = length_bytes w n in omega arith) in
      pick_nlt (state b₃ r) _ _ o.room (length (bytes_of w n)) l e

  pub step_open : o.room < w → (b' : List ℕ) (e : Out) → state b' e ≡ added (opened (state b o)) (opening_of f w) → state b₃ r ≡ added (state b' e) (bytes_of w n) → state b₃ r ≡ step (state b o) (piece_of f w n)
  unfolding step state
  step_open h b' e is k =
      let l : o.room < length (bytes_of w n) = (let a = length_bytes w n in omega arith) in
      pick_lt (state b₃ r) _ _ o.room (length (bytes_of w n)) l (k ∙ ap (λ (z : Wrote). added z (bytes_of w n)) is)

pub ruleset item_laws = (item_here, item_open, item_last, item_last_room, step_here, step_open)

-- ---- the number of an item
module _ (s : List ℕ) (w p x : ℕ) where
  pub num_one : w ≡ 1 → x ≡ byte_at s p → x ≡ num_at s w p
  unfolding num_at
  num_one e h = rw e (omega arith)

  pub num_two : w ≡ 2 → (y : ℕ) → y ≡ u16_at s p → x ≡ y → x ≡ num_at s w p
  num_two e y h k = rw e (k ∙ h)

  pub num_four : (w ≡ 1 → ⊥) → (w ≡ 2 → ⊥) → 1 ≤ w → w ≤ 4 → (w ≡ 3 → ⊥) → (y : ℕ) → y ≡ u32_at s p → x ≡ y → x ≡ num_at s w p
  num_four a b c d g y h k = let e : w ≡ 4 = four w a b c d g in rw e (k ∙ h)

pub ruleset num_laws = (num_one, num_two, num_four)

-- ---- a piece, and the pieces after it
-- the next byte is past the segment's header
abbrev pub Tidy : Reached → Type 0
Tidy o = o.seg + 4 ≤ o.at

module _ (w : Wrote) (p : Piece) where
  abbrev pub StepIs : Wrote → Type 0
  StepIs z = (z.out.room ≡ room_after w.out.room p) × (z.out.at ≡ w.out.at + (pick (opens w.out.room p) (4 + length p.opening) 0 + length p.body)) × (length z.buf ≡ length w.buf) × (Tidy w.out → Tidy z.out)

  pub step_is : StepIs (step w p)
  unfolding step added opened
  step_is = pick_by StepIs (opens w.out.room p)
      (λ e.
      let a = pick_true (8224 - (length p.opening + length p.body)) _ (w.out.room - length p.body) (opens w.out.room p) e refl in
      let b = pick_true (4 + length p.opening) _ 0 (opens w.out.room p) e refl in
      (omega arith, omega arith, added_length (added (opened w) p.opening) p.body ∙ added_length (opened w) p.opening ∙ opened_length w, λ t. omega arith))
      (λ e.
      let a = pick_false (w.out.room - length p.body) (8224 - (length p.opening + length p.body)) _ (opens w.out.room p) e refl in
      let b = pick_false 0 (4 + length p.opening) _ (opens w.out.room p) e refl in
      (omega arith, omega arith, added_length w p.body, λ t. omega arith))

  pub long_first : (ps : List Piece) → Long w (p ∷ ps) → Long w (p ∷ [])
  unfolding Long laid_size
  long_first ps h = omega arith

  pub long_rest : (ps : List Piece) → Long w (p ∷ ps) → Long (step w p) ps
  unfolding Long laid_size
  long_rest ps h =
      let s = step_is in
      let a = s.1 in
      let b = s.2 in
      let r : laid_size (step w p).out.room ps ≡ laid_size (room_after w.out.room p) ps = ap (λ (k : ℕ). laid_size k ps) s.0 in
      omega arith

-- ---- items read one by one
module _ (s : List ℕ) (f : Bool) where
  abbrev ItemIf : Got ℕ → Type 0
  ItemIf (got v d) = Item f v
  ItemIf (refused n o) = Unit {0}

  need_item : (w : ℕ) (c : Cursor) → Item f w → (x : Got ℕ) → need 8 w c ≡ x → ItemIf x
  need_item w c i (got v d) q = subst (Item f) (sym (need_is 8 w c v d q).width) i
  need_item w c i (refused n o) q = tt

char_item : (b : ℕ) → Item true (width_of b)
char_item b = record { some = omega arith; few = omega arith; even = λ e. omega arith; char = λ e. omega arith }

next_item : (s : List ℕ) (f : Bool) (w : ℕ) → Item f w → (x : Got Unit) → ItemIf s f (then x (λ _ d. enter 8 s f w d))
next_item s true w i (got u d) = need_item s true _ (on d 1) (char_item (byte_at s d.at)) _ refl
next_item s false w i (got u d) = need_item s false w d i _ refl
next_item s true w i (refused n o) = tt
next_item s false w i (refused n o) = tt

room_keeps : (s : List ℕ) (f : Bool) (w : ℕ) (c : Cursor) → Item f w → ItemIf s f (room 8 s f w c)
unfolding room
room_keeps s f w c i = pick_any (ItemIf s f) _ (next_item s f w i (next_segment 8 s c)) (need_item s f w c i _ refl)

pub passes_push : {A : Type 0} (x : A) (y : Got (List A)) → Passes (push x y) → Passes y
passes_push x (got l c) h = tt
passes_push x (refused n o) h = absurd h

pub list_push : {A : Type 0} (x : A) (y : Got (List A)) → Passes (push x y) → list_of (push x y) ≡ x ∷ list_of y
list_push x (got l c) h = refl
list_push x (refused n o) h = absurd h

-- an item is read: what holds of it
module _ (s : List ℕ) (f : Bool) (w : ℕ) (d : Cursor) (r : Result Room Refusal) (is : roomed r ≡ room 8 s f w d) (y : Room) (q : r ≡ Ok y) where
  room_is : room 8 s f w d ≡ got y.width y.place
  room_is = sym is ∙ ap roomed q

  pub turn_item : Item f w → Item f y.width
  turn_item i = subst (ItemIf s f) room_is (room_keeps s f w d i)

  item_at : Inside s d → ItemAt s d w y.width y.place
  item_at inside = room_item 8 s f w d y.width y.place inside room_is

  pub turn_some : Item f w → 1 ≤ y.width
  turn_some i = (turn_item i).some

  pub turn_few : Item f w → y.width ≤ 4
  turn_few i = (turn_item i).few

  pub turn_even : Item f w → y.width ≡ 3 → ⊥
  turn_even i = (turn_item i).even

  pub turn_within : Inside s d → y.place.at + y.width ≤ length s
  turn_within inside = let i = item_at inside in let h = i.here in let k = i.inside in omega arith

  pub turn_add : Inside s d → length s < 2 ^ 64 → FitsIn w64 (y.place.at + y.width)
  turn_add inside l = let i = turn_within inside in omega arith

  pub turn_inside : Inside s d → Inside s (on y.place y.width)
  turn_inside inside = let i = item_at inside in let h = i.here in let k = i.inside in (omega arith, omega arith)

-- of those that are left it is the first, and `rest` are left after it
items_some : (s : List ℕ) (f : Bool) (w left rest : ℕ) (d : Cursor) (x : Got ℕ) → left ≡ rest + 1 → room 8 s f w d ≡ x → items 8 s f w left d ≡ then x (λ v d. push (num_at s v d.at) (items 8 s f v rest (on d v)))
unfolding items
items_some s f w left rest d x more q =
    let e : left ≡ suc rest = omega arith in
    ap (λ (k : ℕ). items 8 s f w k d) e ∙ ap (λ (y : Got ℕ). then y (λ v d. push (num_at s v d.at) (items 8 s f v rest (on d v)))) q

module _ (s : List ℕ) (f : Bool) (w left : ℕ) (d : Cursor) (passes : Passes (items 8 s f w left d)) (r : Result Room Refusal) (is : roomed r ≡ room 8 s f w d) where
  pub turn_ok : 0 < left → IsOk r
  turn_ok some = by r is
    where
      by : (x : Result Room Refusal) → roomed x ≡ room 8 s f w d → IsOk x
      by (Ok y) q = refl
      by (Err e) q = absurd (subst Passes (items_some s f w left (left - 1) d (refused e.number e.offset) (omega arith) (sym q)) passes)

  module _ (y : Room) (q : r ≡ Ok y) where
    module _ (rest : ℕ) (more : left ≡ rest + 1) where
      abbrev others : Got (List ℕ)
      others = items 8 s f y.width rest (on y.place y.width)

      turn : items 8 s f w left d ≡ push (num_at s y.width y.place.at) others
      turn = items_some s f w left rest d (got y.width y.place) more (sym is ∙ ap roomed q)

      pub turn_passes : Passes (items 8 s f y.width rest (on y.place y.width))
      turn_passes = passes_push (num_at s y.width y.place.at) others (subst Passes turn passes)

      pub turn_list : list_of (items 8 s f w left d) ≡ num_at s y.width y.place.at ∷ list_of (items 8 s f y.width rest (on y.place y.width))
      turn_list = ap list_of turn ∙ list_push (num_at s y.width y.place.at) others (subst Passes turn passes)

      pub turn_ends : (x : Got Unit) → x ≡ ends (items 8 s f w left d) → x ≡ ends (items 8 s f y.width rest (on y.place y.width))
      turn_ends x h = h ∙ ap ends turn ∙ ends_push (num_at s y.width y.place.at) others

      module _ (v m : ℕ) (m-is : m ≡ num_at s y.width y.place.at) where
        pieces_are : item_pieces f v (list_of (items 8 s f w left d)) ≡ piece_of f v m ∷ item_pieces f v (list_of others)
        unfolding item_pieces
        pieces_are = ap (item_pieces f v) turn_list ∙ ap (λ (k : ℕ). piece_of f v k ∷ item_pieces f v (list_of others)) (sym m-is)

        module _ (b : List ℕ) (e : Out) (b' : List ℕ) (e' : Out) (step-to : state b' e' ≡ step (state b e) (piece_of f v m)) where
          pub turn_longer : Long (state b e) (item_pieces f v (list_of (items 8 s f w left d))) → Long (state b' e') (item_pieces f v (list_of (items 8 s f y.width rest (on y.place y.width))))
          turn_longer h = subst (λ (z : Wrote). Long z (item_pieces f v (list_of others))) (sym step-to) (long_rest (state b e) (piece_of f v m) _ (subst (Long (state b e)) pieces_are h))

          pub turn_wrote : (x : Wrote) → x ≡ wrote (state b e) (item_pieces f v (list_of (items 8 s f w left d))) → x ≡ wrote (state b' e') (item_pieces f v (list_of (items 8 s f y.width rest (on y.place y.width))))
          unfolding wrote
          turn_wrote x h = h ∙ ap (wrote (state b e)) pieces_are ∙ ap (λ (z : Wrote). wrote z (item_pieces f v (list_of others))) (sym step-to)

    pub turn_long : (v m : ℕ) (b : List ℕ) (e : Out) → 0 < left → m ≡ num_at s y.width y.place.at → Long (state b e) (item_pieces f v (list_of (items 8 s f w left d))) → Long (state b e) (piece_of f v m ∷ [])
    turn_long v m b e some m-is h = let more : left ≡ left - 1 + 1 = omega arith in long_first (state b e) (piece_of f v m) _ (subst (Long (state b e)) (pieces_are (left - 1) more v m m-is) h)

module _ (b : List ℕ) (e : Out) (p : Piece) (b' : List ℕ) (e' : Out) (step-to : state b' e' ≡ step (state b e) p) where
  pub turn_length : (k : ℕ) → length b ≡ k → length b' ≡ k
  unfolding state
  turn_length k h = ap (λ (z : Wrote). length z.buf) step-to ∙ (step_is (state b e) p).2 ∙ h

module _ (s : List ℕ) (f : Bool) (w left : ℕ) (d : Cursor) (last : left ≤ 0) where
  pub nothing_left : items 8 s f w left d ≡ got [] d
  unfolding items
  nothing_left = let e : left ≡ 0 = omega arith in ap (λ (k : ℕ). items 8 s f w k d) e

  pub turn_to : (x : Got Unit) → x ≡ ends (items 8 s f w left d) → got tt d ≡ x
  turn_to x h = sym (h ∙ ap ends nothing_left)

  pub turn_end : (v : ℕ) (b : List ℕ) (e : Out) (x : Wrote) → x ≡ wrote (state b e) (item_pieces f v (list_of (items 8 s f w left d))) → state b e ≡ x
  unfolding wrote item_pieces
  turn_end v b e x h = sym (h ∙ ap (λ (y : Got (List ℕ)). wrote (state b e) (item_pieces f v (list_of y))) nothing_left)

pub ruleset turn_laws = (turn_ok, turn_item, turn_some, turn_few, turn_even, turn_within, turn_add, turn_inside, turn_passes, turn_ends, turn_long, turn_longer, turn_wrote, turn_length, turn_to, turn_end)

-- ---- whether a character is over 255
module _ (s : List ℕ) (w left : ℕ) (d : Cursor) (passes : Passes (items 8 s true w left d)) (r : Result Room Refusal) (is : roomed r ≡ room 8 s true w d) (y : Room) (q : r ≡ Ok y)
    (x : ℕ) (inv : x ≡ wide_bit (list_of (items 8 s true w left d))) (m : ℕ) (m-is : m ≡ num_at s y.width y.place.at) where
  wide_is : (rest : ℕ) → left ≡ rest + 1 → x ≡ wide_bit (m ∷ list_of (items 8 s true y.width rest (on y.place y.width)))
  wide_is rest more = inv ∙ ap wide_bit (turn_list s true w left d passes r is y q rest more ∙ ap (λ (k : ℕ). k ∷ list_of (items 8 s true y.width rest (on y.place y.width))) (sym m-is))

  pub wide_found : 0 < left → 255 < m → 1 ≡ x
  unfolding wide_bit
  wide_found some h = pick_lt 1 1 _ 255 m h refl ∙ sym (wide_is (left - 1) (omega arith))

  pub wide_on : (rest : ℕ) → left ≡ rest + 1 → m ≤ 255 → x ≡ wide_bit (list_of (items 8 s true y.width rest (on y.place y.width)))
  unfolding wide_bit
  wide_on rest more h = wide_is rest more ∙ sym (pick_nlt _ 1 _ 255 m h refl)

pub wide_end : (s : List ℕ) (w left : ℕ) (d : Cursor) → left ≤ 0 → (x : ℕ) → x ≡ wide_bit (list_of (items 8 s true w left d)) → 0 ≡ x
unfolding wide_bit
wide_end s w left d last x h = sym (h ∙ ap (λ (y : Got (List ℕ)). wide_bit (list_of y)) (nothing_left s true w left d last))

pub ruleset wide_laws = (turn_ok, turn_item, turn_some, turn_few, turn_even, turn_within, turn_add, turn_inside, turn_passes, wide_found, wide_on, wide_end)
