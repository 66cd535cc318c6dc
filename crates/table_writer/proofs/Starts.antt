-- The laws of a string's head as it is written. Assumes nothing.
use Prim.Native.Nat.{ℕ, suc, ◌+◌, ◌-◌, ◌*◌, ◌≤◌, ◌<◌}
use mathlib.Core.Path.{◌≡◌, refl, sym, ap, ap₂, ◌∙◌}
use mathlib.Core.List.{List, [], ◌∷◌, ◌++◌}
use native.Mathlib.Omega.{arith}
use lib.ListN.{length, set, length-append}
use lib.Seq.{sets}
use Rattle.steps.specs.Choice.{pick}
use Rattle.steps.proofs.Choice.{pick_lt, pick_nlt}
use Rattle.byte_numbers.specs.Bytes.{bytes_of}
use Rattle.byte_numbers.proofs.Laws.{length_bytes}
use Rattle.segments.specs.Parts.{stored}
use Rattle.strings.specs.declared.Head.{Head}
use Rattle.strings.specs.Table.{phonetic_bit, rich_bit}
use Rattle.table_texts.specs.Written.{opens, laid_size}
use Rattle.table_writer.specs.declared.writer.Out.{Out}
use Rattle.table_writer.specs.Writing.{Wrote, state, added, opened, step, Long, new_flags, counts_size, counts_body, lead_body, head_body, start_body, plain_piece, start_size}
use Rattle.table_writer.proofs.Laws.{none, added_length, opened_at_lem, opened_room, opened_long}

-- ---- bytes after bytes
pub sets_append : (b : List ℕ) (i : ℕ) (xs ys : List ℕ) → sets b i (xs ++ ys) ≡ sets (sets b i xs) (i + length xs) ys
sets_append b i [] ys = let e : i ≡ i + 0 = omega arith in ap (λ (k : ℕ). sets b k ys) e
sets_append b i (x ∷ xs) ys = let e : suc i + length xs ≡ i + suc (length xs) = omega arith in sets_append (set b i x) (suc i) xs ys ∙ ap (λ (k : ℕ). sets (sets (set b i x) (suc i) xs) k ys) e

pub added_append : (w : Wrote) (xs ys : List ℕ) → added (added w xs) ys ≡ added w (xs ++ ys)
unfolding added stored
added_append w xs ys =
    let l = length-append xs ys in
    let b = sym (sets_append w.buf w.out.at xs ys) in
    let e : w.out.at + length xs + length ys ≡ w.out.at + length (xs ++ ys) = omega arith in
    let f : w.out.room - length xs - length ys ≡ w.out.room - length (xs ++ ys) = omega arith in
    λ i. record { buf = b i; out = record { seg = w.out.seg; at = e i; room = f i } }

-- where a call came to that added bytes
module _ (b b' : List ℕ) (o e : Out) (bs : List ℕ) (is : state b' e ≡ added (state b o) bs) where
  bytes_at_lem : e.at ≡ o.at + length bs
  unfolding added state
  bytes_at_lem = ap (λ (w : Wrote). w.out.at) is

  bytes_room : e.room ≡ o.room - length bs
  unfolding added state
  bytes_room = ap (λ (w : Wrote). w.out.room) is

  bytes_long : length b' ≡ length b
  unfolding state
  bytes_long = ap (λ (w : Wrote). length w.buf) is ∙ added_length (state b o) bs

  then_added : (b'' : List ℕ) (g : Out) (cs : List ℕ) → state b'' g ≡ added (state b' e) cs → state b'' g ≡ added (state b o) (bs ++ cs)
  then_added b'' g cs k = k ∙ ap (λ (z : Wrote). added z cs) is ∙ added_append (state b o) bs cs

-- ---- the counts
module _ (b b' : List ℕ) (o e : Out) (flags : ℕ) (h : Head) (rich : ℕ) (r-is : rich ≡ rich_bit flags) where
  pub counts_room : counts_size flags ≤ o.room → 2 * rich ≤ o.room
  counts_room k = omega arith

  pub counts_at : o.at + counts_size flags ≤ length b → o.at + 2 * rich ≤ length b
  counts_at k = omega arith

  module _ (is : state b' e ≡ added (state b o) (bytes_of (2 * rich) h.runs)) (voiced : ℕ) (v-is : voiced ≡ phonetic_bit flags) where
    pub counts_room_2 : counts_size flags ≤ o.room → 4 * voiced ≤ e.room
    counts_room_2 k = let a = bytes_room b b' o e (bytes_of (2 * rich) h.runs) is in let c = length_bytes (2 * rich) h.runs in omega arith

    pub counts_at_2 : o.at + counts_size flags ≤ length b → e.at + 4 * voiced ≤ length b'
    counts_at_2 k = let a = bytes_at_lem b b' o e (bytes_of (2 * rich) h.runs) is in let l = bytes_long b b' o e (bytes_of (2 * rich) h.runs) is in let c = length_bytes (2 * rich) h.runs in omega arith

    pub counts_are : (b'' : List ℕ) (g : Out) → state b'' g ≡ added (state b' e) (bytes_of (4 * voiced) h.phonetic) → state b'' g ≡ added (state b o) (counts_body flags h)
    unfolding counts_body
    counts_are b'' g k =
        then_added b b' o e (bytes_of (2 * rich) h.runs) is b'' g (bytes_of (4 * voiced) h.phonetic) k
        ∙ ap₂ (λ (r x : ℕ). added (state b o) (bytes_of (2 * r) h.runs ++ bytes_of (4 * x) h.phonetic)) r-is v-is

pub ruleset counts_laws = (counts_room, counts_at, counts_room_2, counts_at_2, counts_are)

pub counts_length : (flags : ℕ) (h : Head) → length (counts_body flags h) ≡ counts_size flags
unfolding counts_body
counts_length flags h =
    let a = length-append (bytes_of (2 * rich_bit flags) h.runs) (bytes_of (4 * phonetic_bit flags) h.phonetic) in
    let b = length_bytes (2 * rich_bit flags) h.runs in
    let c = length_bytes (4 * phonetic_bit flags) h.phonetic in
    omega arith

-- ---- length and flags
module _ (b b' : List ℕ) (o e : Out) (flags wide : ℕ) (h : Head) (is : state b' e ≡ added (state b o) (bytes_of 2 h.chars)) where
  pub lead_room : 3 ≤ o.room → 1 ≤ e.room
  lead_room k = let a = bytes_room b b' o e (bytes_of 2 h.chars) is in let c = length_bytes 2 h.chars in omega arith

  pub lead_at : o.at + 3 ≤ length b → e.at + 1 ≤ length b'
  lead_at k = let a = bytes_at_lem b b' o e (bytes_of 2 h.chars) is in let l = bytes_long b b' o e (bytes_of 2 h.chars) is in let c = length_bytes 2 h.chars in omega arith

  pub lead_is : (b'' : List ℕ) (g : Out) (f : ℕ) → f ≡ new_flags flags wide → state b'' g ≡ added (state b' e) (bytes_of 1 f) → state b'' g ≡ added (state b o) (lead_body flags wide h)
  unfolding lead_body
  lead_is b'' g f f-is k = then_added b b' o e (bytes_of 2 h.chars) is b'' g (bytes_of 1 f) k ∙ ap (λ (x : ℕ). added (state b o) (bytes_of 2 h.chars ++ bytes_of 1 x)) f-is

pub ruleset lead_laws = (lead_room, lead_at, lead_is)

pub lead_length : (flags wide : ℕ) (h : Head) → length (lead_body flags wide h) ≡ 3
unfolding lead_body
lead_length flags wide h =
    let a = length-append (bytes_of 2 h.chars) (bytes_of 1 (new_flags flags wide)) in
    let c = length_bytes 2 h.chars in
    let d = length_bytes 1 (new_flags flags wide) in
    omega arith

-- ---- the head
module _ (b b' : List ℕ) (o e : Out) (flags wide : ℕ) (h : Head) (is : state b' e ≡ added (state b o) (lead_body flags wide h)) where
  pub head_room : 3 + counts_size flags ≤ o.room → counts_size flags ≤ e.room
  head_room k = let a = bytes_room b b' o e (lead_body flags wide h) is in let c = lead_length flags wide h in omega arith

  pub head_at : o.at + (3 + counts_size flags) ≤ length b → e.at + counts_size flags ≤ length b'
  head_at k = let a = bytes_at_lem b b' o e (lead_body flags wide h) is in let l = bytes_long b b' o e (lead_body flags wide h) is in let c = lead_length flags wide h in omega arith

  pub head_is : (b'' : List ℕ) (g : Out) → state b'' g ≡ added (state b' e) (counts_body flags h) → state b'' g ≡ added (state b o) (head_body flags wide h)
  unfolding head_body
  head_is b'' g k = then_added b b' o e (lead_body flags wide h) is b'' g (counts_body flags h) k

pub ruleset head_laws = (head_room, head_at, head_is)

pub head_length : (flags wide : ℕ) (h : Head) → length (head_body flags wide h) ≡ 3 + counts_size flags
unfolding head_body
head_length flags wide h =
    let a = length-append (lead_body flags wide h) (counts_body flags h) in
    let c = lead_length flags wide h in
    let e = counts_length flags h in
    omega arith

-- ---- with the first character
module _ (b : List ℕ) (o : Out) (flags v : ℕ) where
  pub first_room : start_size flags v ≤ o.room → 3 + counts_size flags ≤ o.room
  first_room k = omega arith

  pub first_at_lem : o.at + start_size flags v ≤ length b → o.at + (3 + counts_size flags) ≤ length b
  first_at_lem k = omega arith

  module _ (b' : List ℕ) (e : Out) (wide : ℕ) (h : Head) (is : state b' e ≡ added (state b o) (head_body flags wide h)) where
    pub first_room_2 : start_size flags v ≤ o.room → v ≤ e.room
    first_room_2 k = let a = bytes_room b b' o e (head_body flags wide h) is in let c = head_length flags wide h in omega arith

    pub first_at_2 : o.at + start_size flags v ≤ length b → e.at + v ≤ length b'
    first_at_2 k = let a = bytes_at_lem b b' o e (head_body flags wide h) is in let l = bytes_long b b' o e (head_body flags wide h) is in let c = head_length flags wide h in omega arith

    pub first_is : (b'' : List ℕ) (g : Out) (n : ℕ) → state b'' g ≡ added (state b' e) (bytes_of v n) → state b'' g ≡ added (state b o) (start_body flags wide h v n)
    unfolding start_body
    first_is b'' g n k = then_added b b' o e (head_body flags wide h) is b'' g (bytes_of v n) k

pub ruleset first_laws = (first_room, first_at_lem, first_room_2, first_at_2, first_is)

pub start_length : (flags wide : ℕ) (h : Head) (v n : ℕ) → length (start_body flags wide h v n) ≡ start_size flags v
unfolding start_body
start_length flags wide h v n =
    let a = length-append (head_body flags wide h) (bytes_of v n) in
    let b = head_length flags wide h in
    let c = length_bytes v n in
    omega arith

-- ---- its piece
module _ (b : List ℕ) (o : Out) (flags wide : ℕ) (h : Head) (v n size : ℕ) (is-size : size ≡ start_size flags v) where
  size_is : size ≡ length (start_body flags wide h v n)
  size_is = is-size ∙ sym (start_length flags wide h v n)

  module _ (long : Long (state b o) (plain_piece (start_body flags wide h v n) ∷ [])) where
    start_opens : o.room < size → o.at + (4 + start_size flags v) ≤ length b
    unfolding Long laid_size state
    start_opens k =
        let r : o.at + (pick (opens o.room (plain_piece (start_body flags wide h v n))) 4 0 + (length (start_body flags wide h v n) + 0)) ≤ length b = long in
        let e = size_is in
        let l : o.room < length (start_body flags wide h v n) = omega arith in
        let p = pick_lt {A = ℕ} 4 4 0 o.room (length (start_body flags wide h v n)) l refl in
        let q = start_length flags wide h v n in
        omega arith

    pub start_open : o.room < size → o.at + 4 ≤ length b
    start_open k = let a = start_opens k in omega arith

    pub start_fits : size ≤ o.room → o.at + start_size flags v ≤ length b
    unfolding Long laid_size state
    start_fits k =
        let r : o.at + (pick (opens o.room (plain_piece (start_body flags wide h v n))) 4 0 + (length (start_body flags wide h v n) + 0)) ≤ length b = long in
        let e = size_is in
        let l : length (start_body flags wide h v n) ≤ o.room = omega arith in
        let p = pick_nlt {A = ℕ} 0 4 0 o.room (length (start_body flags wide h v n)) l refl in
        let q = start_length flags wide h v n in
        omega arith

    pub start_next : (b' : List ℕ) (e : Out) → state b' e ≡ opened (state b o) → o.room < size → e.at + start_size flags v ≤ length b'
    start_next b' e is k = let a = start_opens k in let p = opened_at_lem b b' o e is in let q = opened_long b b' o e is in omega arith

  pub start_room : size ≤ o.room → start_size flags v ≤ o.room
  start_room k = omega arith

  module _ (b₃ : List ℕ) (r : Out) where
    pub start_here : size ≤ o.room → state b₃ r ≡ added (state b o) (start_body flags wide h v n) → state b₃ r ≡ step (state b o) (plain_piece (start_body flags wide h v n))
    unfolding step state
    start_here k e =
        let q = size_is in
        let l : length (start_body flags wide h v n) ≤ o.room = omega arith in
        pick_nlt (state b₃ r) _ _ o.room (length (start_body flags wide h v n)) l e

    pub start_after : o.room < size → (b' : List ℕ) (e : Out) → state b' e ≡ opened (state b o) → state b₃ r ≡ added (state b' e) (start_body flags wide h v n) → state b₃ r ≡ step (state b o) (plain_piece (start_body flags wide h v n))
    unfolding step state
    start_after k b' e is t =
        let q = size_is in
        let l : o.room < length (start_body flags wide h v n) = omega arith in
        pick_lt (state b₃ r) _ _ o.room (length (start_body flags wide h v n)) l (t ∙ ap (λ (z : Wrote). added z (start_body flags wide h v n)) (is ∙ sym (none (opened (state b o)))))

pub start_small : (b : List ℕ) (o : Out) (flags v : ℕ) → v ≤ 2 → (b' : List ℕ) (e : Out) → state b' e ≡ opened (state b o) → start_size flags v ≤ e.room
start_small b o flags v k b' e is = let p = opened_room b b' o e is in omega arith

pub ruleset start_laws = (start_open, start_fits, start_next, start_room, start_here, start_after, start_small)
