-- The laws of whole strings and of the table as they are counted. Assumes nothing.
use Prim.Native.Nat.{ℕ, ◌+◌, ◌-◌, ◌≤◌, ◌<◌}
use mathlib.Core.Path.{◌≡◌, refl, sym, ap, ap₂, ◌∙◌, subst}
use mathlib.Core.List.{List, [], ◌∷◌}
use mathlib.Core.Bool.{Bool, true, false}
use Rattle.std.specs.Prelude.{Result, Ok}
use native.Mathlib.Omega.{arith}
use lib.ListN.{length}
use lib.Dec.{ltb}
use borrow.Author.Tests.{ltb-false, ltb-true}
use Rattle.steps.specs.Choice.{pick}
use Rattle.steps.proofs.Choice.{pick_by, pick_true, pick_false, pick_nlt}
use Rattle.byte_numbers.specs.Bytes.{byte_at}
use Rattle.refusal.specs.declared.Refusal.{Refusal}
use Rattle.segments.specs.declared.Cursor.{Cursor}
use Rattle.segments.specs.Segments.{Got, got, refused, then, list_of, items}
use Rattle.segments.specs.Parts.{ends, moved, Passes}
use Rattle.segments.proofs.Laws.{Count, count_items}
use Rattle.strings.specs.declared.Head.{Head}
use Rattle.strings.specs.declared.HeadRead.{HeadRead}
use Rattle.strings.specs.Table.{head, next_place, strings}
use Rattle.strings.specs.Parts.{head_read}
use Rattle.flags.specs.Flags.{flag_at, flags_from}
use Rattle.table_texts.specs.Texts.{Text, text_of, text_at, the_text, kept}
use Rattle.table_texts.specs.Written.{Piece, opens, room_after, laid_size, item_pieces, text_pieces, pieces_of, table_size}
use Rattle.table_writer.specs.Writing.{char_pieces, rest_pieces, texts_from, next_text, marked_pieces, left_pieces}
use Rattle.table_writer.proofs.Whole.{text_pieces_lem, text_ok, text_byte, text_some, text_small, text_inside, text_chars}
use Rattle.table_writer.proofs.Many.{left_are, left_first, left_last, turn_first, turn_inside, turn_word, turn_passes, turn_ends, turns_passes, turns_to}
use Rattle.table_size.specs.declared.span.Span.{Span}
use Rattle.table_size.specs.Sizing.{most, plus, sized_by, sized_items, sized, Counted}
use Rattle.table_size.proofs.Laws.{piece_over, sized_append, sized_items_lem}

-- ---- a string
sized_rest : (rs ps : List ℕ) (h : Head) → length rs ≡ h.runs → length ps ≡ h.phonetic → (g : Span) → sized g (rest_pieces (text_of 0 [] rs ps)) ≡ sized_items (sized_items g 0 4 h.runs) 0 1 h.phonetic
unfolding rest_pieces
sized_rest rs ps h a b g =
    sized_append (item_pieces false 4 rs) (item_pieces false 1 ps) g ∙ sized_items_lem false 1 ps (sized g (item_pieces false 4 rs))
    ∙ ap (λ (z : Span). sized_items z 0 1 (length ps)) (sized_items_lem false 4 rs g)
    ∙ ap₂ (λ (x y : ℕ). sized_items (sized_items g 0 4 x) 0 1 y) a b

module _ (s : List ℕ) (d : Cursor) (r : Result HeadRead Refusal) (is : head_read r ≡ head s d) (y : HeadRead) (q : r ≡ Ok y) (passes : Passes (text_at s d)) (g e : Span)
    (e-is : e ≡ sized g (char_pieces (byte_at s (d.at + 2)) y.head (list_of (items 8 s true y.head.width y.head.chars y.chars)))) where
  abbrev h : Head
  h = y.head

  abbrev c : Cursor
  c = y.chars

  pub text_sized : (x : Span) → x ≡ sized_items (sized_items e 0 4 y.head.runs) 0 1 y.head.phonetic → x ≡ sized g (text_pieces (the_text (text_at s d)) [])
  unfolding text_at
  text_sized x k =
      k ∙ ap (λ (z : Span). sized_items (sized_items z 0 4 h.runs) 0 1 h.phonetic) e-is
      ∙ sym (subst (λ (x : Got Head). Passes (of x) → sized g (text_pieces (the_text (of x)) []) ≡ counted) (sym (sym is ∙ ap head_read q)) (at_chars (items 8 s true h.width h.chars c) (count_items 8 s true h.width h.chars c)) passes)
    where
      of : Got Head → Got Text
      of y = then y (λ h c. then (items 8 s true h.width h.chars c) (λ us e. then (items 8 s false 4 h.runs e) (λ rs g. then (items 8 s false 1 h.phonetic g) (λ ps i. got (text_of (byte_at s (d.at + 2)) us rs ps) i))))

      counted_of : Got (List ℕ) → Span
      counted_of x = sized_items (sized_items (sized g (char_pieces (byte_at s (d.at + 2)) h (list_of x))) 0 4 h.runs) 0 1 h.phonetic

      counted : Span
      counted = counted_of (items 8 s true h.width h.chars c)

      at_phonetic : (us rs : List ℕ) → length us ≡ h.chars → length rs ≡ h.runs → (i : Cursor) (x : Got (List ℕ)) → Count h.phonetic x → Passes (then x (λ ps i. got (text_of (byte_at s (d.at + 2)) us rs ps) i))
          → sized g (text_pieces (the_text (then x (λ ps i. got (text_of (byte_at s (d.at + 2)) us rs ps) i))) []) ≡ counted_of (got us i)
      at_phonetic us rs a b i (got ps j) m p =
          ap (sized g) (text_pieces_lem (byte_at s (d.at + 2)) us rs ps h a b m)
          ∙ sized_append (char_pieces (byte_at s (d.at + 2)) h us) (rest_pieces (text_of 0 [] rs ps)) g
          ∙ sized_rest rs ps h b m (sized g (char_pieces (byte_at s (d.at + 2)) h us))
      at_phonetic us rs a b i (refused n o) m p = absurd p

      at_runs : (us : List ℕ) → length us ≡ h.chars → (i : Cursor) (x : Got (List ℕ)) → Count h.runs x → Passes (then x (λ rs g. then (items 8 s false 1 h.phonetic g) (λ ps i. got (text_of (byte_at s (d.at + 2)) us rs ps) i)))
          → sized g (text_pieces (the_text (then x (λ rs g. then (items 8 s false 1 h.phonetic g) (λ ps i. got (text_of (byte_at s (d.at + 2)) us rs ps) i)))) []) ≡ counted_of (got us i)
      at_runs us a i (got rs j) b p = at_phonetic us rs a b i (items 8 s false 1 h.phonetic j) (count_items 8 s false 1 h.phonetic j) p
      at_runs us a i (refused n o) b p = absurd p

      at_chars : (x : Got (List ℕ)) → Count h.chars x → Passes (then x (λ us e. then (items 8 s false 4 h.runs e) (λ rs g. then (items 8 s false 1 h.phonetic g) (λ ps i. got (text_of (byte_at s (d.at + 2)) us rs ps) i))))
          → sized g (text_pieces (the_text (then x (λ us e. then (items 8 s false 4 h.runs e) (λ rs g. then (items 8 s false 1 h.phonetic g) (λ ps i. got (text_of (byte_at s (d.at + 2)) us rs ps) i))))) []) ≡ counted_of x
      at_chars (got us i) a p = at_runs us a i (items 8 s false 4 h.runs i) (count_items 8 s false 4 h.runs i) p
      at_chars (refused n o) a p = absurd p

pub ruleset text_laws = (text_ok, text_byte, text_some, text_small, text_inside, text_chars, text_sized)

-- ---- the next string
pub next_sized : (s : List ℕ) (c : Cursor) (m : Result Cursor Refusal) → moved m ≡ next_place s c → (d : Cursor) → m ≡ Ok d → (g r : Span) → r ≡ sized g (text_pieces (the_text (text_at s d)) []) → r ≡ sized g (text_pieces (the_text (next_text s c)) [])
unfolding next_text
next_sized s c m is d q g r k = k ∙ ap (λ (x : Got Unit). sized g (text_pieces (the_text (then x (λ _ d. text_at s d))) [])) (sym (sym is ∙ ap moved q))

-- ---- a turn of the loop
pub turn_sized : (s l : List ℕ) (n i : ℕ) (d : Cursor) → Passes (strings s (n - i) d) → i < n → (g : Cursor) → got tt g ≡ ends (next_text s d) → (f : ℕ) → f ≡ flag_at l i → (x e e' : Span)
    → x ≡ sized e (left_pieces s l n i d) → e' ≡ sized e (marked_pieces f (the_text (next_text s d))) → x ≡ sized e' (left_pieces s l n (i + 1) g)
turn_sized s l n i d passes less g to f flag x e e' k q =
    k ∙ ap (sized e) (left_are s n i d passes less g to l f flag) ∙ sized_append (marked_pieces f (the_text (next_text s d))) (left_pieces s l n (i + 1) g) e
    ∙ ap (λ (z : Span). sized z (left_pieces s l n (i + 1) g)) (sym q)

pub turns_sized : (s l : List ℕ) (n : ℕ) (c : Cursor) (i : ℕ) (d : Cursor) → n ≤ i → (g e : Span) → sized g (left_pieces s l n 0 c) ≡ sized e (left_pieces s l n i d) → e ≡ sized g (pieces_of (kept (flags_from l 0 n) (texts_from s n c)))
unfolding sized
turns_sized s l n c i d last g e k = sym (ap (sized g) (sym (left_first s l n c)) ∙ k ∙ ap (sized e) (left_last s l n i d last))

pub ruleset turns_laws = (turn_first, turn_inside, turn_word, turn_passes, turn_ends, turns_passes, turns_to, turn_sized, turns_sized)

-- ---- the count is the size
module _ (g : Span) (p : Piece) where
  abbrev PlusIs : Span → Type 0
  PlusIs z = (z.room ≡ room_after g.room p) × (z.size ≡ g.size + (pick (opens g.room p) (4 + length p.opening) 0 + length p.body))

  plus_is : PlusIs (plus g (length p.opening) (length p.body))
  plus_is = pick_by PlusIs (opens g.room p)
      (λ e.
      let a = pick_true (8224 - (length p.opening + length p.body)) _ (g.room - length p.body) (opens g.room p) e refl in
      let b = pick_true (4 + length p.opening) _ 0 (opens g.room p) e refl in
      (omega arith, omega arith))
      (λ e.
      let a = pick_false (g.room - length p.body) (8224 - (length p.opening + length p.body)) _ (opens g.room p) e refl in
      let b = pick_false 0 (4 + length p.opening) _ (opens g.room p) e refl in
      (omega arith, omega arith))

  under : g.size ≤ most → sized_by g (length p.opening) (length p.body) ≡ plus g (length p.opening) (length p.body)
  unfolding sized_by
  under l = sym (pick_nlt (plus g (length p.opening) (length p.body)) g _ most g.size l refl)

sized_stays : (ps : List Piece) (g : Span) → most < g.size → most < (sized g ps).size
unfolding sized
sized_stays [] g l = l
sized_stays (p ∷ ps) g l = subst (λ (z : Span). most < (sized z ps).size) (piece_over g (length p.opening) (length p.body) l) (sized_stays ps g l)

sized_right : (ps : List Piece) (g : Span) → g.size + laid_size g.room ps ≤ most → (sized g ps).size ≡ g.size + laid_size g.room ps
unfolding sized laid_size
sized_right [] g l = omega arith
sized_right (p ∷ ps) g l =
    let z = plus g (length p.opening) (length p.body) in
    let i = plus_is g p in
    let a = i.1 in
    let r : laid_size z.room ps ≡ laid_size (room_after g.room p) ps = ap (λ (k : ℕ). laid_size k ps) i.0 in
    let m : z.size + laid_size z.room ps ≤ most = omega arith in
    let h = sized_right ps z m in
    let e = ap (λ (y : Span). (sized y ps).size) (under g p (omega arith)) in
    omega arith

sized_over : (ps : List Piece) (g : Span) → most < g.size + laid_size g.room ps → most < (sized g ps).size
unfolding sized laid_size
sized_over [] g l = omega arith
sized_over (p ∷ ps) g l = by (ltb most g.size) refl (sized_over ps (plus g (length p.opening) (length p.body)))
  where
    by : (b : Bool) → ltb most g.size ≡ b
        → (most < (plus g (length p.opening) (length p.body)).size + laid_size (plus g (length p.opening) (length p.body)).room ps → most < (sized (plus g (length p.opening) (length p.body)) ps).size)
        → most < (sized (sized_by g (length p.opening) (length p.body)) ps).size
    by true e ih = subst (λ (z : Span). most < (sized z ps).size) (piece_over g (length p.opening) (length p.body) (ltb-true most g.size e)) (sized_stays ps g (ltb-true most g.size e))
    by false e ih =
        let i = plus_is g p in
        let a = i.1 in
        let r = ap (λ (k : ℕ). laid_size k ps) i.0 in
        subst (λ (z : Span). most < (sized z ps).size) (sym (under g p (ltb-false most g.size e))) (ih (omega arith))

pub counted_by : (ts : List Text) (x : Span) → x ≡ sized (record { room = 8216; size = 12 }) (pieces_of ts) → Counted ts x.size
unfolding table_size
counted_by ts x k = record {
  right = λ l. ap (λ (z : Span). z.size) k ∙ sized_right (pieces_of ts) (record { room = 8216; size = 12 }) l;
  over = λ l. subst (λ (z : Span). most < z.size) (sym k) (sized_over (pieces_of ts) (record { room = 8216; size = 12 }) l);
}
