-- The laws of a whole string as it is written. Assumes nothing.
use Prim.Native.Nat.{ℕ, ◌+◌, ◌*◌, ◌≤◌, ◌<◌}
use mathlib.Core.Path.{◌≡◌, refl, sym, ap, ap₂, ◌∙◌, subst}
use mathlib.Core.List.{List, [], ◌∷◌, ◌++◌, append_assoc, append-nil}
use mathlib.Core.Bool.{true, false}
use Rattle.std.specs.Prelude.{Result, Ok, Err, IsOk}
use native.Mathlib.Omega.{arith}
use lib.ListN.{length}
use Rattle.byte_numbers.specs.Bytes.{byte_at, bytes_of}
use Rattle.refusal.specs.declared.Refusal.{Refusal}
use Rattle.segments.specs.declared.Cursor.{Cursor}
use Rattle.segments.specs.Segments.{Got, got, refused, then, list_of, on, need, items}
use Rattle.segments.specs.Parts.{Inside, ends, Passes}
use Rattle.segments.proofs.Local.{refused_not, need_is}
use Rattle.segments.proofs.Laws.{Count, count_items}
use Rattle.strings.specs.declared.Head.{Head}
use Rattle.strings.specs.declared.HeadRead.{HeadRead}
use Rattle.strings.specs.Table.{phonetic_bit, rich_bit, start_size, head_at, head_size, head}
use Rattle.strings.specs.Parts.{head_read}
use Rattle.strings.proofs.Laws.{head_inside, head_some, head_small}
use Rattle.table_texts.specs.Texts.{Text, text_of, text_at, the_text}
use Rattle.table_texts.specs.Written.{Piece, item_pieces, wide_bit, head_bytes, text_pieces}
use Rattle.table_texts.proofs.Table.{wide_bit_lem}
use Rattle.table_writer.specs.declared.writer.Out.{Out}
use Rattle.table_writer.specs.Writing.{Wrote, state, wrote, Long, new_flags, counts_body, lead_body, head_body, start_body, plain_piece, char_pieces, rest_at, rest_pieces}
use Rattle.table_writer.proofs.Laws.{one_byte}
use Rattle.table_writer.proofs.Parts.{wrote_append, long_left, long_right, items_inside, then_is, passes_then}

-- ---- the pieces of a string are those of its parts
module _ (f : ℕ) (us rs ps : List ℕ) (h : Head) (chars : length us ≡ h.chars) (runs : length rs ≡ h.runs) (phonetic : length ps ≡ h.phonetic) where
  abbrev text : Text
  text = text_of f us rs ps

  head_bytes_lem : head_bytes text ≡ head_body f (wide_bit us) h
  unfolding head_bytes head_body lead_body counts_body
  head_bytes_lem =
      let w = wide_bit_lem us in
      let m : new_flags f (wide_bit us) < 256 = omega arith in
      (λ i. bytes_of 2 (chars i) ++ (new_flags f (wide_bit us) ∷ (bytes_of (2 * rich_bit f) (runs i) ++ bytes_of (4 * phonetic_bit f) (phonetic i))))
      ∙ ap (λ (x : List ℕ). bytes_of 2 h.chars ++ (x ++ (bytes_of (2 * rich_bit f) h.runs ++ bytes_of (4 * phonetic_bit f) h.phonetic))) (sym (one_byte (new_flags f (wide_bit us)) m))
      ∙ sym (append_assoc (bytes_of 2 h.chars) (bytes_of 1 (new_flags f (wide_bit us))) (bytes_of (2 * rich_bit f) h.runs ++ bytes_of (4 * phonetic_bit f) h.phonetic))

pub text_pieces_lem : (f : ℕ) (us rs ps : List ℕ) (h : Head) → length us ≡ h.chars → length rs ≡ h.runs → length ps ≡ h.phonetic → text_pieces (text_of f us rs ps) [] ≡ char_pieces f h us ++ rest_pieces (text_of 0 [] rs ps)
unfolding text_pieces char_pieces rest_pieces item_pieces start_body wide_bit bytes_of
text_pieces_lem f [] rs ps h c r p =
    ap₂ (λ (x : List ℕ) (y : List Piece). plain_piece (x ++ []) ∷ (item_pieces false 4 rs ++ y)) (head_bytes_lem f [] rs ps h c r p) (append-nil (item_pieces false 1 ps))
text_pieces_lem f (u ∷ us) rs ps h c r p =
    ap₂ (λ (x : List ℕ) (y : List Piece). plain_piece (x ++ bytes_of (1 + wide_bit (u ∷ us)) u) ∷ (item_pieces true (1 + wide_bit (u ∷ us)) us ++ (item_pieces false 4 rs ++ y))) (head_bytes_lem f (u ∷ us) rs ps h c r p) (append-nil (item_pieces false 1 ps))

-- ---- a string's parts, one after another
module _ (s : List ℕ) (d : Cursor) (r : Result HeadRead Refusal) (is : head_read r ≡ head s d) where
  pub text_ok : Passes (text_at s d) → IsOk r
  unfolding text_at
  text_ok = by r is
    where
      by : (x : Result HeadRead Refusal) → head_read x ≡ head s d
          → Passes (then (head s d) (λ h c. then (items 8 s true h.width h.chars c) (λ us e. then (items 8 s false 4 h.runs e) (λ rs g. then (items 8 s false 1 h.phonetic g) (λ ps i. got (text_of (byte_at s (d.at + 2)) us rs ps) i))))) → IsOk x
      by (Ok y) q = λ p. refl
      by (Err e) q = λ p. absurd (subst (λ (x : Got Head). Passes (then x (λ h c. then (items 8 s true h.width h.chars c) (λ us e. then (items 8 s false 4 h.runs e) (λ rs g. then (items 8 s false 1 h.phonetic g) (λ ps i. got (text_of (byte_at s (d.at + 2)) us rs ps) i)))))) (sym q) p)

  module _ (y : HeadRead) (q : r ≡ Ok y) where
    abbrev h : Head
    h = y.head

    abbrev c : Cursor
    c = y.chars

    abbrev chars_x : Got (List ℕ)
    chars_x = items 8 s true h.width h.chars c

    head_is : head s d ≡ got h c
    head_is = sym is ∙ ap head_read q

    text_is : text_at s d ≡ then chars_x (λ us e. then (items 8 s false 4 h.runs e) (λ rs g. then (items 8 s false 1 h.phonetic g) (λ ps i. got (text_of (byte_at s (d.at + 2)) us rs ps) i)))
    unfolding text_at
    text_is =
        ap (λ (x : Got Head). then x (λ h c. then (items 8 s true h.width h.chars c) (λ us e. then (items 8 s false 4 h.runs e) (λ rs g. then (items 8 s false 1 h.phonetic g) (λ ps i. got (text_of (byte_at s (d.at + 2)) us rs ps) i))))) head_is

    pub text_byte : Inside s d → d.at + 2 < length s
    unfolding head
    text_byte inside = by (need 8 3 d) refl head_is
      where
        by : (x : Got ℕ) → need 8 3 d ≡ x → then x (λ _ c. then (need 8 (start_size s c.at) c) (λ _ e. got (head_at s e.at) (on e (head_size (byte_at s (e.at + 2)))))) ≡ got h c → d.at + 2 < length s
        by (got v e) k t = let n = (need_is 8 3 d v e k).here in omega arith
        by (refused n o) k t = absurd (refused_not t)

    pub text_some : 1 ≤ y.head.width
    text_some = head_some s d y r is q

    pub text_small : y.head.width ≤ 2
    text_small = head_small s d y r is q

    pub text_inside : Inside s d → Inside s c
    text_inside inside = head_inside s d y r is q inside

    module _ (passes : Passes (text_at s d)) where
      pub text_chars : Passes (items 8 s true h.width h.chars c)
      text_chars = passes_then chars_x (λ us e. then (items 8 s false 4 h.runs e) (λ rs g. then (items 8 s false 1 h.phonetic g) (λ ps i. got (text_of (byte_at s (d.at + 2)) us rs ps) i))) (subst Passes text_is passes)

      module _ (g : Cursor) (to : got tt g ≡ ends (items 8 s true h.width h.chars c)) where
        after_chars : text_at s d ≡ then (items 8 s false 4 h.runs g) (λ rs g. then (items 8 s false 1 h.phonetic g) (λ ps i. got (text_of (byte_at s (d.at + 2)) (list_of chars_x) rs ps) i))
        after_chars = text_is ∙ then_is chars_x g to (λ us e. then (items 8 s false 4 h.runs e) (λ rs g. then (items 8 s false 1 h.phonetic g) (λ ps i. got (text_of (byte_at s (d.at + 2)) us rs ps) i)))

        chars_count : length (list_of chars_x) ≡ h.chars
        chars_count = by chars_x (count_items 8 s true h.width h.chars c) text_chars
          where
            by : (x : Got (List ℕ)) → Count h.chars x → Passes x → length (list_of x) ≡ h.chars
            by (got l e) n p = n
            by (refused a b) n p = absurd p

        -- what is read, and the same with no head
        pub record Both (x z : Got Text) : Type 0 where
          pub same_ends : ends x ≡ ends z
          pub same_passes : Passes x → Passes z
          pub pieces : Passes x → text_pieces (the_text x) [] ≡ char_pieces (byte_at s (d.at + 2)) h (list_of (items 8 s true h.width h.chars c)) ++ rest_pieces (the_text z)

        both : Both (text_at s d) (rest_at s h g)
        unfolding rest_at
        both = subst (λ (x : Got Text). Both x (rest_at s h g)) (sym after_chars) (at_runs (items 8 s false 4 h.runs g) (count_items 8 s false 4 h.runs g))
          where
            at_phonetic : (rs : List ℕ) → length rs ≡ h.runs → (x : Got (List ℕ)) → Count h.phonetic x → Both (then x (λ ps i. got (text_of (byte_at s (d.at + 2)) (list_of chars_x) rs ps) i)) (then x (λ ps i. got (text_of 0 [] rs ps) i))
            at_phonetic rs n (got ps i) m = record { same_ends = refl; same_passes = λ p. tt; pieces = λ p. text_pieces_lem (byte_at s (d.at + 2)) (list_of chars_x) rs ps h chars_count n m }
            at_phonetic rs n (refused a b) m = record { same_ends = refl; same_passes = λ p. p; pieces = λ p. absurd p }

            at_runs : (x : Got (List ℕ)) → Count h.runs x
                → Both (then x (λ rs g. then (items 8 s false 1 h.phonetic g) (λ ps i. got (text_of (byte_at s (d.at + 2)) (list_of chars_x) rs ps) i))) (then x (λ rs g. then (items 8 s false 1 h.phonetic g) (λ ps i. got (text_of 0 [] rs ps) i)))
            at_runs (got rs g) n = at_phonetic rs n (items 8 s false 1 h.phonetic g) (count_items 8 s false 1 h.phonetic g)
            at_runs (refused a b) n = record { same_ends = refl; same_passes = λ p. p; pieces = λ p. absurd p }

        pub text_rest : Passes (rest_at s h g)
        text_rest = both.same_passes passes

        pub text_to_lem : (x : Cursor) → got tt x ≡ ends (rest_at s h g) → got tt x ≡ ends (text_at s d)
        text_to_lem x k = k ∙ sym both.same_ends

        module _ (b b' : List ℕ) (o e : Out) (w-is : state b' e ≡ wrote (state b o) (char_pieces (byte_at s (d.at + 2)) h (list_of (items 8 s true h.width h.chars c)))) where
          pub text_rest_long : Long (state b o) (text_pieces (the_text (text_at s d)) []) → Long (state b' e) (rest_pieces (the_text (rest_at s h g)))
          text_rest_long l =
              subst (λ (z : Wrote). Long z (rest_pieces (the_text (rest_at s h g)))) (sym w-is)
              (long_right (char_pieces (byte_at s (d.at + 2)) h (list_of chars_x)) (rest_pieces (the_text (rest_at s h g))) (state b o) (subst (Long (state b o)) (both.pieces passes) l))

          pub text_wrote : (b'' : List ℕ) (x : Out) → state b'' x ≡ wrote (state b' e) (rest_pieces (the_text (rest_at s h g))) → state b'' x ≡ wrote (state b o) (text_pieces (the_text (text_at s d)) [])
          text_wrote b'' x k =
              k ∙ ap (λ (z : Wrote). wrote z (rest_pieces (the_text (rest_at s h g)))) w-is
              ∙ sym (wrote_append (char_pieces (byte_at s (d.at + 2)) h (list_of chars_x)) (rest_pieces (the_text (rest_at s h g))) (state b o)) ∙ ap (wrote (state b o)) (sym (both.pieces passes))

      pub text_long : (b : List ℕ) (o : Out) → Long (state b o) (text_pieces (the_text (text_at s d)) []) → Long (state b o) (char_pieces (byte_at s (d.at + 2)) h (list_of (items 8 s true h.width h.chars c)))
      text_long b o l = by chars_x refl
        where
          by : (x : Got (List ℕ)) → chars_x ≡ x → Long (state b o) (char_pieces (byte_at s (d.at + 2)) h (list_of chars_x))
          by (got us g) k =
              let to : got tt g ≡ ends chars_x = ap ends (sym k) in
              long_left (char_pieces (byte_at s (d.at + 2)) h (list_of chars_x)) (rest_pieces (the_text (rest_at s h g))) (state b o) (subst (Long (state b o)) ((both g to).pieces passes) l)
          by (refused n m) k = absurd (subst Passes k text_chars)

pub ruleset text_laws = (text_ok, text_byte, text_some, text_small, text_inside, text_chars, text_rest, text_to_lem, text_rest_long, text_wrote, text_long, items_inside)
