-- The laws of strings one after another as they are written. Assumes nothing.
use Prim.Native.Nat.{ℕ, suc, ◌+◌, ◌-◌, ◌*◌, ◌/◌, ◌≤◌, ◌<◌}
use mathlib.Core.Path.{◌≡◌, refl, sym, ap, ◌∙◌, subst}
use mathlib.Core.List.{List, [], ◌∷◌, ◌++◌, append_assoc, append-nil, map}
use mathlib.Core.Bool.{Bool, true, false}
use Rattle.std.specs.Prelude.{Result, Ok, Err, IsOk}
use native.Mathlib.Omega.{arith}
use native.Mathlib.Nat.{div-lt_iff_lt-mul}
use lib.ListN.{length}
use lib.Dec.{eqb}
use Rattle.steps.specs.Choice.{pick}
use Rattle.steps.proofs.Choice.{pick_eq, pick_ne}
use Rattle.refusal.specs.declared.Refusal.{Refusal}
use Rattle.segments.specs.declared.Cursor.{Cursor}
use Rattle.segments.specs.Segments.{Got, got, refused, then, push, list_of}
use Rattle.segments.specs.Parts.{Inside, ends, moved, Passes}
use Rattle.segments.proofs.Local.{refused_not}
use Rattle.segments.proofs.Laws.{ends_push}
use Rattle.strings.specs.Table.{string_at, next_place, strings}
use Rattle.strings.specs.Parts.{next_string}
use Rattle.strings.proofs.Laws.{place_inside, next_inside}
use Rattle.flags.specs.Flags.{flag_at, flags_from}
use Rattle.table_texts.specs.Texts.{Text, text_at, the_text, keep_if, kept}
use Rattle.table_texts.specs.Written.{Piece, item_pieces, width_of_text, later, start_piece, text_pieces, pieces_of}
use Rattle.table_texts.proofs.Table.{string_text}
use Rattle.table_writer.specs.declared.writer.Out.{Out}
use Rattle.table_writer.specs.Writing.{Wrote, state, step, wrote, Long, texts_from, next_text, marked_pieces, left_pieces}
use Rattle.table_writer.proofs.Laws.{step_is, passes_push, list_push}
use Rattle.table_writer.proofs.Parts.{wrote_append, long_left, long_right}

-- ---- the next string
module _ (s : List ℕ) (c : Cursor) (m : Result Cursor Refusal) (is : moved m ≡ next_place s c) where
  pub next_ok : Passes (next_text s c) → IsOk m
  unfolding next_text
  next_ok = by m is
    where
      by : (x : Result Cursor Refusal) → moved x ≡ next_place s c → Passes (then (next_place s c) (λ _ d. text_at s d)) → IsOk x
      by (Ok d) q = λ p. refl
      by (Err e) q = λ p. absurd (subst (λ (x : Got Unit). Passes (then x (λ _ d. text_at s d))) (sym q) p)

  module _ (d : Cursor) (q : m ≡ Ok d) where
    next_is : next_text s c ≡ text_at s d
    unfolding next_text
    next_is = ap (λ (x : Got Unit). then x (λ _ d. text_at s d)) (sym is ∙ ap moved q)

    pub next_passes : Passes (next_text s c) → Passes (text_at s d)
    next_passes p = subst Passes next_is p

    pub next_to : (r : Cursor) → got tt r ≡ ends (text_at s d) → got tt r ≡ ends (next_text s c)
    next_to r k = k ∙ ap ends (sym next_is)

    pub next_long : (b : List ℕ) (o : Out) → Long (state b o) (text_pieces (the_text (next_text s c)) []) → Long (state b o) (text_pieces (the_text (text_at s d)) [])
    next_long b o l = subst (λ (x : Got Text). Long (state b o) (text_pieces (the_text x) [])) next_is l

    pub next_wrote : (b b' : List ℕ) (o e : Out) → state b' e ≡ wrote (state b o) (text_pieces (the_text (text_at s d)) []) → state b' e ≡ wrote (state b o) (text_pieces (the_text (next_text s c)) [])
    next_wrote b b' o e k = k ∙ ap (λ (x : Got Text). wrote (state b o) (text_pieces (the_text x) [])) (sym next_is)

pub ruleset next_laws = (next_ok, place_inside, next_passes, next_to, next_long, next_wrote)

-- ---- past it
next_string_lem : (s : List ℕ) (c : Cursor) → ends (next_string s c) ≡ ends (next_text s c)
unfolding next_string next_text
next_string_lem s c = at_place (next_place s c)
  where
    at_text : (x : Got Text) → ends (then x (λ t c. got t.units c)) ≡ ends x
    at_text (got t c) = refl
    at_text (refused n o) = refl

    at_place : (x : Got Unit) → ends (then x (λ _ d. string_at s d)) ≡ ends (then x (λ _ d. text_at s d))
    at_place (got u d) = ap ends (string_text s d) ∙ at_text (text_at s d)
    at_place (refused n o) = refl

module _ (s : List ℕ) (c : Cursor) (m : Result Cursor Refusal) (is : moved m ≡ ends (next_string s c)) where
  pub skip_to : (d : Cursor) → m ≡ Ok d → got tt d ≡ ends (next_text s c)
  skip_to d q = ap moved (sym q) ∙ is ∙ next_string_lem s c

  pub skip_ok : Passes (next_text s c) → IsOk m
  skip_ok p = by m (next_text s c) (is ∙ next_string_lem s c) p
    where
      by : (z : Result Cursor Refusal) (x : Got Text) → moved z ≡ ends x → Passes x → IsOk z
      by (Ok d) x k p = refl
      by (Err e) (got t d) k p = absurd (refused_not k)
      by (Err e) (refused n o) k p = absurd p

-- ---- by its mark
module _ (m : ℕ) (t : Text) (b : List ℕ) (o : Out) where
  pub mark_none : m ≡ 0 → state b o ≡ wrote (state b o) (marked_pieces m t)
  unfolding marked_pieces wrote
  mark_none e = ap (wrote (state b o)) (pick_eq [] [] (text_pieces t []) m 0 e refl)

  pub mark_long : (m ≡ 0 → ⊥) → Long (state b o) (marked_pieces m t) → Long (state b o) (text_pieces t [])
  unfolding marked_pieces
  mark_long e l = subst (Long (state b o)) (sym (pick_ne (text_pieces t []) [] (text_pieces t []) m 0 e refl)) l

  pub mark_some : (m ≡ 0 → ⊥) → (b' : List ℕ) (x : Out) → state b' x ≡ wrote (state b o) (text_pieces t []) → state b' x ≡ wrote (state b o) (marked_pieces m t)
  unfolding marked_pieces
  mark_some e b' x k = k ∙ ap (wrote (state b o)) (pick_ne (text_pieces t []) [] (text_pieces t []) m 0 e refl)

pub ruleset mark_laws = (mark_none, mark_long, mark_some)

-- ---- pieces of strings one after another
text_append : (t : Text) (ps : List Piece) → text_pieces t ps ≡ text_pieces t [] ++ ps
unfolding text_pieces
text_append t ps =
    let a = item_pieces true (width_of_text t) (later t.units) in
    let b = item_pieces false 4 t.runs in
    let c = item_pieces false 1 t.phonetic in
    ap (λ (x : List Piece). start_piece t ∷ x)
    (ap (λ (x : List Piece). a ++ (b ++ (x ++ ps))) (sym (append-nil c)) ∙ ap (λ (x : List Piece). a ++ x) (sym (append_assoc b (c ++ []) ps)) ∙ sym (append_assoc a (b ++ (c ++ [])) ps))

pub kept_pieces : (m : ℕ) (t : Text) (l : List Text) → pieces_of (keep_if (eqb m 0) t l) ≡ marked_pieces m t ++ pieces_of l
unfolding marked_pieces pieces_of pick
kept_pieces m t l = by (eqb m 0)
  where
    by : (b : Bool) → pieces_of (keep_if b t l) ≡ pick b [] (text_pieces t []) ++ pieces_of l
    by true = refl
    by false = text_append t (pieces_of l)

-- n strings from c on: the next one, and those after it
module _ (s : List ℕ) (n : ℕ) (c : Cursor) where
  pub record Next (x : Got Text) : Type 0 where
    pub first_passes : Passes (strings s (suc n) c) → Passes x
    pub others : (g : Cursor) → got tt g ≡ ends x → Passes (strings s (suc n) c) → Passes (strings s n g)
    pub same_ends : (g : Cursor) → got tt g ≡ ends x → ends (strings s (suc n) c) ≡ ends (strings s n g)
    pub texts : (g : Cursor) → got tt g ≡ ends x → Passes (strings s (suc n) c) → texts_from s (suc n) c ≡ the_text x ∷ texts_from s n g

  pub next_by : Next (next_text s c)
  unfolding next_text strings texts_from
  next_by = at_place (next_place s c) refl
    where
      at_text : (d : Cursor) → strings s (suc n) c ≡ then (text_at s d) (λ _ e. push d (strings s n e)) → (x : Got Text) → text_at s d ≡ x → Next x
      at_text d k (got t e) q =
          let z : strings s (suc n) c ≡ push d (strings s n e) = k ∙ ap (λ (y : Got Text). then y (λ _ e. push d (strings s n e))) q in
          record {
            first_passes = λ p. tt;
            others = λ g h p. let i : ◌≡◌ {A = Cursor} e g = cc in passes_push d (strings s n g) (subst (λ (w : Cursor). Passes (push d (strings s n w))) i (subst Passes z p));
            same_ends = λ g h. let i : ◌≡◌ {A = Cursor} e g = cc in ap ends z ∙ ap (λ (w : Cursor). ends (push d (strings s n w))) i ∙ ends_push d (strings s n g);
            texts = λ g h p.
                let i : ◌≡◌ {A = Cursor} e g = cc in
                let y : strings s (suc n) c ≡ push d (strings s n g) = z ∙ ap (λ (w : Cursor). push d (strings s n w)) i in
                ap (λ (w : Got (List Cursor)). map (λ (d : Cursor). the_text (text_at s d)) (list_of w)) y
                ∙ ap (map (λ (d : Cursor). the_text (text_at s d))) (list_push d (strings s n g) (subst Passes y p))
                ∙ ap (λ (w : Text). w ∷ map (λ (d : Cursor). the_text (text_at s d)) (list_of (strings s n g))) (ap the_text q);
          }
      at_text d k (refused a b) q =
          let z : strings s (suc n) c ≡ refused a b = k ∙ ap (λ (y : Got Text). then y (λ _ e. push d (strings s n e))) q in
          record {
            first_passes = λ p. subst Passes z p;
            others = λ g h p. absurd (refused_not (sym h));
            same_ends = λ g h. absurd (refused_not (sym h));
            texts = λ g h p. absurd (refused_not (sym h));
          }

      at_string : (d : Cursor) (x : Got Text) → then (then x (λ t c. got t.units c)) (λ _ e. push d (strings s n e)) ≡ then x (λ _ e. push d (strings s n e))
      at_string d (got t e) = refl
      at_string d (refused a b) = refl

      at_place : (x : Got Unit) → next_place s c ≡ x → Next (then x (λ _ d. text_at s d))
      at_place (got u d) q =
          let z : strings s (suc n) c ≡ then (text_at s d) (λ _ e. push d (strings s n e)) =
          ap (λ (y : Got Unit). then y (λ _ d. then (string_at s d) (λ _ e. push d (strings s n e)))) q ∙ ap (λ (y : Got (List ℕ)). then y (λ _ e. push d (strings s n e))) (string_text s d) ∙ at_string d (text_at s d) in
          at_text d z (text_at s d) refl
      at_place (refused a b) q =
          let z : strings s (suc n) c ≡ refused a b = ap (λ (y : Got Unit). then y (λ _ d. then (string_at s d) (λ _ e. push d (strings s n e)))) q in
          record {
            first_passes = λ p. subst Passes z p;
            others = λ g h p. absurd (refused_not (sym h));
            same_ends = λ g h. absurd (refused_not (sym h));
            texts = λ g h p. absurd (refused_not (sym h));
          }

pub wrote_length : (ps : List Piece) (w : Wrote) → length (wrote w ps).buf ≡ length w.buf
unfolding wrote
wrote_length [] w = refl
wrote_length (p ∷ ps) w = wrote_length ps (step w p) ∙ (step_is w p).2

-- ---- a turn of the loop
module _ (s : List ℕ) (n i : ℕ) (d : Cursor) (passes : Passes (strings s (n - i) d)) (less : i < n) where
  one_more : n - i ≡ suc (n - (i + 1))
  one_more = omega arith

  passes_more : Passes (strings s (suc (n - (i + 1))) d)
  passes_more = subst (λ (k : ℕ). Passes (strings s k d)) one_more passes

  pub turn_first : Passes (next_text s d)
  turn_first = (next_by s (n - (i + 1)) d).first_passes passes_more

  pub turn_inside : (g : Cursor) → got tt g ≡ ends (next_text s d) → Inside s d → Inside s g
  turn_inside g to inside = next_inside s d g (Ok g) (to ∙ sym (next_string_lem s d)) refl inside

  pub turn_word : (l : List ℕ) → n ≤ length l * 64 → i / 64 < length l
  turn_word l h = (div-lt_iff_lt-mul pos).1 (omega arith)
    where
      pos : 0 < 64
      pos = omega arith

  module _ (g : Cursor) (to : got tt g ≡ ends (next_text s d)) where
    pub turn_passes : Passes (strings s (n - (i + 1)) g)
    turn_passes = (next_by s (n - (i + 1)) d).others g to passes_more

    pub turn_ends : (x : Got Unit) → x ≡ ends (strings s (n - i) d) → x ≡ ends (strings s (n - (i + 1)) g)
    turn_ends x k = k ∙ ap (λ (m : ℕ). ends (strings s m d)) one_more ∙ (next_by s (n - (i + 1)) d).same_ends g to

    pub left_are : (l : List ℕ) (f : ℕ) → f ≡ flag_at l i → left_pieces s l n i d ≡ marked_pieces f (the_text (next_text s d)) ++ left_pieces s l n (i + 1) g
    unfolding left_pieces kept flags_from
    left_are l f q =
        ap (λ (k : ℕ). pieces_of (kept (flags_from l i k) (texts_from s k d))) one_more
        ∙ ap (λ (ts : List Text). pieces_of (kept (flag_at l i ∷ flags_from l (i + 1) (n - (i + 1))) ts)) ((next_by s (n - (i + 1)) d).texts g to passes_more)
        ∙ kept_pieces (flag_at l i) (the_text (next_text s d)) (kept (flags_from l (i + 1) (n - (i + 1))) (texts_from s (n - (i + 1)) g))
        ∙ ap (λ (m : ℕ). marked_pieces m (the_text (next_text s d)) ++ left_pieces s l n (i + 1) g) (sym q)

    module _ (l : List ℕ) (f : ℕ) (flag : f ≡ flag_at l i) (b b' : List ℕ) (e e' : Out) (is : state b' e' ≡ wrote (state b e) (marked_pieces f (the_text (next_text s d)))) where
      pub turn_long : Long (state b e) (left_pieces s l n i d) → Long (state b' e') (left_pieces s l n (i + 1) g)
      turn_long k = subst (λ (z : Wrote). Long z (left_pieces s l n (i + 1) g)) (sym is) (long_right (marked_pieces f (the_text (next_text s d))) (left_pieces s l n (i + 1) g) (state b e) (subst (Long (state b e)) (left_are l f flag) k))

      pub turn_wrote : (x : Wrote) → x ≡ wrote (state b e) (left_pieces s l n i d) → x ≡ wrote (state b' e') (left_pieces s l n (i + 1) g)
      turn_wrote x k =
          k ∙ ap (wrote (state b e)) (left_are l f flag) ∙ wrote_append (marked_pieces f (the_text (next_text s d))) (left_pieces s l n (i + 1) g) (state b e)
          ∙ ap (λ (z : Wrote). wrote z (left_pieces s l n (i + 1) g)) (sym is)

  pub turn_first_long : (l : List ℕ) (f : ℕ) → f ≡ flag_at l i → (b : List ℕ) (e : Out) → Long (state b e) (left_pieces s l n i d) → Long (state b e) (marked_pieces f (the_text (next_text s d)))
  turn_first_long l f flag b e k = by (next_text s d) refl turn_first
    where
      by : (x : Got Text) → next_text s d ≡ x → Passes x → Long (state b e) (marked_pieces f (the_text (next_text s d)))
      by (got t g) q p =
          let to : got tt g ≡ ends (next_text s d) = ap ends (sym q) in
          long_left (marked_pieces f (the_text (next_text s d))) (left_pieces s l n (i + 1) g) (state b e) (subst (Long (state b e)) (left_are g to l f flag) k)
      by (refused a c) q p = absurd p

pub turn_length : (s : List ℕ) (d : Cursor) (f : ℕ) (b b' : List ℕ) (e e' : Out) → state b' e' ≡ wrote (state b e) (marked_pieces f (the_text (next_text s d))) → (k : ℕ) → length b ≡ k → length b' ≡ k
unfolding state
turn_length s d f b b' e e' is k h = ap (λ (z : Wrote). length z.buf) is ∙ wrote_length (marked_pieces f (the_text (next_text s d))) (state b e) ∙ h

-- before the first, and after the last
pub left_first : (s l : List ℕ) (n : ℕ) (c : Cursor) → left_pieces s l n 0 c ≡ pieces_of (kept (flags_from l 0 n) (texts_from s n c))
unfolding left_pieces
left_first s l n c = let e : n - 0 ≡ n = omega arith in ap (λ (k : ℕ). pieces_of (kept (flags_from l 0 k) (texts_from s k c))) e

pub left_last : (s l : List ℕ) (n i : ℕ) (d : Cursor) → n ≤ i → left_pieces s l n i d ≡ []
unfolding left_pieces texts_from strings flags_from kept pieces_of
left_last s l n i d last = let e : n - i ≡ 0 = omega arith in ap (λ (k : ℕ). pieces_of (kept (flags_from l i k) (texts_from s k d))) e

module _ (s : List ℕ) (n : ℕ) (c : Cursor) where
  pub turns_passes : Passes (strings s n c) → Passes (strings s (n - 0) c)
  turns_passes p = let e : n ≡ n - 0 = omega arith in subst (λ (k : ℕ). Passes (strings s k c)) e p

  pub turns_long : (l b : List ℕ) (o : Out) → Long (state b o) (pieces_of (kept (flags_from l 0 n) (texts_from s n c))) → Long (state b o) (left_pieces s l n 0 c)
  turns_long l b o k = subst (Long (state b o)) (sym (left_first s l n c)) k

  module _ (i : ℕ) (d : Cursor) (last : n ≤ i) where
    pub turns_to : ends (strings s (n - 0) c) ≡ ends (strings s (n - i) d) → got tt d ≡ ends (strings s n c)
    unfolding strings
    turns_to k =
        let over : n - i ≡ 0 = omega arith in
        let e : n - 0 ≡ n = omega arith in
        sym (ap (λ (m : ℕ). ends (strings s m c)) (sym e) ∙ k ∙ ap (λ (m : ℕ). ends (strings s m d)) over)

    pub turns_wrote : (l b b' : List ℕ) (o e : Out) → wrote (state b o) (left_pieces s l n 0 c) ≡ wrote (state b' e) (left_pieces s l n i d) → state b' e ≡ wrote (state b o) (pieces_of (kept (flags_from l 0 n) (texts_from s n c)))
    unfolding wrote
    turns_wrote l b b' o e k = sym (ap (wrote (state b o)) (sym (left_first s l n c)) ∙ k ∙ ap (wrote (state b' e)) (left_last s l n i d last))

pub ruleset turns_laws = (turn_first, turn_inside, turn_word, turn_passes, turn_ends, turn_long, turn_wrote, turn_length, turn_first_long, turns_passes, turns_long, turns_to, turns_wrote)
