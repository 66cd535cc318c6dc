-- The laws of a string's parts as they are written. Assumes nothing.
use Prim.Native.Nat.{ℕ, ◌+◌, ◌-◌, ◌≤◌, ◌<◌}
use mathlib.Core.Path.{◌≡◌, refl, sym, ap, ap₂, ◌∙◌, subst}
use mathlib.Core.List.{List, [], ◌∷◌, ◌++◌}
use mathlib.Core.Bool.{Bool, true, false}
use Rattle.std.specs.Prelude.{Result, Ok}
use Rattle.std.specs.Int.{from_bool}
use native.Mathlib.Omega.{arith}
use Rattle.byte_numbers.specs.Bytes.{num_at}
use Rattle.segments.specs.declared.Cursor.{Cursor}
use Rattle.segments.specs.declared.Room.{Room}
use Rattle.refusal.specs.declared.Refusal.{Refusal}
use Rattle.segments.specs.Segments.{Got, got, refused, then, list_of, on, room, items}
use Rattle.segments.specs.Parts.{Inside, ends, roomed, Passes}
use Rattle.segments.proofs.Local.{refused_not, Within, within_items}
use Rattle.strings.specs.declared.Head.{Head}
use Rattle.table_texts.specs.Texts.{Text, text_of, the_text}
use Rattle.table_texts.specs.Written.{Piece, item_pieces, wide_bit, laid_size}
use Rattle.table_writer.specs.declared.writer.Out.{Out}
use Rattle.table_writer.specs.Writing.{Wrote, state, step, wrote, Long, Item, start_body, plain_piece, from_pieces, char_pieces, rest_at, rest_pieces}
use Rattle.table_writer.proofs.Laws.{step_is, long_first, long_rest, turn_list, turn_passes, turn_ends, turn_item, turn_within, turn_inside, nothing_left}

-- ---- pieces after pieces
pub wrote_append : (ps qs : List Piece) (w : Wrote) → wrote w (ps ++ qs) ≡ wrote (wrote w ps) qs
unfolding wrote
wrote_append [] qs w = refl
wrote_append (p ∷ ps) qs w = wrote_append ps qs (step w p)

long_cons : (w : Wrote) (p : Piece) (ps : List Piece) → Long (step w p) ps → Long w (p ∷ ps)
unfolding Long laid_size
long_cons w p ps h =
    let s = step_is w p in
    let a = s.1 in
    let b = s.2 in
    let r = ap (λ (k : ℕ). laid_size k ps) s.0 in
    omega arith

pub long_left : (ps qs : List Piece) (w : Wrote) → Long w (ps ++ qs) → Long w ps
unfolding Long laid_size
long_left [] qs w h = omega arith
long_left (p ∷ ps) qs w h = long_cons w p ps (long_left ps qs (step w p) (long_rest w p (ps ++ qs) h))

pub long_right : (ps qs : List Piece) (w : Wrote) → Long w (ps ++ qs) → Long (wrote w ps) qs
unfolding wrote
long_right [] qs w h = h
long_right (p ∷ ps) qs w h = long_right ps qs (step w p) (long_rest w p (ps ++ qs) h)

-- ---- widths
pub item_four : Item false 4
item_four = record { some = omega arith; few = omega arith; even = λ e. omega arith; char = λ e. absurd (let z : ◌≡◌ {A = ℕ} 0 1 = cc in omega arith) }

pub item_one : Item false 1
item_one = record { some = omega arith; few = omega arith; even = λ e. omega arith; char = λ e. omega arith }

pub items_inside : (s : List ℕ) (f : Bool) (w k : ℕ) (c d : Cursor) → got tt d ≡ ends (items 8 s f w k c) → Inside s c → Inside s d
items_inside s f w k c d is inside = by (items 8 s f w k c) is (within_items 8 s f w k c inside)
  where
    by : (x : Got (List ℕ)) → got tt d ≡ ends x → Within s c x → Inside s d
    by (got l e) q h = let i : ◌≡◌ {A = Cursor} e d = cc in subst (Inside s) i h.0
    by (refused n o) q h = absurd (refused_not (sym q))

-- what was read first, and where that ended
pub then_is : {A : Type 0} (x : Got (List ℕ)) (d : Cursor) → got tt d ≡ ends x → (k : List ℕ → Cursor → Got A) → then x k ≡ k (list_of x) d
then_is (got l e) d q k = let i : ◌≡◌ {A = Cursor} e d = cc in ap (k l) i
then_is (refused n o) d q k = absurd (refused_not (sym q))

pub passes_then : {A B : Type 0} (x : Got A) (k : A → Cursor → Got B) → Passes (then x k) → Passes x
passes_then (got a c) k h = tt
passes_then (refused n o) k h = h

text_then : (x : Got (List ℕ)) (k : List ℕ → Text) → Passes (then x (λ ps i. got (k ps) i)) → the_text (then x (λ ps i. got (k ps) i)) ≡ k (list_of x)
text_then (got l c) k h = refl
text_then (refused n o) k h = absurd h

ends_then : (x : Got (List ℕ)) (k : List ℕ → Text) → ends (then x (λ ps i. got (k ps) i)) ≡ ends x
ends_then (got l c) k = refl
ends_then (refused n o) k = refl

-- ---- runs and phonetic bytes
module _ (s : List ℕ) (h : Head) (c : Cursor) (passes : Passes (rest_at s h c)) where
  abbrev runs_x : Got (List ℕ)
  runs_x = items 8 s false 4 h.runs c

  pub rest_runs : Passes (items 8 s false 4 h.runs c)
  unfolding rest_at
  rest_runs = passes_then runs_x (λ rs g. then (items 8 s false 1 h.phonetic g) (λ ps i. got (text_of 0 [] rs ps) i)) passes

  module _ (g : Cursor) (is : got tt g ≡ ends (items 8 s false 4 h.runs c)) where
    abbrev phonetic_x : Got (List ℕ)
    phonetic_x = items 8 s false 1 h.phonetic g

    rest_is : rest_at s h c ≡ then phonetic_x (λ ps i. got (text_of 0 [] (list_of runs_x) ps) i)
    unfolding rest_at
    rest_is = then_is runs_x g is (λ rs g. then (items 8 s false 1 h.phonetic g) (λ ps i. got (text_of 0 [] rs ps) i))

    pub rest_passes : Passes (items 8 s false 1 h.phonetic g)
    rest_passes = passes_then phonetic_x (λ ps i. got (text_of 0 [] (list_of runs_x) ps) i) (subst Passes rest_is passes)

    rest_text : the_text (rest_at s h c) ≡ text_of 0 [] (list_of runs_x) (list_of phonetic_x)
    rest_text = ap the_text rest_is ∙ text_then phonetic_x (λ ps. text_of 0 [] (list_of runs_x) ps) (subst Passes rest_is passes)

    rest_pieces_lem : rest_pieces (the_text (rest_at s h c)) ≡ item_pieces false 4 (list_of runs_x) ++ item_pieces false 1 (list_of phonetic_x)
    unfolding rest_pieces
    rest_pieces_lem = ap rest_pieces rest_text

    pub rest_to : (r : Cursor) → got tt r ≡ ends (items 8 s false 1 h.phonetic g) → got tt r ≡ ends (rest_at s h c)
    rest_to r q = q ∙ sym (ends_then phonetic_x (λ ps. text_of 0 [] (list_of runs_x) ps)) ∙ ap ends (sym rest_is)

    module _ (b b' : List ℕ) (o e : Out) (w-is : state b' e ≡ wrote (state b o) (item_pieces false 4 (list_of (items 8 s false 4 h.runs c)))) where
      pub rest_long : Long (state b o) (rest_pieces (the_text (rest_at s h c))) → Long (state b' e) (item_pieces false 1 (list_of (items 8 s false 1 h.phonetic g)))
      rest_long l =
          subst (λ (z : Wrote). Long z (item_pieces false 1 (list_of phonetic_x))) (sym w-is)
          (long_right (item_pieces false 4 (list_of runs_x)) (item_pieces false 1 (list_of phonetic_x)) (state b o) (subst (Long (state b o)) rest_pieces_lem l))

      pub rest_wrote : (b'' : List ℕ) (r : Out) → state b'' r ≡ wrote (state b' e) (item_pieces false 1 (list_of (items 8 s false 1 h.phonetic g))) → state b'' r ≡ wrote (state b o) (rest_pieces (the_text (rest_at s h c)))
      rest_wrote b'' r q =
          q ∙ ap (λ (z : Wrote). wrote z (item_pieces false 1 (list_of phonetic_x))) w-is
          ∙ sym (wrote_append (item_pieces false 4 (list_of runs_x)) (item_pieces false 1 (list_of phonetic_x)) (state b o)) ∙ ap (wrote (state b o)) (sym rest_pieces_lem)

  pub rest_first : (b : List ℕ) (o : Out) → Long (state b o) (rest_pieces (the_text (rest_at s h c))) → Long (state b o) (item_pieces false 4 (list_of (items 8 s false 4 h.runs c)))
  rest_first b o l = by runs_x refl
    where
      by : (x : Got (List ℕ)) → runs_x ≡ x → Long (state b o) (item_pieces false 4 (list_of runs_x))
      by (got rs g) q =
          let is : got tt g ≡ ends runs_x = ap ends (sym q) in
          long_left (item_pieces false 4 (list_of runs_x)) (item_pieces false 1 (list_of (items 8 s false 1 h.phonetic g))) (state b o) (subst (Long (state b o)) (rest_pieces_lem g is) l)
      by (refused n m) q = absurd (subst Passes q rest_runs)

pub ruleset rest_laws = (item_four, item_one, items_inside, rest_runs, rest_passes, rest_to, rest_long, rest_wrote, rest_first)

-- ---- head and characters: none
module _ (s : List ℕ) (flags : ℕ) (h : Head) (c : Cursor) (last : h.chars ≤ 0) where
  none_pieces : char_pieces flags h (list_of (items 8 s true h.width h.chars c)) ≡ plain_piece (start_body flags 0 h 0 0) ∷ []
  unfolding char_pieces
  none_pieces = ap (λ (x : Got (List ℕ)). char_pieces flags h (list_of x)) (nothing_left s true h.width h.chars c last)

  pub none_to : got tt c ≡ ends (items 8 s true h.width h.chars c)
  none_to = ap ends (sym (nothing_left s true h.width h.chars c last))

  pub none_long : (b : List ℕ) (o : Out) → Long (state b o) (char_pieces flags h (list_of (items 8 s true h.width h.chars c))) → Long (state b o) (plain_piece (start_body flags 0 h 0 0) ∷ [])
  none_long b o l = subst (Long (state b o)) none_pieces l

  pub none_wrote : (b b' : List ℕ) (o e : Out) → state b' e ≡ step (state b o) (plain_piece (start_body flags 0 h 0 0)) → state b' e ≡ wrote (state b o) (char_pieces flags h (list_of (items 8 s true h.width h.chars c)))
  unfolding wrote
  none_wrote b b' o e q = q ∙ ap (wrote (state b o)) (sym none_pieces)

pub ruleset none_laws = (none_to, none_long, none_wrote)

-- ---- some: of v bytes each, anew
pub bool_low : (b : Bool) → from_bool b ≤ 1
bool_low true = omega arith
bool_low false = omega arith

pub item_some : (f : Bool) (w : ℕ) → Item f w → 1 ≤ w
item_some f w i = i.some

pub item_few : (f : Bool) (w : ℕ) → Item f w → w ≤ 4
item_few f w i = i.few

pub item_even : (f : Bool) (w : ℕ) → Item f w → w ≡ 3 → ⊥
item_even f w i = i.even

module _ (wide : Bool) (r : ℕ) (r-is : r ≡ from_bool wide) where
  pub low_item : Item true (1 + r)
  low_item = let l = bool_low wide in record { some = omega arith; few = omega arith; even = λ q. omega arith; char = λ q. omega arith }

  pub low_few : 1 + r ≤ 2
  low_few = let l = bool_low wide in omega arith

  module _ (s : List ℕ) (flags : ℕ) (h : Head) (u : ℕ) (g : Cursor) (m : ℕ) (m-is : m ≡ num_at s u g.at) (b : List ℕ) (o : Out) where
    abbrev start : Piece
    start = plain_piece (start_body flags (from_bool wide) h (1 + r) m)

    abbrev others : List ℕ
    others = list_of (items 8 s true u (h.chars - 1) (on g u))

    from_are : from_pieces s flags (from_bool wide) h u g ≡ start ∷ item_pieces true (1 + r) others
    unfolding from_pieces
    from_are = ap₂ (λ (k n : ℕ). plain_piece (start_body flags (from_bool wide) h k n) ∷ item_pieces true k others) (ap (λ (k : ℕ). 1 + k) (sym r-is)) (sym m-is)

    pub from_first : Long (state b o) (from_pieces s flags (from_bool wide) h u g) → Long (state b o) (plain_piece (start_body flags (from_bool wide) h (1 + r) m) ∷ [])
    from_first l = long_first (state b o) start _ (subst (Long (state b o)) from_are l)

    module _ (b' : List ℕ) (e : Out) (step-to : state b' e ≡ step (state b o) (plain_piece (start_body flags (from_bool wide) h (1 + r) m))) where
      pub from_long : Long (state b o) (from_pieces s flags (from_bool wide) h u g) → Long (state b' e) (item_pieces true (1 + r) (list_of (items 8 s true u (h.chars - 1) (on g u))))
      from_long l = subst (λ (z : Wrote). Long z (item_pieces true (1 + r) others)) (sym step-to) (long_rest (state b o) start _ (subst (Long (state b o)) from_are l))

      pub from_wrote : (b'' : List ℕ) (x : Out) → state b'' x ≡ wrote (state b' e) (item_pieces true (1 + r) (list_of (items 8 s true u (h.chars - 1) (on g u)))) → state b'' x ≡ wrote (state b o) (from_pieces s flags (from_bool wide) h u g)
      unfolding wrote
      from_wrote b'' x k = k ∙ ap (λ (z : Wrote). wrote z (item_pieces true (1 + r) others)) step-to ∙ ap (wrote (state b o)) (sym from_are)

pub ruleset from_laws = (low_item, low_few, item_some, item_few, item_even, from_first, from_long, from_wrote)

module _ (s : List ℕ) (flags : ℕ) (h : Head) (c : Cursor) (passes : Passes (items 8 s true h.width h.chars c)) (r : Result Room Refusal) (is : roomed r ≡ room 8 s true h.width c) (y : Room) (q : r ≡ Ok y) (some : 0 < h.chars) where
  abbrev u : ℕ
  u = y.width

  abbrev g : Cursor
  g = y.place

  more : h.chars ≡ h.chars - 1 + 1
  more = omega arith

  abbrev later_ones : List ℕ
  later_ones = list_of (items 8 s true u (h.chars - 1) (on g u))

  some_list : list_of (items 8 s true h.width h.chars c) ≡ num_at s u g.at ∷ later_ones
  some_list = turn_list s true h.width h.chars c passes r is y q (h.chars - 1) more

  pub some_item : 1 ≤ h.width → h.width ≤ 2 → Item true y.width
  some_item a b = turn_item s true h.width c r is y q (record { some = a; few = omega arith; even = λ e. omega arith; char = λ e. b })

  pub some_passes : Passes (items 8 s true y.width (h.chars - 1) (on y.place y.width))
  some_passes = turn_passes s true h.width h.chars c passes r is y q (h.chars - 1) more

  module _ (wide : ℕ) (w-is : wide ≡ wide_bit (list_of (items 8 s true h.width h.chars c))) where
    some_pieces : char_pieces flags h (list_of (items 8 s true h.width h.chars c)) ≡ from_pieces s flags wide h u g
    unfolding char_pieces from_pieces
    some_pieces =
        let m = num_at s u g.at in
        let e : wide_bit (num_at s u g.at ∷ later_ones) ≡ wide = ap wide_bit (sym some_list) ∙ sym w-is in
        ap (char_pieces flags h) some_list ∙ ap (λ (k : ℕ). plain_piece (start_body flags k h (1 + k) (num_at s u g.at)) ∷ item_pieces true (1 + k) later_ones) e

    pub some_long : (b : List ℕ) (o : Out) → Long (state b o) (char_pieces flags h (list_of (items 8 s true h.width h.chars c))) → Long (state b o) (from_pieces s flags wide h u g)
    some_long b o l = subst (Long (state b o)) some_pieces l

    pub some_wrote : (b b' : List ℕ) (o e : Out) → state b' e ≡ wrote (state b o) (from_pieces s flags wide h u g) → state b' e ≡ wrote (state b o) (char_pieces flags h (list_of (items 8 s true h.width h.chars c)))
    some_wrote b b' o e k = k ∙ ap (wrote (state b o)) (sym some_pieces)

  pub some_to : (x : Cursor) → got tt x ≡ ends (items 8 s true u (h.chars - 1) (on g u)) → got tt x ≡ ends (items 8 s true h.width h.chars c)
  some_to x k = k ∙ sym (turn_ends s true h.width h.chars c passes r is y q (h.chars - 1) more (ends (items 8 s true h.width h.chars c)) refl)

pub ruleset some_laws = (some_item, turn_within, turn_inside, some_passes, some_long, some_wrote, some_to)
