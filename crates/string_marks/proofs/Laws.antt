-- The laws of marks. Assumes nothing.
use Prim.Native.Nat.{ℕ, zero, suc, ◌+◌, ◌-◌, ◌≤◌, ◌<◌}
use mathlib.Core.Path.{◌≡◌, refl, sym, ap, ◌∙◌, subst, subst⁻¹}
use mathlib.Core.Bool.{Bool, true, false}
use mathlib.Core.List.{List}
use Rattle.std.specs.Prelude.{Result, Ok, IsOk}
use native.Mathlib.Omega.{arith}
use native.Mathlib.Nat.{zero-add, suc-add}
use lib.ListN.{length, get_or, set, length-set}
use lib.Seq.{get_or-set_same, get_or-set_other}
use lib.Dec.{eqb}
use borrow.Author.Tests.{eqb-true, eqb-false}
use Rattle.steps.proofs.Choice.{pick_any}
use Rattle.byte_numbers.specs.Bytes.{u16_at}
use Rattle.segments.specs.declared.Cursor.{Cursor}
use Rattle.refusal.specs.declared.Refusal.{Refusal}
use Rattle.record.specs.declared.Header.{Header}
use Rattle.record.specs.declared.Header.TheVariants.{Record, Cut, End}
use Rattle.record.specs.Record.{header_at}
use Rattle.record.proofs.Laws.{whole}
use Rattle.segments.specs.Segments.{Got, got, refused, then, push, on, segment_of as segment_by, next_segment, need, enter, room, items}
use Rattle.segments.specs.Parts.{Inside, ends, moved}
use Rattle.segments.proofs.Local.{refused_not}
use Rattle.segments.proofs.Laws.{ends_push}
use Rattle.strings.specs.Table.{start_size, head, rest, string_at, next_place, strings, first, places_of, place_of}
use Rattle.strings.specs.Parts.{next_string}
use Rattle.strings.proofs.Laws.{first_inside, strings_inside, strings_left, skipped_ok, skipped_inside, placed_ok, placed}
use Rattle.string_marks.specs.declared.marks.Mark.{Mark}
use Rattle.string_marks.specs.declared.marks.MarkedTable.{MarkedTable}
use Rattle.string_marks.specs.declared.table.Table.{Table}
use Rattle.string_marks.specs.Marks.{end_at, EndsAt, Reaches, no_mark, before_at, link_at, segment_of, cursor_of, cursor_at, Marked, Kept, Passes, Tells}

-- ---- where a table was read to
ends_there : {A : Type 0} (x : Got A) (c : Cursor) → EndsAt x c → ends x ≡ got tt c
ends_there (got a d) c (i, (j, k)) = λ z. got tt (record { seg = i z; at = j z; end = k z })
ends_there (refused n o) c h = absurd h

there_ends : {A : Type 0} (x : Got A) (c : Cursor) → ends x ≡ got tt c → EndsAt x c
there_ends (got a d) c h = let e : ◌≡◌ {A = Cursor} d c = cc in (ap (λ (x : Cursor). x.seg) e, (ap (λ (x : Cursor). x.at) e, ap (λ (x : Cursor). x.end) e))
there_ends (refused n o) c h = absurd (refused_not h)

pub reaches : (s : List ℕ) (p n : ℕ) (c : Cursor) → Reaches s p n c → ends (strings s n (first p (end_at s p))) ≡ got tt c
unfolding Reaches
reaches s p n c h = ends_there (strings s n (first p (end_at s p))) c h

pub reached : (s : List ℕ) (p n : ℕ) (c : Cursor) → ends (strings s n (first p (end_at s p))) ≡ got tt c → Reaches s p n c
unfolding Reaches
reached s p n c h = there_ends (strings s n (first p (end_at s p))) c h

-- ---- a strings that end at d, and b more
module _ (s : List ℕ) (b : ℕ) (d : Cursor) where
  add_string : (a : ℕ) (f : Cursor) (x : Got (List ℕ)) → ((e : Cursor) → ends (strings s a e) ≡ got tt d → ends (strings s (a + b) e) ≡ ends (strings s b d))
      → ends (then x (λ _ e. push f (strings s a e))) ≡ got tt d → ends (then x (λ _ e. push f (strings s (a + b) e))) ≡ ends (strings s b d)
  add_string a f (got us e) ih h = ends_push f (strings s (a + b) e) ∙ ih e (sym (ends_push f (strings s a e)) ∙ h)
  add_string a f (refused m o) ih h = absurd (refused_not h)

  add_place : (a : ℕ) (x : Got Unit) → ((e : Cursor) → ends (strings s a e) ≡ got tt d → ends (strings s (a + b) e) ≡ ends (strings s b d))
      → ends (then x (λ _ f. then (string_at s f) (λ _ e. push f (strings s a e)))) ≡ got tt d → ends (then x (λ _ f. then (string_at s f) (λ _ e. push f (strings s (a + b) e)))) ≡ ends (strings s b d)
  add_place a (got u f) ih h = add_string a f (string_at s f) ih h
  add_place a (refused m o) ih h = absurd (refused_not h)

  pub strings_add : (a : ℕ) (c : Cursor) → ends (strings s a c) ≡ got tt d → ends (strings s (a + b) c) ≡ ends (strings s b d)
  unfolding strings
  strings_add zero c h =
      let i : ◌≡◌ {A = Cursor} c d = cc in
      ap (λ (n : ℕ). ends (strings s n c)) (zero-add b) ∙ ap (λ (x : Cursor). ends (strings s b x)) i
  strings_add (suc a) c h = ap (λ (n : ℕ). ends (strings s n c)) (suc-add a b) ∙ add_place a (next_place s c) (λ e i. strings_add a e i) h

-- ---- past strings, one after the other
pub pass_none : (s : List ℕ) (c : Cursor) → ends (strings s 0 c) ≡ got tt c
unfolding strings
pass_none s c = refl

pub pass_on : (s : List ℕ) (done : ℕ) (c d e : Cursor) (m : Result Cursor Refusal) → ends (strings s done c) ≡ got tt d → moved m ≡ ends (next_string s d) → m ≡ Ok e → ends (strings s (done + 1) c) ≡ got tt e
pass_on s done c d e m h is q =
    strings_add s 1 d done c h
    ∙ strings_left s 1 0 d (omega arith)
    ∙ ap (λ (x : Got Unit). then x (λ _ g. ends (strings s 0 g))) (sym is ∙ ap moved q)
    ∙ pass_none s e

-- ---- past a CONTINUE
module _ (s : List ℕ) (p k z e : ℕ) (h : Header) (is : h ≡ header_at s p) (q : h ≡ Record k z e) where
  pub end_within : e ≤ length s
  end_within = (whole s p k z e (sym is ∙ q)).within

  pub end_later : (f : ℕ) → f ≤ p → f ≤ e
  end_later f l = let w = whole s p k z e (sym is ∙ q) in omega arith

  pub end_less : length s - e < length s - p
  end_less = let w = whole s p k z e (sym is ∙ q) in omega arith

-- ---- a segment's header stands before what is read in it, and tells where it ends; none is longer than a record where the first is not
module _ (s : List ℕ) (Near : Type 0) where
  pub record In (c : Cursor) : Type 0 where
    pub low : c.seg + 4 ≤ c.at
    pub till : c.end ≡ end_at s c.seg
    pub short : Near → c.end < c.seg + 65540

  abbrev Low : {A : Type 0} → Got A → Type 0
  Low (got a c) = In c
  Low (refused n o) = Unit {0}

  low_then : {A B : Type 0} (x : Got A) (k : A → Cursor → Got B) → Low x → ((a : A) (c : Cursor) → In c → Low (k a c)) → Low (then x k)
  low_then (got a c) k h f = f a c h
  low_then (refused n o) k h f = tt

  low_push : {A : Type 0} (x : A) (y : Got (List A)) → Low y → Low (push x y)
  low_push x (got l c) h = h
  low_push x (refused n o) h = tt

  low_ends : {A : Type 0} (x : Got A) → Low x → Low (ends x)
  low_ends (got a c) h = h
  low_ends (refused n o) h = tt

  low_on : (c : Cursor) (k : ℕ) → In c → In (on c k)
  low_on c k h = record { low = let l = h.low in omega arith; till = h.till; short = h.short }

  module _ (n : ℕ) where
    low_need : (w : ℕ) (c : Cursor) → In c → Low (need n w c)
    unfolding need
    low_need w c h = pick_any Low _ tt h

    low_next : (c : Cursor) → Low (next_segment n s c)
    unfolding next_segment
    low_next c = pick_any Low _ (by (header_at s c.end) refl) tt
      where
        by : (h : Header) → header_at s c.end ≡ h → Low (segment_by n c.end h)
        by (Record k z e) i = let h = whole s c.end k z e i in pick_any Low _ tt (record { low = omega arith; till = h.end ∙ ap (λ (x : ℕ). c.end + 4 + x) h.size; short = λ _. omega arith })
        by Cut i = tt
        by End i = tt

    low_enter : (f : Bool) (w : ℕ) (c : Cursor) → In c → Low (enter n s f w c)
    low_enter true w c h = low_need _ (on c 1) (low_on c 1 h)
    low_enter false w c h = low_need w c h

    low_items : (f : Bool) (w k : ℕ) (c : Cursor) → In c → Low (items n s f w k c)
    unfolding items room
    low_items f w zero c h = h
    low_items f w (suc k) c h =
        low_then (room n s f w c) _ (pick_any Low _ (low_then (next_segment n s c) _ (low_next c) (λ _ d i. low_enter f w d i)) (low_need w c h))
        (λ v d i. low_push _ (items n s f v k (on d v)) (low_items f v k (on d v) (low_on d v i)))

  low_string : (d : Cursor) → In d → Low (string_at s d)
  unfolding string_at head rest
  low_string d h =
      low_then (head s d) _
      (low_then (need 8 3 d) _ (low_need 8 3 d h) (λ _ c i. low_then (need 8 (start_size s c.at) c) _ (low_need 8 _ c i) (λ _ e j. low_on e _ j)))
      (λ a c i. low_then (items 8 s true a.width a.chars c) _ (low_items 8 true a.width a.chars c i)
      (λ us e j. low_then (rest s a e) _ (low_then (items 8 s false 4 a.runs e) _ (low_items 8 false 4 a.runs e j) (λ _ g k. low_items 8 false 1 a.phonetic g k)) (λ _ g k. k)))

  low_strings : (n : ℕ) (c : Cursor) → In c → Low (strings s n c)
  unfolding strings next_place
  low_strings zero c h = h
  low_strings (suc n) c h =
      low_then (next_place s c) _ (pick_any Low _ (low_next 8 c) h)
      (λ _ d i. low_then (string_at s d) _ (low_string d i) (λ _ e j. low_push d (strings s n e) (low_strings n e j)))

  -- the place after n strings of a table
  pub low_after : (p e n : ℕ) (c : Cursor) → e ≡ end_at s p → (Near → e < p + 65540) → ends (strings s n (first p e)) ≡ got tt c → In c
  low_after p e n c t k h = subst Low h (low_ends (strings s n (first p e)) (low_strings n (first p e) (record { low = omega arith; till = t; short = k })))

-- ---- a mark's cursor
pub cursor_made : (s : List ℕ) (x : Mark) (a f g d : ℕ) → d ≡ x.into → a ≡ x.at - (d + 4) → f ≡ g → g ≡ u16_at s (a + 2) → record { seg = a; at = x.at; end = a + 4 + f } ≡ cursor_of s x
unfolding cursor_of
cursor_made s x a f g d y o h k =
    let i : a ≡ segment_of x = o ∙ ap (λ (n : ℕ). x.at - (n + 4)) y in
    let z : a + 4 + f ≡ end_at s (segment_of x) = ap (λ (v : ℕ). a + 4 + v) (h ∙ k) ∙ ap (end_at s) i in
    λ w. record { seg = i w; at = x.at; end = z w }

told_cursor : (s : List ℕ) (n : ℕ) (c : Cursor) (x : Mark) → Tells n c x → c.end ≡ end_at s c.seg → cursor_of s x ≡ c
unfolding cursor_of
told_cursor s n c x t e = let i = t.seg in let j = t.at in let k = ap (end_at s) i ∙ sym e in λ z. record { seg = i z; at = j z; end = k z }

-- ---- the marks of a table
-- the first j marks stand, and so many strings were passed
pub record Standing (s : List ℕ) (p : ℕ) (m : List Mark) (j k : ℕ) : Type 0 where
  pub before_none : j ≡ 0 → k ≡ 0
  pub first_none : 0 < j → before_at m 0 ≡ 0
  pub each : (l : ℕ) → l < j → Reaches s p (before_at m l) (cursor_at s m l)

pub standing_none : (s : List ℕ) (p : ℕ) (m : List Mark) → Standing s p m 0 0
standing_none s p m = record { before_none = λ _. refl; first_none = λ h. absurd (omega arith); each = λ l h. absurd (omega arith) }

-- a table of n strings, at least one
pub record Whole (s : List ℕ) (p n : ℕ) : Type 0 where
  pub within : end_at s p ≤ length s
  pub counted : length (places_of s p (end_at s p)) ≡ n
  pub some : 0 < n

pub whole_table : (t : Table) → 0 < t.count → Whole t.stream.now t.place t.count
whole_table t some = let later : 0 < t.place = later' in record { within = t.within some; counted = t.counted later; some = some }
  where
    later' : 0 < t.place
    later' = by (eqb t.place 0) refl
      where
        by : (b : Bool) → eqb t.place 0 ≡ b → 0 < t.place
        by true e = absurd (let z = t.absent (eqb-true t.place 0 e) in omega arith)
        by false e = let z = eqb-false t.place 0 e in omega arith

module _ (s : List ℕ) (p n : ℕ) (whole : Whole s p n) where
  there : (i : ℕ) → i < n → i < length (places_of s p (end_at s p))
  there i h = let c = whole.counted in omega arith

  low : p + 4 ≤ end_at s p
  low = omega arith

  start_inside : Inside s (first p (end_at s p))
  start_inside = first_inside s p (end_at s p) 0 (there 0 whole.some) low whole.within

  pub start_low : p + 12 ≤ end_at s p
  start_low = let i = start_inside in i.0

  pub start_passed : (e last : ℕ) → e ≡ end_at s p → Passes s p n (record { count = 0; place = record { seg = p; at = p + 12; end = e }; last = last })
  start_passed e last is = record { few = omega arith; here = reached s p 0 _ (pass_none s _ ∙ ap (λ (x : ℕ). got tt (record { seg = p; at = p + 12; end = x })) (sym is)) }

  module _ (k : ℕ) (c : Cursor) (h : Reaches s p k c) where
    pub passed_inside : Inside s c
    passed_inside = strings_inside s k (first p (end_at s p)) c (Ok c) (sym (reaches s p k c h)) refl start_inside

    passed_in : In s (end_at s p < p + 65540) c
    passed_in = low_after s (end_at s p < p + 65540) p (end_at s p) k c refl (λ n. n) (reaches s p k c h)

    pub passed_low : c.seg + 4 ≤ c.at
    passed_low = passed_in.low

    pub passed_short : end_at s p < p + 65540 → c.at < c.seg + 65540
    passed_short near = let a = passed_in.short near in let b = passed_inside.0 in omega arith

    pub passed_small : length s ≤ 16777216 → c.at < 4294967296
    passed_small h = let b = passed_inside in let d = b.0 in let i = b.1 in omega arith

    pub passed_on : (e : Cursor) (m : Result Cursor Refusal) → moved m ≡ ends (next_string s c) → m ≡ Ok e → Reaches s p (k + 1) e
    passed_on e m is q = reached s p (k + 1) e (pass_on s k (first p (end_at s p)) c e m (reaches s p k c h) is q)

    told_here : (x : Mark) → Tells k c x → Reaches s p x.before (cursor_of s x)
    told_here x t = subst⁻¹ (λ (d : Cursor). Reaches s p x.before d) (told_cursor s k c x t passed_in.till) (subst⁻¹ (λ (n : ℕ). Reaches s p n c) t.before h)

  pub standing_on : (m : List Mark) (j k i : ℕ) (c : Cursor) (x : Mark) → Standing s p m j k → Reaches s p k c → Tells k c x → j < length m → Standing s p (set m j x) (j + 1) i
  standing_on m j k i c x f h t room = record { before_none = λ e. absurd (omega arith); first_none = λ _. none (eqb j 0) refl; each = λ l o. by l o (eqb l j) refl }
    where
      here : get_or (set m j x) j no_mark ≡ x
      here = get_or-set_same m j x no_mark room

      none : (b : Bool) → eqb j 0 ≡ b → before_at (set m j x) 0 ≡ 0
      none true q =
          let i = eqb-true j 0 q in
          ap (before_at (set m j x)) (sym i) ∙ ap (λ (y : Mark). y.before) here ∙ t.before ∙ f.before_none i
      none false q = let i = eqb-false j 0 q in ap (λ (y : Mark). y.before) (get_or-set_other m j 0 x no_mark (λ e. i (sym e))) ∙ f.first_none (omega arith)

      by : (l : ℕ) → l < j + 1 → (b : Bool) → eqb l j ≡ b → Reaches s p (before_at (set m j x) l) (cursor_at s (set m j x) l)
      by l d true q =
          let i = eqb-true l j q in
          subst⁻¹ (λ (o : ℕ). Reaches s p (before_at (set m j x) o) (cursor_at s (set m j x) o)) i (subst⁻¹ (λ (y : Mark). Reaches s p y.before (cursor_of s y)) here (told_here k c h x t))
      by l d false q =
          let o = eqb-false l j q in
          subst⁻¹ (λ (y : Mark). Reaches s p y.before (cursor_of s y)) (get_or-set_other m j l x no_mark o) (f.each l (omega arith))

  pub standing_all : (m : List Mark) (j k : ℕ) → Standing s p m j k → 0 < length m → length m ≤ j → Marked s p m
  standing_all m j k f h l = record { some = h; none_before = f.first_none (omega arith); each = λ i o. f.each i (omega arith) }

-- ---- from a mark before it on
module _ (x : MarkedTable) (i j : ℕ) (l : i < x.table.count) (room : j < length x.marks.now) where
  whole_there : Whole x.table.stream.now x.table.place x.table.count
  whole_there = whole_table x.table (omega arith)

  stands : Reaches x.table.stream.now x.table.place (before_at x.marks.now j) (cursor_at x.table.stream.now x.marks.now j)
  stands = x.each whole_there.some j room

  pub mark_low : segment_of (get_or x.marks.now j no_mark) + 4 ≤ length x.table.stream.now
  unfolding cursor_of
  mark_low =
      let a = passed_low _ _ _ whole_there _ _ stands in
      let h = passed_inside _ _ _ whole_there _ _ stands in
      let b = h.0 in
      let d = h.1 in
      omega arith

  module _ (c : Cursor) (c-is : c ≡ cursor_at x.table.stream.now x.marks.now j) where
    stands_there : Reaches x.table.stream.now x.table.place (before_at x.marks.now j) c
    stands_there = subst⁻¹ (Reaches x.table.stream.now x.table.place (before_at x.marks.now j)) c-is stands

    pub mark_inside : Inside x.table.stream.now c
    mark_inside = passed_inside _ _ _ whole_there _ _ stands_there

    module _ (few : before_at x.marks.now j ≤ i) (r : Result Cursor Refusal) (r-is : moved r ≡ ends (strings x.table.stream.now (i - before_at x.marks.now j) c)) where
      mark_passed : moved r ≡ ends (strings x.table.stream.now i (first x.table.place (end_at x.table.stream.now x.table.place)))
      mark_passed =
          let parts : before_at x.marks.now j + (i - before_at x.marks.now j) ≡ i = omega arith in
          r-is
          ∙ sym (strings_add x.table.stream.now (i - before_at x.marks.now j) c (before_at x.marks.now j) (first x.table.place (end_at x.table.stream.now x.table.place)) (reaches _ _ _ _ stands_there))
          ∙ ap (λ (n : ℕ). ends (strings x.table.stream.now n (first x.table.place (end_at x.table.stream.now x.table.place)))) parts

      pub mark_ok : IsOk r
      mark_ok = skipped_ok _ _ _ i (there _ _ _ whole_there i l) (low _ _ _ whole_there) whole_there.within r mark_passed

      module _ (a : Cursor) (q : r ≡ Ok a) where
        pub mark_on : Inside x.table.stream.now a
        mark_on = skipped_inside _ _ _ i (there _ _ _ whole_there i l) (low _ _ _ whole_there) whole_there.within r mark_passed a q

        module _ (z : Result Cursor Refusal) (z-is : moved z ≡ next_place x.table.stream.now a) where
          pub place_ok : IsOk z
          place_ok = placed_ok _ _ _ i (there _ _ _ whole_there i l) (low _ _ _ whole_there) whole_there.within r mark_passed a q z z-is

          pub place_there : (d : Cursor) → z ≡ Ok d → d ≡ place_of x.table.stream.now x.table.place (end_at x.table.stream.now x.table.place) i
          place_there d o = placed _ _ _ i (there _ _ _ whole_there i l) (low _ _ _ whole_there) whole_there.within r mark_passed a q z z-is d o

-- ---- a link set
module _ (m : List Mark) (j k : ℕ) (room : j < length m) where
  abbrev pub linked : List Mark
  linked = set m j (record (get_or m j no_mark) { link = k })

  same_mark : {A : Type 0} (f : Mark → A) → f (record (get_or m j no_mark) { link = k }) ≡ f (get_or m j no_mark) → (l : ℕ) → f (get_or linked l no_mark) ≡ f (get_or m l no_mark)
  same_mark f h l = by (eqb l j) refl
    where
      by : (b : Bool) → eqb l j ≡ b → f (get_or linked l no_mark) ≡ f (get_or m l no_mark)
      by true q = let i = eqb-true l j q in ap (λ (o : ℕ). f (get_or linked o no_mark)) i ∙ ap f (get_or-set_same m j _ no_mark room) ∙ h ∙ ap (λ (o : ℕ). f (get_or m o no_mark)) (sym i)
      by false q = let o = eqb-false l j q in ap f (get_or-set_other m j l _ no_mark o)

  pub linked_kept : Kept m linked
  unfolding cursor_of
  linked_kept = record { size = length-set m j _; before = same_mark (λ x. x.before) refl; cursor = λ s. same_mark (cursor_of s) refl }

  pub linked_here : link_at linked j ≡ k
  linked_here = ap (λ (x : Mark). x.link) (get_or-set_same m j _ no_mark room)

  pub linked_other : (l : ℕ) → (l ≡ j → ⊥) → link_at linked l ≡ link_at m l
  linked_other l h = ap (λ (x : Mark). x.link) (get_or-set_other m j l _ no_mark h)
