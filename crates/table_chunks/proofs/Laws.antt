-- Chunk by chunk. Assumes nothing.
use Prim.Native.Nat.{ℕ, zero, suc, ◌+◌, ◌-◌, ◌*◌, ◌/◌, ◌≤◌, ◌<◌}
use mathlib.Core.Path.{◌≡◌, refl, sym, ap, ap₂, ◌∙◌, subst}
use mathlib.Core.List.{List, [], ◌++◌, append_assoc}
use mathlib.Core.Bool.{Bool, true, false}
use Rattle.std.specs.Prelude.{Ok, min}
use native.Mathlib.Omega.{arith}
use native.Mathlib.Nat.{div-lt_iff_lt-mul}
use lib.ListN.{length}
use lib.Dec.{ltb}
use borrow.Author.Tests.{ltb-false, ltb-true}
use Rattle.steps.specs.Choice.{pick}
use Rattle.segments.specs.declared.Cursor.{Cursor}
use Rattle.segments.specs.Segments.{Got, got, refused}
use Rattle.segments.specs.Parts.{Inside, ends, Passes}
use Rattle.segments.proofs.Local.{refused_not}
use Rattle.strings.specs.Table.{strings}
use Rattle.strings.proofs.Laws.{strings_inside}
use Rattle.table_texts.specs.Texts.{Text, the_text, kept}
use Rattle.table_texts.specs.Written.{Piece, pieces_of}
use Rattle.table_writer.specs.declared.writer.Out.{Out}
use Rattle.table_writer.specs.Writing.{Wrote, state, wrote, Long, texts_from, next_text, marked_pieces}
use Rattle.table_writer.proofs.Parts.{wrote_append, long_left, long_right}
use Rattle.table_writer.proofs.Many.{kept_pieces, next_by, wrote_length}
use Rattle.table_size.specs.declared.span.Span.{Span}
use Rattle.table_size.specs.Sizing.{sized, Counted}
use Rattle.table_size.proofs.Counting.{counted_by}
use Rattle.table_size.proofs.Laws.{sized_append}
use Rattle.new_stream.specs.Entries.{entries_of}
use Rattle.new_stream.specs.Compact.{texts_in, uses, used_below}
use Rattle.new_table.specs.NewTable.{marks_from}
use Rattle.flags.specs.Flags.{flag_at, flags_from, set_below}
use Rattle.flags.proofs.Laws.{set_most}
use Rattle.used_strings.specs.Marked.{Flagged}
use Rattle.used_strings.proofs.Marks.{flagged_length, flagged_marks, used_low, used_from}
use Rattle.table_chunks.specs.Chosen.{chosen}

-- ---- flags as they come from `mark`
module _ (s : List ℕ) (base n : ℕ) (l : List ℕ) (made : Flagged (texts_in s (entries_of s)) base n l) (k : ℕ) (few : k ≤ n * 64) where
  pub flags_few : k ≤ length l * 64
  flags_few = let e = made.size in omega arith

  chosen_is : (c : Cursor) → kept (flags_from l 0 k) (texts_from s k c) ≡ chosen s base k c
  chosen_is c = ap (λ (x : List ℕ). kept x (texts_from s k c)) (flagged_marks (texts_in s (entries_of s)) base n l made k few)

  pub flags_sized : (c : Cursor) (g x : Span) → x ≡ sized g (pieces_of (kept (flags_from l 0 k) (texts_from s k c))) → x ≡ sized g (pieces_of (chosen s base k c))
  flags_sized c g x h = h ∙ ap (λ (y : List Text). sized g (pieces_of y)) (chosen_is c)

  pub flags_long : (c : Cursor) (w : Wrote) → Long w (pieces_of (chosen s base k c)) → Long w (pieces_of (kept (flags_from l 0 k) (texts_from s k c)))
  flags_long c w h = subst (λ (y : List Text). Long w (pieces_of y)) (sym (chosen_is c)) h

  pub flags_wrote : (c : Cursor) (w x : Wrote) → x ≡ wrote w (pieces_of (kept (flags_from l 0 k) (texts_from s k c))) → x ≡ wrote w (pieces_of (chosen s base k c))
  flags_wrote c w x h = h ∙ ap (λ (y : List Text). wrote w (pieces_of y)) (chosen_is c)

pub ruleset chunk_laws = (flags_few, flags_sized, flags_long, flags_wrote, flagged_length)

-- ---- a count of flags
set_suc : (l : List ℕ) (i : ℕ) → set_below l (suc i) ≡ flag_at l i + set_below l i
unfolding set_below
set_suc l i = refl

pub record Tallied (l : List ℕ) (n i r : ℕ) : Type 0 where
  pub words : n ≤ length l * 64
  pub small : n < 18446744073709551616
  pub within : i ≤ n
  pub rank : r ≡ set_below l i

pub tally_start : (l : List ℕ) (n : ℕ) → n ≤ length l * 64 → n < 18446744073709551616 → Tallied l n 0 0
unfolding set_below
tally_start l n a b = record { words = a; small = b; within = omega arith; rank = refl }

module _ (l : List ℕ) (n i r : ℕ) (g : Tallied l n i r) where
  pub tally_word : i < n → i / 64 < length l
  tally_word h = let a = g.words in (div-lt_iff_lt-mul pos).1 (omega arith)
    where
      pos : 0 < 64
      pos = omega arith

  pub tally_add : (x : ℕ) → i < n → x ≡ flag_at l i → r + x < 18446744073709551616
  tally_add x h e = let a = g.rank in let b = set_most l (suc i) in let c = g.small in let f = set_step in omega arith
    where
      set_step : set_below l (suc i) ≡ flag_at l i + set_below l i
      set_step = set_suc l i

  pub tally_flag : (x : ℕ) → i < n → x ≡ flag_at l i → x < 18446744073709551616
  tally_flag x h e = let a = tally_add x h e in omega arith

  pub tally_next : (x : ℕ) → i < n → x ≡ flag_at l i → Tallied l n (i + 1) (r + x)
  tally_next x h e = record {
    words = g.words;
    small = g.small;
    within = omega arith;
    rank = let a = g.rank in let b = set_suc l i in let z : i + 1 ≡ suc i = omega arith in (let y : r + x ≡ set_below l (suc i) = omega arith in y) ∙ ap (set_below l) (sym z);
  }

  pub tally_done : n ≤ i → r ≡ set_below l n
  tally_done h = let a = g.within in let z : i ≡ n = omega arith in g.rank ∙ ap (set_below l) z

pub ruleset tally_laws = (tally_start, tally_word, tally_add, tally_flag, tally_next, tally_done)

-- ---- k strings from c on, which end at d, then m others: n together, of which the first has the index base, and the one after the k the index j
passes_by : {A B : Type 0} (x : Got A) (y : Got B) → ends x ≡ ends y → Passes y → Passes x
passes_by (got v c) y e h = tt
passes_by (refused n o) (got v c) e h = absurd (refused_not e)
passes_by (refused n o) (refused a b) e h = h

chosen_next : (s : List ℕ) (base n : ℕ) (c g : Cursor) → got tt g ≡ ends (next_text s c) → Passes (strings s (suc n) c)
    → pieces_of (chosen s base (suc n) c) ≡ marked_pieces (pick (uses (texts_in s (entries_of s)) base) 1 0) (the_text (next_text s c)) ++ pieces_of (chosen s (base + 1) n g)
unfolding kept marks_from
chosen_next s base n c g to p =
    ap (λ (ts : List Text). pieces_of (kept (marks_from (texts_in s (entries_of s)) base (suc n)) ts)) ((next_by s n c).texts g to p)
    ∙ kept_pieces (pick (uses (texts_in s (entries_of s)) base) 1 0) (the_text (next_text s c)) (chosen s (base + 1) n g)

record Two (s : List ℕ) (k m : ℕ) (d : Cursor) (base j n : ℕ) (c : Cursor) : Type 0 where
  pub passes : Passes (strings s m d)
  pub pieces : pieces_of (chosen s base n c) ≡ pieces_of (chosen s base k c) ++ pieces_of (chosen s j m d)

abbrev TwoFrom : List ℕ → ℕ → ℕ → Cursor → Type 0
TwoFrom s k m d = (base j n : ℕ) (c : Cursor) → j ≡ base + k → n ≡ k + m → Passes (strings s n c) → got tt d ≡ ends (strings s k c) → Two s k m d base j n c

two_next : (s : List ℕ) (k m : ℕ) (d : Cursor) → TwoFrom s k m d → TwoFrom s (suc k) m d
two_next s k m d ih base j n c at all p to =
    let next : j ≡ base + 1 + k = omega arith in
    let more : n ≡ suc (k + m) = omega arith in
    let q = subst (λ (i : ℕ). Passes (strings s i c)) more p in
    by next more q (next_text s c) refl ((next_by s (k + m) c).first_passes q)
  where
    by : j ≡ base + 1 + k → n ≡ suc (k + m) → Passes (strings s (suc (k + m)) c) → (x : Got Text) → next_text s c ≡ x → Passes x → Two s (suc k) m d base j n c
    by next more q (refused a b) e t = absurd t
    by next more q (got x g) e t =
        let on : got tt g ≡ ends (next_text s c) = ap ends (sym e) in
        let first = marked_pieces (pick (uses (texts_in s (entries_of s)) base) 1 0) (the_text (next_text s c)) in
        let r = ih (base + 1) j (k + m) g next refl ((next_by s (k + m) c).others g on q) (to ∙ (next_by s k c).same_ends g on) in
        record {
          passes = r.passes;
          pieces =
              ap (λ (i : ℕ). pieces_of (chosen s base i c)) more ∙ chosen_next s base (k + m) c g on q ∙ ap (λ (l : List Piece). first ++ l) r.pieces
              ∙ sym (append_assoc first (pieces_of (chosen s (base + 1) k g)) (pieces_of (chosen s j m d)))
              ∙ ap (λ (l : List Piece). l ++ pieces_of (chosen s j m d)) (sym (chosen_next s base k c g on (passes_by (strings s (suc k) c) (got (tt {0}) d) (sym to) (tt {0}))));
        }

two : (s : List ℕ) (k m : ℕ) (d : Cursor) → TwoFrom s k m d
unfolding strings marks_from kept pieces_of
two s zero m d base j n c at all p to =
    let i : ◌≡◌ {A = Cursor} c d = cc in
    let x : n ≡ m = omega arith in
    let y : base ≡ j = omega arith in
    record {
      passes = subst (λ (e : Cursor). Passes (strings s m e)) i (subst (λ (h : ℕ). Passes (strings s h c)) x p);
      pieces = ap₂ (λ (h : ℕ) (e : Cursor). pieces_of (chosen s base h e)) x i ∙ ap (λ (h : ℕ). pieces_of (chosen s h m d)) y;
    }
two s (suc k) m d base j n c at all p to = two_next s k m d (two s k m d) base j n c at all p to

-- the first k pass where all do
pass_next : (s : List ℕ) (k n : ℕ) → ((c : Cursor) → Passes (strings s n c) → Passes (strings s k c)) → (c : Cursor) → Passes (strings s (suc n) c) → Passes (strings s (suc k) c)
pass_next s k n ih c p = by (next_text s c) refl ((next_by s n c).first_passes p)
  where
    by : (x : Got Text) → next_text s c ≡ x → Passes x → Passes (strings s (suc k) c)
    by (got t g) q h =
        let on : got tt g ≡ ends (next_text s c) = ap ends (sym q) in
        passes_by (strings s (suc k) c) (strings s k g) ((next_by s k c).same_ends g on) (ih g ((next_by s n c).others g on p))
    by (refused a b) q h = absurd h

first_pass : (s : List ℕ) (k n : ℕ) → k ≤ n → (c : Cursor) → Passes (strings s n c) → Passes (strings s k c)
unfolding strings
first_pass s zero n h c p = tt
first_pass s (suc k) zero h c p = absurd (omega arith)
first_pass s (suc k) (suc n) h c p = pass_next s k n (first_pass s k n (omega arith)) c p

pub fit_words : (l l₀ : List ℕ) (k : ℕ) → length l ≡ length l₀ → k ≤ length l₀ * 64 → k ≤ length l * 64
fit_words l l₀ k e h = omega arith

pub same_words : (l l₀ l₁ : List ℕ) → length l ≡ length l₁ → length l₁ ≡ length l₀ → length l ≡ length l₀
same_words l l₀ l₁ e f = e ∙ f

pub ruleset word_laws = (fit_words, same_words)

-- ---- the strings from index base on, up to u, which stand at c; none where base is past u
pub record Ahead (s : List ℕ) (u base : ℕ) (c : Cursor) : Type 0 where
  pub inside : Inside s c
  pub passes : Passes (strings s (u - base) c)

abbrev ahead : List ℕ → ℕ → ℕ → Cursor → List Piece
ahead s u base c = pieces_of (chosen s base (u - base) c)

pub ahead_start : (s : List ℕ) (u : ℕ) (c : Cursor) → Inside s c → Passes (strings s u c) → Ahead s u 0 c
ahead_start s u c i p = let e : u ≡ u - 0 = omega arith in record { inside = i; passes = subst (λ (j : ℕ). Passes (strings s j c)) e p }

all_ahead : (s : List ℕ) (u : ℕ) (c : Cursor) → ahead s u 0 c ≡ pieces_of (chosen s 0 u c)
all_ahead s u c = let e : u - 0 ≡ u = omega arith in ap (λ (j : ℕ). pieces_of (chosen s 0 j c)) e

none_ahead : (s : List ℕ) (u base : ℕ) (c : Cursor) → u ≤ base → ahead s u base c ≡ []
unfolding marks_from kept pieces_of
none_ahead s u base c h = let e : u - base ≡ 0 = omega arith in ap (λ (j : ℕ). pieces_of (chosen s base j c)) e

module _ (s : List ℕ) (u base : ℕ) (c : Cursor) (z : Ahead s u base c) where
  pub ahead_inside : Inside s c
  ahead_inside = z.inside

  -- a chunk of n of them, the last one shorter
  module _ (n k : ℕ) (k-is : k ≡ min n (u - base)) where
    pub ahead_pass : Passes (strings s k c)
    ahead_pass = first_pass s k (u - base) (omega arith) c z.passes

    pub ahead_few : u < 4294967296 → k < 4294967296
    ahead_few h = omega arith

    module _ (less : base < u) (d : Cursor) (to : got tt d ≡ ends (strings s k c)) where
      rest_of : Two s k (u - (base + k)) d base (base + k) (u - base) c
      rest_of = two s k (u - (base + k)) d base (base + k) (u - base) c refl (omega arith) z.passes to

      same_left : u - (base + k) ≡ u - (base + n)
      same_left = omega arith

      pub ahead_next : Ahead s u (base + n) d
      ahead_next = record { inside = strings_inside s k c d (Ok d) to refl z.inside; passes = subst (λ (m : ℕ). Passes (strings s m d)) same_left rest_of.passes }

      same_rest : ahead s u (base + k) d ≡ ahead s u (base + n) d
      same_rest = by (ltb (u - base) n) refl
        where
          by : (b : Bool) → ltb (u - base) n ≡ b → ahead s u (base + k) d ≡ ahead s u (base + n) d
          by true e = let l = ltb-true (u - base) n e in none_ahead s u (base + k) d (omega arith) ∙ sym (none_ahead s u (base + n) d (omega arith))
          by false e = let l = ltb-false (u - base) n e in let m : k ≡ n = omega arith in ap (λ (j : ℕ). ahead s u (base + j) d) m

      rest_pieces_lem : ahead s u base c ≡ pieces_of (chosen s base k c) ++ ahead s u (base + n) d
      rest_pieces_lem = rest_of.pieces ∙ ap (λ (l : List Piece). pieces_of (chosen s base k c) ++ l) same_rest

pub ruleset ahead_laws = (ahead_start, ahead_inside, ahead_pass, ahead_few, ahead_next)

-- ---- counting
pub record Sizing (s : List ℕ) (u : ℕ) (c₀ : Cursor) (base count : ℕ) (c : Cursor) (g : Span) : Type 0 where
  pub tally : count ≡ used_below (texts_in s (entries_of s)) (min base u)
  pub same : sized g (ahead s u base c) ≡ sized (record { room = 8216; size = 12 }) (pieces_of (chosen s 0 u c₀))

pub sizing_start : (s : List ℕ) (u : ℕ) (c : Cursor) → Sizing s u c 0 0 c (record { room = 8216; size = 12 })
unfolding used_below
sizing_start s u c =
    let e : 0 ≡ min 0 u = omega arith in
    record { tally = ap (used_below (texts_in s (entries_of s))) e; same = ap (sized (record { room = 8216; size = 12 })) (all_ahead s u c) }

module _ (s : List ℕ) (u : ℕ) (c₀ : Cursor) (base count : ℕ) (c : Cursor) (g : Span) (z : Sizing s u c₀ base count c g) where
  module _ (less : base < u) where
    here : count ≡ used_below (texts_in s (entries_of s)) base
    here = let e : min base u ≡ base = omega arith in z.tally ∙ ap (used_below (texts_in s (entries_of s))) e

    pub sizing_small : (l : List ℕ) (k t : ℕ) → u < 4294967296 → k < 4294967296 → t ≡ set_below l k → count + t < 18446744073709551616
    sizing_small l k t f m h =
        let b = used_low (texts_in s (entries_of s)) base in
        let c = set_most l k in
        let d = here in
        omega arith

    pub sizing_next : Ahead s u base c → (n k : ℕ) → k ≡ min n (u - base) → (d : Cursor) (x : Span) (w : ℕ) (l : List ℕ) (t : ℕ) → got tt d ≡ ends (strings s k c) → x ≡ sized g (pieces_of (chosen s base k c)) → Flagged (texts_in s (entries_of s)) base w l → k ≤ w * 64 → t ≡ set_below l k
        → Sizing s u c₀ (base + n) (count + t) d x
    sizing_next a n k k-is d x w l t to is made fit tally =
        record {
          tally =
              let e = used_from (texts_in s (entries_of s)) base w l made k fit in
              let f : base + k ≡ min (base + n) u = omega arith in
              (let b = here in let y : count + t ≡ used_below (texts_in s (entries_of s)) (base + k) = omega arith in y) ∙ ap (used_below (texts_in s (entries_of s))) f;
          same =
              ap (λ (y : Span). sized y (ahead s u (base + n) d)) is
              ∙ sym (ap (sized g) (rest_pieces_lem s u base c a n k k-is less d to) ∙ sized_append (pieces_of (chosen s base k c)) (ahead s u (base + n) d) g) ∙ z.same;
        }

  module _ (last : u ≤ base) where
    pub sizing_tally : count ≡ used_below (texts_in s (entries_of s)) u
    sizing_tally = let e : min base u ≡ u = omega arith in z.tally ∙ ap (used_below (texts_in s (entries_of s))) e

    pub sizing_done : Counted (chosen s 0 u c₀) g.size
    unfolding sized
    sizing_done = counted_by (chosen s 0 u c₀) g (ap (sized g) (sym (none_ahead s u base c last)) ∙ z.same)

pub ruleset size_laws = (ahead_laws, sizing_start, sizing_small, sizing_next, sizing_tally, sizing_done, flagged_length)

-- ---- writing
pub record Putting (s : List ℕ) (u : ℕ) (c₀ : Cursor) (b₀ : List ℕ) (o₀ : Out) (base : ℕ) (c : Cursor) (b : List ℕ) (o : Out) : Type 0 where
  pub long : Long (state b o) (ahead s u base c)
  pub size : length b ≡ length b₀
  pub same : wrote (state b o) (ahead s u base c) ≡ wrote (state b₀ o₀) (pieces_of (chosen s 0 u c₀))

pub putting_start : (s : List ℕ) (u : ℕ) (c : Cursor) (b : List ℕ) (o : Out) → Long (state b o) (pieces_of (chosen s 0 u c)) → Putting s u c b o 0 c b o
putting_start s u c b o l = record { long = subst (Long (state b o)) (sym (all_ahead s u c)) l; size = refl; same = ap (wrote (state b o)) (all_ahead s u c) }

module _ (s : List ℕ) (u : ℕ) (c₀ : Cursor) (b₀ : List ℕ) (o₀ : Out) (base : ℕ) (c : Cursor) (b : List ℕ) (o : Out) (z : Putting s u c₀ b₀ o₀ base c b o) where
  pub putting_length : length b ≡ length b₀
  putting_length = z.size

  module _ (a : Ahead s u base c) (n k : ℕ) (k-is : k ≡ min n (u - base)) (less : base < u) where
    module _ (d : Cursor) (to : got tt d ≡ ends (strings s k c)) where
      both_long : Long (state b o) (pieces_of (chosen s base k c) ++ ahead s u (base + n) d)
      both_long = subst (Long (state b o)) (rest_pieces_lem s u base c a n k k-is less d to) z.long

      pub putting_next : (b' : List ℕ) (o' : Out) → state b' o' ≡ wrote (state b o) (pieces_of (chosen s base k c)) → Putting s u c₀ b₀ o₀ (base + n) d b' o'
      unfolding state
      putting_next b' o' is =
          let here = pieces_of (chosen s base k c) in
          let later = ahead s u (base + n) d in
          record {
            long = subst (λ (y : Wrote). Long y later) (sym is) (long_right here later (state b o) both_long);
            size = ap (λ (y : Wrote). length y.buf) is ∙ wrote_length here (state b o) ∙ z.size;
            same = ap (λ (y : Wrote). wrote y later) is ∙ sym (ap (wrote (state b o)) (rest_pieces_lem s u base c a n k k-is less d to) ∙ wrote_append here later (state b o)) ∙ z.same;
          }

    pub putting_long : Long (state b o) (pieces_of (chosen s base k c))
    putting_long = by (strings s k c) refl (ahead_pass s u base c a n k k-is)
      where
        by : (x : Got (List Cursor)) → strings s k c ≡ x → Passes x → Long (state b o) (pieces_of (chosen s base k c))
        by (got v d) q p = long_left (pieces_of (chosen s base k c)) (ahead s u (base + n) d) (state b o) (both_long d (ap ends (sym q)))
        by (refused n f) q p = absurd p

  pub putting_done : u ≤ base → state b o ≡ wrote (state b₀ o₀) (pieces_of (chosen s 0 u c₀))
  unfolding wrote
  putting_done h = ap (wrote (state b o)) (sym (none_ahead s u base c h)) ∙ z.same

pub ruleset put_laws = (ahead_laws, putting_start, putting_length, putting_long, putting_next, putting_done)
