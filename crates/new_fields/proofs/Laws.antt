-- The functions' laws. Assumes nothing.
use Prim.Native.Nat.{ℕ, ◌+◌, ◌-◌, ◌*◌, ◌/◌, ◌≤◌, ◌<◌}
use mathlib.Core.Path.{◌≡◌, refl, sym, ap, ◌∙◌}
use mathlib.Core.List.{List, ◌∷◌}
use native.Mathlib.Omega.{arith}
use native.Mathlib.Nat.{le_trans, mul-le-mul_right, div-mul-le_self, div-lt_iff_lt-mul}
use mathlib.Core.Bool.{Bool, true, false}
use lib.ListN.{length}
use lib.Seq.{sets, length-sets}
use lib.Dec.{leb, ltb}
use Rattle.std.specs.Prelude.{Option, Some, None}
use Rattle.steps.specs.Choice.{pick}
use Rattle.steps.proofs.Choice.{never, pick_any, pick_le, pick_nle, pick_lt, pick_nlt}
use Rattle.byte_numbers.specs.Bytes.{u32_at, bytes_of}
use Rattle.new_stream.specs.declared.Fate.{Fate}
use Rattle.new_stream.specs.declared.Fate.TheVariants.{Stays, Goes, Table, Text, Sheet}
use Rattle.new_stream.specs.declared.Entry.{Entry}
use Rattle.new_stream.specs.Entries.{size_for, entries_of}
use Rattle.new_places.specs.Parts.{text_index}
use Rattle.new_places.specs.Places.{place_for}
use Rattle.copied_records.specs.Copied.{Change}
use Rattle.copied_records.proofs.Editing.{Keeps, Editing, editing_start, editing_here, editing_room}
use Rattle.new_fields.specs.Edited.{text_change, sheet_change, Good, Roomy}
use Rattle.flags.specs.Flags.{set_below}
use Rattle.new_fields.specs.Ranks.{rank_in, index_among}

-- ---- one index
word_past : (j n : ℕ) → n ≤ j / 64 → n * 64 ≤ j
word_past j n h = le_trans (mul-le-mul_right 64 h) (div-mul-le_self j 64)

word_here : (j n : ℕ) → j / 64 < n → j < n * 64
word_here j n h = (div-lt_iff_lt-mul pos).0 h
  where
    pos : 0 < 64
    pos = omega arith

module _ (index : ℕ → ℕ) (base m i : ℕ) where
  pub among_before : i < base → None ≡ index_among index base m i
  unfolding index_among
  among_before h = pick_nle None _ _ base i h refl

  pub among_past : base + m ≤ i → None ≡ index_among index base m i
  unfolding index_among
  among_past h = pick_le None _ _ base i (omega arith) (pick_nlt None _ _ i (base + m) h refl)

  pub among_here : base ≤ i → i < base + m → Some (index i) ≡ index_among index base m i
  unfolding index_among
  among_here h k = pick_le (Some (index i)) _ _ base i h (pick_lt (Some (index i)) _ _ i (base + m) k refl)

module _ (flags : List ℕ) (start base i j : ℕ) (h : base ≤ i) (e : j ≡ i - base) where
  pub rank_past : length flags ≤ j / 64 → None ≡ index_among (rank_in flags start base) base (length flags * 64) i
  rank_past k = let a = word_past j (length flags) k in among_past (rank_in flags start base) base (length flags * 64) i (omega arith)

  pub rank_here : (r : ℕ) → j / 64 < length flags → r ≡ start + set_below flags j → Some r ≡ index_among (rank_in flags start base) base (length flags * 64) i
  unfolding rank_in
  rank_here r k g =
      let a = word_here j (length flags) k in
      ap Some (g ∙ ap (λ (y : ℕ). start + set_below flags y) e) ∙ among_here (rank_in flags start base) base (length flags * 64) i h (omega arith)

-- ---- one text cell
module _ (s : List ℕ) (index : ℕ → ℕ) (base m p z q : ℕ) (f : Fate) (o : List ℕ) {r : Option ℕ} (is : r ≡ text_index s p f) where
  pub text_none : r ≡ None → o ≡ text_change s index base m p z f o q
  text_none e = by f (sym is ∙ e)
    where
      by : (f : Fate) → text_index s p f ≡ None → o ≡ text_change s index base m p z f o q
      by Stays e = refl
      by Goes e = refl
      by Table e = refl
      by Text e = never (cc)
      by Sheet e = refl

  put : Option ℕ → List ℕ
  put None = o
  put (Some k) = sets o (q + 10) (bytes_of 4 k)

  put_pick : (a b : Bool) (k : ℕ) → put (pick a (pick b (Some k) None) None) ≡ pick a (pick b (sets o (q + 10) (bytes_of 4 k)) o) o
  unfolding put pick
  put_pick true true k = refl
  put_pick true false k = refl
  put_pick false b k = refl

  put_at : (i : ℕ) → r ≡ Some i → put (index_among index base m i) ≡ text_change s index base m p z f o q
  unfolding put index_among
  put_at i e = by f (sym is ∙ e)
    where
      by : (f : Fate) → text_index s p f ≡ Some i → put (index_among index base m i) ≡ text_change s index base m p z f o q
      by Stays e = never (cc)
      by Goes e = never (cc)
      by Table e = never (cc)
      by Sheet e = never (cc)
      by Text e = let j : i ≡ u32_at s (p + 10) = cc in ap (λ (v : ℕ). put (index_among index base m v)) j ∙ put_pick (leb base (u32_at s (p + 10))) (ltb (u32_at s (p + 10)) (base + m)) (index (u32_at s (p + 10)))

  module _ (i : ℕ) (e : r ≡ Some i) {k : Option ℕ} (among : k ≡ index_among index base m i) where
    pub index_none : k ≡ None → o ≡ text_change s index base m p z f o q
    unfolding put
    index_none g = ap put (sym g ∙ among) ∙ put_at i e

    pub index_some : (n : ℕ) (o' : List ℕ) → k ≡ Some n → o' ≡ sets o (q + 10) (bytes_of 4 n) → o' ≡ text_change s index base m p z f o q
    unfolding put
    index_some n o' g h = h ∙ ap put (sym g ∙ among) ∙ put_at i e

-- ---- the walks
pub text_keeps : (s : List ℕ) (index : ℕ → ℕ) (base m : ℕ) → Keeps (text_change s index base m)
text_keeps s index base m p z Stays o q = refl
text_keeps s index base m p z Goes o q = refl
text_keeps s index base m p z Table o q = refl
text_keeps s index base m p z Text o q = pick_any (λ (y : List ℕ). length y ≡ length o) _ (pick_any (λ (y : List ℕ). length y ≡ length o) _ (length-sets o (q + 10) (bytes_of 4 (index (u32_at s (p + 10))))) refl) refl
text_keeps s index base m p z Sheet o q = refl

sheet_keeps : (s : List ℕ) (place : ℕ → ℕ) → Keeps (sheet_change s place)
sheet_keeps s place p z Stays o q = refl
sheet_keeps s place p z Goes o q = refl
sheet_keeps s place p z Table o q = refl
sheet_keeps s place p z Text o q = refl
sheet_keeps s place p z Sheet o q = length-sets o (q + 4) (bytes_of 4 (place (u32_at s (p + 4))))

pub roomy_start : (s : List ℕ) (f : Change) (n : ℕ) (l : List Entry) (o : List ℕ) → l ≡ entries_of s → Keeps f → Roomy s n (length o) → Editing (Good s) f n (entries_of s) o l 0 o
roomy_start s f n l o i k h = editing_start (Good s) f n l (entries_of s) o i k h.good h.room

pub texts_start : (s flags : List ℕ) (start base n : ℕ) (l : List Entry) (o : List ℕ) → l ≡ entries_of s → Roomy s n (length o)
    → Editing (Good s) (text_change s (rank_in flags start base) base (length flags * 64)) n (entries_of s) o l 0 o
texts_start s flags start base n l o i h = roomy_start s _ n l o i (text_keeps s (rank_in flags start base) base (length flags * 64)) h

pub sheets_start : (s : List ℕ) (n : ℕ) (l : List Entry) (o : List ℕ) → l ≡ entries_of s → Roomy s n (length o) → Editing (Good s) (sheet_change s (place_for n (entries_of s))) n (entries_of s) o l 0 o
sheets_start s n l o i h = roomy_start s _ n l o i (sheet_keeps s (place_for n (entries_of s))) h

-- room for what an entry gets
module _ {s : List ℕ} {f : Change} {n : ℕ} {all : List Entry} {o₀ : List ℕ} {l : List Entry} {q : ℕ} {o : List ℕ} (g : Editing (Good s) f n all o₀ l q o) (short : length s ≤ 16777216) (x : Entry) (l' : List Entry) (i : l ≡ x ∷ l') where
  place_room : q + size_for n x.size x.fate ≤ length o
  place_room = editing_room g x l' i

  good_here : Good s x
  good_here = editing_here g x l' i

  pub place_low : x.at < 4294967200
  place_low = let a = good_here.lies in omega arith

  pub place_text : x.fate ≡ Text → q + 14 ≤ length o
  place_text e = let a = good_here.cell e in let b : q + x.size ≤ length o = rw e at place_room in omega arith

  pub place_sheet : x.fate ≡ Sheet → q + 8 ≤ length o
  place_sheet e = let a = good_here.sheet e in let b : q + x.size ≤ length o = rw e at place_room in omega arith

  pub place_table : x.fate ≡ Table → q + n ≤ length o
  place_table e = rw e at place_room

pub ruleset rank_laws = (among_before, rank_past, rank_here)

pub ruleset index_laws = (text_none, index_none, index_some)

pub ruleset place_laws = (place_low, place_text, place_sheet, place_table)

-- ---- one BOUNDSHEET
module _ (s : List ℕ) (n p z q : ℕ) (f : Fate) (o : List ℕ) where
  pub position_here : (i r : ℕ) (o' : List ℕ) → f ≡ Sheet → i ≡ u32_at s (p + 4) → r ≡ place_for n (entries_of s) i → o' ≡ sets o (q + 4) (bytes_of 4 r) → o' ≡ sheet_change s (place_for n (entries_of s)) p z f o q
  position_here i r o' e d g h = rw e (h ∙ ap (λ (m : ℕ). sets o (q + 4) (bytes_of 4 m)) (g ∙ ap (place_for n (entries_of s)) d))
