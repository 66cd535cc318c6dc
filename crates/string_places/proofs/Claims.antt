-- After filling, fetching through the table is plain fetching. Assumes nothing.
use Prim.Native.Nat.{ℕ, zero, suc, ◌+◌, ◌-◌, ◌*◌, ◌≤◌, ◌<◌}
use mathlib.Core.Path.{◌≡◌, refl, sym, ap, ◌∙◌, subst}
use mathlib.Core.List.{List, [], ◌∷◌, ◌++◌, map}
use mathlib.Core.Logic.{inl, inr}
use native.Mathlib.Omega.{arith}
use lib.ListN.{length, get_or, replicate, length-append, length-replicate, get_or-replicate}
use lib.Seq.{get_or-append-add}
use lib.Dec.{ltb}
use borrow.Author.Tests.{ltb-true, ltb-false}
use Rattle.steps.specs.Items.{nth}
use Rattle.steps.proofs.Choice.{never, pick_by, pick_true, pick_le, pick_lt, pick_nlt}
use Rattle.byte_numbers.specs.Bytes.{u16_at}
use Rattle.record.specs.declared.Header.TheVariants.{End}
use Rattle.record.specs.Record.{header_at}
use Rattle.segments.specs.declared.Cursor.{Cursor}
use Rattle.segments.specs.Segments.{Got, got, refused, list_of}
use Rattle.segments.specs.Parts.{Passes}
use Rattle.std.specs.Prelude.{Result, Ok, Err}
use Rattle.refusal.specs.declared.Refusal.{Refusal}
use Rattle.refusal.specs.Refused.{refuse}
use Rattle.strings.specs.Table.{string_at, units_at, nowhere, places_of, fetched_of, buffer_of}
use Rattle.strings.proofs.Laws.{stands}
use Rattle.globals.specs.declared.Globals.{Globals}
use Rattle.globals.proofs.Table.{table_told}
use Rattle.workbook.specs.Check.{Checked, Right, checked_of, on_checked}
use Rattle.workbook.proofs.Laws.{short}
use Rattle.reading.specs.Reading.{strings_at}
use Rattle.fetch.specs.Strings.{buffer_seen}
use Rattle.fetch.specs.Fetch.{answer_in, answer_of, buffer_in, buffer_after}
use Rattle.fetch.specs.Parts.{TableAt}
use Rattle.fetch.proofs.Laws.{nth_there, nth_past, checked_globals, strings_none, strings_some}
use Rattle.string_places.specs.Places.{numbers_of, unused, places_at, filled_of, table_of, fill_of, table_after, on_segment, string_by, fetched_by, through_of, buffer_through}
use Rattle.string_places.specs.Parts.{Segment, count_of}
use Rattle.string_places.specs.Claims.{FetchesAsPlain}
use Rattle.string_places.proofs.Standing.{segment_of_lem, string_head}
use Rattle.string_places.proofs.Filling.{length_numbers, places_none, places_some, first_segment, counted}

-- ---- the numbers of the table
twice_suc : (i : ℕ) → 2 * suc i ≡ suc (suc (2 * i))
twice_suc i = omega arith

numbers_at : (l : List Cursor) (r : List ℕ) (i : ℕ) → i < length l
    → (get_or (numbers_of l ++ r) (2 * i) 0 ≡ (get_or l i nowhere).at) × (get_or (numbers_of l ++ r) (2 * i + 1) 0 ≡ (get_or l i nowhere).seg)
unfolding numbers_of
numbers_at [] r i h = absurd (omega arith)
numbers_at (d ∷ l) r zero h = (refl, refl)
numbers_at (d ∷ l) r (suc i) h =
    let k = numbers_at l r i (omega arith) in
    let e : 2 * suc i + 1 ≡ suc (suc (2 * i + 1)) = omega arith in
    (ap (λ (m : ℕ). get_or (numbers_of (d ∷ l) ++ r) m 0) (twice_suc i) ∙ k.0, ap (λ (m : ℕ). get_or (numbers_of (d ∷ l) ++ r) m 0) e ∙ k.1)

nth_map : {A B C : Type 0} (g : A → B) (f : B → C) (d : C) (l : List A) (i : ℕ) → nth l i (λ x. f (g x)) d ≡ nth (map g l) i f d
unfolding nth
nth_map g f d [] i = refl
nth_map g f d (x ∷ l) zero = refl
nth_map g f d (x ∷ l) (suc i) = nth_map g f d l i

-- what f says of the units that were read; d where none were
abbrev on_units : {X : Type 0} → (List ℕ → X) → X → Got (List ℕ) → X
on_units f d (got us c) = f us
on_units f d (refused n o) = d

units_there : {X : Type 0} (f : List ℕ → X) (d : X) (x : Got (List ℕ)) → Passes x → on_units f d x ≡ f (list_of x)
units_there f d (got us c) h = refl
units_there f d (refused n o) h = absurd h

-- ---- a segment's string, by its two numbers
segment_string : (s : List ℕ) (d : Cursor) → Segment s d → d.at < d.end → on_segment s d.at d.seg (header_at s d.seg) ≡ string_at s d
segment_string s d g l =
    ap (on_segment s d.at d.seg) g.header
    ∙ sym (pick_true _ _ _ _ g.holds (pick_nlt _ _ _ d.at (d.seg + 4) g.low (pick_lt _ _ _ d.at d.end l refl)))

past_end : (s : List ℕ) (p : ℕ) → length s ≤ p → End ≡ header_at s p
unfolding header_at
past_end s p h = pick_le _ _ _ (length s) p h refl

module _ (s : List ℕ) (p n : ℕ) (told : TableAt s p n) (small : length s ≤ 16777216) (k : ℕ) where
  abbrev places : List Cursor
  places = places_at s p

  -- the table after filling: k further numbers
  abbrev table : List ℕ
  table = numbers_of places ++ replicate k unused

  long : length table ≡ 2 * length places + k
  long = let a = length-append (numbers_of places) (replicate k unused) in let b = length_numbers places in let c = length-replicate k unused in omega arith

  at_place : (i : ℕ) → i < length places → Segment s (get_or places i nowhere) × Passes (string_at s (get_or places i nowhere))
  at_place i l = go told
    where
      go : TableAt s p n → Segment s (get_or places i nowhere) × Passes (string_at s (get_or places i nowhere))
      go (inl t) = let z = ap length (places_none s p t.0) in absurd (omega arith)
      go (inr st) =
          let e = p + 4 + u16_at s (p + 2) in
          let q = places_some s p st.later in
          let j : i < length (places_of s p e) = subst (λ (x : List Cursor). i < length x) q l in
          subst (λ (x : List Cursor). Segment s (get_or x i nowhere) × Passes (string_at s (get_or x i nowhere))) (sym q)
          (segment_of_lem s p e i j (first_segment s p n st), (stands s p e i j).passes)

  by_there : (i : ℕ) → i < length places → string_by s table i ≡ string_at s (get_or places i nowhere)
  unfolding string_by
  by_there i l =
      let a = at_place i l in
      let h = string_head s (get_or places i nowhere) a.1 in
      let m = numbers_at places (replicate k unused) i l in
      let o = long in
      sym (pick_lt _ _ _ (2 * i + 1) (length table) (omega arith)
      (sym ((λ j. on_segment s (m.0 j) (m.1 j) (header_at s (m.1 j))) ∙ segment_string s (get_or places i nowhere) a.0 (omega arith))))

  by_past : (i : ℕ) → length places ≤ i → string_by s table i ≡ refused 11 0
  unfolding string_by
  by_past i l =
      pick_by (λ (x : Got (List ℕ)). x ≡ refused 11 0) _
      (λ t.
      let o = long in
      let j = ltb-true (2 * i + 1) (length table) t in
      let b = length_numbers places in
      let e : 2 * i + 1 ≡ length (numbers_of places) + (2 * i + 1 - 2 * length places) = omega arith in
      let q : get_or table (2 * i + 1) 0 ≡ unused =
      ap (λ (m : ℕ). get_or table m 0) e ∙ get_or-append-add (numbers_of places) (replicate k unused) (2 * i + 1 - 2 * length places) 0
      ∙ get_or-replicate k (2 * i + 1 - 2 * length places) unused 0 (omega arith) in
      ap (λ (x : ℕ). on_segment s (get_or table (2 * i) 0) x (header_at s x)) q
      ∙ ap (on_segment s (get_or table (2 * i) 0) unused) (sym (past_end s unused (omega arith))))
      (λ _. refl)

  strings_are : strings_at s p ≡ map (units_at s) places
  strings_are = go told
    where
      go : TableAt s p n → strings_at s p ≡ map (units_at s) places
      go (inl t) = strings_none s p t.0 ∙ ap (map (units_at s)) (sym (places_none s p t.0))
      go (inr st) = strings_some s p st.later ∙ ap (map (units_at s)) (sym (places_some s p st.later))

  same_units : {X : Type 0} (f : List ℕ → X) (d : X) (i : ℕ) → on_units f d (string_by s table i) ≡ nth (strings_at s p) i f d
  same_units f d i = pick_by (λ (x : Unit {0}). on_units f d (string_by s table i) ≡ nth (map (units_at s) places) i f d) (ltb i (length places)) {x = tt} {y = tt}
      (λ t. let l = ltb-true i (length places) t in
      ap (on_units f d) (by_there i l) ∙ units_there f d (string_at s (get_or places i nowhere)) (at_place i l).1 ∙ nth_there (λ c. f (units_at s c)) d places i l nowhere ∙ nth_map (units_at s) f d places i)
      (λ t. let l = ltb-false i (length places) t in
      ap (on_units f d) (by_past i l) ∙ nth_past (λ c. f (units_at s c)) d places i l ∙ nth_map (units_at s) f d places i)
      ∙ ap (λ (x : List (List ℕ)). nth x i f d) (sym strings_are)

fetched_units : (n : ℕ) (x : Got (List ℕ)) → fetched_by n x ≡ on_units (fetched_of n) (refuse 11 0) x
fetched_units n (got us c) = refl
fetched_units n (refused m o) = refl

buffer_units : (b : List ℕ) (x : Got (List ℕ)) → buffer_seen b x ≡ on_units (buffer_of b) b x
buffer_units b (got us c) = refl
buffer_units b (refused m o) = refl

module _ (s t : List ℕ) (u n : ℕ) where
  pub record Filling : Type 0 where
    pub globals : Globals
    pub passes : checked_of s u ≡ Right globals
    pub room : 2 * length (places_at s globals.table) ≤ length t

  by_room : (g : Globals) → checked_of s u ≡ Right g → filled_of (length t) (places_at s g.table) ≡ Ok n → Filling
  unfolding filled_of
  by_room g p h =
      pick_by (λ (x : Result ℕ Refusal). x ≡ Ok n → Filling) _
      (λ _ i. never cc) (λ r _. record { globals = g; passes = p; room = ltb-false _ _ r }) h

  by_check : (x : Checked) → checked_of s u ≡ x → on_checked refuse (λ (g : Globals). filled_of (length t) (places_at s g.table)) x ≡ Ok n → Filling
  by_check (Ok g) p h = by_room g p h
  by_check (Err e) p h = never cc

  -- a filling that was granted
  pub filling : fill_of s u t ≡ Ok n → Filling
  unfolding fill_of
  filling h = by_check (checked_of s u) refl h

  pub table_filled : (f : Filling) → table_after s u t ≡ numbers_of (places_at s f.globals.table) ++ replicate (length t - 2 * length (places_at s f.globals.table)) unused
  unfolding table_after table_of
  table_filled f =
      ap (on_checked (λ _ _. t) (λ (g : Globals). table_of t (places_at s g.table))) f.passes
      ∙ sym (pick_nlt _ _ _ _ _ f.room refl)

module _ (s t : List ℕ) (u n : ℕ) (h : fill_of s u t ≡ Ok n) (i : ℕ) (b : List ℕ) where
  pub given : Filling s t u n
  given = filling s t u n h

  told : TableAt s given.globals.table (count_of given.globals.table given.globals.unique)
  told = counted s u given.globals _ (table_told s u given.globals (checked_globals s u given.globals (sym given.passes))) refl

  low : length s ≤ 16777216
  low = short s u given.globals refl given.passes

  abbrev g : Globals
  g = given.globals

  abbrev further : ℕ
  further = length t - 2 * length (places_at s g.table)

  abbrev here : Got (List ℕ)
  here = string_by s (numbers_of (places_at s g.table) ++ replicate further unused) i

  -- what a fetch through a filled table answers: the string of that index
  pub through_filled : through_of s (table_after s u t) i b ≡ answer_in s i b g
  unfolding through_of
  through_filled =
      ap (λ (x : List ℕ). fetched_by (length b) (string_by s x i)) (table_filled s t u n given)
      ∙ fetched_units (length b) here
      ∙ same_units s g.table _ told low further (fetched_of (length b)) (refuse 11 0) i

  pub buffer_filled : buffer_through s (table_after s u t) i b ≡ buffer_in s i b g
  unfolding buffer_through
  buffer_filled =
      ap (λ (x : List ℕ). buffer_seen b (string_by s x i)) (table_filled s t u n given)
      ∙ buffer_units b here
      ∙ same_units s g.table _ told low further (buffer_of b) b i

pub fetches_as_plain : FetchesAsPlain
unfolding answer_of buffer_after
fetches_as_plain s t n h i b =
    let f = given s t 0 n h i b in (
      through_filled s t 0 n h i b ∙ ap (on_checked refuse (answer_in s i b)) (sym f.passes),
      buffer_filled s t 0 n h i b ∙ ap (on_checked (λ _ _. b) (buffer_in s i b)) (sym f.passes),
    )
