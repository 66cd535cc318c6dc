-- The laws of filling: from the places of the strings to the lent table. Assumes nothing.
use Prim.Native.Nat.{ℕ, ◌+◌, ◌-◌, ◌*◌, ◌≤◌, ◌<◌}
use mathlib.Core.Path.{◌≡◌, refl, sym, ap, ◌∙◌, subst⁻¹}
use mathlib.Core.List.{List, [], ◌∷◌, ◌++◌, append-nil}
use mathlib.Core.Logic.{inl, inr}
use native.Mathlib.Omega.{arith}
use lib.ListN.{length, take, drop, replicate, length-replicate, drop_of_length-le}
use lib.Seq.{sets, sets-eq, length-sets, take_at}
use Rattle.steps.proofs.Choice.{pick_eq, pick_ne, pick_lt, pick_nlt}
use Rattle.byte_numbers.specs.Bytes.{u16_at, u32_at}
use Rattle.segments.specs.declared.Cursor.{Cursor}
use Rattle.segments.specs.Segments.{Got, got, refused, list_of}
use Rattle.segments.specs.Parts.{Inside, Passes, stored}
use Rattle.strings.specs.Table.{strings, first, table_of as table_read, places_of}
use Rattle.strings.proofs.Local.{right}
use Rattle.strings.proofs.Laws.{strings_count}
use Rattle.globals.specs.declared.Globals.{Globals}
use Rattle.globals.proofs.Table.{Stands, TableTold, table_told}
use Rattle.workbook.specs.Check.{Checked, Right, checked_of}
use Rattle.fetch.specs.Parts.{TableAt}
use Rattle.fetch.proofs.Laws.{checked_globals}
use Rattle.std.specs.Prelude.{Ok}
use Rattle.refusal.specs.Refused.{refuse}
use Rattle.string_places.specs.Places.{numbers_of, unused, places_at, filled_of, table_of}
use Rattle.string_places.specs.Parts.{Segment, count_of}
use Rattle.string_places.proofs.Standing.{sst_holds}

pub length_numbers : (l : List Cursor) → length (numbers_of l) ≡ 2 * length l
unfolding numbers_of
length_numbers [] = refl
length_numbers (d ∷ l) = let k = length_numbers l in omega arith

-- ---- a table of some strings
pub places_none : (s : List ℕ) (p : ℕ) → p ≡ 0 → places_at s p ≡ []
unfolding places_at
places_none s p h = sym (pick_eq _ _ _ _ _ h refl)

pub places_some : (s : List ℕ) (p : ℕ) → 0 < p → places_at s p ≡ places_of s p (p + 4 + u16_at s (p + 2))
unfolding places_at
places_some s p h = sym (pick_ne _ _ _ p 0 (λ i. omega arith) refl)

pub record Whole (s : List ℕ) (p e n : ℕ) : Type 0 where
  pub after : Cursor
  pub long : p + 12 ≤ e
  pub is : strings s n (first p e) ≡ got (places_of s p e) after

pub first_segment : (s : List ℕ) (p n : ℕ) → Stands s p n → Segment s (first p (p + 4 + u16_at s (p + 2)))
first_segment s p n st = record { kind = 0x00FC; size = u16_at s (p + 2); header = st.sst; holds = sst_holds 0x00FC refl; low = omega arith }

module _ (s : List ℕ) (p n : ℕ) (st : Stands s p n) (some : n ≡ 0 → ⊥) where
  abbrev end_at : ℕ
  end_at = p + 4 + u16_at s (p + 2)

  pub whole_table : Whole s p end_at n
  whole_table = go (table_read s p end_at) refl st.count
    where
      go : (x : Got (List Cursor)) → table_read s p end_at ≡ x → length (list_of x) ≡ n → Whole s p end_at n
      go (got l c) q k =
          let r = right s p end_at l c q in
          let o = r.long in
          let j : n ≡ u32_at s (p + 8) = sym k ∙ strings_count s (u32_at s (p + 8)) (first p end_at) l c r.read in
          record { after = c; long = omega arith; is = ap (λ (m : ℕ). strings s m (first p end_at)) j ∙ r.read ∙ ap (λ (y : Got (List Cursor)). got (list_of y) c) (sym q) }
      go (refused a b) q k = absurd (some (sym k))

  module _ (z w : ℕ) (is : w ≡ u16_at s (p + 2)) (wide : z ≡ w) where
    end_is : p + 4 + z ≡ end_at
    end_is = ap (λ (k : ℕ). p + 4 + k) (wide ∙ is)

    pub some_inside : Inside s (first p (p + 4 + z))
    some_inside = let k = whole_table.long in let l = st.within in let m = end_is in (omega arith, omega arith)

    pub some_segment : Segment s (first p (p + 4 + z))
    some_segment = subst⁻¹ (λ (k : ℕ). Segment s (first p k)) end_is (first_segment s p n st)

    pub some_passes : Passes (strings s n (first p (p + 4 + z)))
    some_passes = subst⁻¹ (λ (k : ℕ). Passes (strings s n (first p k))) end_is (subst⁻¹ Passes whole_table.is tt)

    pub some_done : (x t : List ℕ) → x ≡ stored t 0 (numbers_of (list_of (strings s n (first p (p + 4 + z))))) → x ≡ stored t 0 (numbers_of (places_at s p))
    some_done x t h =
        h ∙ ap (λ (k : ℕ). stored t 0 (numbers_of (list_of (strings s n (first p k))))) end_is
        ∙ ap (λ (y : Got (List Cursor)). stored t 0 (numbers_of (list_of y))) whole_table.is
        ∙ ap (λ (l : List Cursor). stored t 0 (numbers_of l)) (sym (places_some s p st.later))

-- ---- as the check tells of a table
pub places_count : (s : List ℕ) (p n : ℕ) → TableAt s p n → length (places_at s p) ≡ n
places_count s p n (inl t) = ap length (places_none s p t.0) ∙ sym t.1
places_count s p n (inr st) = ap length (places_some s p st.later) ∙ st.count

empty : (l : List Cursor) → length l ≡ 0 → l ≡ []
empty [] h = refl
empty (d ∷ l) h = absurd (omega arith)

module _ (s : List ℕ) (p n : ℕ) (told : TableAt s p n) where
  pub all_none : (t : List ℕ) → n ≡ 0 → t ≡ stored t 0 (numbers_of (places_at s p))
  unfolding stored numbers_of
  all_none t h = ap (λ (l : List Cursor). sets t 0 (numbers_of l)) (sym (empty (places_at s p) (places_count s p n told ∙ h)))

  pub all_some : (n ≡ 0 → ⊥) → Stands s p n
  all_some h = go told
    where
      go : TableAt s p n → Stands s p n
      go (inl t) = absurd (h t.1)
      go (inr st) = st

pub ruleset all_laws = (all_none, all_some)

-- ---- the whole table
filled_numbers : (t y x : List ℕ) (l : List Cursor) (k : ℕ) → k ≡ 2 * length l → k ≤ length t → y ≡ stored t 0 (numbers_of l) → x ≡ stored y k (replicate (length y - k) unused)
    → x ≡ numbers_of l ++ replicate (length t - k) unused
unfolding stored
filled_numbers t y x l k is fits a b =
    let n : length (numbers_of l) ≡ k = length_numbers l ∙ sym is in
    let y-is : y ≡ numbers_of l ++ drop (0 + length (numbers_of l)) t = a ∙ sets-eq (numbers_of l) t 0 (omega arith) in
    let y-long : length y ≡ length t = ap length a ∙ length-sets t 0 (numbers_of l) in
    let r-long = length-replicate (length y - k) unused in
    b ∙ sets-eq (replicate (length y - k) unused) y k (omega arith)
    ∙ ap (λ (m : List ℕ). (m ++ replicate (length y - k) unused) ++ drop (k + length (replicate (length y - k) unused)) y) (ap (take k) y-is ∙ take_at (numbers_of l) (drop (0 + length (numbers_of l)) t) k n)
    ∙ ap (λ (m : List ℕ). (numbers_of l ++ replicate (length y - k) unused) ++ m) (drop_of_length-le y {i = k + length (replicate (length y - k) unused)} (omega arith))
    ∙ append-nil (numbers_of l ++ replicate (length y - k) unused)
    ∙ ap (λ (m : ℕ). numbers_of l ++ replicate (m - k) unused) y-long

module _ (s : List ℕ) (p n : ℕ) (told : TableAt s p n) (t : List ℕ) where
  twice : 2 * n ≡ 2 * length (places_at s p)
  twice = let c = places_count s p n told in omega arith

  pub fill_short : length t < 2 * n → refuse 12 0 ≡ filled_of (length t) (places_at s p)
  unfolding filled_of
  fill_short l = pick_lt _ _ _ (length t) (2 * length (places_at s p)) (let c = twice in omega arith) refl

  pub table_short : length t < 2 * n → t ≡ table_of t (places_at s p)
  unfolding table_of
  table_short l = pick_lt _ _ _ (length t) (2 * length (places_at s p)) (let c = twice in omega arith) refl

  module _ (fits : 2 * n ≤ length t) where
    pub fill_done : Ok n ≡ filled_of (length t) (places_at s p)
    unfolding filled_of
    fill_done = pick_nlt _ _ _ (length t) (2 * length (places_at s p)) (let c = twice in omega arith) (ap Ok (sym (places_count s p n told)))

    pub table_done : (y x : List ℕ) → y ≡ stored t 0 (numbers_of (places_at s p)) → x ≡ stored y (2 * n) (replicate (length y - 2 * n) unused) → x ≡ table_of t (places_at s p)
    unfolding table_of
    table_done y x a b =
        pick_nlt _ _ _ (length t) (2 * length (places_at s p)) (let c = twice in omega arith)
        (filled_numbers t y x (places_at s p) (2 * n) twice fits a b ∙ ap (λ (k : ℕ). numbers_of (places_at s p) ++ replicate (length t - k) unused) twice)

pub unused_room : (t y : List ℕ) (l : List Cursor) (k : ℕ) → k ≤ length t → y ≡ stored t 0 (numbers_of l) → k ≤ length y
unfolding stored
unused_room t y l k h a = let n : length y ≡ length t = ap length a ∙ length-sets t 0 (numbers_of l) in omega arith

-- ---- after the check
pub counted : (s : List ℕ) (u : ℕ) (g : Globals) (k : ℕ) → TableTold s u g → k ≡ count_of g.table g.unique → TableAt s g.table k
unfolding count_of
counted s u g k (inl t) h = inl (t.0, h ∙ sym (pick_eq _ _ _ _ _ t.0 refl))
counted s u g k (inr st) h = let i : k ≡ g.unique = h ∙ sym (pick_ne _ _ _ g.table 0 (λ e. let l = st.later in omega arith) refl) in inr (subst⁻¹ (Stands s g.table) i st)

module _ (s : List ℕ) (u : ℕ) {r : Checked} (is : r ≡ checked_of s u) where
  pub table_at : (g : Globals) → r ≡ Right g → (k : ℕ) → k ≡ count_of g.table g.unique → TableAt s g.table k
  table_at g h k i = counted s u g k (table_told s u g (checked_globals s u g (sym h ∙ is))) i
