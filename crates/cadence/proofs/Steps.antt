-- The pairs that the steps give are those of the rows. Assumes nothing.
use Prim.Native.Nat.{ℕ, zero, suc, ◌+◌, ◌-◌, ◌/◌, ◌%◌, ◌≤◌, ◌<◌}
use mathlib.Core.Path.{◌≡◌, refl, sym, ap, ◌∙◌, subst}
use mathlib.Core.List.{List, [], ◌∷◌, map}
use Rattle.std.specs.Prelude.{Option, Some, None, option_map, Result, Ok, ok_or}
use Rattle.std.specs.List.{slice_get}
use Rattle.refusal.specs.declared.Refusal.{Refusal}
use Rattle.refusal.specs.Refused.{refuse}
use mathlib.Core.Logic.{inl, inr}
use native.Mathlib.Omega.{arith}
use lib.ListN.{length}
use lib.Dec.{eqb}
use Rattle.steps.specs.Choice.{pick}
use Rattle.steps.proofs.Choice.{never, pick_by}
use Rattle.steps.specs.Items.{onto, nth}
use Rattle.steps.proofs.Items.{Nearer, collect_step, nth_none, nth_here, nth_next}
use Rattle.cell.specs.declared.Cell.{Cell}
use Rattle.reading.specs.declared.Place.{Place}
use Rattle.reading.specs.Cells.{remaining, listed_from}
use Rattle.listing.specs.declared.Listed.{Listed}
use Rattle.listing.specs.Listing.{next_of}
use Rattle.listing.proofs.Laws.{on_listed, listed_next}
use Rattle.profile.specs.Placed.{Placed}
use Rattle.profile.specs.Profile.{amount_in, on_amount, judged_from}
use Rattle.profile.specs.Parts.{TwoOrThree}
use Rattle.profile.proofs.Claims.{right_cell, ended_rows}
use Rattle.cadence.specs.declared.Row.{Row}
use Rattle.cadence.specs.declared.Cadence.{Cadence}
use Rattle.cadence.specs.declared.NextNumber.{NextNumber}
use Rattle.cadence.specs.declared.NextRow.{NextRow}
use Rattle.cadence.specs.declared.Position.{Position}
use Rattle.cadence.specs.declared.NextPair.{NextPair}
use Rattle.cadence.specs.Cadence.{number_in, row_with, by_two, by_three, rows_of, pair_of, neighbours}
use Rattle.cadence.specs.Steps.{next_number_of, on_number, seconds_row, next_row_of, position_at, on_row, next_pair_of, pair_item, pairs_from, nth_pair}
use Rattle.cadence.proofs.Laws.{number_nearer, number_is, number_end, row_short, row_long, row_by, no_ticks}

-- ---- each step comes nearer the end
module _ (s : List ℕ) (k : ℕ) (r : NextRow) where
  nearer_seconds : (t u : ℕ) (v : Place) → seconds_row s k t u v ≡ Some r → remaining s r.next ≤ remaining s v
  unfolding seconds_row
  nearer_seconds t u v =
      pick_by (λ (x : Option NextRow). x ≡ Some r → remaining s r.next ≤ remaining s v) (eqb k 3)
      (λ _. by (next_number_of s 2 v) refl)
      (λ _ e. let same : ◌≡◌ {A = NextRow} (record { row = row_with t u 0; next = v }) r = cc in let g = ap (λ (x : NextRow). remaining s x.next) same in omega arith)
    where
      by : (x : Option NextNumber) → next_number_of s 2 v ≡ x → on_number x (λ n y. Some (record { row = row_with t u n; next = y })) ≡ Some r → remaining s r.next ≤ remaining s v
      by (Some y) i e =
          let same : ◌≡◌ {A = NextRow} (record { row = row_with t u y.number; next = y.next }) r = cc in
          let g = ap (λ (x : NextRow). remaining s x.next) same in
          let l = number_nearer s 2 v y i in
          omega arith
      by None i e = never (cc)

  nearer_turns : (t : ℕ) (v : Place) (x : Option NextNumber) → next_number_of s 1 v ≡ x → on_number x (λ u y. seconds_row s k t u y) ≡ Some r → remaining s r.next < remaining s v
  nearer_turns t v (Some y) i e = let l = number_nearer s 1 v y i in let m = nearer_seconds t y.number y.next e in omega arith
  nearer_turns t v None i e = never (cc)

  nearer_ticks : (v : Place) (x : Option NextNumber) → next_number_of s 0 v ≡ x → on_number x (λ t y. on_number (next_number_of s 1 y) (λ u z. seconds_row s k t u z)) ≡ Some r → remaining s r.next < remaining s v
  nearer_ticks v (Some y) i e = let l = number_nearer s 0 v y i in let m = nearer_turns y.number y.next (next_number_of s 1 y.next) refl e in omega arith
  nearer_ticks v None i e = never (cc)

  pub row_nearer : (v : Place) → next_row_of s k v ≡ Some r → remaining s r.next < remaining s v
  unfolding next_row_of
  row_nearer v e = nearer_ticks v (next_number_of s 0 v) refl e

module _ (s : List ℕ) where
  abbrev left : Position → ℕ
  left p = remaining s p.cells

  near_row : (p : Position) (x : Option NextRow) → next_row_of s p.columns p.cells ≡ x → Nearer left p (pair_item (on_row p x))
  unfolding position_at
  near_row p (Some x) i = row_nearer s p.columns x p.cells i
  near_row p None i = tt

  pub pair_near : (p : Position) → Nearer left p (pair_item (next_pair_of s p))
  unfolding next_pair_of
  pair_near p = near_row p (next_row_of s p.columns p.cells) refl

  -- one step of the list
  pub pairs_step : (p : Position) → pairs_from s p ≡ onto (pair_item (next_pair_of s p)) (λ q. pairs_from s q)
  unfolding pairs_from
  pairs_step p = collect_step (λ q. pair_item (next_pair_of s q)) left pair_near p

  pub pair_less : (p : Position) (x : NextPair) → next_pair_of s p ≡ Some x → remaining s x.next.cells < remaining s p.cells
  pair_less p x h = let n : Nearer left p (pair_item (Some x)) = subst (λ (y : Option NextPair). Nearer left p (pair_item y)) h (pair_near p) in n

-- what a call of `next_pair` gave, r
module _ (s : List ℕ) (p : Position) (r : Option NextPair) (is : r ≡ next_pair_of s p) where
  pair_by : (x : Option NextPair) → r ≡ x → pairs_from s p ≡ onto (pair_item x) (λ q. pairs_from s q)
  pair_by x h = pairs_step s p ∙ ap (λ (y : Option NextPair). onto (pair_item y) (λ q. pairs_from s q)) (sym is ∙ h)

  pub no_pair : r ≡ None → pairs_from s p ≡ []
  no_pair h = pair_by None h

  pub pair_given : (x : NextPair) → r ≡ Some x → pairs_from s p ≡ x.answer ∷ pairs_from s x.next
  pair_given x h = pair_by (Some x) h

-- the n-th of them, as the iterator gives it
abbrev pub missing : Refusal
missing = record { number = 11; offset = 0 }

nth_or : (r : Option Cadence) (l : List Cadence) (n : ℕ) → option_map (λ (x : Cadence). x) r ≡ slice_get l n → ok_or r missing ≡ nth l n Ok (refuse 11 0)
unfolding nth
nth_or None [] n e = refl
nth_or (Some x) [] n e = never (cc)
nth_or None (y ∷ l) zero e = never (cc)
nth_or (Some x) (y ∷ l) zero e = let i : x ≡ y = cc in ap Ok i
nth_or r (y ∷ l) (suc n) e = nth_or r l n e

pub nth_got : (s : List ℕ) (p : Position) (n : ℕ) (r : Option Cadence) → option_map (λ (x : Cadence). x) r ≡ slice_get (pairs_from s p) n → ok_or r missing ≡ nth_pair s p n
unfolding nth_pair
nth_got s p n r e = nth_or r (pairs_from s p) n e

-- ---- the list and the places
abbrev pub cells_in : List Placed → List Cell
cells_in l = map (λ (x : Placed). x.cell) l

module _ (s : List ℕ) (v : Place) where
  none_by : (r : Option Listed) → on_listed s r ≡ [] → r ≡ None
  none_by (Some x) e = never (cc)
  none_by None e = refl

  pub none_is : listed_from s v ≡ [] → next_of s v ≡ None
  none_is h = none_by (next_of s v) (sym (listed_next s v) ∙ h)

  -- the number of the first cell, and the place of the others
  pub record Reads (column : ℕ) (c : Cell) (l : List Cell) : Type 0 where
    pub next : Place
    pub is : next_number_of s column v ≡ Some (record { number = number_in column c; next = next })
    pub rest : listed_from s next ≡ l

  module _ (column m : ℕ) (c : Cell) (l : List Cell) (e : amount_in column c.value ≡ Some m) where
    reads_by : (r : Option Listed) → next_of s v ≡ r → on_listed s r ≡ c ∷ l → Reads column c l
    reads_by (Some x) i h =
        let f : x.cell ≡ c = cc in
        let g : listed_from s x.next ≡ l = cc in record {
          next = x.next;
          is =
              number_is s column v x m i (ap (λ (y : Cell). amount_in column y.value) f ∙ e)
              ∙ ap (λ (a : Option ℕ). Some (record { number = on_amount 0 (λ n. n) a; next = x.next })) (sym e);
          rest = g;
        }
    reads_by None i h = never (cc)

    pub reads : listed_from s v ≡ c ∷ l → Reads column c l
    reads h = reads_by (next_of s v) refl (sym (listed_next s v) ∙ h)

-- ---- the next row of a session
module _ (s : List ℕ) (k n : ℕ) (v : Place) (i : ℕ) where
  pub data Ahead (l : List Placed) : Type 0 where
    done : rows_of k (cells_in l) ≡ [] → next_row_of s k v ≡ None → i / k ≡ n → Ahead l
    more : (a : Row) (w : Place) (m : List Placed) (t : ℕ) → rows_of k (cells_in l) ≡ a ∷ rows_of k (cells_in m) → next_row_of s k v ≡ Some (record { row = a; next = w }) → listed_from s w ≡ cells_in m → judged_from k (i + k) t m ≡ Ok n → length m < length l
        → (i + k) % k ≡ 0 → (i + k) / k ≡ i / k + 1 → Ahead l

no_row : (s : List ℕ) (k : ℕ) (v : Place) → listed_from s v ≡ [] → next_row_of s k v ≡ None
no_row s k v h = no_ticks s k v (number_end s 0 v (none_is s v h))

module _ (s : List ℕ) (n : ℕ) (v : Place) (i t : ℕ) where
  ahead_two : (l : List Placed) → listed_from s v ≡ cells_in l → judged_from 2 i t l ≡ Ok n → i % 2 ≡ 0 → Ahead s 2 n v i l
  unfolding rows_of by_two judged_from pick
  ahead_two [] h e z = done refl (no_row s 2 v h) (ended_rows 2 n i e).1
  ahead_two (x ∷ []) h e z =
      let a = right_cell 2 i t n x [] e in
      let b = (ended_rows 2 n (i + 1) a.rest).0 in
      absurd (omega arith)
  ahead_two (x ∷ y ∷ l) h e z =
      let a = right_cell 2 i t n x (y ∷ l) e in
      let b = right_cell 2 (i + 1) a.after n y l a.rest in
      let one : (i + 1) % 2 ≡ 1 = omega arith in
      let c = reads s v 0 a.number x.cell (cells_in (y ∷ l)) (ap (λ (j : ℕ). amount_in j x.cell.value) (sym z) ∙ a.is) h in
      let d = reads s c.next 1 b.number y.cell (cells_in l) (ap (λ (j : ℕ). amount_in j y.cell.value) (sym one) ∙ b.is) c.rest in
      more (row_with (number_in 0 x.cell) (number_in 1 y.cell) 0) d.next l b.after refl
      (row_by s 2 v (number_in 0 x.cell) (number_in 1 y.cell) c.next d.next c.is d.is ∙ row_short s 2 (number_in 0 x.cell) (number_in 1 y.cell) d.next (λ q. omega arith))
      d.rest (ap (λ (j : ℕ). judged_from 2 j b.after l) (let q : i + 2 ≡ i + 1 + 1 = omega arith in q) ∙ b.rest) (omega arith) (omega arith) (omega arith)

  ahead_three : (l : List Placed) → listed_from s v ≡ cells_in l → judged_from 3 i t l ≡ Ok n → i % 3 ≡ 0 → Ahead s 3 n v i l
  unfolding rows_of by_three judged_from pick
  ahead_three [] h e z = done refl (no_row s 3 v h) (ended_rows 3 n i e).1
  ahead_three (x ∷ []) h e z =
      let a = right_cell 3 i t n x [] e in
      let b = (ended_rows 3 n (i + 1) a.rest).0 in
      absurd (omega arith)
  ahead_three (x ∷ y ∷ []) h e z =
      let a = right_cell 3 i t n x (y ∷ []) e in
      let b = right_cell 3 (i + 1) a.after n y [] a.rest in
      let c = (ended_rows 3 n (i + 1 + 1) b.rest).0 in
      absurd (omega arith)
  ahead_three (x ∷ y ∷ o ∷ l) h e z =
      let a = right_cell 3 i t n x (y ∷ o ∷ l) e in
      let b = right_cell 3 (i + 1) a.after n y (o ∷ l) a.rest in
      let g = right_cell 3 (i + 1 + 1) b.after n o l b.rest in
      let one : (i + 1) % 3 ≡ 1 = omega arith in
      let two : (i + 1 + 1) % 3 ≡ 2 = omega arith in
      let c = reads s v 0 a.number x.cell (cells_in (y ∷ o ∷ l)) (ap (λ (j : ℕ). amount_in j x.cell.value) (sym z) ∙ a.is) h in
      let d = reads s c.next 1 b.number y.cell (cells_in (o ∷ l)) (ap (λ (j : ℕ). amount_in j y.cell.value) (sym one) ∙ b.is) c.rest in
      let f = reads s d.next 2 g.number o.cell (cells_in l) (ap (λ (j : ℕ). amount_in j o.cell.value) (sym two) ∙ g.is) d.rest in
      more (row_with (number_in 0 x.cell) (number_in 1 y.cell) (number_in 2 o.cell)) f.next l g.after refl
      (◌∙◌ {c = Some (record { row = row_with (number_in 0 x.cell) (number_in 1 y.cell) (number_in 2 o.cell); next = f.next })} (row_by s 3 v (number_in 0 x.cell) (number_in 1 y.cell) c.next d.next c.is d.is) (row_long s 3 (number_in 0 x.cell) (number_in 1 y.cell) d.next (number_in 2 o.cell) f.next refl f.is))
      f.rest (ap (λ (j : ℕ). judged_from 3 j g.after l) (let q : i + 3 ≡ i + 1 + 1 + 1 = omega arith in q) ∙ g.rest) (omega arith) (omega arith) (omega arith)

  pub ahead : (k : ℕ) → TwoOrThree k → (l : List Placed) → listed_from s v ≡ cells_in l → judged_from k i t l ≡ Ok n → i % k ≡ 0 → Ahead s k n v i l
  ahead k (inl e) l = subst (λ (j : ℕ). listed_from s v ≡ cells_in l → judged_from j i t l ≡ Ok n → i % j ≡ 0 → Ahead s j n v i l) (sym e) (ahead_two l)
  ahead k (inr e) l = subst (λ (j : ℕ). listed_from s v ≡ cells_in l → judged_from j i t l ≡ Ok n → i % j ≡ 0 → Ahead s j n v i l) (sym e) (ahead_three l)

-- ---- all pairs of a session
unfoldable pub pairs_in : Row → List Row → List Cadence
pairs_in a [] = []
pairs_in a (b ∷ l) = pair_of a b ∷ pairs_in b l

pub pairs_nth : (a : Row) (l : List Row) (n : ℕ) → nth (pairs_in a l) n Ok (refuse 11 0) ≡ neighbours (a ∷ l) n
unfolding pairs_in nth neighbours
pairs_nth a [] n = refl
pairs_nth a (b ∷ l) zero = refl
pairs_nth a (b ∷ l) (suc n) = pairs_nth b l n

pub pairs_length : (a : Row) (l : List Row) → length (pairs_in a l) ≡ length l
unfolding pairs_in
pairs_length a [] = refl
pairs_length a (b ∷ l) = ap (λ (n : ℕ). suc n) (pairs_length b l)

module _ (s : List ℕ) (k n : ℕ) (three : TwoOrThree k) where
  position_step : (a : Row) (v : Place) (x : Option NextRow) → next_row_of s k v ≡ x → pairs_from s (position_at a v k) ≡ onto (pair_item (on_row (position_at a v k) x)) (λ q. pairs_from s q)
  unfolding next_pair_of position_at
  position_step a v x h = pairs_step s (position_at a v k) ∙ ap (λ (y : Option NextRow). onto (pair_item (on_row (position_at a v k) y)) (λ q. pairs_from s q)) h

  -- what holds of the cells after a row, for those of the row and after
  abbrev PairsAre : List Placed → Type 0
  PairsAre l = (v : Place) (i t : ℕ) → listed_from s v ≡ cells_in l → judged_from k i t l ≡ Ok n → i % k ≡ 0 → (a : Row) → pairs_from s (position_at a v k) ≡ pairs_in a (rows_of k (cells_in l))

  pairs_ahead : (l : List Placed) (v : Place) (i : ℕ) (a : Row) → ((m : List Placed) → length m < length l → PairsAre m) → Ahead s k n v i l → pairs_from s (position_at a v k) ≡ pairs_in a (rows_of k (cells_in l))
  unfolding pairs_in position_at
  pairs_ahead l v i a ih (done f g o) = position_step a v None g ∙ ap (pairs_in a) (sym f)
  pairs_ahead l v i a ih (more b w m u f g o j q y x) =
      position_step a v (Some (record { row = b; next = w })) g
      ∙ ap (λ (r : List Cadence). pair_of a b ∷ r) (ih m q w (i + k) u o j y b)
      ∙ ap (pairs_in a) (sym f)

  pub pairs_are : (c : ℕ) (l : List Placed) → length l < c → PairsAre l
  pairs_are zero l less = absurd (omega arith)
  pairs_are (suc c) l less = λ v i t h e z a. pairs_ahead l v i a (λ m q. pairs_are c m (omega arith)) (ahead s n v i t k three l h e z)

  abbrev RowsAre : List Placed → Type 0
  RowsAre l = (v : Place) (i t : ℕ) → listed_from s v ≡ cells_in l → judged_from k i t l ≡ Ok n → i % k ≡ 0 → i / k + length (rows_of k (cells_in l)) ≡ n

  rows_ahead : (l : List Placed) (v : Place) (i : ℕ) → ((m : List Placed) → length m < length l → RowsAre m) → Ahead s k n v i l → i / k + length (rows_of k (cells_in l)) ≡ n
  rows_ahead l v i ih (done f g o) = let p : length (rows_of k (cells_in l)) ≡ 0 = ap length f in omega arith
  rows_ahead l v i ih (more b w m u f g o j q y x) =
      let p : length (rows_of k (cells_in l)) ≡ suc (length (rows_of k (cells_in m))) = ap length f in
      let r = ih m q w (i + k) u o j y in
      omega arith

  pub rows_are : (c : ℕ) (l : List Placed) → length l < c → RowsAre l
  rows_are zero l less = absurd (omega arith)
  rows_are (suc c) l less = λ v i t h e z. rows_ahead l v i (λ m q. rows_are c m (omega arith)) (ahead s n v i t k three l h e z)
