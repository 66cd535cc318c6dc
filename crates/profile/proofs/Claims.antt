-- What holds of the cells that are judged. Assumes nothing.
use Prim.Native.Nat.{ℕ, zero, suc, ◌+◌, ◌*◌, ◌/◌, ◌%◌, ◌≤◌, ◌<◌}
use native.Mathlib.Nat.{add-zero, zero-add, div-add-mod'}
use mathlib.Core.Path.{◌≡◌, refl, sym, ap, ap₂, ◌∙◌, subst}
use mathlib.Core.List.{List, [], ◌∷◌, map}
use Rattle.std.specs.Prelude.{Option, Some, None, Result, Ok, Err}
use Rattle.refusal.specs.declared.Refusal.{Refusal}
use Rattle.refusal.specs.Refused.{refuse}
use mathlib.Core.Logic.{◌⊎◌, inl, inr}
use native.Mathlib.Omega.{arith}
use lib.ListN.{length}
use lib.Dec.{ltb, eqb}
use borrow.Author.Tests.{eqb-true, eqb-false, ltb-false}
use Rattle.steps.specs.Choice.{pick}
use Rattle.steps.proofs.Choice.{never, pick_any, pick_by, pick_eq, pick_ne}
use Rattle.steps.specs.Items.{nth}
use Rattle.value.specs.declared.Field.TheVariants.{NoField, Float, RkWord, TextIndex, TruthError, StoredResult}
use Rattle.value.specs.declared.CellValue.{CellValue}
use Rattle.value.specs.Value.{truth_error}
use Rattle.cell.specs.declared.Cell.{Cell}
use Rattle.sheet_agreement.specs.declared.SheetKind.{SheetKind}
use Rattle.sheet_agreement.specs.declared.SheetKind.TheVariants.{Worksheet, Chart, Macro, Other}
use Rattle.sheet_agreement.specs.Agreement.{Sheet}
use Rattle.globals.specs.Sheets.{sheets_of}
use Rattle.workbook.specs.Check.{Checked, checked_of, on_checked}
use Rattle.reading.specs.declared.Place.{Place}
use Rattle.reading.specs.Cells.{listed_from}
use Rattle.reading.specs.Reading.{start_of}
use Rattle.profile.specs.declared.Session.{Session}
use Rattle.profile.specs.Placed.{Placed, placed_from}
use Rattle.profile.specs.Profile.{amount_in, third_of, columns_of, risen, amount_at, seconds_after, on_amount, ended_at, judged_from, on_judged, profile_at, of_worksheet, on_sheets, profile_of}
use Rattle.profile.specs.Parts.{TwoOrThree}
use Rattle.profile.specs.Claims.{PlacedListed, NumbersOnly, seconds_at, SessionFilled, EmptyInside}
use Rattle.profile.proofs.Placed.{placed_cells}

pub placed_listed : PlacedListed
placed_listed = placed_cells

pub numbers_only : NumbersOnly
unfolding truth_error
numbers_only column n m NoField e = never (cc)
numbers_only column n m Float e = inl refl
numbers_only column n m RkWord e = inr refl
numbers_only column n m TextIndex e = never (cc)
numbers_only column n m TruthError e = pick_any (λ (v : CellValue). amount_in column v ≡ Some m → (TruthError ≡ Float) ⊎ (TruthError ≡ RkWord)) (eqb (n / 256) 0) (λ f. never (cc)) (λ f. never (cc)) e
numbers_only column n m StoredResult e = never (cc)

-- ---- a cell of a session
module _ (k i seconds n : ℕ) (x : Placed) (l : List Placed) where
  pub record Right-cell : Type 0 where
    pub row : x.cell.row ≡ i / k
    pub column : x.cell.column ≡ i % k
    pub number : ℕ
    pub is : amount_in (i % k) x.cell.value ≡ Some number
    pub risen_by : i % k ≡ 2 → seconds ≤ number
    pub after : ℕ
    pub after_is : after ≡ seconds_after (i % k) seconds number
    pub rest : judged_from k (i + 1) after l ≡ Ok n

  abbrev Same : Option ℕ → ℕ → Option ℕ → Type 0
  Same a m y = y ≡ Some m → a ≡ Some m

  right_risen : (m : ℕ) (a : Option ℕ) → Same a m (risen (i % k) seconds a)
  right_risen m (Some j) = pick_any (Same (Some j) m) _ (pick_any (Same (Some j) m) _ (λ e. never (cc)) (λ e. e)) (λ e. e)
  right_risen m None = λ e. e

  abbrev Above : ℕ → Option ℕ → Type 0
  Above m y = y ≡ Some m → i % k ≡ 2 → seconds ≤ m

  right_above : (m : ℕ) (a : Option ℕ) → Above m (risen (i % k) seconds a)
  right_above m (Some j) =
      pick_by (Above m) (eqb (i % k) 2)
      (λ _. pick_by (Above m) (ltb j seconds) (λ _ e. never (cc)) (λ h e q. let f : j ≡ m = cc in let l = ltb-false j seconds h in omega arith))
      (λ h e q. absurd (eqb-false (i % k) 2 h q))
  right_above m None = λ e. never (cc)

  pub record Placed-right (m : ℕ) : Type 0 where
    pub row_is : x.cell.row ≡ i / k
    pub column_is : x.cell.column ≡ i % k
    pub number_is : amount_in (i % k) x.cell.value ≡ Some m
    pub above : i % k ≡ 2 → seconds ≤ m

  abbrev Says : ℕ → Option ℕ → Type 0
  Says m y = y ≡ Some m → Placed-right m

  right_amount : (m : ℕ) → Says m (amount_at k i seconds x.cell)
  unfolding amount_at
  right_amount m =
      pick_by (Says m) _
      (λ h. pick_by (Says m) _
      (λ g e. record { row_is = eqb-true x.cell.row (i / k) h; column_is = eqb-true x.cell.column (i % k) g; number_is = right_risen m (amount_in (i % k) x.cell.value) e; above = right_above m (amount_in (i % k) x.cell.value) e })
      (λ _ e. never (cc)))
      (λ _ e. never (cc))

  right_by : (a : Option ℕ) → amount_at k i seconds x.cell ≡ a → on_amount (refuse 20 x.at) (λ m. judged_from k (i + 1) (seconds_after (i % k) seconds m) l) a ≡ Ok n → Right-cell
  right_by (Some m) h e = let r = right_amount m h in record { row = r.row_is; column = r.column_is; number = m; is = r.number_is; risen_by = r.above; after = seconds_after (i % k) seconds m; after_is = refl; rest = e }
  right_by None h e = never (cc)

  pub right_cell : judged_from k i seconds (x ∷ l) ≡ Ok n → Right-cell
  unfolding judged_from
  right_cell e = right_by (amount_at k i seconds x.cell) refl e

pub ended_rows : (k n i : ℕ) → ended_at k i ≡ Ok n → (i % k ≡ 0) × (i / k ≡ n)
unfolding ended_at
ended_rows k n i =
    pick_by (λ (x : Result ℕ Refusal). x ≡ Ok n → (i % k ≡ 0) × (i / k ≡ n)) (eqb (i % k) 0)
    (λ h e. (eqb-true (i % k) 0 h, let f : i / k ≡ n = cc in f))
    (λ _ e. never (cc))

-- ---- all cells of a session
module _ (k n : ℕ) where
  shift : (i j : ℕ) → i + 1 + j ≡ i + suc j
  shift i j = omega arith

  -- what holds of each right cell by its number holds of the j-th
  judged_nth : (f : Placed → ℕ) (g : ℕ → ℕ) → ((i t : ℕ) (x : Placed) (l : List Placed) → Right-cell k i t n x l → f x ≡ g i)
      → (l : List Placed) (i t : ℕ) → judged_from k i t l ≡ Ok n → (j : ℕ) → j < length l → nth l j f 0 ≡ g (i + j)
  unfolding nth
  judged_nth f g is [] i t e j h = absurd (omega arith)
  judged_nth f g is (x ∷ l) i t e zero h = is i t x l (right_cell k i t n x l e) ∙ ap g (sym (add-zero i))
  judged_nth f g is (x ∷ l) i t e (suc j) h =
      let r = right_cell k i t n x l e in
      judged_nth f g is l (i + 1) r.after r.rest j (omega arith) ∙ ap g (shift i j)

  pub judged_count : (l : List Placed) (i seconds : ℕ) → judged_from k i seconds l ≡ Ok n → i + length l ≡ n * k
  unfolding judged_from
  judged_count [] i t e =
      let r = ended_rows k n i e in
      add-zero i ∙ sym (div-add-mod' i k) ∙ ap (λ (m : ℕ). i / k * k + m) r.0 ∙ add-zero (i / k * k) ∙ ap (λ (m : ℕ). m * k) r.1
  judged_count (x ∷ l) i t e =
      let r = right_cell k i t n x l e in
      sym (shift i (length l)) ∙ judged_count l (i + 1) r.after r.rest

-- ---- seconds
seconds_stay : (column seconds n : ℕ) → (column ≡ 2 → ⊥) → seconds_after column seconds n ≡ seconds
unfolding seconds_after
seconds_stay column t n h = sym (pick_ne t n t column 2 h refl)

seconds_new : (column seconds n : ℕ) → column ≡ 2 → seconds_after column seconds n ≡ n
unfolding seconds_after
seconds_new column t n h = sym (pick_eq n n t column 2 h refl)

abbrev number_of : Placed → ℕ
number_of x = on_amount 0 (λ n. n) (amount_in 2 x.cell.value)

-- from a cell of column 2 to the next, three cells on
seconds_four : (n i t : ℕ) (x y z w : Placed) (l : List Placed) → judged_from 3 i t (x ∷ y ∷ z ∷ w ∷ l) ≡ Ok n → i % 3 ≡ 2 → number_of x ≤ number_of w
seconds_four n i t x y z w l e h =
    let a = right_cell 3 i t n x (y ∷ z ∷ w ∷ l) e in
    let b = right_cell 3 (i + 1) a.after n y (z ∷ w ∷ l) a.rest in
    let c = right_cell 3 (i + 1 + 1) b.after n z (w ∷ l) b.rest in
    let d = right_cell 3 (i + 1 + 1 + 1) c.after n w l c.rest in
    let again : (i + 1 + 1 + 1) % 3 ≡ 2 = omega arith in
    let first : amount_in 2 x.cell.value ≡ Some a.number = ap (λ (j : ℕ). amount_in j x.cell.value) (sym h) ∙ a.is in
    let last : amount_in 2 w.cell.value ≡ Some d.number = ap (λ (j : ℕ). amount_in j w.cell.value) (sym again) ∙ d.is in
    let u : number_of x ≡ a.number = ap (on_amount 0 (λ n. n)) first in
    let v : number_of w ≡ d.number = ap (on_amount 0 (λ n. n)) last in
    let p : a.after ≡ a.number = a.after_is ∙ seconds_new (i % 3) t a.number h in
    let q : b.after ≡ a.after = b.after_is ∙ seconds_stay ((i + 1) % 3) a.after b.number (λ o. omega arith) in
    let r : c.after ≡ b.after = c.after_is ∙ seconds_stay ((i + 1 + 1) % 3) b.after c.number (λ o. omega arith) in
    let m : c.after ≤ d.number = d.risen_by again in
    omega arith

seconds_three : (n : ℕ) (l : List Placed) (i t : ℕ) → judged_from 3 i t l ≡ Ok n → (j : ℕ) → j + 3 < length l → (i + j) % 3 ≡ 2 → seconds_at l j ≤ nth l (suc (suc (suc j))) number_of 0
unfolding nth
seconds_three n [] i t e j h o = absurd (omega arith)
seconds_three n (x ∷ []) i t e j h o = absurd (omega arith)
seconds_three n (x ∷ y ∷ []) i t e j h o = absurd (omega arith)
seconds_three n (x ∷ y ∷ z ∷ []) i t e j h o = absurd (omega arith)
seconds_three n (x ∷ y ∷ z ∷ w ∷ l) i t e zero h o = seconds_four n i t x y z w l e (ap (λ (m : ℕ). m % 3) (sym (add-zero i)) ∙ o)
seconds_three n (x ∷ y ∷ z ∷ w ∷ l) i t e (suc j) h o =
    let r = right_cell 3 i t n x (y ∷ z ∷ w ∷ l) e in
    let s : i + 1 + j ≡ i + suc j = omega arith in
    seconds_three n (y ∷ z ∷ w ∷ l) (i + 1) r.after r.rest j (omega arith) (ap (λ (m : ℕ). m % 3) s ∙ o)

seconds_rise : (n k : ℕ) → TwoOrThree k → (l : List Placed) → judged_from k 0 0 l ≡ Ok n → (j : ℕ) → j + 3 < length l → j % k ≡ 2 → seconds_at l j ≤ seconds_at l (j + 3)
seconds_rise n k (inl q) l e j h o = absurd (let f : j % 2 ≡ 2 = ap (λ (m : ℕ). j % m) (sym q) ∙ o in omega arith)
seconds_rise n k (inr q) l e j h o =
    let f : judged_from 3 0 0 l ≡ Ok n = ap (λ (m : ℕ). judged_from m 0 0 l) (sym q) ∙ e in
    let g : (0 + j) % 3 ≡ 2 = ap (λ (m : ℕ). m % 3) (zero-add j) ∙ ap (λ (m : ℕ). j % m) (sym q) ∙ o in
    let p : suc (suc (suc j)) ≡ j + 3 = omega arith in
    subst (λ (m : ℕ). seconds_at l j ≤ seconds_at l m) p (seconds_three n l 0 0 f j h g)

-- ---- a stream inside the profile
pub record Session-of (s : List ℕ) (n k : ℕ) (v : Place) : Type 0 where
  pub columns : TwoOrThree k
  pub judged : judged_from k 0 0 (placed_from s v) ≡ Ok n

third_two : (c : Cell) → TwoOrThree (third_of c)
unfolding third_of
third_two c = pick_any TwoOrThree _ (pick_any TwoOrThree _ (inr refl) (inl refl)) (inl refl)

columns_two : (l : List Cell) → TwoOrThree (columns_of l)
unfolding columns_of nth
columns_two [] = inl refl
columns_two (x ∷ []) = inl refl
columns_two (x ∷ y ∷ []) = inl refl
columns_two (x ∷ y ∷ z ∷ l) = third_two z

module _ (s : List ℕ) (n k : ℕ) (v : Place) where
  abbrev Is-session : Result Session Refusal → Type 0
  Is-session x = x ≡ Ok (record { rows = n; columns = k; cells = v }) → Session-of s n k v

  session_judged : (w : Place) (j : ℕ) → TwoOrThree j → (x : Result ℕ Refusal) → judged_from j 0 0 (placed_from s w) ≡ x → Is-session (on_judged w j x)
  session_judged w j t (Ok m) h e =
      let same : ◌≡◌ {A = Session} (record { rows = m; columns = j; cells = w }) (record { rows = n; columns = k; cells = v }) = cc in
      let g : j ≡ k = ap (λ (x : Session). x.columns) same in
      record {
        columns = subst TwoOrThree g t;
        judged = (λ y. judged_from (sym g y) 0 0 (placed_from s (sym same y).cells)) ∙ h ∙ ap (λ (x : Session). Ok x.rows) same;
      }
  session_judged w j t (Err o) h e = never (cc)

  session_at : (w : Place) → Is-session (profile_at s w)
  unfolding profile_at
  session_at w = session_judged w (columns_of (listed_from s w)) (columns_two (listed_from s w)) (judged_from (columns_of (listed_from s w)) 0 0 (placed_from s w)) refl

  session_sheets : (l : List Sheet) → Is-session (on_sheets s l)
  session_sheets [] e = never (cc)
  session_sheets (x ∷ []) e = of_kind x.kind e
    where
      of_kind : (k : SheetKind) → Is-session (of_worksheet k (profile_at s (start_of s x)))
      of_kind Worksheet f = session_at (start_of s x) f
      of_kind Chart f = never (cc)
      of_kind Macro f = never (cc)
      of_kind Other f = never (cc)
  session_sheets (x ∷ y ∷ l) e = never (cc)

  session_checked : (r : Checked) → Is-session (on_checked refuse (λ _. on_sheets s (sheets_of s)) r)
  session_checked (Ok g) e = session_sheets (sheets_of s) e
  session_checked (Err r) e = never (cc)

  pub is_session : profile_of s ≡ Ok (record { rows = n; columns = k; cells = v }) → Session-of s n k v
  unfolding profile_of
  is_session e = session_checked (checked_of s 0) e

pub session_filled : SessionFilled
session_filled s n k v h =
    let i = is_session s n k v h in
    let l = placed_from s v in record {
      count = sym (zero-add (length l)) ∙ judged_count k n l 0 0 i.judged;
      rows_of = λ j m. judged_nth k n (λ (x : Placed). x.cell.row) (λ (y : ℕ). y / k) (λ i t x l r. r.row) l 0 0 i.judged j m ∙ ap (λ (y : ℕ). y / k) (zero-add j);
      columns_of = λ j m. judged_nth k n (λ (x : Placed). x.cell.column) (λ (y : ℕ). y % k) (λ i t x l r. r.column) l 0 0 i.judged j m ∙ ap (λ (y : ℕ). y % k) (zero-add j);
      seconds = seconds_rise n k i.columns l i.judged;
    }

-- ---- no cells
map_none : {A B : Type 0} (f : A → B) (l : List A) → map f l ≡ [] → l ≡ []
map_none f [] h = refl
map_none f (x ∷ l) h = never (cc)

pub empty_inside : EmptyInside
unfolding profile_at columns_of nth judged_from ended_at pick
empty_inside s v h = ap₂ (λ (l : List Cell) (m : List Placed). on_judged v (columns_of l) (judged_from (columns_of l) 0 0 m)) h (map_none (λ (x : Placed). x.cell) (placed_from s v) (placed_cells s v ∙ h))
