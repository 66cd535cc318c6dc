-- The one cell that an address has, and what a number stored in it leaves. Assumes nothing.
use Prim.Native.Nat.{ℕ, zero, suc, ◌+◌, ◌*◌, ◌/◌, ◌%◌, ◌^◌, ◌≤◌, ◌<◌}
use mathlib.Core.Path.{◌≡◌, refl, sym, ap, ap₂, ◌∙◌, subst}
use mathlib.Core.List.{List, [], ◌∷◌, map}
use mathlib.Core.Bool.{Bool, true, false, ◌&&◌}
use mathlib.Core.Logic.{◌⊎◌, inl, inr}
use native.Mathlib.Numerals.{add-one}
use native.Mathlib.Omega.{arith}
use lib.ListN.{get_or, set}
use lib.Dec.{eqb}
use lib.Seq.{sets, set-get_or}
use borrow.Author.Tests.{eqb-true}
use Rattle.steps.specs.Choice.{pick}
use Rattle.steps.proofs.Choice.{never, pick_any}
use Rattle.steps.specs.Items.{nth}
use Rattle.byte_numbers.specs.Bytes.{num_at, bytes_of}
use Rattle.value.specs.declared.Field.{Field}
use Rattle.value.specs.declared.Field.TheVariants.{StoredResult}
use Rattle.value.specs.declared.CellValue.{CellValue}
use Rattle.value.specs.Value.{width_of, value_of}
use Rattle.cell.specs.declared.Cell.{Cell}
use Rattle.new_value.specs.declared.NewValue.{NewValue}
use Rattle.new_value.specs.Change.{plan_of}
use Rattle.sheet_agreement.specs.Agreement.{Sheet}
use Rattle.globals.specs.declared.Globals.{Globals}
use Rattle.globals.specs.Sheets.{sheets_of}
use Rattle.workbook.specs.Check.{Right}
use Rattle.workbook.specs.Check.{checked_of}
use Rattle.reading.specs.Reading.{listed_of}
use Rattle.refusal.specs.declared.Refusal.{Refusal}
use Rattle.refusal.specs.Refused.{refuse}
use Rattle.std.specs.Prelude.{Result, Ok, Err}
use Rattle.correction.specs.declared.Aim.{Aim}
use Rattle.journal_claims.proofs.Words.{aimed}
use Rattle.correction.specs.Correction.{refuses, cells_at, on_plan, on_cells, no_sheet, correction_in}
use Rattle.correction.specs.Parts.{target_of, on_target, aim_in}
use Rattle.record_chain.specs.Chain.{Every, Beside, Nth}
use Rattle.record_chain.specs.Tops.{SheetStands}
use Rattle.record_chain.proofs.Chain.{chain_trans, over, beside_reach, nth_either}
use Rattle.record_chain.proofs.Walks.{globals_reach}
use Rattle.record_chain.proofs.Tops.{tops_reach}
use Rattle.record_chain.proofs.Sheets.{passing, sheets_stand}
use Rattle.passes_after.specs.Stored.{stored_in, Fits, Placed, Stored}
use Rattle.passes_after.proofs.Granted.{listed_here}
use Rattle.passes_after.proofs.Upheld.{at_place}
use Rattle.passes_after.proofs.Stored.{stands, kind_is, place_is, len, elsewhere, field_now, reached_first, stored_sheets, stored_checked}
use Rattle.reads_after.specs.Parts.{Corrected, written}
use Rattle.reads_after.proofs.Cells.{sheet_written}
use Rattle.reads_after.proofs.Found.{has_at}
use Rattle.reads_after.specs.Fields.{Frame, frame_of}
use Rattle.either_order.proofs.Apart.{both_true, nth_same}
use Rattle.journal.specs.Journal.{planned, on_spot}
use Rattle.journal_claims.specs.Replayed.{Bytes}

-- ---- the old number stored again
pub stored_same : (w : ℕ) (s : List ℕ) (p : ℕ) → Bytes s → sets s p (bytes_of w (num_at s w p)) ≡ s
unfolding num_at bytes_of
stored_same zero s p h = refl
stored_same (suc w) s p h =
    let l = h p in
    let low : (get_or s p 0 + 256 * num_at s w (p + 1)) % 256 ≡ get_or s p 0 = omega arith in
    let high : (get_or s p 0 + 256 * num_at s w (p + 1)) / 256 ≡ num_at s w (suc p) = rw (← add-one p) (omega arith) in
    ap₂ (λ (x y : ℕ). sets (set s p x) (suc p) (bytes_of w y)) low high
    ∙ ap (λ (l : List ℕ). sets l (suc p) (bytes_of w (num_at s w (suc p)))) (set-get_or s p 0)
    ∙ stored_same w s (suc p) h

-- ---- a correction is what its aim comes to
plan_same : (c : Cell) (y : Result ℕ Refusal) → planned c.kind c.field y ≡ on_plan c y
plan_same c (Ok n) = refl
plan_same c (Err r) = refl

cells_same : (v : NewValue) (u : ℕ) (l : List Cell) → on_spot v (on_target u (target_of l)) ≡ on_cells v u l
cells_same v u [] = refl
cells_same v u (c ∷ []) = plan_same c (plan_of c.kind v u)
cells_same v u (c ∷ d ∷ l) = refl

module _ (s : List ℕ) (u t n row column : ℕ) (v : NewValue) where
  sheets_same : (l : List Sheet) (m : ℕ)
      → on_spot v (nth l m (λ (x : Sheet). on_target u (target_of (cells_at row column (listed_of s x)))) (refuse (no_sheet t n) 0))
      ≡ nth l m (λ (x : Sheet). on_cells v u (cells_at row column (listed_of s x))) (refuses (no_sheet t n) 0)
  unfolding nth
  sheets_same [] m = refl
  sheets_same (x ∷ l) zero = cells_same v u (cells_at row column (listed_of s x))
  sheets_same (x ∷ l) (suc m) = sheets_same l m

  pub aimed_correction : on_spot v (aim_in s u t n row column) ≡ correction_in s u t n row column v
  unfolding aim_in
  aimed_correction = sheets_same (sheets_of s) n

-- ---- the one cell that an aim is at
pub record Only (s : List ℕ) (n row column : ℕ) (f : Field) (p : ℕ) : Type 0 where
  pub sheet : Sheet
  pub nth : Nth (sheets_of s) n sheet
  pub cell : Cell
  pub which : ℕ
  pub is : Nth (listed_of s sheet) which cell
  pub row_is : cell.row ≡ row
  pub column_is : cell.column ≡ column
  pub kind : cell.kind ≡ f
  pub field : cell.field ≡ p

module _ (s : List ℕ) (u n row column : ℕ) (f : Field) (p q : ℕ) where
  only_by : (x : Sheet) → Nth (sheets_of s) n x → (l : List Cell) → cells_at row column (listed_of s x) ≡ l → on_target u (target_of l) ≡ aimed f p q → Only s n row column f p
  only_by x i [] e h = never (cc)
  only_by x i (c ∷ []) e h =
      let q₀ = q in
      let q = at_place row column (listed_of s x) c [] e in
      let a = (subst (Every (λ (c : Cell). eqb c.row row && eqb c.column column ≡ true)) e (has_at row column (listed_of s x))).0 in
      let b = both_true (eqb c.row row) (eqb c.column column) a in
      let same : ◌≡◌ {A = Aim} (record { kind = c.kind; field = c.field; unique = u }) (record { kind = f; field = p; unique = q₀ }) = cc in
      record { sheet = x; nth = i; cell = c; which = q.which; is = q.is; row_is = eqb-true c.row row b.0; column_is = eqb-true c.column column b.1; kind = ap (λ (z : Aim). z.kind) same; field = ap (λ (z : Aim). z.field) same }
  only_by x i (c ∷ d ∷ l) e h = never (cc)

  pub aimed_only : (t : ℕ) → aim_in s u t n row column ≡ aimed f p q → Only s n row column f p
  unfolding aim_in
  aimed_only t h =
      nth_either (λ (x : Sheet). on_target u (target_of (cells_at row column (listed_of s x)))) (refuse (no_sheet t n) 0) (aimed f p q) (Only s n row column f p) (sheets_of s) n
      (λ x i e. only_by x i (cells_at row column (listed_of s x)) refl e) (λ _ e. never (cc)) h

-- an aim has the unique count that it is asked with
module _ (s : List ℕ) (u t n row column : ℕ) (f : Field) (p q : ℕ) where
  unique_by : (l : List Cell) → on_target u (target_of l) ≡ aimed f p q → q ≡ u
  unique_by [] h = never (cc)
  unique_by (c ∷ []) h =
      let same : ◌≡◌ {A = Aim} (record { kind = c.kind; field = c.field; unique = u }) (record { kind = f; field = p; unique = q }) = cc in
      ap (λ (z : Aim). z.unique) (sym same)
  unique_by (c ∷ d ∷ l) h = never (cc)

  pub aimed_unique : aim_in s u t n row column ≡ aimed f p q → q ≡ u
  unfolding aim_in
  aimed_unique h =
      nth_either (λ (x : Sheet). on_target u (target_of (cells_at row column (listed_of s x)))) (refuse (no_sheet t n) 0) (aimed f p q) (q ≡ u) (sheets_of s) n
      (λ x i e. unique_by (cells_at row column (listed_of s x)) e) (λ _ e. never (cc)) h

abbrev pub one_placed : (s : List ℕ) (u n row column : ℕ) (f : Field) (p : ℕ) (g : Globals) → checked_of s u ≡ Right g → Only s n row column f p → (b : ℕ) → b < 256 ^ width_of f → Placed s u n f p b
one_placed s u n row column f p g ok o b small =
    record { globals = g; passes = ok; sheet = o.sheet; nth = o.nth; cell = o.cell; which = o.which; is = o.is; kind = o.kind; field = o.field; small = small }

-- the one cell, and a number that is right in it
pub one_stored : (s : List ℕ) (u n row column : ℕ) (f : Field) (p : ℕ) (g : Globals) → checked_of s u ≡ Right g → Only s n row column f p → (b : ℕ) → Fits f g.unique b → (f ≡ StoredResult → ⊥) → Stored s u n f p b
one_stored s u n row column f p g ok o b fits plain = record { placed = one_placed s u n row column f p g ok o b fits.small; fits = fits; plain = plain }

-- ---- a written cell is the same but for its value
pub frame_kept : (p : ℕ) (v : CellValue) (c : Cell) → frame_of (written p v c) ≡ frame_of c
unfolding written
frame_kept p v c = pick_any (λ (d : Cell). frame_of d ≡ frame_of c) (eqb c.field p) refl refl

module _ (row column p : ℕ) (v : CellValue) where
  at_written : (l : List Cell) → cells_at row column (map (written p v) l) ≡ map (written p v) (cells_at row column l)
  unfolding cells_at pick
  at_written [] = refl
  at_written (c ∷ l) =
      ap₂ (λ (b : Bool) (m : List Cell). pick b (written p v c ∷ m) m) (ap (λ (x : Frame). eqb x.row row && eqb x.column column) (frame_kept p v c)) (at_written l)
      ∙ go (eqb c.row row && eqb c.column column)
    where
      go : (b : Bool) → pick b (written p v c ∷ map (written p v) (cells_at row column l)) (map (written p v) (cells_at row column l)) ≡ map (written p v) (pick b (c ∷ cells_at row column l) (cells_at row column l))
      go true = refl
      go false = refl

  aim_written : (u : ℕ) (l : List Cell) → on_target u (target_of (map (written p v) l)) ≡ on_target u (target_of l)
  aim_written u [] = refl
  aim_written u (c ∷ []) = ap (λ (x : Frame). aimed x.kind x.place u) (frame_kept p v c)
  aim_written u (c ∷ d ∷ l) = refl

-- ---- a number that is stored, right or not
module _ {s : List ℕ} {u n : ℕ} {f : Field} {p b : ℕ} (given : Placed s u n f p b) where
  abbrev s' : List ℕ
  s' = stored_in s f p b

  corrected : Corrected s s' (stands given).at (stands given).type (stands given).size (stands given).end (stands given).part (value_of f b)
  corrected =
      let q = place_is given in
      let d = ap width_of (kind_is given) in
      record {
        size = len given;
        whole = (stands given).header;
        below = (listed_here (stands given)).below;
        else = λ j o. elsewhere given j (by j o q d);
        now = ap₂ (λ (x : Field) (y : ℕ). value_of x y) (sym (kind_is given)) (field_now given);
      }
    where
      by : (j : ℕ) {x w : ℕ} → (j < x) ⊎ (x + w ≤ j) → p ≡ x → width_of f ≡ w → (j < p) ⊎ (p + width_of f ≤ j)
      by j (inl l) q d = inl (omega arith)
      by j (inr l) q d = inr (omega arith)

  module _ (m : ℕ) (x : Sheet) (i : Nth (sheets_of s) m x) where
    stand : SheetStands s given.globals x
    stand = sheets_stand s u given.globals given.passes m x i

    near : Beside s (stands given).at (stands given).end x.position
    near =
        beside_reach s (stands given).at (stands given).end (over s (stands given).header)
        (chain_trans (globals_reach s u given.globals (passing s u given.globals given.passes).globals) (tops_reach s given.globals.unique stand.tops)) (inl (reached_first given))

    -- the cells of each sheet, that one with what the number says
    pub listed_written : listed_of s' x ≡ map (written p (value_of f b)) (listed_of s x)
    listed_written = sheet_written corrected given.globals x stand near ∙ ap (λ (q : ℕ). map (written q (value_of f b)) (listed_of s x)) (sym (place_is given))

  pub placed_aims : (q t m row column : ℕ) → aim_in s' q t m row column ≡ aim_in s q t m row column
  unfolding aim_in
  placed_aims q t m row column =
      ap (λ (l : List Sheet). nth l m (λ (x : Sheet). on_target q (target_of (cells_at row column (listed_of s' x)))) (refuse (no_sheet t m) 0)) (sym (stored_sheets given))
      ∙ nth_same (λ (x : Sheet). on_target q (target_of (cells_at row column (listed_of s' x)))) (λ (x : Sheet). on_target q (target_of (cells_at row column (listed_of s x)))) (refuse (no_sheet t m) 0) (sheets_of s) m
      (λ x i. ap (λ (l : List Cell). on_target q (target_of (cells_at row column l))) (listed_written m x i)
      ∙ ap (λ (l : List Cell). on_target q (target_of l)) (at_written row column p (value_of f b) (listed_of s x)) ∙ aim_written row column p (value_of f b) q (cells_at row column (listed_of s x)))

-- ---- and one that is right
pub aim_stays : {s : List ℕ} {u n : ℕ} {f : Field} {p b : ℕ} → Stored s u n f p b → (q t m row column : ℕ) → aim_in (stored_in s f p b) q t m row column ≡ aim_in s q t m row column
aim_stays given q t m row column = placed_aims given.placed q t m row column

pub check_stays : {s : List ℕ} {u n : ℕ} {f : Field} {p b : ℕ} → Stored s u n f p b → checked_of (stored_in s f p b) u ≡ checked_of s u
check_stays given = stored_checked given
