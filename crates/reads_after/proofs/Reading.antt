-- The reading of a corrected stream: the old one with the value of that one cell replaced. Assumes nothing.
use Prim.Native.Nat.{ℕ, ◌+◌, ◌≤◌, ◌<◌}
use mathlib.Core.Path.{◌≡◌, refl, sym, ap, ◌∙◌, subst}
use mathlib.Core.List.{List, map}
use mathlib.Core.Bool.{Bool, true, false}
use mathlib.Core.Logic.{◌⊎◌, inl, inr}
use native.Mathlib.Omega.{arith}
use lib.ListN.{length}
use lib.Dec.{eqb}
use borrow.Author.Tests.{eqb-true, eqb-false}
use Rattle.steps.proofs.Choice.{pick_true, pick_false}
use Rattle.value.specs.declared.Field.{Field}
use Rattle.cell.specs.declared.Cell.{Cell}
use Rattle.cell.specs.Cells.{shape_of, field_of}
use Rattle.new_value.specs.declared.NewValue.{NewValue}
use Rattle.new_value.specs.declared.NewValue.TheVariants.{Number, Text, Truth, Error}
use Rattle.new_value.specs.Change.{Held, plan_of, new_of}
use Rattle.sheet_agreement.specs.Agreement.{Sheet}
use Rattle.globals.specs.declared.Globals.{Globals}
use Rattle.globals.specs.Globals.{globals_of}
use Rattle.globals.specs.Sheets.{sheets_of}
use Rattle.reading.specs.Reading.{name_at, width_at, type_at, listed_of, rows_of, on_globals, says_text, CellReading, cell_reading, sheet_reading, reading_of}
use Rattle.correction.specs.Correction.{writes, stream_after}
use Rattle.record_chain.specs.Chain.{here, Reach, Beside, Every, Nth}
use Rattle.record_chain.specs.Tops.{SheetStands}
use Rattle.record_chain.proofs.Chain.{chain_trans, over, reach_ahead, beside_reach, every_nth, every_map}
use Rattle.record_chain.proofs.Tops.{tops_reach}
use Rattle.record_chain.proofs.Sheets.{Bounded, passing, sheets_stand, sheets_apart, sheets_bounded}
use Rattle.passes_after.specs.Granted.{Granted, Listed}
use Rattle.cell.proofs.Sizes.{formula_shape}
use Rattle.passes_after.proofs.Granted.{granted, listed_kind}
use Rattle.passes_after.proofs.Upheld.{formula_takes, globals_stay, sheets_stay}
use Rattle.reads_after.specs.Replaced.{replaced_cell, replaced_sheet, on_nth, replaced, values_at}
use Rattle.reads_after.specs.Claims.{ReadsReplaced, OneBefore, NewAfter}
use Rattle.reads_after.specs.Parts.{field_from, Corrected, written, addressed, ListedTo}
use Rattle.reads_after.proofs.Lists.{every_both, map_same, nth_one, on_nth_lem}
use Rattle.reads_after.proofs.Fields.{inside, same_before}
use Rattle.reads_after.proofs.Found.{field_within, at_every, has_at, sheet_cells, stands, found, reach_found, reach_globals, cell_of_lem, field_is, corrected}
use Rattle.reads_after.proofs.Cells.{sheet_written, sheet_read, sheet_rows, here_is, here_read, other_read}
use Rattle.reads_after.proofs.Names.{name_kept, width_kept, type_kept}
use Rattle.reads_after.proofs.Strings.{globals_tabled, strings_kept}
use Rattle.reads_after.proofs.Values.{value_one, value_new}

-- a new value is no formula's
new_silent : (v : NewValue) → says_text (new_of v) ≡ false
new_silent (Number x) = refl
new_silent (Text i) = refl
new_silent (Truth t) = refl
new_silent (Error e) = refl

-- ---- a correction that is granted
module _ {s : List ℕ} {lent n row column : ℕ} {v : NewValue} {f : Field} {p b : ℕ} (r : Granted s lent n row column v f p b) (held : Held v) where
  abbrev s' : List ℕ
  s' = stream_after s (writes f p b)

  abbrev g : Globals
  g = r.globals

  -- the record in which the cell stands
  abbrev w₀ : Listed s r.sheet.position r.cell
  w₀ = (found r).listed

  abbrev a : ℕ
  a = w₀.at

  abbrev e : ℕ
  e = w₀.end

  abbrev p₀ : ℕ
  p₀ = field_from w₀.type a w₀.part

  c : Corrected s s' a w₀.type w₀.size e w₀.part (new_of v)
  c = corrected r held

  formula_not : w₀.type ≡ 0x0006 → ⊥
  formula_not q =
      formula_takes v g.unique b
      (ap (λ (x : Field). plan_of x v g.unique) (sym (listed_kind w₀ ∙ ap (λ (k : ℕ). field_of (shape_of k)) q ∙ ap field_of formula_shape)) ∙ r.plan)

  -- each place that is reached from the end of the globals' BOF is beside it
  near : {x : ℕ} → Reach s 20 x → Beside s a e x
  near q = beside_reach s a e (over s w₀.header) q (inl (chain_trans (reach_globals r) (reach_found r)))

  -- ---- a sheet
  module _ (m : ℕ) (x : Sheet) (i : Nth (sheets_of s) m x) where
    stand : SheetStands s g x
    stand = sheets_stand s lent g r.passes m x i

    near_sheet : Beside s a e x.position
    near_sheet = near (chain_trans (reach_globals r) (tops_reach s g.unique stand.tops))

    -- its cells are the old ones, with the new value where that value field is
    pub listed_written : listed_of s' x ≡ map (written p₀ (new_of v)) (listed_of s x)
    listed_written = sheet_written c g x stand near_sheet

    -- name, width, type and row count stay
    sheet_by : (l : List CellReading) → map (cell_reading s') (listed_of s' x) ≡ l
        → sheet_reading s' x ≡ record { name = name_at s x.header; width = width_at s x.header; type = type_at s x.header; rows = rows_of (listed_of s x); cells = l }
    sheet_by l q =
        let o = near here in
        let k : Bounded s 20 x = every_nth (Bounded s 20) (sheets_bounded s 20) i in
        λ y. record { name = name_kept c 20 o x k y; width = width_kept c 20 o x k y; type = type_kept c 20 o x k y; rows = sheet_rows c g x stand near_sheet y; cells = q y }

    -- the substreams of two sheets don't overlap, and so no cell of another sheet has that value field
    field_else : (m ≡ n → ⊥) → (d : Cell) → ListedTo s x.position stand.end d → d.field ≡ p₀ → ⊥
    field_else other d j q =
        let k = field_within j.listed in
        let l = field_within w₀ in
        let h = r.field in
        let u = field_is r in
        let o = j.ends in
        let y = (found r).ends in
        go stand.end (stands r).end x.position r.sheet.position (sheets_apart s lent g r.passes m n x r.sheet i r.nth other stand (stands r)) (omega arith)
      where
        go : (e₁ e₂ p₁ p₂ : ℕ) → (e₁ ≤ p₂) ⊎ (e₂ ≤ p₁) → (p₁ < e₂) × (p₂ < e₁) → ⊥
        go e₁ e₂ p₁ p₂ (inl l) h = omega arith
        go e₁ e₂ p₁ p₂ (inr l) h = omega arith

    other_sheet : (m ≡ n → ⊥) → sheet_reading s' x ≡ sheet_reading s x
    other_sheet other =
        sheet_by (map (cell_reading s) (listed_of s x))
        (sheet_read c g x stand near_sheet (λ d. d)
        (every_map (ListedTo s x.position stand.end) _ (λ d j. other_read c x.position d j.listed near_sheet j.text (field_else other d j)) (listed_of s x) (sheet_cells s g x stand))
        ∙ map_same (map (cell_reading s) (listed_of s x)))

  -- ---- the n-th sheet
  abbrev Has : Cell → Type 0
  Has d = addressed row column d ≡ true

  -- its one cell of the address
  cell_has : Has r.cell
  cell_has = (subst (Every Has) r.only (has_at row column (listed_of s r.sheet))).0

  one_has : Every (λ d. Has d → d ≡ r.cell) (listed_of s r.sheet)
  one_has = at_every (λ d. d ≡ r.cell) row column (listed_of s r.sheet) (subst (Every (λ d. d ≡ r.cell)) (sym r.only) (refl, tt))

  near_n : Beside s a e r.sheet.position
  near_n = near_sheet n r.sheet r.nth

  cell_read : (d : Cell) → ListedTo s r.sheet.position (stands r).end d → (Has d → d ≡ r.cell) → cell_reading s' (written p₀ (new_of v) d) ≡ replaced_cell row column (new_of v) (cell_reading s d)
  cell_read d j one = go (eqb d.field p₀) refl
    where
      none : (y : Bool) → addressed row column d ≡ y → (d.field ≡ p₀ → ⊥) → y ≡ false
      none true h k = absurd (k (ap (λ (x : Cell). x.field) (one h) ∙ r.field ∙ field_is r))
      none false h k = refl

      go : (y : Bool) → eqb d.field p₀ ≡ y → cell_reading s' (written p₀ (new_of v) d) ≡ replaced_cell row column (new_of v) (cell_reading s d)
      go true q =
          let k = eqb-true d.field p₀ q in
          let h : d ≡ r.cell = here_is c r.sheet.position d j.listed near_n j.text k ∙ sym (cell_of_lem r) in
          here_read c r.sheet.position d j.listed near_n j.text formula_not (new_silent v) k ∙ pick_true _ _ _ (addressed row column d) (subst Has (sym h) cell_has) refl
      go false q =
          let k = eqb-false d.field p₀ q in
          other_read c r.sheet.position d j.listed near_n j.text k ∙ pick_false _ _ _ (addressed row column d) (none (addressed row column d) refl k) refl

  this_sheet : (x : Sheet) → Nth (sheets_of s) n x → sheet_reading s' x ≡ replaced_sheet row column (new_of v) (sheet_reading s x)
  this_sheet x i =
      subst (λ (y : Sheet). sheet_reading s' y ≡ replaced_sheet row column (new_of v) (sheet_reading s y)) (nth_one r.nth i)
      (sheet_by n r.sheet r.nth (map (replaced_cell row column (new_of v)) (map (cell_reading s) (listed_of s r.sheet)))
      (sheet_read c g r.sheet (stands r) near_n (replaced_cell row column (new_of v))
      (every_both (ListedTo s r.sheet.position (stands r).end) (λ d. Has d → d ≡ r.cell) _ cell_read (listed_of s r.sheet) (sheet_cells s g r.sheet (stands r)) one_has)))

  -- ---- all sheets
  sheets_read : map (sheet_reading s') (sheets_of s') ≡ on_nth n (replaced_sheet row column (new_of v)) (map (sheet_reading s) (sheets_of s))
  sheets_read =
      ap (map (sheet_reading s')) (sym (sheets_stay s lent n row column v f p b held r))
      ∙ on_nth_lem (sheet_reading s) (sheet_reading s') (replaced_sheet row column (new_of v)) (sheets_of s) n other_sheet this_sheet

  -- ---- the strings
  strings_read : on_globals s' (globals_of s' lent) ≡ on_globals s (globals_of s lent)
  strings_read =
      let l = reach_ahead s (reach_found r) in
      let k = inside c in
      let h = (passing s lent g r.passes).globals in
      ap (on_globals s') (globals_stay s lent n row column v f p b held r)
      ∙ strings_kept s s' c.size g.at (same_before c 0 (g.at + 2) (omega arith)) g refl (globals_tabled s lent g h)
      ∙ ap (on_globals s) (sym h)

  -- ---- the whole
  pub reading_replaced : reading_of s' lent ≡ replaced n row column (new_of v) (reading_of s lent)
  unfolding reading_of
  reading_replaced = λ y. record { sheets = sheets_read y; strings = strings_read y }

-- ---- the claims
pub reads_replaced : ReadsReplaced
reads_replaced s lent sheets n row column v f p b held h = reading_replaced (granted s lent sheets n row column v f p b h) held

pub one_before : OneBefore
one_before s lent sheets n row column v f p b h =
    let r = granted s lent sheets n row column v f p b h in
    ap length (value_one s lent n row column r.sheet r.nth r.cell r.only)

pub new_after : NewAfter
new_after s lent sheets n row column v f p b held h =
    let r = granted s lent sheets n row column v f p b h in
    ap (values_at n row column) (reads_replaced s lent sheets n row column v f p b held h) ∙ value_new s lent n row column r.sheet r.nth r.cell r.only (new_of v)
