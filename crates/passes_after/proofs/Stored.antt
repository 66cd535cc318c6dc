-- A stream that passes still does after a number that is right is stored in the value field of a listed cell: its globals and its sheets are the same. Assumes nothing.
use Prim.Native.Nat.{ℕ, ◌+◌, ◌*◌, ◌≤◌, ◌<◌}
use mathlib.Core.Path.{◌≡◌, refl, sym, ap, ap₂, ◌∙◌, subst}
use mathlib.Core.List.{List}
use mathlib.Core.Logic.{◌⊎◌, inl, inr}
use mathlib.Core.Bool.{true, false}
use native.Mathlib.Omega.{arith}
use lib.ListN.{length, get_or}
use lib.Dec.{eqb}
use lib.Seq.{length-sets}
use Rattle.steps.specs.Choice.{pick}
use Rattle.steps.proofs.Choice.{never, pick_any, pick_by, pick_false, pick_ne}
use Rattle.byte_numbers.specs.Bytes.{num_at, bytes_of}
use Rattle.byte_numbers.proofs.Laws.{Same, num_same, num_stored, stored_other}
use Rattle.record.specs.declared.Header.TheVariants.{Record}
use Rattle.record.specs.Record.{header_at}
use Rattle.record.proofs.Laws.{whole}
use Rattle.value.specs.declared.Field.{Field}
use Rattle.value.specs.Value.{width_of, value_fits, index_fits}
use Rattle.cell.specs.declared.Shape.{Shape}
use Rattle.cell.specs.declared.Shape.TheVariants.{BLANK, NUMBER, RK, LABELSST, BOOLERR, MULRK, MULBLANK, FORMULA, OTHER}
use Rattle.std.specs.Prelude.{Option, None, Some, Result, Ok, Err}
use Rattle.refusal.specs.declared.Refusal.{Refusal}
use Rattle.cell.specs.Cells.{shape_of, is_cell, field_of, part_of, count_of, field_at, judge_of, judged}
use Rattle.record_after.specs.Claims.{place_of}
use Rattle.record_after.proofs.Records as records
use Rattle.record_after.proofs.Changed.{right_changed}
use Rattle.text_result.specs.TextResult.{has_text}
use Rattle.substream.specs.declared.Here.{Here}
use Rattle.substream.specs.declared.Step.TheVariants.{More}
use Rattle.substream.specs.Substream.{past_parent, passed_record, on_judged, record_in}
use Rattle.cell.proofs.Sizes.{formula_shape}
use Rattle.sheet_agreement.specs.declared.SheetKind.TheVariants.{Worksheet}
use Rattle.sheet_agreement.specs.Agreement.{same_kind, agreement_of}
use Rattle.globals.specs.declared.Globals.{Globals}
use Rattle.globals.specs.Globals.{globals_of}
use Rattle.globals.specs.Sheets.{sheets_of}
use Rattle.top_level.specs.TopLevel.{tops_from, bofs_from}
use Rattle.workbook.specs.Check.{checked_of}
use Rattle.reading.specs.declared.Place.{Place}
use Rattle.reading.specs.Cells.{place_at}
use Rattle.reading.specs.Reading.{start_by, start_of}
use Rattle.record_chain.specs.Chain.{here, on, Reach, Beside}
use Rattle.record_chain.specs.Tops.{SheetStands, Passing}
use Rattle.record_chain.proofs.Chain.{chain_trans, over, reach_ahead, every_nth}
use Rattle.record_chain.proofs.Walks.{globals_reach}
use Rattle.record_chain.proofs.Tops.{opening, tops_reach}
use Rattle.record_chain.proofs.Sheets.{passing, passes, sheets_stand}
use Rattle.passes_after.specs.Granted.{Listed}
use Rattle.passes_after.specs.Stored.{stored_in, Placed, Stored}
use Rattle.passes_after.specs.Local.{Moves, Agreeing}
use Rattle.passes_after.proofs.Steps.{pick_same_by, other_same}
use Rattle.passes_after.proofs.Walks.{tops_local}
use Rattle.passes_after.proofs.Globals.{globals_local}
use Rattle.passes_after.proofs.Granted.{listed_each, listed_here, listed_field, listed_kind, field_low, field_high}
use Rattle.passes_after.proofs.Beside.{beside_agrees, beside_sheets}

-- ---- a record that has a cell is a cell record
pub has_cell : (h : Shape) (s : List ℕ) (at z k : ℕ) → k < count_of h s at z → is_cell h ≡ true
has_cell BLANK s at z k l = refl
has_cell NUMBER s at z k l = refl
has_cell RK s at z k l = refl
has_cell LABELSST s at z k l = refl
has_cell BOOLERR s at z k l = refl
has_cell MULRK s at z k l = refl
has_cell MULBLANK s at z k l = refl
has_cell FORMULA s at z k l = refl
has_cell OTHER s at z k l = absurd (omega arith)

abbrev pub NotOther : Result (Option ℕ) Refusal → Type 0
NotOther (Ok (Some n)) = Unit {0}
NotOther (Err r) = Unit {0}
NotOther (Ok None) = ⊥

pub cell_judged : (h : Shape) (s : List ℕ) (at z u : ℕ) → is_cell h ≡ true → NotOther (judge_of s h at z u)
unfolding judge_of judged
cell_judged h s at z u c =
    pick_by NotOther (is_cell h)
    (λ _. pick_any NotOther _ tt (pick_any NotOther _ tt (pick_any NotOther _ (pick_any NotOther _ tt tt) tt)))
    (λ i. never (cc))

not_type : (t : ℕ) (s : List ℕ) (at z k : ℕ) → k < count_of (shape_of t) s at z → (m : ℕ) → shape_of m ≡ OTHER → t ≡ m → ⊥
not_type t s at z k some m o e = let l : k < 0 = subst (λ (h : Shape). k < count_of h s at z) (ap shape_of e ∙ o) some in omega arith

zero_other : shape_of 0 ≡ OTHER
unfolding shape_of pick
zero_other = refl

boundsheet_other : shape_of 0x0085 ≡ OTHER
unfolding shape_of pick
boundsheet_other = refl

-- past a record that is no FORMULA no text result is looked for
plain_passed : (s : List ℕ) (at t e : ℕ) → (t ≡ 0x0006 → ⊥) → passed_record s at t e ≡ Ok (More (past_parent e))
unfolding passed_record has_text
plain_passed s at t e h = sym (pick_false (Ok (More (past_parent e))) _ _ _ (sym (pick_ne false _ _ t 0x0006 h refl)) refl)

-- ---- the number that is stored
module _ {s : List ℕ} {u n : ℕ} {f : Field} {p b : ℕ} (given : Placed s u n f p b) where
  -- the stream after it
  abbrev s' : List ℕ
  s' = stored_in s f p b

  abbrev g : Globals
  g = given.globals

  -- the record in which the cell stands
  pub stands : Listed s (start_of s given.sheet).at given.cell
  stands = every_nth (Listed s (start_of s given.sheet).at) (listed_each s (start_of s given.sheet).at (start_of s given.sheet) here) given.is

  abbrev a : ℕ
  a = stands.at

  abbrev t : ℕ
  t = stands.type

  abbrev z : ℕ
  z = stands.size

  abbrev e : ℕ
  e = stands.end

  abbrev k : ℕ
  k = stands.part

  abbrev h : Shape
  h = shape_of stands.type

  is : header_at s a ≡ Record t z e
  is = stands.header

  below : k < count_of h s a z
  below = (listed_here stands).below

  pub kind_is : f ≡ field_of h
  kind_is = sym given.kind ∙ listed_kind stands

  pub place_is : p ≡ place_of (field_of h) a k
  place_is = sym given.field ∙ listed_field stands

  -- ---- the value field lies in the record's body, past row and column
  pub within : (a + 8 ≤ p) × (p + width_of f ≤ e)
  within =
      let m = field_low stands in
      let o = field_high stands in
      let q = given.field in
      let d = ap width_of given.kind in
      (omega arith, omega arith)

  pub in_stream : p + width_of f ≤ length s
  in_stream = let w = whole s a t z e is in let o = within in omega arith

  -- ---- the stream after it differs only there
  pub len : length s ≡ length s'
  len = sym (length-sets s p (bytes_of (width_of f) b))

  pub elsewhere : (j : ℕ) → (j < p) ⊎ (p + width_of f ≤ j) → get_or s j 0 ≡ get_or s' j 0
  elsewhere j o = sym (stored_other (width_of f) b s p j o)

  before : Same s s' 0 (a + 8)
  before j i l = let m = within in elsewhere j (inl (omega arith))

  after : (j : ℕ) → e ≤ j → get_or s j 0 ≡ get_or s' j 0
  after j i = let m = within in elsewhere j (inr (omega arith))

  pub number_now : num_at s' (width_of f) p ≡ b
  number_now = num_stored (width_of f) b s p in_stream given.small

  pub field_now : field_at (field_of h) s' (a + 8 + k * part_of (field_of h)) ≡ b
  unfolding field_at
  field_now = ap₂ (λ (x : ℕ) (y : Field). num_at s' (width_of y) x) (sym place_is) (sym kind_is) ∙ number_now

  -- ---- it is reached from the end of the globals, and from the end of their BOF
  pub passed : Passing s u g
  passed = passing s u g given.passes

  pub sheet_stands : SheetStands s g given.sheet
  sheet_stands = sheets_stand s u g given.passes n given.sheet given.nth

  reach_sheet : Reach s g.at (given.sheet.position + 20)
  reach_sheet =
      let w = sheet_stands.whole in
      chain_trans (tops_reach s g.unique sheet_stands.tops) (on (over s (opening s given.sheet.position w.kind w.opens).header) here)

  reach_start : (w : Place) → start_by (length s) given.sheet.position given.sheet.kind ≡ w → Reach s w.at a → Reach s g.at a
  unfolding start_by place_at
  reach_start w i q =
      pick_by (λ (x : Place). x ≡ w → Reach s g.at a) (same_kind given.sheet.kind Worksheet)
      (λ _ j. chain_trans reach_sheet (subst (λ (x : Place). Reach s x.at a) (sym j) q))
      (λ _ j.
      let r : Reach s (length s) a = subst (λ (x : Place). Reach s x.at a) (sym j) q in
      let l = reach_ahead s r in
      let y = whole s a t z e is in
      absurd (omega arith)) i

  reached : Reach s g.at a
  reached = reach_start (start_of s given.sheet) refl stands.reached

  pub reached_first : Reach s 20 a
  reached_first = chain_trans (globals_reach s u g passed.globals) reached

  -- ---- what stays
  pub stored_globals : globals_of s' u ≡ Ok g
  stored_globals = let l = reach_ahead s reached in globals_local s s' u g len (λ j i m. before j i (omega arith)) passed.globals

  pub stored_sheets : sheets_of s ≡ sheets_of s'
  stored_sheets = beside_sheets s s' len a t z e is before after (not_type t s a z k below 0x0085 boundsheet_other) 20 (inl reached_first)

-- ---- a number that is right
module _ {s : List ℕ} {u n : ℕ} {f : Field} {p b : ℕ} (given : Stored s u n f p b) where
  abbrev here₀ : Placed s u n f p b
  here₀ = given.placed

  abbrev t' : List ℕ
  t' = stored_in s f p b

  abbrev a₀ : ℕ
  a₀ = (stands here₀).at

  abbrev t₀ : ℕ
  t₀ = (stands here₀).type

  abbrev z₀ : ℕ
  z₀ = (stands here₀).size

  abbrev e₀ : ℕ
  e₀ = (stands here₀).end

  abbrev k₀ : ℕ
  k₀ = (stands here₀).part

  abbrev h₀ : Shape
  h₀ = shape_of (stands here₀).type

  abbrev u₀ : ℕ
  u₀ = here₀.globals.unique

  -- the record passes in a worksheet as it did, and is passed over elsewhere
  judged_same : (m : ℕ) → judge_of s h₀ a₀ z₀ u₀ ≡ Ok (Some m) → judge_of t' h₀ a₀ z₀ u₀ ≡ Ok (Some m)
  judged_same m i =
      let r = records.right s h₀ a₀ z₀ u₀ m i in
      let c = r.count in
      let l = below here₀ in
      let q = place_is here₀ in
      let d = ap width_of (kind_is here₀) in
      records.passes t' h₀ a₀ z₀ u₀ m
      (right_changed s t' h₀ a₀ z₀ u₀ m k₀ r (omega arith) (λ j x y. elsewhere here₀ j (inl (omega arith))) (λ j x y. elsewhere here₀ j (inr (omega arith)))
      (ap₂ (λ (x : Field) (y : ℕ). value_fits x y) (sym (kind_is here₀)) (field_now here₀) ∙ given.fits.right)
      (ap₂ (λ (x : Field) (y : ℕ). index_fits x y u₀) (sym (kind_is here₀)) (field_now here₀) ∙ given.fits.index))

  -- it holds cells, and is no formula
  cells : shape_of t₀ ≡ OTHER → ⊥
  cells o = let l : k₀ < 0 = subst (λ (x : Shape). k₀ < count_of x s a₀ z₀) o (below here₀) in omega arith

  formula_not : t₀ ≡ 0x0006 → ⊥
  formula_not q = given.plain (kind_is here₀ ∙ ap field_of (ap shape_of q ∙ formula_shape))

  kept_by : (j : ℕ) (w : Here) → w.at ≡ a₀ → (x : Result (Option ℕ) Refusal) → judge_of s h₀ w.at z₀ u₀ ≡ x → Moves (on_judged s j w t₀ z₀ e₀ x)
      → on_judged s j w t₀ z₀ e₀ x ≡ on_judged t' j w t₀ z₀ e₀ (judge_of t' h₀ w.at z₀ u₀)
  kept_by j w q (Ok (Some m)) i o =
      plain_passed s w.at t₀ e₀ formula_not ∙ sym (plain_passed t' w.at t₀ e₀ formula_not)
      ∙ ap (on_judged t' j w t₀ z₀ e₀)
      (sym (ap (λ (x : ℕ). judge_of t' h₀ x z₀ u₀) q ∙ judged_same m (ap (λ (x : ℕ). judge_of s h₀ x z₀ u₀) (sym q) ∙ i)))
  kept_by j w q (Err r) i o = absurd o
  kept_by j w q (Ok None) i o = absurd (subst NotOther i (cell_judged h₀ s w.at z₀ u₀ (has_cell h₀ s a₀ z₀ k₀ (below here₀))))

  kept : (j : ℕ) (w : Here) → w.at ≡ a₀ → Moves (record_in s j u₀ w t₀ z₀ e₀) → record_in s j u₀ w t₀ z₀ e₀ ≡ record_in t' j u₀ w t₀ z₀ e₀
  unfolding record_in
  kept j w q m =
      pick_same_by Moves (eqb j 0x0010) _ _ _ _
      (λ _ i. kept_by j w q (judge_of s h₀ w.at z₀ u₀) refl i)
      (λ _ _. other_same s t' j u₀ w t₀ z₀ e₀ (λ _. num_same s t' 2 (w.at + 6) (λ i l o. before here₀ i (omega arith) (omega arith)))) m

  -- the two streams agree at each place beside it
  agrees : Agreeing s t' u₀ (Beside s a₀ e₀)
  agrees = beside_agrees s t' (len here₀) a₀ t₀ z₀ e₀ (is here₀) (before here₀) (after here₀) u₀ cells kept (not_type t₀ s a₀ z₀ k₀ (below here₀) 0 zero_other)

  tops_stay : (tops_from t' u₀ here₀.globals.at ≡ Ok tt) × (bofs_from s u₀ here₀.globals.at ≡ bofs_from t' u₀ here₀.globals.at)
  tops_stay = tops_local s t' u₀ (Beside s a₀ e₀) agrees here₀.globals.at (inl (reached here₀)) (passed here₀).tops

  pub stored_checked : checked_of t' u ≡ checked_of s u
  stored_checked =
      let l = len here₀ in
      passes t' u here₀.globals
      (record { short = rw (← l) (passed here₀).short; globals = stored_globals here₀; tops = tops_stay.0; agree = ap₂ agreement_of (sym (stored_sheets here₀)) (sym tops_stay.1) ∙ (passed here₀).agree })
      ∙ sym here₀.passes
