-- Demand 3. Assumes nothing.
use Prim.Native.Nat.{ℕ, zero, suc, ◌+◌, ◌/◌, ◌%◌, ◌^◌, ◌≤◌, ◌<◌}
use mathlib.Core.Path.{◌≡◌, refl, sym, ap, ap₂, ◌∙◌, subst}
use mathlib.Core.List.{List, [], ◌∷◌, map}
use mathlib.Core.Logic.{◌⊎◌, inl, inr, ◌↔◌}
use mathlib.Core.Bool.{Bool, true, false, not}
use native.Mathlib.Omega.{arith}
use lib.Dec.{ltb, eqb}
use lib.ListN.{length, get_or}
use lib.Seq.{sets, length-sets}
use Rattle.std.specs.Prelude.{Option, Some, None, Result, Ok, Err}
use Rattle.refusal.specs.declared.Refusal as refusal
use Rattle.refusal.specs.Refused.{refuse}
use borrow.Author.Tests.{le-ltb, ltb-true, ltb-false, leb-false, lt-leb}
use Rattle.steps.specs.Choice.{pick}
use Rattle.steps.proofs.Choice.{never, pick_by}
use Rattle.steps.specs.Items.{nth}
use Rattle.byte_numbers.specs.Bytes.{num_at, bytes_of}
use Rattle.byte_numbers.proofs.Laws.{stored_other, num_stored}
use Rattle.record.proofs.Laws.{whole}
use Rattle.truth_error.specs.Boolerr.{is_truth, is_error}
use Rattle.number.specs.Float64.{bits_of}
use Rattle.number.specs.Packing.{Means, pack_of}
use Rattle.number.proofs.Laws.{bits_of_lt, refused_exactly}
use Rattle.value.specs.declared.Field.{Field}
use Rattle.value.specs.declared.Field.TheVariants.{NoField, Float, RkWord, TextIndex, TruthError, StoredResult}
use Rattle.value.specs.declared.CellValue.{CellValue}
use Rattle.value.specs.Value.{width_of, value_of}
use Rattle.cell.specs.declared.Cell.{Cell}
use Rattle.new_value.specs.declared.NewValue.{NewValue}
use Rattle.new_value.specs.declared.NewValue.TheVariants.{Number, Text, Truth, Error}
use Rattle.new_value.specs.Change.{Held, new_of, put_if, finite, float_plan, packed_plan, plan_of}
use Rattle.record_after.proofs.Planned.{planned, unpacked}
use Rattle.sheet_agreement.specs.Agreement.{Sheet}
use Rattle.globals.specs.declared.Globals.{Globals}
use Rattle.globals.specs.Sheets.{sheets_of}
use Rattle.workbook.specs.declared.Passed.{Passed}
use Rattle.workbook.specs.Check.{Checked, Right, checked_of, answered, on_checked}
use Rattle.reading.specs.Reading.{start_of, listed_of, CellReading, SheetReading, Reading, reading_of}
use Rattle.correction.specs.Correction.{Correction, refuses, writes, cells_at, on_plan, on_cells, no_sheet, correction_of, answer_of, stream_after}
use Rattle.correction.proofs.Laws.{sheet_lent, sheet_missing}
use Rattle.record_chain.specs.Chain.{Nth}
use Rattle.record_chain.proofs.Chain.{nth_is, nth_missing, nth_either}
use Rattle.passes_after.specs.Granted.{Granted}
use Rattle.passes_after.proofs.Granted.{granted, listed_only, field_high}
use Rattle.passes_after.proofs.Upheld.{upheld, sheets_stay}
use Rattle.reads_after.specs.Replaced.{has_address, with_value, replaced_cell, replaced_sheet, on_nth, values_at}
use Rattle.reads_after.proofs.Reading.{reads_replaced, new_after}
use Rattle.claims.specs.Demand3.{Corrects, Only, One, HoldsNew, OthersStay, passed, Passes, ReadsNew, OneAfter, Granted as OfGranted, spot_of, of_cells, SpotsStay, text_of, TextsStay, takes, Unfit, Refusal, checked, lent_sheet, no_such_sheet, no_cell, many, kind, value, RefusedExactly, RefusedKeeps, PackedExactly}

-- ---- a granted correction: what was written, and into which cell
pub record Made (s : List ℕ) (lent sheets n row column : ℕ) (v : NewValue) (t : List ℕ) : Type 0 where
  pub kind : Field
  pub place : ℕ
  pub number : ℕ
  pub is : correction_of s lent sheets n row column v ≡ writes kind place number
  pub after : t ≡ stream_after s (writes kind place number)
  pub given : Granted s lent n row column v kind place number

module _ {s : List ℕ} {lent sheets n row column : ℕ} {v : NewValue} {t : List ℕ} where
  pub made : Corrects s lent sheets n row column v (Ok tt) t → Made s lent sheets n row column v t
  made h = by (correction_of s lent sheets n row column v) refl
    where
      by : (x : Correction) → correction_of s lent sheets n row column v ≡ x → Made s lent sheets n row column v t
      by (refuses m o) i = let e : Ok tt ≡ refuse m o = h.answer ∙ ap answer_of i in never (cc)
      by (writes f p b) i = record { kind = f; place = p; number = b; is = i; after = h.after ∙ ap (stream_after s) i; given = granted s lent sheets n row column v f p b i }

  pub one : (m : Made s lent sheets n row column v t) {P : Cell → Type 0} → P m.given.cell → One s lent n row column P
  one m holds =
      let g = m.given in
      record { cell = g.cell; unique = g.globals.unique; only = record { globals = g.globals; passes = g.passes; count = refl; sheet = g.sheet; nth = g.nth; only = g.only }; holds = holds }

  -- the new stream: the old one with the cell's value field written
  written : (m : Made s lent sheets n row column v t) → t ≡ sets s m.given.cell.field (bytes_of (width_of m.given.cell.kind) m.number)
  written m = m.after ∙ (let k = sym m.given.kind in let p = sym m.given.field in λ i. sets s (p i) (bytes_of (width_of (k i)) m.number))

pub holds_new : HoldsNew
holds_new s lent sheets n row column v t h =
    let m = made h in
    let given = m.given in
    let c = given.cell in
    let at = listed_only s (start_of s given.sheet) row column c given.only in
    let says = planned c.kind v given.globals.unique m.number h.held given.plan in
    let in-record = field_high at in
    let in_stream = whole s at.at at.type at.size at.end at.header in
    one m
    (ap (λ (x : List ℕ). value_of c.kind (num_at x (width_of c.kind) c.field)) (written m)
    ∙ ap (value_of c.kind) (num_stored (width_of c.kind) m.number s c.field (omega arith) says.small) ∙ says.value)

pub others_stay : OthersStay
others_stay s lent sheets n row column v t h =
    let m = made h in
    let c = m.given.cell in
    one m (
      ap length (written m) ∙ length-sets s c.field (bytes_of (width_of c.kind) m.number),
      λ j out. ap (λ (x : List ℕ). get_or x j 0) (written m) ∙ stored_other (width_of c.kind) m.number s c.field j out,
    )

-- what the check of such a stream answers
abbrev told : List Sheet → ℕ → Result Passed refusal.Refusal
told l unique = Ok (record { sheets = length l; strings = unique })

pub passes : Passes
passes s lent sheets n row column v t h =
    let m = made h in
    let given = m.given in
    let t' : List ℕ = stream_after s (writes m.kind m.place m.number) in
    let same = upheld s lent sheets n row column v m.kind m.place m.number h.held m.is in
    let old : answered s (checked_of s lent) ≡ told (sheets_of s) given.globals.unique = ap (answered s) given.passes in
    let new : answered t' (checked_of t' lent) ≡ told (sheets_of s) given.globals.unique = ap (answered t') (same ∙ given.passes) ∙ ap (λ (l : List Sheet). told l given.globals.unique) (sym (sheets_stay s lent n row column v m.kind m.place m.number h.held given)) in
    let new_after : answered t (checked_of t lent) ≡ told (sheets_of s) given.globals.unique = ap (λ (x : List ℕ). answered x (checked_of x lent)) m.after ∙ new in
    one m (ap passed new_after, new_after ∙ sym old)

pub reads_new : ReadsNew
reads_new s lent sheets n row column v t h =
    let m = made h in
    one m (ap (λ (x : List ℕ). reading_of x lent) m.after ∙ reads_replaced s lent sheets n row column v m.kind m.place m.number h.held m.is)

pub one_after : OneAfter
one_after s lent sheets n row column v t h =
    let m = made h in
    one m (ap (λ (x : List ℕ). values_at n row column (reading_of x lent)) m.after ∙ new_after s lent sheets n row column v m.kind m.place m.number h.held m.is)

-- what is replaced is a value: whatever else is said of a cell stays
module _ {A : Type 0} (f : CellReading → A) (same : (v : CellValue) (c : CellReading) → f (with_value v c) ≡ f c) where
  pub cells_stay : (row column : ℕ) (v : CellValue) (l : List CellReading) → map f (map (replaced_cell row column v) l) ≡ map f l
  cells_stay row column v [] = refl
  cells_stay row column v (c ∷ l) =
      ap₂ (λ (x : A) (y : List A). x ∷ y)
      (pick_by (λ (d : CellReading). f d ≡ f c) (has_address row column c) (λ _. same v c) (λ _. refl)) (cells_stay row column v l)

  sheets_same : (n row column : ℕ) (v : CellValue) (l : List SheetReading) → of_cells f (on_nth n (replaced_sheet row column v) l) ≡ of_cells f l
  unfolding on_nth
  sheets_same n row column v [] = refl
  sheets_same zero row column v (x ∷ l) = ap (λ (y : List A). y ∷ of_cells f l) (cells_stay row column v x.cells)
  sheets_same (suc n) row column v (x ∷ l) = ap (λ (y : List (List A)). map f x.cells ∷ y) (sheets_same n row column v l)

  all_stay : OfGranted (λ s lent n row column v c t. of_cells f (reading_of t lent).sheets ≡ of_cells f (reading_of s lent).sheets)
  all_stay s lent sheets n row column v t h =
      let read = reads_new s lent sheets n row column v t h in
      record {
        cell = read.cell;
        unique = read.unique;
        only = read.only;
        holds = ap (λ (r : Reading). of_cells f r.sheets) read.holds ∙ sheets_same n row column (new_of v) (reading_of s lent).sheets;
      }

pub spots_stay : SpotsStay
spots_stay = all_stay spot_of (λ _ _. refl)

pub texts_stay : TextsStay
texts_stay = all_stay text_of (λ _ _. refl)

-- ---- refused exactly when the table says
-- which row a plan meets, where t says that the kind takes the value and U that it doesn't fit
data Row (t : Bool) (U : Type 0) : ℕ → ℕ → Type 0 where
  by_kind : t ≡ false → Row t U 17 0
  by_value : t ≡ true → U → Row t U 18 0

record Settles (t : Bool) (U : Type 0) (p : Result ℕ refusal.Refusal) : Type 0 where
  kind : t ≡ false → p ≡ refuse 17 0
  value : t ≡ true → U → p ≡ refuse 18 0
  met : (m o : ℕ) → p ≡ refuse m o → Row t U m o

same_row : {t : Bool} {U : Type 0} {a b m o : ℕ} → refuse {A = ℕ} a b ≡ refuse m o → Row t U a b → Row t U m o
same_row {t} {U} {a} {b} {m} {o} e x =
    let same : ◌≡◌ {A = refusal.Refusal} (record { number = a; offset = b }) (record { number = m; offset = o }) = cc in
    let i : a ≡ m = ap (λ (r : refusal.Refusal). r.number) same in
    let j : b ≡ o = ap (λ (r : refusal.Refusal). r.offset) same in
    subst (λ (k : ℕ). Row t U k o) i (subst (λ (k : ℕ). Row t U a k) j x)

untaken : {U : Type 0} → Settles false U (refuse 17 0)
untaken = record { kind = λ _. refl; value = λ e. never (cc); met = λ m o e. same_row e (by_kind refl) }

taken_put : {U : Type 0} (b : ℕ) → (U → ⊥) → Settles true U (Ok b)
taken_put b fit = record { kind = λ e. never (cc); value = λ _ u. absurd (fit u); met = λ m o e. never (cc) }

taken_unfit : {U : Type 0} → U → Settles true U (refuse 18 0)
taken_unfit u = record { kind = λ e. never (cc); value = λ _ _. refl; met = λ m o e. same_row e (by_value refl u) }

put_settles : {U : Type 0} (right : Bool) (b : ℕ) → (right ≡ false) ↔ U → Settles true U (put_if right b)
unfolding put_if pick
put_settles true b h = taken_put b (λ u. let e = h.1 u in never (cc))
put_settles false b h = taken_unfit (h.0 refl)

packed_settles : {U : Type 0} (k : Option ℕ) → (k ≡ None) ↔ U → Settles true U (packed_plan k)
packed_settles (Some w) h = taken_put w (λ u. let e = h.1 u in never (cc))
packed_settles None h = taken_unfit (h.0 refl)

-- an infinity and a NaN have no word
no_word : (b : ℕ) → finite b ≡ false → pack_of b ≡ None
unfolding finite pack_of
no_word b e = pick_by (λ (k : Option ℕ). k ≡ None) (eqb (b / 2 ^ 52 % 2 ^ 11) 2047) (λ _. refl) (λ i. never (let j : not (eqb (b / 2 ^ 52 % 2 ^ 11) 2047) ≡ true = ap not i in cc))

packed_unfit : (b : ℕ) → b < 2 ^ 64 → (pack_of b ≡ None) ↔ ((finite b ≡ false) ⊎ (RkWord ≡ RkWord × ((w : ℕ) → Means w b → ⊥)))
packed_unfit b l = (λ e. inr (refl, (refused_exactly b l).0 e), from)
  where
    from : (finite b ≡ false) ⊎ (RkWord ≡ RkWord × ((w : ℕ) → Means w b → ⊥)) → pack_of b ≡ None
    from (inl e) = no_word b e
    from (inr n) = (refused_exactly b l).1 n.1

float_unfit : (b : ℕ) → (finite b ≡ false) ↔ ((finite b ≡ false) ⊎ (Float ≡ RkWord × ((w : ℕ) → Means w b → ⊥)))
float_unfit b = (λ e. inl e, from)
  where
    from : (finite b ≡ false) ⊎ (Float ≡ RkWord × ((w : ℕ) → Means w b → ⊥)) → finite b ≡ false
    from (inl e) = e
    from (inr n) = let e = n.0 in never (cc)

settles : (f : Field) (v : NewValue) (unique : ℕ) → Held v → Settles (takes f v) (Unfit f unique v) (plan_of f v unique)
unfolding float_plan is_truth
settles NoField (Number x) unique held = untaken
settles NoField (Text i) unique held = untaken
settles NoField (Truth t) unique held = untaken
settles NoField (Error e) unique held = untaken
settles Float (Number x) unique held = put_settles (finite (bits_of x)) (bits_of x) (float_unfit (bits_of x))
settles Float (Text i) unique held = untaken
settles Float (Truth t) unique held = untaken
settles Float (Error e) unique held = untaken
settles RkWord (Number x) unique held = packed_settles (pack_of (bits_of x)) (packed_unfit (bits_of x) (bits_of_lt x held))
settles RkWord (Text i) unique held = untaken
settles RkWord (Truth t) unique held = untaken
settles RkWord (Error e) unique held = untaken
settles TextIndex (Number x) unique held = untaken
settles TextIndex (Text i) unique held = put_settles (ltb i unique) i (λ e. ltb-false i unique e, λ l. le-ltb i unique l)
settles TextIndex (Truth t) unique held = untaken
settles TextIndex (Error e) unique held = untaken
settles TruthError (Number x) unique held = untaken
settles TruthError (Text i) unique held = untaken
settles TruthError (Truth t) unique held = put_settles (is_truth t) t (λ e. leb-false t 1 e, λ l. lt-leb t 1 l)
settles TruthError (Error e) unique held = put_settles (is_error e) (e + 256) (λ i. i, λ i. i)
settles StoredResult (Number x) unique held = untaken
settles StoredResult (Text i) unique held = untaken
settles StoredResult (Truth t) unique held = untaken
settles StoredResult (Error e) unique held = untaken

-- ---- the correction
module _ (s : List ℕ) (lent sheets n row column : ℕ) (v : NewValue) (held : Held v) where
  abbrev Met : ℕ → ℕ → Type 0
  Met m o = Refusal s lent sheets n row column v m o

  same_met : {a b m o : ℕ} → refuses a b ≡ refuses m o → Met a b → Met m o
  same_met {a} {b} {m} {o} e x =
      let i : a ≡ m = cc in
      let j : b ≡ o = cc in
      subst (λ (k : ℕ). Met k o) i (subst (λ (k : ℕ). Met a k) j x)

  row_met : (c : Cell) (u m o : ℕ) → Only s lent n row column c u → Row (takes c.kind v) (Unfit c.kind u v) m o → Met m o
  row_met c u m o i (by_kind e) = kind i e
  row_met c u m o i (by_value e x) = value i e x

  plan_met : (c : Cell) (u m o : ℕ) → Only s lent n row column c u → (p : Result ℕ refusal.Refusal) → plan_of c.kind v u ≡ p → on_plan c p ≡ refuses m o → Met m o
  plan_met c u m o i (Ok b) e h = never (cc)
  plan_met c u m o i (Err r) e h = same_met h (row_met c u r.number r.offset i ((settles c.kind v u held).met r.number r.offset e))

  module _ (g : Globals) (right : checked_of s lent ≡ Right g) where
    cells_met : (m o : ℕ) (x : Sheet) → Nth (sheets_of s) n x → (l : List Cell) → cells_at row column (listed_of s x) ≡ l → on_cells v g.unique l ≡ refuses m o → Met m o
    cells_met m o x i [] e h = same_met h (no_cell right i e)
    cells_met m o x i (c ∷ []) e h =
        plan_met c g.unique m o (record { globals = g; passes = right; count = refl; sheet = x; nth = i; only = e }) (plan_of c.kind v g.unique) refl h
    cells_met m o x i (c ∷ d ∷ l) e h = same_met h (many right i e)

  sheet_met : (g : Globals) → checked_of s lent ≡ Right g → length (sheets_of s) ≤ n → Met (no_sheet sheets n) 0
  unfolding no_sheet
  sheet_met g e i = pick_by (λ (k : ℕ). Met k 0) (ltb n sheets) (λ h. lent_sheet e i (ltb-true n sheets h)) (λ h. no_such_sheet e i (ltb-false n sheets h))

  checked_met : (m o : ℕ) (k : Checked) → checked_of s lent ≡ k
      → on_checked refuses (λ (g : Globals). nth (sheets_of s) n (λ (x : Sheet). on_cells v g.unique (cells_at row column (listed_of s x))) (refuses (no_sheet sheets n) 0)) k ≡ refuses m o → Met m o
  checked_met m o (Ok g) e h =
      nth_either (λ (x : Sheet). on_cells v g.unique (cells_at row column (listed_of s x))) (refuses (no_sheet sheets n) 0) (refuses m o) (Met m o) (sheets_of s) n
      (λ x i j. cells_met g e m o x i (cells_at row column (listed_of s x)) refl j)
      (λ i j. same_met j (sheet_met g e i)) h
  checked_met m o (Err r) e h = same_met h (checked e)

  -- what a correction comes to in a stream that passes
  on_right : (g : Globals) → checked_of s lent ≡ Right g → correction_of s lent sheets n row column v ≡ nth (sheets_of s) n (λ (x : Sheet). on_cells v g.unique (cells_at row column (listed_of s x))) (refuses (no_sheet sheets n) 0)
  unfolding correction_of
  on_right g e = ap (on_checked refuses (λ (g : Globals). nth (sheets_of s) n (λ (x : Sheet). on_cells v g.unique (cells_at row column (listed_of s x))) (refuses (no_sheet sheets n) 0))) e

  on_sheet_lem : (g : Globals) (x : Sheet) → checked_of s lent ≡ Right g → Nth (sheets_of s) n x → correction_of s lent sheets n row column v ≡ on_cells v g.unique (cells_at row column (listed_of s x))
  on_sheet_lem g x e i = on_right g e ∙ nth_is (λ (x : Sheet). on_cells v g.unique (cells_at row column (listed_of s x))) (refuses (no_sheet sheets n) 0) i

  on_missing : (g : Globals) → checked_of s lent ≡ Right g → length (sheets_of s) ≤ n → correction_of s lent sheets n row column v ≡ refuses (no_sheet sheets n) 0
  on_missing g e i = on_right g e ∙ nth_missing (λ (x : Sheet). on_cells v g.unique (cells_at row column (listed_of s x))) (refuses (no_sheet sheets n) 0) (sheets_of s) n i

  on_only : (c : Cell) (u : ℕ) → Only s lent n row column c u → correction_of s lent sheets n row column v ≡ on_plan c (plan_of c.kind v u)
  on_only c u i =
      on_sheet_lem i.globals i.sheet i.passes i.nth ∙ ap (on_cells v i.globals.unique) i.only ∙ ap (λ (k : ℕ). on_plan c (plan_of c.kind v k)) i.count

  met_refused : (m o : ℕ) → Met m o → correction_of s lent sheets n row column v ≡ refuses m o
  unfolding correction_of
  met_refused m o (checked e) = ap (on_checked refuses (λ (g : Globals). nth (sheets_of s) n (λ (x : Sheet). on_cells v g.unique (cells_at row column (listed_of s x))) (refuses (no_sheet sheets n) 0))) e
  met_refused m o (lent_sheet {g = g} e i l) = on_missing g e i ∙ ap (λ (k : ℕ). refuses k 0) (sym (sheet_lent sheets n refl l))
  met_refused m o (no_such_sheet {g = g} e i l) = on_missing g e i ∙ ap (λ (k : ℕ). refuses k 0) (sym (sheet_missing sheets n refl l))
  met_refused m o (no_cell {g = g} {x = x} e i j) = on_sheet_lem g x e i ∙ ap (on_cells v g.unique) j
  met_refused m o (many {g = g} {x = x} e i j) = on_sheet_lem g x e i ∙ ap (on_cells v g.unique) j
  met_refused m o (kind {c = c} {unique = u} i e) = on_only c u i ∙ ap (on_plan c) ((settles c.kind v u held).kind e)
  met_refused m o (value {c = c} {unique = u} i e x) = on_only c u i ∙ ap (on_plan c) ((settles c.kind v u held).value e x)

refused_by : (x : Correction) (m o : ℕ) → answer_of x ≡ refuse m o → x ≡ refuses m o
refused_by (refuses a b) m o h =
    let same : ◌≡◌ {A = refusal.Refusal} (record { number = a; offset = b }) (record { number = m; offset = o }) = cc in
    let i : a ≡ m = ap (λ (r : refusal.Refusal). r.number) same in
    let j : b ≡ o = ap (λ (r : refusal.Refusal). r.offset) same in
    rw (i, j) refl
refused_by (writes f p b) m o h = never (cc)

pub refused_as_said : RefusedExactly
unfolding correction_of
refused_as_said s lent sheets n row column v r t h m o = (
  λ e. checked_met s lent sheets n row column v h.held m o (checked_of s lent) refl (refused_by (correction_of s lent sheets n row column v) m o (sym h.answer ∙ e)),
  λ x. h.answer ∙ ap answer_of (met_refused s lent sheets n row column v h.held m o x),
)

pub refused_keeps : RefusedKeeps
refused_keeps s lent sheets n row column v m o t h = h.after ∙ ap (stream_after s) (refused_by (correction_of s lent sheets n row column v) m o (sym h.answer))

refused_plan : (c : Cell) (p : Result ℕ refusal.Refusal) → on_plan c p ≡ refuses 18 0 → p ≡ refuse 18 0
refused_plan c (Ok k) h = never (cc)
refused_plan c (Err r) h = let i : r.number ≡ 18 = cc in let j : r.offset ≡ 0 = cc in ap₂ (λ (a b : ℕ). refuse {A = ℕ} a b) i j

pub packed_as_said : PackedExactly
packed_as_said s lent sheets n row column c u x r t h i packed f =
    let asked : correction_of s lent sheets n row column (Number x) ≡ on_plan c (plan_of RkWord (Number x) u) = on_only s lent sheets n row column (Number x) h.held c u i ∙ ap (λ (k : Field). on_plan c (plan_of k (Number x) u)) packed in
    let exactly = unpacked x u h.held in (
      λ e. exactly.0 (refused_plan c (plan_of RkWord (Number x) u) (sym asked ∙ refused_by (correction_of s lent sheets n row column (Number x)) 18 0 (sym h.answer ∙ e))),
      λ none. h.answer ∙ ap answer_of (asked ∙ ap (on_plan c) (exactly.1 none)),
    )
