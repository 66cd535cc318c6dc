-- Two corrections of one stream. Assumes nothing.
use Prim.Native.Nat.{ℕ, zero, suc, ◌+◌, ◌≤◌}
use mathlib.Core.Path.{◌≡◌, refl, sym, ap, ◌∙◌, subst}
use mathlib.Core.List.{List, [], ◌∷◌, map}
use mathlib.Core.Bool.{Bool, true, false, ◌&&◌}
use mathlib.Core.Logic.{◌⊎◌, inl, inr}
use native.Mathlib.Omega.{arith}
use lib.Dec.{ltb, eqb}
use lib.Seq.{sets}
use borrow.Author.Tests.{eqb-true, eqb-false, ltb-true, ltb-false}
use Rattle.steps.specs.Choice.{pick}
use Rattle.std.specs.Prelude.{Result, Ok, Err}
use Rattle.steps.specs.Items.{nth}
use Rattle.byte_numbers.specs.Bytes.{bytes_of}
use Rattle.value.specs.declared.Field.{Field}
use Rattle.value.specs.Value.{width_of}
use Rattle.cell.specs.declared.Cell.{Cell}
use Rattle.new_value.specs.declared.NewValue.{NewValue}
use Rattle.refusal.specs.declared.Refusal.{Refusal}
use Rattle.new_value.specs.Change.{Held, plan_of}
use Rattle.sheet_agreement.specs.Agreement.{Sheet}
use Rattle.globals.specs.declared.Globals.{Globals}
use Rattle.globals.specs.Sheets.{sheets_of}
use Rattle.workbook.specs.Check.{Checked, checked_of, on_checked}
use Rattle.reading.specs.Reading.{listed_of}
use Rattle.correction.specs.Correction.{Correction, refuses, writes, cells_at, on_plan, on_cells, no_sheet, correction_in, correction_of, answer_of, stream_after}
use Rattle.record_chain.specs.Chain.{Every, Nth, first, next}
use Rattle.passes_after.specs.Granted.{Granted}
use Rattle.passes_after.proofs.Granted.{granted}
use Rattle.reads_after.proofs.Found.{has_at}
use Rattle.reads_after.proofs.Lists.{nth_one}
use Rattle.reads_after.specs.Fields.{Before, Frame, frame_of, Left}
use Rattle.reads_after.proofs.FieldsApart.{in_order, across_sheets}
use Rattle.reads_after.proofs.Kept.{all_left}
use Rattle.either_order.specs.Apart.{Asked, outcome, Elsewhere, OneCell, AsAlone, EitherOrder, SecondAlone}
use Rattle.either_order.proofs.Sets.{stored_apart, stored_over}

-- ---- what a correction comes to depends on the frames of the cells alone
abbrev on_frame : Frame → Result ℕ Refusal → Correction
on_frame x (Ok b) = writes x.kind x.place b
on_frame x (Err e) = refuses e.number e.offset

abbrev on_frames : NewValue → ℕ → List Frame → Correction
on_frames v u [] = refuses 11 0
on_frames v u (x ∷ []) = on_frame x (plan_of x.kind v u)
on_frames v u (x ∷ y ∷ l) = refuses 16 0

unfoldable frames_at : ℕ → ℕ → List Frame → List Frame
frames_at row column [] = []
frames_at row column (x ∷ l) = pick (eqb x.row row && eqb x.column column) (x ∷ frames_at row column l) (frames_at row column l)

frame_plan : (c : Cell) (p : Result ℕ Refusal) → on_plan c p ≡ on_frame (frame_of c) p
frame_plan c (Ok b) = refl
frame_plan c (Err e) = refl

frame_cells : (v : NewValue) (u : ℕ) (l : List Cell) → on_cells v u l ≡ on_frames v u (map frame_of l)
frame_cells v u [] = refl
frame_cells v u (c ∷ []) = frame_plan c (plan_of c.kind v u)
frame_cells v u (c ∷ d ∷ l) = refl

frames_at_lem : (row column : ℕ) (l : List Cell) → map frame_of (cells_at row column l) ≡ frames_at row column (map frame_of l)
unfolding cells_at frames_at pick
frames_at_lem row column [] = refl
frames_at_lem row column (c ∷ l) = go (eqb c.row row && eqb c.column column) (frames_at_lem row column l)
  where
    go : (b : Bool) → map frame_of (cells_at row column l) ≡ frames_at row column (map frame_of l)
        → map frame_of (pick b (c ∷ cells_at row column l) (cells_at row column l)) ≡ pick b (frame_of c ∷ frames_at row column (map frame_of l)) (frames_at row column (map frame_of l))
    go true h = ap (λ (x : List Frame). frame_of c ∷ x) h
    go false h = h

by_frames : (v : NewValue) (u row column : ℕ) (l : List Cell) → on_cells v u (cells_at row column l) ≡ on_frames v u (frames_at row column (map frame_of l))
by_frames v u row column l = frame_cells v u (cells_at row column l) ∙ ap (on_frames v u) (frames_at_lem row column l)

same_frames : (v : NewValue) (u row column : ℕ) (l m : List Cell) → map frame_of l ≡ map frame_of m → on_cells v u (cells_at row column l) ≡ on_cells v u (cells_at row column m)
same_frames v u row column l m h = by_frames v u row column l ∙ ap (λ (x : List Frame). on_frames v u (frames_at row column x)) h ∙ sym (by_frames v u row column m)

pub nth_same : {A B : Type 0} (f g : A → B) (d : B) (l : List A) (n : ℕ) → ((x : A) → Nth l n x → f x ≡ g x) → nth l n f d ≡ nth l n g d
unfolding nth
nth_same f g d [] n h = refl
nth_same f g d (x ∷ l) zero h = h x first
nth_same f g d (x ∷ l) (suc n) h = nth_same f g d l n (λ y i. h y (next i))

-- ---- so it stays what it is where these are left
module _ {s t : List ℕ} {lent : ℕ} (left : Left s t lent) (sheets n row column : ℕ) (v : NewValue) where
  in_left : (u : ℕ) → correction_in t u sheets n row column v ≡ correction_in s u sheets n row column v
  in_left u =
      ap (λ (l : List Sheet). nth l n (λ (x : Sheet). on_cells v u (cells_at row column (listed_of t x))) (refuses (no_sheet sheets n) 0)) left.sheets
      ∙ nth_same (λ (x : Sheet). on_cells v u (cells_at row column (listed_of t x))) (λ (x : Sheet). on_cells v u (cells_at row column (listed_of s x))) (refuses (no_sheet sheets n) 0) (sheets_of s) n
      (λ x i. same_frames v u row column (listed_of t x) (listed_of s x) (left.cells n x i))

  checked_left : (x : Checked) → on_checked refuses (λ (g : Globals). correction_in t g.unique sheets n row column v) x ≡ on_checked refuses (λ (g : Globals). correction_in s g.unique sheets n row column v) x
  checked_left (Ok g) = in_left g.unique
  checked_left (Err e) = refl

  pub outcome_left : correction_of t lent sheets n row column v ≡ correction_of s lent sheets n row column v
  unfolding correction_of
  outcome_left =
      ap (on_checked refuses (λ (g : Globals). correction_in t g.unique sheets n row column v)) left.checked
      ∙ checked_left (checked_of s lent)

module _ (s : List ℕ) (lent sheets : ℕ) (x y : Asked) (held : Held x.value) where
  alone_by : (c : Correction) → outcome s lent sheets x ≡ c → outcome (stream_after s c) lent sheets y ≡ outcome s lent sheets y
  alone_by (refuses m o) h = refl
  alone_by (writes f p b) h =
      outcome_left (all_left s lent sheets x.sheet x.row x.column x.value f p b held h) sheets y.sheet y.row y.column y.value

pub as_alone : AsAlone
as_alone s lent sheets x y held = alone_by s lent sheets x y held (outcome s lent sheets x) refl

-- ---- the one cell of an address
record Place {A : Type 0} (l : List A) (x : A) : Type 0 where
  which : ℕ
  is : Nth l which x

at_place : (row column : ℕ) (l : List Cell) (c : Cell) (m : List Cell) → cells_at row column l ≡ c ∷ m → Place l c
unfolding cells_at pick
at_place row column [] c m h = absurd (cc)
at_place row column (d ∷ l) c m h = go (eqb d.row row && eqb d.column column) h (λ i. at_place row column l c m i)
  where
    go : (b : Bool) → pick b (d ∷ cells_at row column l) (cells_at row column l) ≡ c ∷ m → (cells_at row column l ≡ c ∷ m → Place l c) → Place (d ∷ l) c
    go true i rest = let q : d ≡ c = cc in record { which = 0; is = subst (λ (x : Cell). Nth (d ∷ l) 0 x) q first }
    go false i rest = let q = rest i in record { which = suc q.which; is = next q.is }

pub both_true : (a b : Bool) → a && b ≡ true → (a ≡ true) × (b ≡ true)
both_true true b h = (refl, h)
both_true false b h = absurd (cc)

has_address : (row column : ℕ) (l : List Cell) (c : Cell) → cells_at row column l ≡ c ∷ [] → (c.row ≡ row) × (c.column ≡ column)
has_address row column l c e =
    let a = (subst (Every (λ (c : Cell). eqb c.row row && eqb c.column column ≡ true)) e (has_at row column l)).0 in
    let b = both_true (eqb c.row row) (eqb c.column column) a in
    (eqb-true c.row row b.0, eqb-true c.column column b.1)

-- ---- different sheets or addresses: the value fields stand apart
abbrev Apart : Cell → Cell → Type 0
Apart c d = Before c d ⊎ Before d c

module _ (s : List ℕ) (lent : ℕ) (x y : Asked) (else : Elsewhere x y)
    {f k : Field} {p q b a : ℕ} (w : Granted s lent x.sheet x.row x.column x.value f p b) (z : Granted s lent y.sheet y.row y.column y.value k q a) where
  here : Place (listed_of s w.sheet) w.cell
  here = at_place x.row x.column (listed_of s w.sheet) w.cell [] w.only

  there : Place (listed_of s z.sheet) z.cell
  there = at_place y.row y.column (listed_of s z.sheet) z.cell [] z.only

  -- in one sheet: by their places in the list
  module _ (same : x.sheet ≡ y.sheet) where
    one_sheet : w.sheet ≡ z.sheet
    one_sheet = nth_one w.nth (subst (λ (n : ℕ). Nth (sheets_of s) n z.sheet) (sym same) z.nth)

    there' : Nth (listed_of s w.sheet) there.which z.cell
    there' = subst (λ (v : Sheet). Nth (listed_of s v) there.which z.cell) (sym one_sheet) there.is

    not_one : w.cell ≡ z.cell → ⊥
    not_one h =
        let i = has_address x.row x.column (listed_of s w.sheet) w.cell w.only in
        let j = has_address y.row y.column (listed_of s z.sheet) z.cell z.only in
        else same (sym i.0 ∙ ap (λ (c : Cell). c.row) h ∙ j.0) (sym i.1 ∙ ap (λ (c : Cell). c.column) h ∙ j.1)

    by_place : (b : Bool) → ltb here.which there.which ≡ b → (d : Bool) → ltb there.which here.which ≡ d → Apart w.cell z.cell
    by_place true e d h = inl (in_order s w.sheet here.which there.which w.cell z.cell here.is there' (ltb-true here.which there.which e))
    by_place false e true h = inr (in_order s w.sheet there.which here.which z.cell w.cell there' here.is (ltb-true there.which here.which h))
    by_place false e false h =
        let l = ltb-false here.which there.which e in
        let m = ltb-false there.which here.which h in
        let n : there.which ≡ here.which = omega arith in
        absurd (not_one (nth_one here.is (subst (λ (i : ℕ). Nth (listed_of s w.sheet) i z.cell) n there')))

  by_sheet : (b : Bool) → eqb x.sheet y.sheet ≡ b → Apart w.cell z.cell
  by_sheet true e = by_place (eqb-true x.sheet y.sheet e) (ltb here.which there.which) refl (ltb there.which here.which) refl
  by_sheet false e =
      across_sheets s lent w.globals w.passes x.sheet y.sheet w.sheet z.sheet w.nth z.nth (eqb-false x.sheet y.sheet e)
      here.which there.which w.cell z.cell here.is there.is

  pub fields_apart : (p + width_of f ≤ q) ⊎ (q + width_of k ≤ p)
  fields_apart = go (by_sheet (eqb x.sheet y.sheet) refl)
    where
      go : Apart w.cell z.cell → (p + width_of f ≤ q) ⊎ (q + width_of k ≤ p)
      go (inl l) = let i = w.field in let j = z.field in let m = ap width_of w.kind in let n = l.ends in inl (omega arith)
      go (inr l) = let i = w.field in let j = z.field in let m = ap width_of z.kind in let n = l.ends in inr (omega arith)

module _ (s : List ℕ) (lent sheets : ℕ) (x y : Asked) (else : Elsewhere x y) where
  ends_by : (c d : Correction) → outcome s lent sheets x ≡ c → outcome s lent sheets y ≡ d → stream_after (stream_after s c) d ≡ stream_after (stream_after s d) c
  ends_by (refuses m o) (refuses m' o') h i = refl
  ends_by (refuses m o) (writes k q a) h i = refl
  ends_by (writes f p b) (refuses m o) h i = refl
  ends_by (writes f p b) (writes k q a) h i =
      let w = granted s lent sheets x.sheet x.row x.column x.value f p b h in
      let z = granted s lent sheets y.sheet y.row y.column y.value k q a i in
      stored_apart (width_of f) (width_of k) b a s p q (fields_apart s lent x y else w z)

pub either_order : EitherOrder
either_order s lent sheets x y hx hy else =
    let c = outcome s lent sheets x in
    let d = outcome s lent sheets y in
    let e = as_alone s lent sheets x y hx in
    let f = as_alone s lent sheets y x hy in (
      ap (stream_after (stream_after s c)) e ∙ ends_by s lent sheets x y else c d refl refl ∙ sym (ap (stream_after (stream_after s d)) f),
      ap answer_of e,
      ap answer_of f,
    )

-- ---- one cell
cell_one : (c d : Cell) → c ∷ [] ≡ d ∷ [] → c ≡ d
cell_one c d h = cc

module _ (s : List ℕ) (lent : ℕ) (x y : Asked) (one : OneCell x y) where
  pub same_cell : {f k : Field} {p q b a : ℕ} (w : Granted s lent x.sheet x.row x.column x.value f p b) (z : Granted s lent y.sheet y.row y.column y.value k q a) → w.cell ≡ z.cell
  same_cell w z =
      let i : w.sheet ≡ z.sheet = nth_one w.nth (subst (λ (n : ℕ). Nth (sheets_of s) n z.sheet) (sym one.sheet) z.nth) in
      cell_one w.cell z.cell (sym w.only ∙ (λ j. cells_at (one.row j) (one.column j) (listed_of s (i j))) ∙ z.only)

module _ (s : List ℕ) (lent sheets : ℕ) (x y : Asked) (one : OneCell x y) where
  second_by : (c d : Correction) → outcome s lent sheets x ≡ c → outcome s lent sheets y ≡ d → answer_of c ≡ Ok tt → answer_of d ≡ Ok tt → stream_after (stream_after s c) d ≡ stream_after s d
  second_by (refuses m o) d h i a b = absurd (cc)
  second_by (writes f p m) (refuses n o) h i a b = absurd (cc)
  second_by (writes f p m) (writes k q n) h i a b =
      let w = granted s lent sheets x.sheet x.row x.column x.value f p m h in
      let z = granted s lent sheets y.sheet y.row y.column y.value k q n i in
      let r = same_cell s lent x y one w z in
      let e : k ≡ f = sym z.kind ∙ ap (λ (c : Cell). c.kind) (sym r) ∙ w.kind in
      let g : q ≡ p = sym z.field ∙ ap (λ (c : Cell). c.field) (sym r) ∙ w.field in
      (λ j. sets (sets s p (bytes_of (width_of f) m)) (g j) (bytes_of (width_of (e j)) n)) ∙ stored_over (width_of f) m n s p ∙ sym (λ j. sets s (g j) (bytes_of (width_of (e j)) n))

pub second_alone : SecondAlone
second_alone s lent sheets x y held one a b =
    let e = as_alone s lent sheets x y held in
    ap (stream_after (stream_after s (outcome s lent sheets x))) e
    ∙ second_by s lent sheets x y one (outcome s lent sheets x) (outcome s lent sheets y) refl refl a (sym (ap answer_of e) ∙ b)
