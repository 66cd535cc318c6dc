-- Each cell that a stream that passes lists stands in a record that passes: its value is right, its row below 65,536 and its column below 256. Assumes nothing.
use Prim.Native.Nat.{ℕ, zero, suc, ◌+◌, ◌*◌, ◌^◌, ◌≤◌, ◌<◌}
use mathlib.Core.Path.{◌≡◌, refl, sym, ap, ap₂, ◌∙◌, subst}
use mathlib.Core.List.{List}
use mathlib.Core.Bool.{Bool, true, false}
use native.Mathlib.Omega.{arith}
use native.Mathlib.Nat.{suc-mul}
use lib.ListN.{length}
use lib.Dec.{eqb}
use borrow.Author.Tests.{eqb-true}
use Rattle.steps.specs.Choice.{pick}
use Rattle.steps.proofs.Choice.{never, pick_any, pick_by}
use Rattle.steps.specs.Items.{Item, gives, skips, ends}
use Rattle.byte_numbers.specs.Bytes.{num_at}
use Rattle.record.specs.declared.Header.{Header}
use Rattle.record.specs.declared.Header.TheVariants.{Record, Cut, End}
use Rattle.record.specs.Record.{header_at}
use Rattle.value.specs.declared.Field.{Field}
use Rattle.value.specs.declared.Field.TheVariants.{TextIndex}
use Rattle.value.specs.Value.{width_of, value_fits, index_fits}
use Rattle.cell.specs.declared.Shape.{Shape}
use Rattle.cell.specs.declared.Shape.TheVariants.{BLANK, NUMBER, RK, LABELSST, BOOLERR, MULRK, MULBLANK, FORMULA, OTHER}
use Rattle.cell.specs.declared.Cell.{Cell}
use Rattle.cell.specs.declared.Found.{Found}
use Rattle.std.specs.Prelude.{Option, None, Some, Result, Ok, Err}
use Rattle.refusal.specs.declared.Refusal.{Refusal}
use Rattle.sheet_agreement.specs.declared.SheetKind.TheVariants.{Worksheet}
use Rattle.sheet_agreement.specs.Agreement.{same_kind}
use Rattle.sheet_agreement.proofs.Laws.{same_kind-true}
use Rattle.cell.specs.Cells.{shape_of, field_of, part_of, row_at, first_at, count_of, field_at, cell_from, cell_of, found_of, fields_fit, judge_of}
use Rattle.cell.proofs.Sizes.{sized_below}
use Rattle.record_after.specs.Claims.{Right}
use Rattle.record_after.proofs.Records as records
use Rattle.substream.specs.declared.Here.{Here}
use Rattle.substream.specs.Substream.{on_judged, record_in, on_header, step_of, turn, records_from, substream_in}
use Rattle.substream.proofs.Laws.{from_stop, onward}
use Rattle.sheet_agreement.specs.Agreement.{Sheet}
use Rattle.globals.specs.declared.Globals.{Globals}
use Rattle.globals.specs.Sheets.{sheets_of}
use Rattle.workbook.specs.Check as checked
use Rattle.workbook.specs.Check.{checked_of}
use Rattle.reading.specs.declared.Place.{Place}
use Rattle.reading.specs.Cells as cells
use Rattle.reading.specs.Cells.{place_at, other_item, on_found, record_item, cell_item, remaining, listed_from}
use Rattle.reading.specs.Reading.{start_by, listed_of}
use Rattle.reading.proofs.Laws.{found_there}
use Rattle.record_chain.specs.Chain.{Every, Nth}
use Rattle.record_chain.specs.Tops.{SheetStands}
use Rattle.record_chain.proofs.Chain.{Keeps, collect_every, every_nth}
use Rattle.record_chain.proofs.Sheets.{sheets_stand}
use Rattle.reads_after.specs.Parts.{Inside, sheet, chart, plain, ListedTo}
use Rattle.reads_after.proofs.Records.{Stands, kept_item}
use Rattle.reads_after.proofs.Found.{sheet_start, listed_none}
use Rattle.journal_claims.specs.Replayed.{Bytes}
use Rattle.passes_after.proofs.Stored.{has_cell, NotOther, cell_judged}

-- a record that holds no cell isn't judged
other_not : (s : List ℕ) (h : Shape) (at z u : ℕ) (r : Refusal) → h ≡ OTHER → judge_of s h at z u ≡ Err r → ⊥
unfolding judge_of pick
other_not s h at z u r q k = let i : judge_of s OTHER at z u ≡ Err r = subst (λ (x : Shape). judge_of s x at z u ≡ Err r) q k in never (cc)

-- ---- a record directly in a worksheet whose walk comes to its end: it isn't refused
module _ (s : List ℕ) (u to at t z e : ℕ) (is : header_at s at ≡ Record t z e) where
  step_is : (h : Here) → h.at ≡ at → step_of s 0x0010 u h ≡ on_judged s 0x0010 h t z e (judge_of s (shape_of t) at z u)
  unfolding step_of record_in pick
  step_is h q = ap (on_header s 0x0010 u h) (ap (header_at s) q ∙ is) ∙ ap (λ (x : ℕ). on_judged s 0x0010 h t z e (judge_of s (shape_of t) x z u)) q

  passed_by : (h : Here) → h.at ≡ at → records_from (substream_in 3 s u 0x0020) s 0x0010 u h ≡ Ok to → (r : Refusal) → judge_of s (shape_of t) at z u ≡ Err r → ⊥
  passed_by h q i r j =
      let k : step_of s 0x0010 u h ≡ Err r = step_is h q ∙ ap (on_judged s 0x0010 h t z e) j in
      let l = from_stop (substream_in 3 s u 0x0020) s (onward 3 s u 0x0020) 0x0010 u h (Err r) (ap (turn (substream_in 3 s u 0x0020)) k) in
      let n : Ok to ≡ Err r = sym i ∙ l in
      never (cc)

  not_refused : (l : ℕ) → l ≡ 0 → Inside s u to l at → (r : Refusal) → judge_of s (shape_of t) at z u ≡ Err r → ⊥
  not_refused l q (sheet h i j w) r k = passed_by h j w r k
  not_refused l q (chart a d f h i j n w x) r k = absurd (omega arith)
  not_refused l q (plain f p i) r k =
      let y = p.over.is in
      let j : p.over.type ≡ t = cc in
      other_not s (shape_of t) at z u r (ap shape_of (sym j) ∙ p.other) k

-- ---- a record that has a cell is judged
-- a listed cell whose record passes
pub record RightCell (s : List ℕ) (u : ℕ) (c : Cell) : Type 0 where
  pub shape : Shape
  pub at : ℕ
  pub size : ℕ
  pub part : ℕ
  pub count : ℕ
  pub right : Right s shape at size u count
  pub below : part < count
  pub is : c ≡ cell_of s (field_of shape) at part

right_by : (s : List ℕ) (u : ℕ) (h : Shape) (at z k : ℕ) (c : Cell) → k < count_of h s at z → c ≡ cell_of s (field_of h) at k
    → ((r : Refusal) → judge_of s h at z u ≡ Err r → ⊥) → (x : Result (Option ℕ) Refusal) → judge_of s h at z u ≡ x → RightCell s u c
right_by s u h at z k c l e un (Ok (Some n)) i =
    let r = records.right s h at z u n i in
    let q = r.count in
    record { shape = h; at = at; size = z; part = k; count = n; right = r; below = omega arith; is = e }
right_by s u h at z k c l e un (Err r) i = absurd (un r i)
right_by s u h at z k c l e un (Ok None) i = absurd (subst NotOther i (cell_judged h s at z u (has_cell h s at z k l)))

-- ---- the listing
abbrev NoCell : Item Place Cell → Type 0
NoCell (gives c t) = ⊥
NoCell (skips t) = Unit {0}
NoCell ends = Unit {0}

other_none : (v : Place) (t e : ℕ) → NoCell (other_item v t e)
unfolding other_item
other_none v t e = pick_any NoCell _ (pick_any NoCell _ tt tt) (pick_any NoCell _ (pick_any NoCell _ tt tt) tt)

module _ (s : List ℕ) (u from to : ℕ) where
  abbrev Gives : Item Place Cell → Type 0
  Gives (gives c t) = RightCell s u c
  Gives (skips t) = Unit {0}
  Gives ends = Unit {0}

  none_gives : (x : Item Place Cell) → NoCell x → Gives x
  none_gives (gives c t) h = absurd h
  none_gives (skips t) h = tt
  none_gives ends h = tt

  gives_found : (v : Place) (t z e : ℕ) → header_at s v.at ≡ Record t z e → v.level ≡ 0 → Inside s u to v.level v.at → (x : Option Found) → found_of s (shape_of t) v.at z v.part ≡ x → Gives (on_found v t e x)
  gives_found v t z e is q i (Some x) h =
      let f = found_there s (shape_of t) v.at z v.part x h in
      right_by s u (shape_of t) v.at z v.part x.cell f.below f.cell (not_refused s u to v.at t z e is v.level q i) (judge_of s (shape_of t) v.at z u) refl
  gives_found v t z e is q i None h = none_gives (other_item v t e) (other_none v t e)

  gives_header : (v : Place) → Inside s u to v.level v.at → (x : Header) → header_at s v.at ≡ x → Gives (cells.on_header s v x)
  unfolding record_item
  gives_header v i (Record t z e) h =
      pick_by Gives (eqb v.level 0) (λ q. gives_found v t z e h (eqb-true v.level 0 q) i (found_of s (shape_of t) v.at z v.part) refl) (λ _. none_gives (other_item v t e) (other_none v t e))
  gives_header v i Cut h = tt
  gives_header v i End h = tt

  both : (x : Item Place Cell) → Keeps (Stands s u from to) (ListedTo s from to) x → Gives x → Keeps (Stands s u from to) (RightCell s u) x
  both (gives c t) k g = (g, k.1)
  both (skips t) k g = k
  both ends k g = tt

  right_item : (v : Place) → Stands s u from to v → Keeps (Stands s u from to) (RightCell s u) (cell_item s v)
  unfolding cell_item
  right_item v p = both (cell_item s v) (kept_item s u from to v p) (gives_header v p.1 (header_at s v.at) refl)

  right_listed : (v : Place) → Stands s u from to v → Every (RightCell s u) (listed_from s v)
  unfolding listed_from
  right_listed v p = collect_every (cell_item s) (Stands s u from to) (RightCell s u) right_item (remaining s) v p

sheet_right : (s : List ℕ) (g : Globals) (x : Sheet) (i : SheetStands s g x) → Every (RightCell s g.unique) (listed_of s x)
unfolding start_by
sheet_right s g x i =
    pick_by (λ (v : Place). Every (RightCell s g.unique) (listed_from s v)) (same_kind x.kind Worksheet)
    (λ q. right_listed s g.unique x.position i.end (place_at (x.position + 20) 0) (sheet_start s g x i (same_kind-true x.kind Worksheet q)))
    (λ _. subst (Every (RightCell s g.unique)) (sym (listed_none s (length s) (omega arith))) tt)

pub cell_right : (s : List ℕ) (u : ℕ) (g : Globals) → checked_of s u ≡ checked.Right g → (m : ℕ) (x : Sheet) → Nth (sheets_of s) m x → (i : ℕ) (c : Cell) → Nth (listed_of s x) i c → RightCell s g.unique c
cell_right s u g ok m x at i c h = every_nth (RightCell s g.unique) (sheet_right s g x (sheets_stand s u g ok m x at)) h

-- ---- what it says of the cell
-- the k-th of the values is right
nth_fits : (f : Field) (s : List ℕ) (n q k : ℕ) → k < n → fields_fit f s q n ≡ true → value_fits f (field_at f s (q + k * part_of f)) ≡ true
unfolding fields_fit pick
nth_fits f s zero q k l h = absurd (omega arith)
nth_fits f s (suc n) q zero l h = let e : q + 0 * part_of f ≡ q = omega arith in ap (λ (x : ℕ). value_fits f (field_at f s x)) e ∙ go (value_fits f (field_at f s q)) (fields_fit f s (q + part_of f) n) h
  where
    go : (b r : Bool) → pick b r false ≡ true → b ≡ true
    go true r i = refl
    go false r i = never (cc)
nth_fits f s (suc n) q (suc k) l h =
    let e : q + suc k * part_of f ≡ q + part_of f + k * part_of f = let m = suc-mul k (part_of f) in omega arith in
    ap (λ (x : ℕ). value_fits f (field_at f s x)) e ∙ nth_fits f s n (q + part_of f) k (omega arith) (go (value_fits f (field_at f s q)) (fields_fit f s (q + part_of f) n) h)
  where
    go : (b r : Bool) → pick b r false ≡ true → r ≡ true
    go true r i = i
    go false r i = never (cc)

-- a text cell is alone in its record
index_first : (h : Shape) (s : List ℕ) (at z unique k : ℕ) → k < count_of h s at z → index_fits (field_of h) (field_at (field_of h) s (at + 8)) unique ≡ true → index_fits (field_of h) (field_at (field_of h) s (at + 8 + k * part_of (field_of h))) unique ≡ true
index_first BLANK s at z unique k l h = refl
index_first NUMBER s at z unique k l h = refl
index_first RK s at z unique k l h = refl
index_first LABELSST s at z unique k l h =
    let b = sized_below z 10 1 k l in
    let e : at + 8 + k * 6 ≡ at + 8 = omega arith in
    ap (λ (x : ℕ). index_fits TextIndex (field_at TextIndex s x) unique) e ∙ h
index_first BOOLERR s at z unique k l h = refl
index_first MULRK s at z unique k l h = refl
index_first MULBLANK s at z unique k l h = refl
index_first FORMULA s at z unique k l h = refl
index_first OTHER s at z unique k l h = refl

pub num_small : (s : List ℕ) (w p : ℕ) → Bytes s → num_at s w p < 256 ^ w
unfolding num_at
num_small s zero p h = omega arith
num_small s (suc w) p h = let a = h p in let b = num_small s w (p + 1) h in omega arith

module _ {s : List ℕ} {unique : ℕ} {c : Cell} (r : RightCell s unique c) where
  abbrev f₀ : Field
  f₀ = field_of r.shape

  kind_of_lem : c.kind ≡ f₀
  unfolding cell_of cell_from
  kind_of_lem = ap (λ (x : Cell). x.kind) r.is

  value_of : num_at s (width_of c.kind) c.field ≡ field_at f₀ s (r.at + 8 + r.part * part_of f₀)
  unfolding cell_of cell_from field_at
  value_of = ap (λ (x : Cell). num_at s (width_of x.kind) x.field) r.is

  pub value_right : value_fits c.kind (num_at s (width_of c.kind) c.field) ≡ true
  value_right = ap₂ (λ (x : Field) (y : ℕ). value_fits x y) kind_of_lem value_of ∙ nth_fits f₀ s r.count (r.at + 8) r.part r.below r.right.values

  pub index_right : index_fits c.kind (num_at s (width_of c.kind) c.field) unique ≡ true
  index_right =
      let q = r.right.count in
      let l = r.below in
      ap₂ (λ (x : Field) (y : ℕ). index_fits x y unique) kind_of_lem value_of ∙ index_first r.shape s r.at r.size unique r.part (omega arith) r.right.index

  pub column_small : c.column ≤ 255
  unfolding cell_of cell_from
  column_small = let e : c.column ≡ first_at s r.at + r.part = ap (λ (x : Cell). x.column) r.is in let l = records.column_within s r.shape r.at r.size unique r.count r.right r.part r.below in omega arith

  pub row_small : Bytes s → c.row < 65536
  unfolding cell_of cell_from row_at
  row_small b = let e : c.row ≡ num_at s 2 (r.at + 4) = ap (λ (x : Cell). x.row) r.is in let l = num_small s 2 (r.at + 4) b in omega arith
