-- Where the cell of a granted correction stands, and what the stream after it is. Assumes nothing.
use Prim.Native.Nat.{ℕ, ◌+◌, ◌≤◌, ◌<◌}
use mathlib.Core.Path.{◌≡◌, refl, sym, ap, ap₂, ◌∙◌, subst}
use mathlib.Core.List.{List, [], ◌∷◌}
use mathlib.Core.Bool.{Bool, true, false}
use native.Mathlib.Omega.{arith}
use lib.ListN.{length, get_or}
use lib.Seq.{sets, length-sets}
use lib.Dec.{eqb}
use borrow.Author.Tests.{eqb-true}
use Rattle.steps.specs.Choice.{pick}
use Rattle.steps.proofs.Choice.{never, pick_any, pick_by}
use Rattle.steps.specs.Items.{onto}
use Rattle.byte_numbers.specs.Bytes.{num_at, bytes_of}
use Rattle.byte_numbers.proofs.Laws.{stored_other, num_stored}
use Rattle.record.specs.declared.Header.{Header}
use Rattle.record.proofs.Laws.{whole, header_end}
use Rattle.value.specs.declared.Field.{Field}
use Rattle.value.specs.Value.{width_of, value_of}
use Rattle.cell.specs.declared.Cell.{Cell}
use Rattle.cell.specs.Cells.{shape_of, field_of, field_at, cell_of}
use Rattle.new_value.specs.declared.NewValue.{NewValue}
use Rattle.new_value.specs.Change.{Held, plan_of, new_of}
use Rattle.record_after.proofs.Planned.{planned}
use Rattle.std.specs.Prelude.{Ok}
use Rattle.substream.specs.Substream.{past_parent, substream_in}
use Rattle.sheet_agreement.specs.declared.SheetKind.{SheetKind}
use Rattle.sheet_agreement.specs.declared.SheetKind.TheVariants.{Worksheet}
use Rattle.sheet_agreement.specs.Agreement.{same_kind, Sheet}
use Rattle.sheet_agreement.proofs.Laws.{same_kind-true}
use Rattle.globals.specs.declared.Globals.{Globals}
use Rattle.top_level.specs.TopLevel.{bof_kind}
use Rattle.reading.specs.declared.Place.{Place}
use Rattle.reading.specs.Cells as cells
use Rattle.reading.specs.Cells.{place_at, cell_item, listed_from}
use Rattle.reading.specs.Reading.{start_by, listed_of}
use Rattle.reading.proofs.Laws.{listed_step}
use Rattle.correction.specs.Correction.{writes, cells_at, stream_after}
use Rattle.record_chain.specs.Chain.{Reach, Every}
use Rattle.record_chain.specs.Tops.{SheetStands}
use Rattle.record_chain.proofs.Chain.{chain_trans, reach_one, reach_ahead}
use Rattle.record_chain.proofs.Walks.{globals_reach}
use Rattle.record_chain.proofs.Tops.{opening, tops_reach}
use Rattle.record_chain.proofs.Sheets.{passing, sheets_stand}
use Rattle.passes_after.specs.Granted.{Granted, Listed}
use Rattle.passes_after.proofs.Granted.{every_at, listed_here, listed_field, listed_kind}
use Rattle.reads_after.specs.Parts.{field_from, Corrected, addressed, sheet, ListedTo}
use Rattle.reads_after.proofs.Fields.{field_inside, field_ends}
use Rattle.reads_after.proofs.Records.{entered, Stands, listed_inside}

-- ---- a listed cell: its value field lies in its record, which lies past where the list begins
module _ {s : List ℕ} {from : ℕ} {c : Cell} (l : Listed s from c) where
  pub field_within : (from ≤ c.field) × (c.field < l.end)
  field_within =
      let i = field_inside s l.at l.type l.size l.end l.header l.part (listed_here l).below in
      let j = listed_field l in
      let k = reach_ahead s l.reached in
      omega arith

-- ---- the cells of an address: what holds of those that are taken holds of each that has it
pub at_every : (P : Cell → Type 0) (row column : ℕ) (l : List Cell) → Every P (cells_at row column l) → Every (λ c. addressed row column c ≡ true → P c) l
unfolding cells_at pick
at_every P row column [] h = tt
at_every P row column (c ∷ l) h = go (addressed row column c) refl h (λ i. at_every P row column l i)
  where
    Has : Cell → Type 0
    Has c = addressed row column c ≡ true → P c

    go : (b : Bool) → addressed row column c ≡ b → Every P (pick b (c ∷ cells_at row column l) (cells_at row column l)) → (Every P (cells_at row column l) → Every Has l) → Has c × Every Has l
    go true q i rest = ((λ _. i.0), rest i.1)
    go false q i rest = ((λ r. never (cc)), rest i)

-- those that are taken have it
pub has_at : (row column : ℕ) (l : List Cell) → Every (λ c. addressed row column c ≡ true) (cells_at row column l)
unfolding cells_at pick
has_at row column [] = tt
has_at row column (c ∷ l) = go (addressed row column c) refl (has_at row column l)
  where
    Has : Cell → Type 0
    Has c = addressed row column c ≡ true

    go : (b : Bool) → addressed row column c ≡ b → Every Has (cells_at row column l) → Every Has (pick b (c ∷ cells_at row column l) (cells_at row column l))
    go true q h = (q, h)
    go false q h = h

-- ---- the cells of a sheet stand in its substream
pub worksheet : (k : ℕ) → bof_kind k ≡ Worksheet → k ≡ 0x0010
unfolding bof_kind
worksheet k h =
    pick_by (λ (n : SheetKind). n ≡ Worksheet → k ≡ 0x0010) (eqb k 0x0010) (λ q _. eqb-true k 0x0010 q)
    (λ _. pick_any (λ (n : SheetKind). n ≡ Worksheet → k ≡ 0x0010) _ (λ i. never (cc)) (pick_any (λ (n : SheetKind). n ≡ Worksheet → k ≡ 0x0010) _ (λ i. never (cc)) (λ i. never (cc)))) h

-- its list begins after its BOF
pub sheet_start : (s : List ℕ) (g : Globals) (x : Sheet) (i : SheetStands s g x) → x.kind ≡ Worksheet → Stands s g.unique x.position i.end (place_at (x.position + 20) 0)
unfolding place_at
sheet_start s g x i q =
    let k : i.whole.kind ≡ 0x0010 = worksheet i.whole.kind (i.number ∙ q) in
    let e : substream_in 4 s g.unique 0x0010 x.position ≡ Ok i.end = rw k at i.whole.ends in (
      reach_one s (opening s x.position i.whole.kind i.whole.opens).header,
      sheet (past_parent (x.position + 20)) refl refl (entered 3 s g.unique 0x0010 x.position i.end e),
    )

-- nothing is listed from the end of the stream on
pub listed_none : (s : List ℕ) (n : ℕ) → length s ≤ n → listed_from s (place_at n 0) ≡ []
unfolding cell_item place_at
listed_none s n l = listed_step s (place_at n 0) ∙ ap (λ (x : Header). onto (cells.on_header s (place_at n 0) x) (λ t. listed_from s t)) (sym (header_end s n l))

pub sheet_cells : (s : List ℕ) (g : Globals) (x : Sheet) (i : SheetStands s g x) → Every (ListedTo s x.position i.end) (listed_of s x)
unfolding start_by
sheet_cells s g x i =
    pick_by (λ (v : Place). Every (ListedTo s x.position i.end) (listed_from s v)) (same_kind x.kind Worksheet)
    (λ q. listed_inside s g.unique x.position i.end (place_at (x.position + 20) 0) (sheet_start s g x i (same_kind-true x.kind Worksheet q)))
    (λ _. subst (Every (ListedTo s x.position i.end)) (sym (listed_none s (length s) (omega arith))) tt)

-- ---- the stream after it
module _ {s : List ℕ} {lent n row column : ℕ} {v : NewValue} {f : Field} {p b : ℕ} (r : Granted s lent n row column v f p b) where
  -- the sheet's substream, and the record of the cell in it
  pub stands : SheetStands s r.globals r.sheet
  stands = sheets_stand s lent r.globals r.passes n r.sheet r.nth

  pub found : ListedTo s r.sheet.position stands.end r.cell
  found = (subst (Every (ListedTo s r.sheet.position stands.end)) r.only (every_at (ListedTo s r.sheet.position stands.end) row column (listed_of s r.sheet) (sheet_cells s r.globals r.sheet stands))).0

  -- it is reached from the end of the globals, which is reached from the end of their BOF
  pub reach_found : Reach s r.globals.at found.listed.at
  reach_found = chain_trans (tops_reach s r.globals.unique stands.tops) found.listed.reached

  pub reach_globals : Reach s 20 r.globals.at
  reach_globals = globals_reach s lent r.globals (passing s lent r.globals r.passes).globals

  abbrev record_of : Listed s r.sheet.position r.cell
  record_of = found.listed

  kind_is : f ≡ field_of (shape_of record_of.type)
  kind_is = sym r.kind ∙ listed_kind record_of

  pub field_is : p ≡ field_from record_of.type record_of.at record_of.part
  field_is = sym r.field ∙ listed_field record_of

  pub cell_of_lem : r.cell ≡ cell_of s (field_of (shape_of record_of.type)) record_of.at record_of.part
  cell_of_lem = (listed_here record_of).cell

  plan_is : plan_of (field_of (shape_of record_of.type)) v r.globals.unique ≡ Ok b
  plan_is = ap (λ (x : Field). plan_of x v r.globals.unique) (sym (r.kind ∙ kind_is)) ∙ r.plan

  abbrev after : List ℕ
  after = stream_after s (writes f p b)

  after_is : after ≡ sets s (field_from record_of.type record_of.at record_of.part) (bytes_of (width_of (field_of (shape_of record_of.type))) b)
  after_is = ap₂ (λ (x : ℕ) (y : Field). sets s x (bytes_of (width_of y) b)) field_is kind_is

  -- only the value field is written, and it says the new value
  pub corrected : Held v → Corrected s after record_of.at record_of.type record_of.size record_of.end record_of.part (new_of v)
  unfolding field_at
  corrected held =
      let h = field_of (shape_of record_of.type) in
      let q = field_from record_of.type record_of.at record_of.part in
      let y = planned h v r.globals.unique b held plan_is in
      let w = whole s record_of.at record_of.type record_of.size record_of.end record_of.header in
      let l = field_ends s record_of.at record_of.type record_of.size record_of.end record_of.header record_of.part (listed_here record_of).below in
      let m : num_at after (width_of h) q ≡ b = ap (λ (t : List ℕ). num_at t (width_of h) q) after_is ∙ num_stored (width_of h) b s q (omega arith) y.small in
      record {
        size = sym (length-sets s p (bytes_of (width_of f) b));
        whole = record_of.header;
        below = (listed_here record_of).below;
        else = λ j o. sym (ap (λ (t : List ℕ). get_or t j 0) after_is ∙ stored_other (width_of h) b s q j o);
        now = ap (value_of h) m ∙ y.value;
      }
