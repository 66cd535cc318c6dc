-- What the new stream shows: the same sheets and cells, and each text cell names the string that it named. Assumes nothing.
use Prim.Native.Nat.{ℕ, suc, ◌+◌, ◌-◌, ◌^◌, ◌≤◌, ◌<◌, max}
use mathlib.Core.Path.{◌≡◌, refl, sym, ap, ap₂, ◌∙◌, subst}
use mathlib.Core.List.{List, [], ◌∷◌, map}
use mathlib.Core.Bool.{Bool, true, false}
use native.Mathlib.Omega.{arith}
use lib.ListN.{length, take, drop, length-drop}
use lib.Seq.{get_or-drop, drop-drop}
use lib.Dec.{ltb}
use Rattle.steps.specs.Choice.{pick}
use Rattle.byte_numbers.specs.Bytes.{byte_at}
use Rattle.record.proofs.Laws.{whole}
use Rattle.segments.specs.Segments.{width_of}
use Rattle.record_after.proofs.Changed.{bytes_same}
use Rattle.cell.specs.declared.Cell.{Cell}
use Rattle.sheet_agreement.specs.declared.SheetKind.TheVariants.{Worksheet}
use Rattle.sheet_agreement.specs.Agreement.{same_kind, Sheet}
use Rattle.sheet_agreement.proofs.Laws.{same_kind-true}
use Rattle.globals.specs.declared.Globals.{Globals}
use Rattle.globals.specs.Sheets.{sheets_of}
use Rattle.workbook.specs.Check.{Right, checked_of}
use Rattle.reading.specs.Cells.{place_at, listed_from}
use Rattle.reading.specs.Reading.{on_name, name_at, width_at, type_at, start_by, listed_of, rows_of, CellReading, cell_reading, sheet_reading, reading_of}
use Rattle.reading.specs.Claims.{Every}
use Rattle.record_chain.specs.Chain.{Nth, first, next}
use Rattle.record_chain.specs.Tops.{SheetStands}
use Rattle.record_chain.proofs.Chain.{every_nth}
use Rattle.record_chain.proofs.Tops.{opening}
use Rattle.record_chain.proofs.Sheets.{sheets_stand}
use Rattle.reads_after.specs.Parts.{Inside}
use Rattle.reads_after.proofs.Found.{worksheet, sheet_start, listed_none}
use Rattle.reads_after.proofs.Lists.{map_map}
use Rattle.new_stream.specs.declared.Spot.{Spot}
use Rattle.new_stream.specs.Entries.{entries_of}
use Rattle.new_stream.specs.Compact.{compact_with, texts_in, uses}
use Rattle.new_stream.specs.Parts.{Given, BoundMoved, BofViewed, given_of, Made}
use Rattle.new_stream.specs.Claims.{TableOf, place_of, sheet_moved, Compacted}
use Rattle.new_stream.proofs.Fates.{after_at, after_bof, after_opens}
use Rattle.new_stream.proofs.Records.{spot, opened_at, bof_next}
use Rattle.new_stream.proofs.Check.{compacted, made}
use Rattle.new_reading.specs.Retexted.{retexted_cell, retexted_sheet, index_of, byte_of, SheetsRetexted}
use Rattle.new_reading.proofs.Cells.{Reads, cells_read}
use Rattle.value.specs.declared.CellValue.TheVariants.{Text}

-- ---- the row count is read off the cells
unfoldable rows_in : List CellReading → ℕ
rows_in [] = 0
rows_in (c ∷ l) = max (c.row + 1) (rows_in l)

rows_in_lem : (s : List ℕ) (l : List Cell) → rows_of l ≡ rows_in (map (cell_reading s) l)
unfolding rows_of rows_in
rows_in_lem s [] = refl
rows_in_lem s (c ∷ l) = ap (max (c.row + 1)) (rows_in_lem s l)

rows_retexted : (index byte : ℕ → ℕ) (l : List CellReading) → rows_in (map (retexted_cell index byte) l) ≡ rows_in l
unfolding rows_in
rows_retexted index byte [] = refl
rows_retexted index byte (c ∷ l) = ap (max (c.row + 1)) (rows_retexted index byte l)

-- ---- what a BOUNDSHEET says of its sheet
module _ (m : Given) (x : Sheet) (b : BoundMoved m x) where
  abbrev p : ℕ
  p = x.header

  abbrev q : ℕ
  q = m.total x.header

  byte_moved : (k : ℕ) → 8 ≤ k → k < 12 → byte_at m.t (q + k) ≡ byte_at m.s (p + k)
  byte_moved k a c = let l = b.long in sym (sym (get_or-drop p m.s k 0) ∙ b.same k (omega arith) a ∙ get_or-drop q m.t k 0)

  name_moved : name_at m.t q ≡ name_at m.s p
  unfolding name_at
  name_moved =
      let n = b.size in
      let w = whole m.s p 0x0085 b.size b.end b.old in
      let w' = whole m.t q 0x0085 b.size (q + (4 + b.size)) b.new in
      let l = b.long in
      let a : b.end - (p + 12) ≡ b.size - 8 = omega arith in
      let c : q + (4 + b.size) - (q + 12) ≡ b.size - 8 = omega arith in
      let lp = length-drop p m.s in
      let lq = length-drop q m.t in
      let bytes : take (b.size - 8) (drop 12 (drop q m.t)) ≡ take (b.size - 8) (drop 12 (drop p m.s)) =
      bytes_same (drop p m.s) (drop q m.t) 12 (b.size - 8) (omega arith) (omega arith) (λ k i j. b.same k (omega arith) (omega arith)) in
      ap (on_name m.t q) b.new ∙ ap (λ (j : ℕ). pick (ltb b.size 8) [] (take j (drop (q + 12) m.t))) c
      ∙ ap (λ (y : List ℕ). pick (ltb b.size 8) [] y) (ap (take (b.size - 8)) (sym (drop-drop 12 q m.t)) ∙ bytes ∙ ap (take (b.size - 8)) (drop-drop 12 p m.s))
      ∙ sym (ap (on_name m.s p) b.old ∙ ap (λ (j : ℕ). pick (ltb b.size 8) [] (take j (drop (p + 12) m.s))) a)

  width_moved : width_at m.t q ≡ width_at m.s p
  width_moved = ap width_of (byte_moved 11 (omega arith) (omega arith))

  type_moved : type_at m.t q ≡ type_at m.s p
  type_moved = byte_moved 9 (omega arith) (omega arith)

-- ---- a sheet
map_nth : {A B : Type 0} (f g : A → B) (l : List A) → ((n : ℕ) (x : A) → Nth l n x → f x ≡ g x) → map f l ≡ map g l
map_nth f g [] h = refl
map_nth {A} {B} f g (x ∷ l) h = ap₂ (λ (y : B) (r : List B). y ∷ r) (h 0 x first) (map_nth f g l (λ n y i. h (suc n) y (next i)))

module _ (s T : List ℕ) (u : ℕ) (g : Globals) (few : u ≤ 256 ^ 4) (ok : checked_of s u ≡ Right g) (tab : TableOf s T g) (short : length (compact_with s T) ≤ 16777216) where
  abbrev t : List ℕ
  t = compact_with s T

  abbrev m : Given
  m = given_of s T

  done : Compacted s T u g
  done = compacted s T u g few ok tab short

  abbrev u' : ℕ
  u' = (compacted s T u g few ok tab short).globals.unique

  facts : Made s T g u'
  facts = made s T u g few ok tab short

  module _ (n : ℕ) (x : Sheet) (i : Nth (sheets_of s) n x) where
    stand : SheetStands s g x
    stand = sheets_stand s u g ok n x i

    viewed : BofViewed m x.position
    viewed = every_nth (λ (x : Sheet). BofViewed m x.position) facts.views i

    bound : BoundMoved m x
    bound = every_nth (BoundMoved m) facts.bounds i

    abbrev w : Spot
    w = spot x.position 0 viewed.kind

    abbrev r : ℕ
    r = place_of s T x.position

    opened_at_lem : (opened_at m w).at ≡ x.position + 20
    opened_at_lem = after_at s w 0x0809 (x.position + 20)

    -- the cells of a worksheet, read in both streams
    reads_of : x.kind ≡ Worksheet → Reads m g.unique u' stand.end facts.fresh facts.small (x.position + 20) 0 (r + 20)
    unfolding place_at
    reads_of k =
        let o = opening s x.position stand.whole.kind stand.whole.opens in
        let kind : stand.whole.kind ≡ 0x0010 = worksheet stand.whole.kind (stand.number ∙ k) in
        subst (λ (n : ℕ). Reads m g.unique u' stand.end facts.fresh facts.small n 0 (r + 20)) opened_at_lem
        (cells_read m g.unique u' stand.end facts.fresh facts.small (opened_at m w) 0 (r + 20)
        record {
          level = after_bof s w 0x0809 (x.position + 20) refl;
          kind = after_opens s w 0x0809 (x.position + 20) refl ∙ o.kind ∙ kind;
          inside = subst (Inside s g.unique stand.end 0) (sym opened_at_lem) (sheet_start s g x stand k).1;
          view = bof_next m w r viewed.view o.header;
        })

    -- each listed text cell is a text entry
    abbrev Says : Cell → Type 0
    Says c = (i : ℕ) → c.value ≡ Text i → uses (texts_in s (entries_of s)) i ≡ true

    pub listed_says : Every Says (listed_of s x)
    unfolding start_by pick
    listed_says = by (same_kind x.kind Worksheet) refl
      where
        by : (b : Bool) → same_kind x.kind Worksheet ≡ b → Every Says (listed_from s (pick b (place_at (x.position + 20) 0) (place_at (length s) 0)))
        by true j = (reads_of (same_kind-true x.kind Worksheet j)).says
        by false j = subst (Every Says) (sym (listed_none s (length s) (omega arith))) tt

    listed_moved : map (cell_reading t) (listed_of t (sheet_moved s T x)) ≡ map (retexted_cell (index_of s T) (byte_of s T)) (map (cell_reading s) (listed_of s x))
    unfolding start_by pick
    listed_moved = by (same_kind x.kind Worksheet) refl
      where
        by : (b : Bool) → same_kind x.kind Worksheet ≡ b → map (cell_reading t) (listed_from t (pick b (place_at (r + 20) 0) (place_at (length t) 0))) ≡ map (retexted_cell (index_of s T) (byte_of s T)) (map (cell_reading s) (listed_from s (pick b (place_at (x.position + 20) 0) (place_at (length s) 0))))
        by true j = (reads_of (same_kind-true x.kind Worksheet j)).same
        by false j = ap (map (cell_reading t)) (listed_none t (length t) (omega arith)) ∙ sym (ap (λ (l : List Cell). map (retexted_cell (index_of s T) (byte_of s T)) (map (cell_reading s) l)) (listed_none s (length s) (omega arith)))

    sheet_moved_lem : sheet_reading t (sheet_moved s T x) ≡ retexted_sheet (index_of s T) (byte_of s T) (sheet_reading s x)
    sheet_moved_lem =
        let cells = listed_moved in
        let rows : rows_of (listed_of t (sheet_moved s T x)) ≡ rows_of (listed_of s x) = rows_in_lem t (listed_of t (sheet_moved s T x)) ∙ ap rows_in cells ∙ rows_retexted (index_of s T) (byte_of s T) (map (cell_reading s) (listed_of s x)) ∙ sym (rows_in_lem s (listed_of s x)) in
        λ j. record { name = name_moved m x bound j; width = width_moved m x bound j; type = type_moved m x bound j; rows = rows j; cells = cells j }

  sheets_retexted_by : map (sheet_reading t) (sheets_of t) ≡ map (retexted_sheet (index_of s T) (byte_of s T)) (map (sheet_reading s) (sheets_of s))
  sheets_retexted_by =
      ap (map (sheet_reading t)) done.sheets ∙ map_map (sheet_moved s T) (sheet_reading t) (sheets_of s)
      ∙ map_nth (λ x. sheet_reading t (sheet_moved s T x)) (λ x. retexted_sheet (index_of s T) (byte_of s T) (sheet_reading s x)) (sheets_of s) sheet_moved_lem
      ∙ sym (map_map (sheet_reading s) (retexted_sheet (index_of s T) (byte_of s T)) (sheets_of s))

pub sheets_retexted : SheetsRetexted
unfolding reading_of
sheets_retexted s T u g few ok tab short = sheets_retexted_by s T u g few ok tab short
