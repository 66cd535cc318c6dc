-- What a caller is given who calls a step again and again. Assumes nothing.
use Prim.Native.Nat.{ℕ, zero, suc, ◌+◌, ◌*◌, ◌≤◌, ◌<◌}
use mathlib.Core.Path.{◌≡◌, refl, sym, ap, ◌∙◌, subst}
use mathlib.Core.List.{List, [], ◌∷◌, map}
use Rattle.std.specs.Prelude.{Option, Some, None}
use native.Mathlib.Omega.{arith}
use lib.ListN.{length}
use Rattle.steps.proofs.Choice.{never, pick_any, pick_le}
use Rattle.steps.specs.Walk.{stop}
use Rattle.steps.proofs.Walk.{run_keeps}
use Rattle.steps.specs.Items.{Item, gives, skips, ends, nth, Lists, at_end, and_then}
use Rattle.record.specs.declared.Header.{Header}
use Rattle.record.specs.declared.Header.TheVariants.{Record, Cut, End}
use Rattle.record.specs.Record.{header_at}
use Rattle.record.proofs.Laws.{Whole, whole}
use Rattle.cell.specs.declared.Shape.{Shape}
use Rattle.cell.specs.declared.Shape.TheVariants.{BLANK, NUMBER, RK, LABELSST, BOOLERR, MULRK, MULBLANK, FORMULA, OTHER}
use Rattle.cell.specs.declared.Cell.{Cell}
use Rattle.cell.specs.declared.Found.{Found}
use Rattle.cell.specs.Cells.{shape_of, field_of, length_at, count_of, cell_from, cell_of, found_of}
use Rattle.cell.proofs.Sizes.{formula_below}
use Rattle.sheet_agreement.specs.Agreement.{Sheet}
use Rattle.globals.specs.Sheets.{sheets_from, sheets_of}
use Rattle.reading.specs.declared.Place.{Place}
use Rattle.reading.specs.Cells.{other_item, on_found, record_item, on_header, cell_item, remaining, listed_from}
use Rattle.reading.specs.Reading.{SheetReading, name_at, listed_of, rows_of, cell_reading, sheet_reading, reading_of}
use Rattle.reading.proofs.Laws.{found_there}
use Rattle.listing.specs.declared.NextSheet.{NextSheet}
use Rattle.listing.specs.declared.Listed.{Listed}
use Rattle.listing.specs.Listing.{first_sheet, next_sheet_of, on_item, next_of, tokens_in}
use Rattle.listing.specs.Claims.{CellGiven, CellsGiven, CellsListed, SheetGiven, SheetsListed}
use Rattle.listing.proofs.Laws.{listed, go, falls, on_listed, listed_next, cells_listed}
use Rattle.listing.proofs.SheetWalk.{SheetsFrom, sheets_next}

-- ---- a listed formula's tokens lie in its record
module _ (s : List ℕ) where
  abbrev TokensIn : Cell → Type 0
  TokensIn c = c.tokens.start + c.tokens.length ≤ length s

  abbrev TokensOn : Item Place Cell → Type 0
  TokensOn (gives c t) = TokensIn c
  TokensOn (skips t) = Unit {0}
  TokensOn ends = Unit {0}

  part_tokens : (h : Shape) (at z k : ℕ) → k < count_of h s at z → at + 4 + z ≤ length s → TokensIn (cell_of s (field_of h) at k)
  unfolding cell_of cell_from
  part_tokens BLANK at z k l w = omega arith
  part_tokens NUMBER at z k l w = omega arith
  part_tokens RK at z k l w = omega arith
  part_tokens LABELSST at z k l w = omega arith
  part_tokens BOOLERR at z k l w = omega arith
  part_tokens MULRK at z k l w = omega arith
  part_tokens MULBLANK at z k l w = omega arith
  part_tokens FORMULA at z k l w =
      let b = formula_below (length_at s (at + 8)) z k l in
      let e : at + 8 + k * 18 ≡ at + 8 = omega arith in
      subst (λ (q : ℕ). q + 18 + length_at s q ≤ length s) (sym e) (omega arith)
  part_tokens OTHER at z k l w = omega arith

  module _ (v : Place) (t z e : ℕ) (w : Whole s v.at t z e) where
    other_tokens : TokensOn (other_item v t e)
    unfolding other_item
    other_tokens = pick_any TokensOn _ (pick_any TokensOn _ tt tt) (pick_any TokensOn _ (pick_any TokensOn _ tt tt) tt)

    found_tokens : (x : Option Found) → found_of s (shape_of t) v.at z v.part ≡ x → TokensOn (on_found v t e x)
    found_tokens (Some f) h =
        let g = found_there s (shape_of t) v.at z v.part f h in
        subst TokensIn (sym g.cell) (part_tokens (shape_of t) v.at z v.part g.below (omega arith))
    found_tokens None h = other_tokens

    record_tokens : TokensOn (record_item s v t z e)
    unfolding record_item
    record_tokens = pick_any TokensOn _ (found_tokens (found_of s (shape_of t) v.at z v.part) refl) other_tokens

  header_tokens : (v : Place) (h : Header) → header_at s v.at ≡ h → TokensOn (on_header s v h)
  header_tokens v (Record t z e) h = record_tokens v t z e (whole s v.at t z e h)
  header_tokens v Cut h = tt
  header_tokens v End h = tt

  item_tokens : (v : Place) → TokensOn (cell_item s v)
  unfolding cell_item
  item_tokens v = header_tokens v (header_at s v.at) refl

  abbrev TokensAfter : Option Listed → Type 0
  TokensAfter (Some x) = TokensIn x.cell
  TokensAfter None = Unit {0}

  stop_tokens : (x : Item Place Cell) → TokensOn x → (a : Option Listed) → on_item x ≡ stop a → TokensAfter a
  stop_tokens (gives c t) h a e = subst TokensAfter (let j : listed c t ≡ a = cc in j) h
  stop_tokens (skips t) h a e = never (cc)
  stop_tokens ends h a e = subst TokensAfter (let j : None ≡ a = cc in j) tt

  next_tokens : (v : Place) → TokensAfter (next_of s v)
  unfolding next_of
  next_tokens v =
      run_keeps (go s) None (remaining s) (falls s) (λ _. Unit {0}) TokensAfter
      (λ _ _ _ _. tt) (λ u a _ j. stop_tokens (cell_item s u) (item_tokens u) a j) v tt

-- ---- the cells
module _ (s : List ℕ) where
  cell_given : (v w : Place) (c : Cell) → next_of s v ≡ listed c w → CellGiven s v (cell_reading s c) w
  unfolding tokens_in
  cell_given v w c h =
      let k : TokensIn s c = subst (TokensAfter s) h (next_tokens s v) in
      record {
        cell = c;
        next = h;
        row = refl;
        column = refl;
        value = refl;
        format = refl;
        place = refl;
        tokens = sym (pick_le _ _ _ _ _ k refl);
        trailing = refl;
        text = refl;
      }

  cells_by_lem : (l : List Cell) (v : Place) (r : Option Listed) → next_of s v ≡ r → l ≡ on_listed s r → CellsGiven s v (map (cell_reading s) l)
  cells_by_lem [] v (Some x) i e = never (cc)
  cells_by_lem [] v None i e = at_end i
  cells_by_lem (c ∷ l) v (Some x) i e =
      let j : x.cell ≡ c = cc in
      let k : l ≡ listed_from s x.next = cc in
      and_then (cell_given v x.next c (i ∙ ap (λ (y : Cell). listed y x.next) j)) (cells_by_lem l x.next (next_of s x.next) refl (k ∙ listed_next s x.next))
  cells_by_lem (c ∷ l) v None i e = never (cc)

  cells_from_lem : (v : Place) (l : List Cell) → listed_from s v ≡ l → CellsGiven s v (map (cell_reading s) l)
  cells_from_lem v l h = cells_by_lem l v (next_of s v) refl (sym h ∙ listed_next s v)

  cells_read : (l : List Sheet) (n : ℕ) → map (cell_reading s) (nth l n (λ (x : Sheet). listed_of s x) []) ≡ nth (map (sheet_reading s) l) n (λ (x : SheetReading). x.cells) []
  unfolding nth
  cells_read [] n = refl
  cells_read (x ∷ l) zero = refl
  cells_read (x ∷ l) (suc n) = cells_read l n

pub cells_are_listed : CellsListed
unfolding reading_of
cells_are_listed s n v h = subst (CellsGiven s v) (cells_read s (sheets_of s) n) (cells_from_lem s v _ (cells_listed s n v h))

-- ---- the sheets
module _ (s : List ℕ) where
  abbrev Given : ℕ → List Sheet → Type 0
  Given p l = Lists (SheetGiven s) (λ (p : ℕ). next_sheet_of s p ≡ None) p (map (sheet_reading s) l)

  sheets_by : (l : List Sheet) (p : ℕ) (r : Option NextSheet) → next_sheet_of s p ≡ r → SheetsFrom s p r → sheets_from s p ≡ l → Given p l
  sheets_by [] p (Some y) i f e = let j = f.list in never (cc)
  sheets_by [] p None i f e = at_end i
  sheets_by (x ∷ l) p (Some y) i f e =
      let list = f.list in
      let j : f.sheet ≡ x = cc in
      let k : sheets_from s y.next ≡ l = cc in
      let type = f.type in
      let width = f.width in
      let given : SheetGiven s p (sheet_reading s f.sheet) y.next = record {
        header = y.header;
        cells = y.cells;
        next = i ∙ (λ z. Some (record { header = y.header; type_byte = sym type z; width = sym width z; cells = y.cells; next = y.next }));
        name = ap (name_at s) (sym f.header);
        rows = ap (λ (u : Place). rows_of (listed_from s u)) (sym f.start);
        listed = cells_from_lem s y.cells (listed_of s f.sheet) (ap (listed_from s) (sym f.start));
      } in
      and_then (subst (λ (z : Sheet). SheetGiven s p (sheet_reading s z) y.next) j given) (sheets_by l y.next (next_sheet_of s y.next) refl (sheets_next s y.next) k)
  sheets_by (x ∷ l) p None i f e = never (cc)

pub sheets_are_listed : SheetsListed
unfolding reading_of
sheets_are_listed s u = sheets_by s (sheets_of s) first_sheet (next_sheet_of s first_sheet) refl (sheets_next s first_sheet) refl
