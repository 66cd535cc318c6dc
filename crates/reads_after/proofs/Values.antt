-- The values of an address, before and after one cell's is replaced. Assumes nothing.
use Prim.Native.Nat.{ℕ}
use mathlib.Core.Path.{◌≡◌, refl, ap, ◌∙◌}
use mathlib.Core.List.{List, [], ◌∷◌, map}
use mathlib.Core.Bool.{Bool, true, false, ◌&&◌}
use lib.Dec.{eqb}
use Rattle.steps.specs.Choice.{pick}
use Rattle.steps.specs.Items.{nth}
use Rattle.value.specs.declared.CellValue.{CellValue}
use Rattle.cell.specs.declared.Cell.{Cell}
use Rattle.sheet_agreement.specs.Agreement.{Sheet}
use Rattle.globals.specs.Sheets.{sheets_of}
use Rattle.reading.specs.Reading.{listed_of, CellReading, SheetReading, cell_reading, sheet_reading, reading_of}
use Rattle.correction.specs.Correction.{cells_at}
use Rattle.record_chain.specs.Chain.{Nth, first, next}
use Rattle.reads_after.specs.Replaced.{has_address, with_value, replaced_cell, replaced_sheet, on_nth, replaced, cells_of_address, values_at}

-- ---- the n-th of a list
nth_map : {A B C : Type 0} (f : A → B) (h : B → C) (d : C) {l : List A} {n : ℕ} {x : A} → Nth l n x → nth (map f l) n h d ≡ h (f x)
unfolding nth
nth_map f h d first = refl
nth_map f h d (next i) = nth_map f h d i

nth_on : {A B C : Type 0} (f : A → B) (g : B → B) (h : B → C) (d : C) {l : List A} {n : ℕ} {x : A} → Nth l n x → nth (on_nth n g (map f l)) n h d ≡ h (g (f x))
unfolding nth on_nth
nth_on f g h d first = refl
nth_on f g h d (next i) = nth_on f g h d i

-- ---- the cells of an address
address_read : (s : List ℕ) (row column : ℕ) (l : List Cell) → cells_of_address row column (map (cell_reading s) l) ≡ map (cell_reading s) (cells_at row column l)
unfolding cells_of_address cells_at pick
address_read s row column [] = refl
address_read s row column (c ∷ l) = go (eqb c.row row && eqb c.column column) (address_read s row column l)
  where
    go : (b : Bool) → cells_of_address row column (map (cell_reading s) l) ≡ map (cell_reading s) (cells_at row column l)
        → pick b (cell_reading s c ∷ cells_of_address row column (map (cell_reading s) l)) (cells_of_address row column (map (cell_reading s) l)) ≡ map (cell_reading s) (pick b (c ∷ cells_at row column l) (cells_at row column l))
    go true h = ap (λ (r : List CellReading). cell_reading s c ∷ r) h
    go false h = h

address_replaced : (row column : ℕ) (v : CellValue) (l : List CellReading) → cells_of_address row column (map (replaced_cell row column v) l) ≡ map (with_value v) (cells_of_address row column l)
unfolding cells_of_address pick
address_replaced row column v [] = refl
address_replaced row column v (c ∷ l) = go (has_address row column c) refl (address_replaced row column v l)
  where
    go : (b : Bool) → has_address row column c ≡ b → cells_of_address row column (map (replaced_cell row column v) l) ≡ map (with_value v) (cells_of_address row column l)
        → pick (has_address row column (pick b (with_value v c) c)) (pick b (with_value v c) c ∷ cells_of_address row column (map (replaced_cell row column v) l)) (cells_of_address row column (map (replaced_cell row column v) l))
        ≡ map (with_value v) (pick b (c ∷ cells_of_address row column l) (cells_of_address row column l))
    go true q h = rw q (ap (λ (r : List CellReading). with_value v c ∷ r) h)
    go false q h = rw q h

-- ---- sheet n has one cell of the address
module _ (s : List ℕ) (lent n row column : ℕ) (x : Sheet) (i : Nth (sheets_of s) n x) (c : Cell) (alone : cells_at row column (listed_of s x) ≡ c ∷ []) where
  address_one : cells_of_address row column (map (cell_reading s) (listed_of s x)) ≡ cell_reading s c ∷ []
  address_one = address_read s row column (listed_of s x) ∙ ap (map (cell_reading s)) alone

  abbrev value : CellReading → CellValue
  value d = d.value

  abbrev values : SheetReading → List CellValue
  values y = map value (cells_of_address row column y.cells)

  pub value_one : values_at n row column (reading_of s lent) ≡ c.value ∷ []
  unfolding values_at reading_of
  value_one = nth_map (sheet_reading s) values [] i ∙ ap (map value) address_one

  pub value_new : (v : CellValue) → values_at n row column (replaced n row column v (reading_of s lent)) ≡ v ∷ []
  unfolding values_at reading_of
  value_new v =
      nth_on (sheet_reading s) (replaced_sheet row column v) values [] i
      ∙ ap (map value) (address_replaced row column v (map (cell_reading s) (listed_of s x)) ∙ ap (map (with_value v)) address_one)
