-- What a cell record reads, at any place: the drop law and the shift law of readings. Assumes nothing.
use Prim.Native.Nat.{ℕ, zero, suc, ◌+◌, ◌-◌, ◌*◌, ◌≤◌, ◌<◌}
use mathlib.Core.Path.{◌≡◌, refl, sym, ap, ap₂, ◌∙◌}
use mathlib.Core.List.{List, [], ◌∷◌, map}
use mathlib.Core.Bool.{Bool, true}
use native.Mathlib.Omega.{arith}
use native.Mathlib.Nat.{suc-mul, mul-le-mul_right}
use lib.ListN.{length, take, drop, length-drop as list-drop}
use lib.Seq.{drop-drop}
use lib.Dec.{ltb, eqb}
use borrow.Author.Tests.{eqb-true}
use Rattle.std.specs.Prelude.{Option, Some, None}
use Rattle.std.specs.Prelude.{Float as F64}
use Rattle.steps.specs.Choice.{pick}
use Rattle.steps.proofs.Choice.{pick_any, pick_by, pick_nlt, pick_same}
use Rattle.byte_numbers.specs.Bytes.{num_at, u16_at, u32_at}
use Rattle.byte_numbers.proofs.Laws.{Same, num_same}
use Rattle.record.specs.declared.Header.{Header}
use Rattle.record.specs.declared.Header.TheVariants.{Record, Cut, End}
use Rattle.record.specs.Record.{header_at}
use Rattle.segments.specs.Segments.{Got, got, refused, list_of}
use Rattle.text_result.specs.TextResult.{has_text, text_of}
use Rattle.number.specs.Rk.{rk_of}
use Rattle.value.specs.declared.Field.{Field}
use Rattle.value.specs.declared.Field.TheVariants.{NoField, Float, RkWord, TextIndex, TruthError, StoredResult}
use Rattle.value.specs.declared.CellValue.{CellValue}
use Rattle.value.specs.declared.CellValue.TheVariants.{Text}
use Rattle.value.specs.Value.{float_value, rk_value, truth_error, value_of}
use Rattle.cell.specs.declared.Shape.{Shape}
use Rattle.cell.specs.declared.Shape.TheVariants.{LABELSST}
use Rattle.cell.specs.declared.Cell.{Cell}
use Rattle.cell.specs.Cells.{shape_of, field_of, part_of, start_of, row_at, first_at, length_at, sized, count_of, field_at, cell_from, cells_from, cells_of, cell_of, tokens_of}
use Rattle.record_after.proofs.Locality.{count_local, cells_local}
use Rattle.record_after.proofs.Changed.{tokens_local}
use Rattle.cell.proofs.Sizes.{count_lies}
use Rattle.reading.specs.Reading.{says_text, on_formula, text_after, units_of, trailing_size, trailing_bytes, CellReading, cell_reading}
use Rattle.reading.proofs.Texts.{field_of_lem, says_is, has_formula}
use Rattle.reading.specs.Claims.{Every}
use Rattle.reads_after.proofs.Lists.{map_every, map_map}
use Rattle.reads_after.proofs.Trailing.{trailing_local}
use Rattle.moved_records.proofs.Later.{later_header, later_got}
use Rattle.moved_records.proofs.Texts.{header_drop, text_drop, has_drop}
use Rattle.moved_records.proofs.Views.{num_drop, num_at_lem, row_drop, first_drop, length_drop, field_drop, count_drop}
use Rattle.moved_records.proofs.Moved.{num_moved}
use Rattle.new_reading.specs.Retexted.{retexted_value, retexted_cell}

-- each offset is p more
abbrev later_reading : ℕ → CellReading → CellReading
later_reading p c = record { row = c.row; column = c.column; value = c.value; tokens = c.tokens; trailing = c.trailing; format = c.format; place = p + c.place; text = c.text }

-- ---- the drop law
module _ (s : List ℕ) (p : ℕ) where
  -- a cell whose part is at i of the bytes from p on
  tokens_drop : (f : Field) (row column i : ℕ) → tokens_of (drop p s) (cell_from f (drop p s) row column i) ≡ tokens_of s (cell_from f s row column (p + i))
  unfolding tokens_of cell_from
  tokens_drop NoField row column i = refl
  tokens_drop Float row column i = refl
  tokens_drop RkWord row column i = refl
  tokens_drop TextIndex row column i = refl
  tokens_drop TruthError row column i = refl
  tokens_drop StoredResult row column i =
      ap₂ take (length_drop s p i) (drop-drop (i + 18) p s ∙ ap (λ (n : ℕ). drop n s) (let e : p + (i + 18) ≡ p + i + 18 = omega arith in e))

  size_drop : (i : ℕ) → 8 ≤ i
      → pick (ltb (i + 18) 26) 0 (u16_at (drop p s) (i + 18 - 24) - (22 + length_at (drop p s) i)) ≡ pick (ltb (p + i + 18) 26) 0 (u16_at s (p + i + 18 - 24) - (22 + length_at s (p + i)))
  size_drop i l =
      sym (pick_nlt (u16_at (drop p s) (i + 18 - 24) - (22 + length_at (drop p s) i)) 0 _ (i + 18) 26 (omega arith) refl)
      ∙ ap₂ (λ (a b : ℕ). a - (22 + b)) (num_at_lem s p 2 (i + 18 - 24) (p + i + 18 - 24) (omega arith)) (length_drop s p i)
      ∙ pick_nlt (u16_at s (p + i + 18 - 24) - (22 + length_at s (p + i))) 0 _ (p + i + 18) 26 (omega arith) refl

  trailing_drop : (f : Field) (row column i : ℕ) → 8 ≤ i → trailing_bytes (drop p s) (cell_from f (drop p s) row column i) ≡ trailing_bytes s (cell_from f s row column (p + i))
  unfolding trailing_bytes trailing_size cell_from pick
  trailing_drop NoField row column i l = refl
  trailing_drop Float row column i l = refl
  trailing_drop RkWord row column i l = refl
  trailing_drop TextIndex row column i l = refl
  trailing_drop TruthError row column i l = refl
  trailing_drop StoredResult row column i l =
      ap₂ take (size_drop i l)
      (drop-drop (i + 18 + length_at (drop p s) i) p s ∙ ap (λ (n : ℕ). drop n s) (let a = length_drop s p i in let e : p + (i + 18 + length_at (drop p s) i) ≡ p + i + 18 + length_at s (p + i) = omega arith in e))

  list_later : (x : Got (List ℕ)) → list_of x ≡ list_of (later_got p x)
  list_later (got us c) = refl
  list_later (refused n o) = refl

  on_formula_drop : (j k : ℕ) → p + j ≡ k → (h : Header) → on_formula (drop p s) j h ≡ on_formula s k (later_header p h)
  on_formula_drop j k e (Record t z f) = list_later (text_of (drop p s) j f) ∙ ap list_of (text_drop s p j f ∙ ap (λ (n : ℕ). text_of s n (p + f)) e)
  on_formula_drop j k e Cut = refl
  on_formula_drop j k e End = refl

  pub after_drop : (j k : ℕ) → p + j ≡ k → text_after (drop p s) j ≡ text_after s k
  unfolding text_after
  after_drop j k e = on_formula_drop j k e (header_at (drop p s) j) ∙ ap (on_formula s k) (header_drop s p j k e)

  units_by_lem : (f : Field) (i : ℕ) → 10 ≤ i + start_of f
      → pick (says_text (value_of f (field_at f (drop p s) i))) (text_after (drop p s) (i + start_of f - 10)) [] ≡ pick (says_text (value_of f (field_at f s (p + i)))) (text_after s (p + i + start_of f - 10)) []
  units_by_lem f i l = ap₂ (λ (b : Bool) (us : List ℕ). pick b us []) (ap (λ (n : ℕ). says_text (value_of f n)) (field_drop s p f i)) (after_drop (i + start_of f - 10) (p + i + start_of f - 10) (omega arith))

  units_drop : (f : Field) (row column i : ℕ) → 8 ≤ i → units_of (drop p s) (cell_from f (drop p s) row column i) ≡ units_of s (cell_from f s row column (p + i))
  unfolding units_of cell_from pick
  units_drop NoField row column i l = refl
  units_drop Float row column i l = units_by_lem Float i (omega arith)
  units_drop RkWord row column i l = units_by_lem RkWord i (omega arith)
  units_drop TextIndex row column i l = units_by_lem TextIndex i (omega arith)
  units_drop TruthError row column i l = units_by_lem TruthError i (omega arith)
  units_drop StoredResult row column i l = units_by_lem StoredResult i (omega arith)

  read_drop : (f : Field) (row column i : ℕ) → 8 ≤ i → later_reading p (cell_reading (drop p s) (cell_from f (drop p s) row column i)) ≡ cell_reading s (cell_from f s row column (p + i))
  unfolding cell_from
  read_drop f row column i l =
      let e : p + (i + start_of f) ≡ p + i + start_of f = omega arith in
      λ j. record {
        row = row;
        column = column;
        value = value_of f (field_drop s p f i j);
        tokens = tokens_drop f row column i j;
        trailing = trailing_drop f row column i l j;
        format = num_drop s p 2 i j;
        place = e j;
        text = units_drop f row column i l j;
      }

  reads_drop : (f : Field) (row : ℕ) (n column i : ℕ) → 8 ≤ i → map (later_reading p) (map (cell_reading (drop p s)) (cells_from f (drop p s) row column i n)) ≡ map (cell_reading s) (cells_from f s row column (p + i) n)
  unfolding cells_from
  reads_drop f row zero column i l = refl
  reads_drop f row (suc n) column i l =
      ap₂ (λ (c : CellReading) (l : List CellReading). c ∷ l) (read_drop f row column i l)
      (reads_drop f row n (column + 1) (i + part_of f) (omega arith) ∙ ap (λ (j : ℕ). map (cell_reading s) (cells_from f s row (column + 1) j n)) (let e : p + (i + part_of f) ≡ p + i + part_of f = omega arith in e))

  cells_drop : (h : Shape) (z : ℕ) → map (later_reading p) (map (cell_reading (drop p s)) (cells_of (drop p s) h 0 z)) ≡ map (cell_reading s) (cells_of s h p z)
  unfolding cells_of
  cells_drop h z =
      reads_drop (field_of h) (row_at (drop p s) 0) (count_of h (drop p s) 0 z) (first_at (drop p s) 0) 8 (omega arith)
      ∙ (λ j. map (cell_reading s) (cells_from (field_of h) s (row_drop s p j) (first_drop s p j) (p + 8) (count_drop s p h z j)))

-- ---- what holds of each cell of a record
pub every_cells : (P : Cell → Type 0) (f : Field) (s : List ℕ) (row : ℕ) (n column q : ℕ) → ((k : ℕ) → k < n → P (cell_from f s row (column + k) (q + k * part_of f))) → Every P (cells_from f s row column q n)
unfolding cells_from
every_cells P f s row zero column q h = tt
every_cells P f s row (suc n) column q h = (
  (let a : column + 0 ≡ column = omega arith in let b : q + 0 * part_of f ≡ q = omega arith in rw (a, b) at (h 0 (omega arith))),
  every_cells P f s row n (column + 1) (q + part_of f) (λ k l.
      let a : column + suc k ≡ column + 1 + k = omega arith in
      let b : q + suc k * part_of f ≡ q + part_of f + k * part_of f = omega (arith, suc-mul k (part_of f)) in
      rw (a, b) at (h (suc k) (omega arith))),
)

start_in_lem : (f : Field) → start_of f < part_of f
start_in_lem NoField = omega arith
start_in_lem Float = omega arith
start_in_lem RkWord = omega arith
start_in_lem TextIndex = omega arith
start_in_lem TruthError = omega arith
start_in_lem StoredResult = omega arith

-- ---- values that are no text stay
module _ (index : ℕ → ℕ) where
  abbrev Stays : CellValue → Type 0
  Stays v = retexted_value index v ≡ v

  abbrev NoText : Field → Type 0
  NoText f = (n : ℕ) → Stays (value_of f n)

  float_stays : (n : ℕ) → Stays (float_value n)
  unfolding float_value
  float_stays n = pick_any Stays _ refl refl

  rk_stays : (x : Option F64) → Stays (rk_value x)
  rk_stays (Some x) = refl
  rk_stays None = refl

  truth_stays : (n : ℕ) → Stays (truth_error n)
  unfolding truth_error
  truth_stays n = pick_any Stays _ refl refl

  no_text : (ty : ℕ) → (ty ≡ 0x00FD → ⊥) → NoText (field_of (shape_of ty))
  unfolding shape_of
  no_text ty d =
      pick_by P _ (λ _ n. refl) (λ _. pick_by P _ (λ _ n. float_stays n) (λ _. pick_by P _ (λ _ n. rk_stays (rk_of n))
      (λ _. pick_by P (eqb ty 0x00FD) (λ i. absurd (d (eqb-true ty 0x00FD i))) (λ _. pick_by P _ (λ _ n. truth_stays n) (λ _. pick_by P _ (λ _ n. rk_stays (rk_of n))
      (λ _. pick_by P _ (λ _ n. refl) (λ _. pick_by P _ (λ _ n. refl) (λ _ n. refl))))))))
    where
      P : Shape → Type 0
      P h = NoText (field_of h)

-- ---- the shift law
module _ (s t : List ℕ) (p q z : ℕ) (low : p + (4 + z) ≤ length s) (low' : q + (4 + z) ≤ length t) (same : Same (drop p s) (drop q t) 0 (4 + z)) where
  pub count_moved : (h : Shape) → count_of h t q z ≡ count_of h s p z
  count_moved h = sym (count_drop t q h z) ∙ count_local (drop p s) (drop q t) 0 z h same ∙ count_drop s p h z

  module _ (ty : ℕ) (size : z ≡ u16_at s (p + 2)) (shown : has_text s ty p ≡ true → text_after t q ≡ text_after s p) where
    abbrev h : Shape
    h = shape_of ty

    abbrev x : List ℕ
    x = drop p s

    abbrev nth : ℕ → Cell
    nth k = cell_of (drop p s) (field_of (shape_of ty)) 0 k

    size_x : z ≡ u16_at (drop p s) (0 + 2)
    size_x = size ∙ sym (num_drop s p 2 2)

    size_y : z ≡ u16_at (drop q t) (0 + 2)
    size_y = size_x ∙ num_same (drop p s) (drop q t) 2 2 (λ j a b. same j (omega arith) (omega arith))

    -- the units of its text result
    units_same : (k : ℕ) → k < count_of (shape_of ty) (drop p s) 0 z → units_of (drop q t) (nth k) ≡ units_of (drop p s) (nth k)
    unfolding units_of
    units_same k l =
        pick_same (says_text (nth k).value) _ _ _ _
        (λ i.
        let has : has_text (drop p s) ty 0 ≡ true = sym (says_is (drop p s) ty 0 z k l) ∙ i in
        let at : (nth k).field - 10 ≡ 0 = let f = field_of_lem (drop p s) ty 0 z k l (has_formula (drop p s) ty 0 has) in omega arith in
        let zero-p : p + 0 ≡ p = omega arith in
        let zero-q : q + 0 ≡ q = omega arith in
        ap (text_after (drop q t)) at ∙ after_drop t q 0 q zero-q ∙ shown (sym (has_drop s p ty) ∙ has) ∙ sym (after_drop s p 0 p zero-p) ∙ sym (ap (text_after (drop p s)) at))
        (λ _. refl)

    -- each cell reads the same bytes of its record
    reads_same : Every (λ (c : Cell). cell_reading (drop q t) c ≡ cell_reading (drop p s) c) (cells_of (drop p s) (shape_of ty) 0 z)
    unfolding cells_of cell_of
    reads_same =
        every_cells (λ (c : Cell). cell_reading (drop q t) c ≡ cell_reading (drop p s) c) (field_of (shape_of ty)) (drop p s) (row_at (drop p s) 0) (count_of (shape_of ty) (drop p s) 0 z) (first_at (drop p s) 0) 8
        (λ k l.
        let a = list-drop p s in
        let b = list-drop q t in
        let e = tokens_local (drop p s) (drop q t) 0 z (shape_of ty) k l (omega arith) (omega arith) same in
        let f = trailing_local (drop p s) (drop q t) 0 z size_x size_y (omega arith) (omega arith) (shape_of ty) k l same in
        let g = units_same k l in
        λ j. record {
          row = (cell_of (drop p s) (field_of (shape_of ty)) 0 k).row;
          column = (cell_of (drop p s) (field_of (shape_of ty)) 0 k).column;
          value = (cell_of (drop p s) (field_of (shape_of ty)) 0 k).value;
          tokens = e j;
          trailing = f j;
          format = (cell_of (drop p s) (field_of (shape_of ty)) 0 k).format;
          place = (cell_of (drop p s) (field_of (shape_of ty)) 0 k).field;
          text = g j;
        })

    -- where its value field stands, and what it says if it is no text
    module _ (index byte : ℕ → ℕ) (no_label : ty ≡ 0x00FD → ⊥) (moved : (k : ℕ) → k < 4 + z → byte (p + k) ≡ q + k) where
      field_low : (k : ℕ) → k < count_of (shape_of ty) (drop p s) 0 z → 8 + k * part_of (field_of (shape_of ty)) + start_of (field_of (shape_of ty)) < 4 + z
      field_low k l =
          let a = (count_lies (drop p s) 0 z k (shape_of ty) l).0 in
          let b : k * part_of (field_of (shape_of ty)) + part_of (field_of (shape_of ty)) ≤ count_of (shape_of ty) (drop p s) 0 z * part_of (field_of (shape_of ty)) = rw suc-mul at (mul-le-mul_right (part_of (field_of (shape_of ty))) l) in
          let c = start_in_lem (field_of (shape_of ty)) in
          omega arith

      told_same : Every (λ (c : Cell). later_reading q (cell_reading (drop p s) c) ≡ retexted_cell index byte (later_reading p (cell_reading (drop p s) c))) (cells_of (drop p s) (shape_of ty) 0 z)
      unfolding cells_of cell_from
      told_same =
          every_cells (λ (c : Cell). later_reading q (cell_reading (drop p s) c) ≡ retexted_cell index byte (later_reading p (cell_reading (drop p s) c))) (field_of (shape_of ty)) (drop p s) (row_at (drop p s) 0)
          (count_of (shape_of ty) (drop p s) 0 z) (first_at (drop p s) 0) 8
          (λ k l.
          let c : Cell = cell_from (field_of (shape_of ty)) (drop p s) (row_at (drop p s) 0) (first_at (drop p s) 0 + k) (8 + k * part_of (field_of (shape_of ty))) in
          let a = no_text index ty no_label (field_at (field_of (shape_of ty)) (drop p s) (8 + k * part_of (field_of (shape_of ty)))) in
          let b = moved (8 + k * part_of (field_of (shape_of ty)) + start_of (field_of (shape_of ty))) (field_low k l) in
          λ j. record {
            row = c.row;
            column = c.column;
            value = sym a j;
            tokens = tokens_of (drop p s) c;
            trailing = trailing_bytes (drop p s) c;
            format = c.format;
            place = sym b j;
            text = units_of (drop p s) c;
          })

      pub cells_moved : map (cell_reading t) (cells_of t (shape_of ty) q z) ≡ map (retexted_cell index byte) (map (cell_reading s) (cells_of s (shape_of ty) p z))
      cells_moved =
          sym (cells_drop t q (shape_of ty) z)
          ∙ ap (map (later_reading q)) (ap (map (cell_reading (drop q t))) (cells_local (drop p s) (drop q t) 0 z (shape_of ty) same)
          ∙ map_every (cell_reading (drop q t)) (cell_reading (drop p s)) (cells_of (drop p s) (shape_of ty) 0 z) reads_same)
          ∙ map_map (cell_reading (drop p s)) (later_reading q) (cells_of (drop p s) (shape_of ty) 0 z)
          ∙ map_every (λ c. later_reading q (cell_reading (drop p s) c)) (λ c. retexted_cell index byte (later_reading p (cell_reading (drop p s) c))) (cells_of (drop p s) (shape_of ty) 0 z) told_same
          ∙ sym (map_map (cell_reading (drop p s)) (λ c. retexted_cell index byte (later_reading p c)) (cells_of (drop p s) (shape_of ty) 0 z))
          ∙ sym (map_map (later_reading p) (retexted_cell index byte) (map (cell_reading (drop p s)) (cells_of (drop p s) (shape_of ty) 0 z)))
          ∙ ap (map (retexted_cell index byte)) (cells_drop s p (shape_of ty) z)

-- ---- a LABELSST with another index
module _ (index byte : ℕ → ℕ) where
  abbrev label_reading : List ℕ → ℕ → ℕ → CellReading
  label_reading s p i = record { row = row_at s p; column = first_at s p; value = Text i; tokens = []; trailing = []; format = u16_at s (p + 8); place = p + 10; text = [] }

  text_cells : (s : List ℕ) (p : ℕ) → map (cell_reading s) (cells_of s LABELSST p 10) ≡ label_reading s p (u32_at s (p + 10)) ∷ []
  unfolding cells_of cells_from cell_from sized pick tokens_of trailing_bytes trailing_size units_of field_at
  text_cells s p =
      let e : p + 8 + 2 ≡ p + 10 = omega arith in
      λ j. record { row = row_at s p; column = first_at s p; value = Text (num_at s 4 (e j)); tokens = []; trailing = []; format = u16_at s (p + 8); place = e j; text = [] } ∷ []

  pub text_moved : (s t : List ℕ) (p q : ℕ) → Same (drop p s) (drop q t) 0 10 → u32_at t (q + 10) ≡ index (u32_at s (p + 10)) → byte (p + 10) ≡ q + 10
      → map (cell_reading t) (cells_of t LABELSST q 10) ≡ map (retexted_cell index byte) (map (cell_reading s) (cells_of s LABELSST p 10))
  unfolding row_at first_at
  text_moved s t p q same number moved =
      let row : num_at t 2 (q + 4) ≡ num_at s 2 (p + 4) = sym (num_moved s t p q 2 4 10 same (omega arith)) in
      let column : num_at t 2 (q + 6) ≡ num_at s 2 (p + 6) = sym (num_moved s t p q 2 6 10 same (omega arith)) in
      let format : num_at t 2 (q + 8) ≡ num_at s 2 (p + 8) = sym (num_moved s t p q 2 8 10 same (omega arith)) in
      text_cells t q
      ∙ (λ j. record { row = row j; column = column j; value = Text (number j); tokens = []; trailing = []; format = format j; place = sym moved j; text = [] } ∷ [])
      ∙ sym (ap (map (retexted_cell index byte)) (text_cells s p))
