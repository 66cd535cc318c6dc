-- The cells of each sheet of a corrected stream. Assumes nothing.
use Prim.Native.Nat.{ℕ, ◌+◌, ◌-◌, ◌*◌, ◌≤◌, max}
use mathlib.Core.Path.{◌≡◌, refl, sym, ap, ap₂, ◌∙◌}
use mathlib.Core.List.{List, [], ◌∷◌, map}
use mathlib.Core.Bool.{Bool, true, false}
use mathlib.Core.Logic.{◌⊎◌, inl, inr}
use native.Mathlib.Omega.{arith}
use lib.ListN.{length}
use lib.Dec.{eqb}
use borrow.Author.Tests.{eqb-true, eqb-false}
use Rattle.steps.specs.Choice.{pick}
use Rattle.steps.proofs.Choice.{pick_any, pick_by, pick_false, pick_same}
use Rattle.byte_numbers.proofs.Laws.{Same}
use Rattle.value.specs.declared.CellValue.{CellValue}
use Rattle.cell.specs.declared.Cell.{Cell}
use Rattle.cell.specs.Cells.{shape_of, field_of, part_of, field_at, cell_from, cell_of, tokens_of}
use Rattle.record_after.specs.Claims.{revalued}
use Rattle.segments.specs.Segments.{Got, got, refused, list_of}
use Rattle.segments.specs.Parts.{Passes}
use Rattle.text_result.specs.TextResult.{has_text, text_of}
use Rattle.text_result.proofs.Local.{text_same}
use Rattle.sheet_agreement.specs.declared.SheetKind.TheVariants.{Worksheet}
use Rattle.sheet_agreement.specs.Agreement.{same_kind, Sheet}
use Rattle.sheet_agreement.proofs.Laws.{same_kind-true}
use Rattle.globals.specs.declared.Globals.{Globals}
use Rattle.reading.specs.declared.Place.{Place}
use Rattle.reading.specs.Cells.{place_at, cell_item, remaining, listed_from}
use Rattle.reading.specs.Reading.{start_by, listed_of, rows_of, trailing_bytes, says_text, on_formula, text_after, units_of, CellReading, cell_reading}
use Rattle.reading.proofs.Texts.{field_silent, field_of_lem, says_is, has_formula}
use Rattle.record_chain.specs.Chain.{Reach, Beside, Every}
use Rattle.record_chain.specs.Tops.{SheetStands}
use Rattle.record_chain.proofs.Chain.{over, reach_one, beside_cases, beside_reach, plain_beside}
use Rattle.record_chain.proofs.Text.{text_chain}
use Rattle.passes_after.specs.Granted.{Listed}
use Rattle.reads_after.specs.Replaced.{with_value}
use Rattle.reads_after.specs.Parts.{field_from, Corrected, written, ListedTo}
use Rattle.reads_after.proofs.Fields.{places_differ, inside, ends_in, same_before, same_after, same_record, header_kept}
use Rattle.reads_after.proofs.Records.{Stands, no_count, kept_item}
use Rattle.passes_after.proofs.Granted.{listed_here, listed_field}
use Rattle.reads_after.proofs.Found.{sheet_start, listed_none}
use Rattle.reads_after.proofs.Lists.{map_every, map_map, collect_map}
use Rattle.reads_after.proofs.Items.{written_here, written_other, field_apart, item_written, tokens_written, trailing_written}

-- ---- the row count
rows_written : (p : ℕ) (v : CellValue) (l : List Cell) → rows_of (map (written p v) l) ≡ rows_of l
unfolding rows_of written
rows_written p v [] = refl
rows_written p v (c ∷ l) = ap₂ (λ (x y : ℕ). max (x + 1) y) (pick_any (λ (d : Cell). d.row ≡ c.row) (eqb c.field p) refl refl) (rows_written p v l)

-- ---- the corrected stream
module _ {s s' : List ℕ} {a t z e k : ℕ} {v : CellValue} (c : Corrected s s' a t z e k v) where
  abbrev p₀ : ℕ
  p₀ = field_from t a k

  abbrev write : Cell → Cell
  write = written p₀ v

  abbrev Near : ℕ → Type 0
  Near x = Beside s a e x

  near_reach : {x y : ℕ} → Reach s x y → Near x → Near y
  near_reach q = beside_reach s a e (over s c.whole) q

  -- ---- the listing of a sheet
  module _ (g : Globals) (x : Sheet) (i : SheetStands s g x) (near : Near x.position) where
    listing_written : (w : Place) → Stands s g.unique x.position i.end w → listed_from s' w ≡ map write (listed_from s w)
    unfolding listed_from remaining
    listing_written w p =
        collect_map (cell_item s) (cell_item s') write (Stands s g.unique x.position i.end) (ListedTo s x.position i.end)
        (kept_item s g.unique x.position i.end) (λ w p. item_written c w (near_reach p.0 near))
        (remaining s) (remaining s') w (ap (λ (n : ℕ). (n - w.at) * 257 + (257 - w.part)) c.size) p

    pub sheet_written : listed_of s' x ≡ map write (listed_of s x)
    unfolding start_by
    sheet_written =
        ap (λ (n : ℕ). listed_from s' (start_by n x.position x.kind)) (sym c.size)
        ∙ pick_by (λ (w : Place). listed_from s' w ≡ map write (listed_from s w)) (same_kind x.kind Worksheet)
        (λ q. listing_written (place_at (x.position + 20) 0) (sheet_start s g x i (same_kind-true x.kind Worksheet q)))
        (λ _. let l = c.size in listed_none s' (length s) (omega arith) ∙ ap (map write) (sym (listed_none s (length s) (omega arith))))

    pub sheet_rows : rows_of (listed_of s' x) ≡ rows_of (listed_of s x)
    sheet_rows = ap rows_of sheet_written ∙ rows_written p₀ v (listed_of s x)

    pub sheet_read : (f : CellReading → CellReading) → Every (λ d. cell_reading s' (write d) ≡ f (cell_reading s d)) (listed_of s x) → map (cell_reading s') (listed_of s' x) ≡ map f (map (cell_reading s) (listed_of s x))
    sheet_read f h =
        ap (map (cell_reading s')) sheet_written ∙ map_map write (cell_reading s') (listed_of s x)
        ∙ map_every (λ d. cell_reading s' (write d)) (λ d. f (cell_reading s d)) (listed_of s x) h
        ∙ sym (map_map (cell_reading s) f (listed_of s x))

  -- ---- each cell
  module _ (from : ℕ) (d : Cell) (i : Listed s from d) (near : Near from) (text : has_text s i.type i.at ≡ true → Passes (text_of s i.at i.end)) where
    near_cell : Near i.at
    near_cell = near_reach i.reached near

    tokens_of_lem : tokens_of s' d ≡ tokens_of s d
    tokens_of_lem = tokens_written c i.at i.type i.size i.end i.part d i.header (listed_here i).below (listed_here i).cell near_cell

    trailing_of_lem : trailing_bytes s' d ≡ trailing_bytes s d
    trailing_of_lem = trailing_written c i.at i.type i.size i.end i.part d i.header (listed_here i).below (listed_here i).cell near_cell

    -- its text result stands in plain records, and so not in the one that was written
    text_same_by : (x : Got (List ℕ)) → text_of s i.at i.end ≡ x → Passes x → text_of s' i.at i.end ≡ text_of s i.at i.end
    text_same_by (got us g) q p = text_same s i.at i.end us g q s' c.size (by (plain_beside s a t z e c.whole (no_count s t a z k c.below) (near_reach (reach_one s i.header) near_cell) (text_chain s i.at i.end us g q))) ∙ sym q
      where
        by : (g.end ≤ a) ⊎ (e ≤ i.end) → Same s s' i.end (g.end + 2)
        by (inl l) = let w = inside c in same_before c i.end (g.end + 2) (omega arith)
        by (inr l) = let w = ends_in c in same_after c i.end (g.end + 2) (omega arith)
    text_same_by (refused n o) q p = absurd p

    text_after_lem : has_text s i.type i.at ≡ true → text_after s' i.at ≡ text_after s i.at
    unfolding text_after
    text_after_lem h =
        ap (on_formula s' i.at) (sym (header_kept c i.at near_cell) ∙ i.header)
        ∙ ap list_of (text_same_by (text_of s i.at i.end) refl (text h))
        ∙ ap (on_formula s i.at) (sym i.header)

    says : says_text d.value ≡ has_text s i.type i.at
    says = ap (λ (x : Cell). says_text x.value) (listed_here i).cell ∙ says_is s i.type i.at i.size i.part (listed_here i).below

    units_of_lem : units_of s' d ≡ units_of s d
    unfolding units_of
    units_of_lem =
        pick_same _ _ _ _ _
        (λ q.
        let h = sym says ∙ q in
        let f : d.field ≡ i.at + 10 = ap (λ (x : Cell). x.field) (listed_here i).cell ∙ field_of_lem s i.type i.at i.size i.part (listed_here i).below (has_formula s i.type i.at h) in
        let l : d.field - 10 ≡ i.at = omega arith in
        ap (text_after s') l ∙ text_after_lem h ∙ ap (text_after s) (sym l))
        (λ _. refl)

    -- the one whose value field was written
    same_part : i.type ≡ t → i.at ≡ a → (b : Bool) → eqb i.part k ≡ b → field_from i.type i.at i.part ≡ p₀ → i.part ≡ k
    same_part u l true n q = eqb-true i.part k n
    same_part u l false n q = absurd (places_differ (field_of (shape_of t)) a i.part k (eqb-false i.part k n) ((λ y. field_from (sym u y) (sym l y) i.part) ∙ q))

    pub here_is : d.field ≡ p₀ → d ≡ cell_of s (field_of (shape_of t)) a k
    here_is q = go (beside_cases s a e (over s c.whole) i.at i.end near_cell (over s i.header))
      where
        r : field_from i.type i.at i.part ≡ p₀
        r = sym (listed_field i) ∙ q

        go : (i.at ≡ a) ⊎ ((i.end ≤ a) ⊎ (e ≤ i.at)) → d ≡ cell_of s (field_of (shape_of t)) a k
        go (inl l) =
            let u = (same_record c i.header l).0 in
            let w = same_part u l (eqb i.part k) refl r in
            (listed_here i).cell ∙ (λ y. cell_of s (field_of (shape_of (u y))) (l y) (w y))
        go (inr l) = absurd (field_apart c i.at i.type i.size i.end i.part i.header (listed_here i).below l r)

    -- any other reads the same
    pub other_read : (d.field ≡ p₀ → ⊥) → cell_reading s' (write d) ≡ cell_reading s d
    other_read n = ap (cell_reading s') (written_other p₀ v d n) ∙ (λ y. record { row = d.row; column = d.column; value = d.value; tokens = tokens_of_lem y; trailing = trailing_of_lem y; format = d.format; place = d.field; text = units_of_lem y })

    -- and that one, which is no formula, has the new value, which is no formula's
    module _ (formula_not : t ≡ 0x0006 → ⊥) (silent : says_text v ≡ false) (q : d.field ≡ p₀) where
      units_none : (x : List ℕ) (w : CellValue) → says_text w ≡ false → pick (says_text w) x [] ≡ []
      units_none x w h = sym (pick_false [] x [] (says_text w) h refl)

      units_here : units_of s' (revalued d v) ≡ units_of s d
      unfolding units_of cell_of cell_from
      units_here =
          units_none _ v silent
          ∙ sym (units_none _ d.value (ap (λ (x : Cell). says_text x.value) (here_is q) ∙ field_silent t (field_at (field_of (shape_of t)) s (a + 8 + k * part_of (field_of (shape_of t)))) formula_not))

      pub here_read : cell_reading s' (write d) ≡ with_value v (cell_reading s d)
      unfolding tokens_of trailing_bytes
      here_read = ap (cell_reading s') (written_here p₀ v d q) ∙ (λ y. record { row = d.row; column = d.column; value = v; tokens = tokens_of_lem y; trailing = trailing_of_lem y; format = d.format; place = d.field; text = units_here y })
