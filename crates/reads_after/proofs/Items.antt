-- The listing of a corrected stream, step by step: each item is the old one, but for the cell whose value field was written. Assumes nothing.
use Prim.Native.Nat.{ℕ, ◌+◌, ◌-◌, ◌*◌, ◌≤◌, ◌<◌}
use mathlib.Core.Path.{◌≡◌, refl, sym, ap, ap₂, ◌∙◌, subst}
use mathlib.Core.List.{List}
use mathlib.Core.Bool.{Bool, true, false}
use mathlib.Core.Logic.{◌⊎◌, inl, inr}
use native.Mathlib.Omega.{arith}
use lib.Dec.{ltb, eqb}
use borrow.Author.Tests.{ltb-true, ltb-false, eqb-true, eqb-false}
use Rattle.steps.specs.Choice.{pick}
use Rattle.steps.proofs.Choice.{pick_any, pick_eq, pick_ne}
use Rattle.steps.specs.Items.{Item}
use Rattle.byte_numbers.proofs.Laws.{Same}
use Rattle.record.specs.declared.Header.{Header}
use Rattle.record.specs.declared.Header.TheVariants.{Record, Cut, End}
use Rattle.record.specs.Record.{header_at}
use Rattle.record.proofs.Laws.{Whole, whole}
use Rattle.value.specs.declared.CellValue.{CellValue}
use Rattle.cell.specs.declared.Shape.{Shape}
use Rattle.cell.specs.declared.Cell.{Cell}
use Rattle.cell.specs.declared.Found.{Found}
use Rattle.std.specs.Prelude.{Option, None, Some}
use Rattle.cell.specs.Cells.{shape_of, field_of, part_of, row_at, first_at, count_of, cell_from, cell_of, found_of, tokens_of}
use Rattle.record_after.specs.Claims.{revalued}
use Rattle.record_after.proofs.Fields.{field_in, cell_other, cell_same}
use Rattle.record_after.proofs.Records.{cell_place}
use Rattle.record_after.proofs.Locality.{row_same, first_same, found_local}
use Rattle.record_after.proofs.Changed.{count_kept, tokens_kept, tokens_local}
use Rattle.reading.specs.declared.Place.{Place}
use Rattle.reading.specs.Reading.{trailing_bytes}
use Rattle.reading.specs.Cells.{other_item, on_found, record_item, on_header, cell_item}
use Rattle.reading.proofs.Laws.{found_there}
use Rattle.record_chain.specs.Chain.{Beside}
use Rattle.record_chain.proofs.Chain.{over, beside_cases}
use Rattle.reads_after.specs.Parts.{field_from, field_to, Corrected, written}
use Rattle.reads_after.proofs.Fields.{places_rise, above, places_differ, field_inside, inside, same_before, same_after, same_record, header_kept, record_kept}
use Rattle.reads_after.proofs.Lists.{map_item}
use Rattle.reads_after.proofs.Trailing.{trailing_kept, trailing_local}

-- ---- a cell that is written or stays
pub written_here : (p : ℕ) (v : CellValue) (c : Cell) → c.field ≡ p → written p v c ≡ revalued c v
unfolding written
written_here p v c h = sym (pick_eq (revalued c v) (revalued c v) c c.field p h refl)

pub written_other : (p : ℕ) (v : CellValue) (c : Cell) → (c.field ≡ p → ⊥) → written p v c ≡ c
unfolding written
written_other p v c h = sym (pick_ne c (revalued c v) c c.field p h refl)

-- an item with no cell is the same
other_map : (f : Cell → Cell) (v : Place) (t e : ℕ) → map_item f (other_item v t e) ≡ other_item v t e
unfolding other_item
other_map f v t e =
    pick_any Plain _ (pick_any Plain _ refl refl) (pick_any Plain _ (pick_any Plain _ refl refl) refl)
  where
    Plain : Item Place Cell → Type 0
    Plain x = map_item f x ≡ x

-- ---- the corrected stream
module _ {s s' : List ℕ} {a t z e k : ℕ} {v : CellValue} (c : Corrected s s' a t z e k v) where
  abbrev h₀ : Shape
  h₀ = shape_of t

  abbrev p₀ : ℕ
  p₀ = field_from t a k

  -- ---- the k-th cell of a record
  abbrev write : Cell → Cell
  write = written p₀ v

  abbrev write_found : Option Found → Option Found
  write_found (Some f) = Some (record { cell = write f.cell; left = f.left })
  write_found None = None

  -- of another record
  pub field_apart : (x t₁ z₁ f j : ℕ) → header_at s x ≡ Record t₁ z₁ f → j < count_of (shape_of t₁) s x z₁ → (f ≤ a) ⊎ (e ≤ x) → field_from t₁ x j ≡ p₀ → ⊥
  field_apart x t₁ z₁ f j o l (inl m) q = let i = inside c in let n = field_inside s x t₁ z₁ f o j l in omega arith
  field_apart x t₁ z₁ f j o l (inr m) q = let i = inside c in let n = field_inside s x t₁ z₁ f o j l in omega arith

  module _ (x t₁ z₁ f j : ℕ) (o : header_at s x ≡ Record t₁ z₁ f) (apart : (f ≤ a) ⊎ (e ≤ x)) where
    kept_by : (y : Option Found) → found_of s (shape_of t₁) x z₁ j ≡ y → y ≡ write_found y
    unfolding cell_of cell_from
    kept_by (Some y) q =
        let i = found_there s (shape_of t₁) x z₁ j y q in
        let n : y.cell.field ≡ field_from t₁ x j = ap (λ (d : Cell). d.field) i.cell in
        ap (λ (d : Cell). Some (record { cell = d; left = y.left })) (sym (written_other p₀ v y.cell (λ r. field_apart x t₁ z₁ f j o i.below apart (sym n ∙ r))))
    kept_by None q = refl

    found_kept : found_of s' (shape_of t₁) x z₁ j ≡ write_found (found_of s (shape_of t₁) x z₁ j)
    found_kept =
        found_local s s' x z₁ (shape_of t₁) (let w = whole s x t₁ z₁ f o in λ y m n. record_kept c x f apart y m (omega arith)) j
        ∙ kept_by (found_of s (shape_of t₁) x z₁ j) refl

  -- of the record with the value field
  row_is : row_at s' a ≡ row_at s a
  row_is = row_same s s' a z (let i = inside c in same_before c (a + 4) (a + 6) (omega arith))

  first_is : first_at s' a ≡ first_at s a
  first_is = first_same s s' a z (let i = inside c in same_before c (a + 6) (a + 8) (omega arith))

  count_is : count_of h₀ s' a z ≡ count_of h₀ s a z
  count_is =
      count_kept s s' a z h₀ k c.below (same_before c a p₀ (omega arith)) (same_after c (field_to t a k) (a + 4 + z) (omega arith))

  part_here : cell_of s' (field_of h₀) a k ≡ write (cell_of s (field_of h₀) a k)
  unfolding cell_of
  part_here =
      ap₂ (λ (x y : ℕ). cell_from (field_of h₀) s' x (y + k) (a + 8 + k * part_of (field_of h₀))) row_is first_is
      ∙ cell_other s s' (field_of h₀) (row_at s a) (first_at s a + k) (a + 8 + k * part_of (field_of h₀)) (same_before c _ _ (omega arith)) (same_after c _ _ (omega arith))
      ∙ ap (revalued (cell_from (field_of h₀) s (row_at s a) (first_at s a + k) (a + 8 + k * part_of (field_of h₀)))) c.now
      ∙ sym (written_here p₀ v (cell_of s (field_of h₀) a k) (cell_place s (field_of h₀) a k).0)

  module _ (j : ℕ) (n : j ≡ k → ⊥) where
    part_same : Same s s' (a + 8 + j * part_of (field_of h₀)) (a + 8 + j * part_of (field_of h₀) + part_of (field_of h₀))
    part_same = go (ltb j k) refl
      where
        go : (b : Bool) → ltb j k ≡ b → Same s s' (a + 8 + j * part_of (field_of h₀)) (a + 8 + j * part_of (field_of h₀) + part_of (field_of h₀))
        go true h = let l = places_rise (field_of h₀) a j k (ltb-true j k h) in same_before c _ _ (omega arith)
        go false h = let l = places_rise (field_of h₀) a k j (above j k (ltb-false j k h) n) in let m = field_in (field_of h₀) in same_after c _ _ (omega arith)

    part_other : cell_of s' (field_of h₀) a j ≡ write (cell_of s (field_of h₀) a j)
    unfolding cell_of
    part_other =
        ap₂ (λ (x y : ℕ). cell_from (field_of h₀) s' x (y + j) (a + 8 + j * part_of (field_of h₀))) row_is first_is
        ∙ cell_same s s' (field_of h₀) (row_at s a) (first_at s a + j) (a + 8 + j * part_of (field_of h₀)) part_same
        ∙ sym (written_other p₀ v (cell_of s (field_of h₀) a j) (λ q. places_differ (field_of h₀) a j k n (sym (cell_place s (field_of h₀) a j).0 ∙ q)))

  part_is : (j : ℕ) → cell_of s' (field_of h₀) a j ≡ write (cell_of s (field_of h₀) a j)
  part_is j = go (eqb j k) refl
    where
      go : (b : Bool) → eqb j k ≡ b → cell_of s' (field_of h₀) a j ≡ write (cell_of s (field_of h₀) a j)
      go true q = let m = eqb-true j k q in subst (λ (i : ℕ). cell_of s' (field_of h₀) a i ≡ write (cell_of s (field_of h₀) a i)) (sym m) part_here
      go false q = part_other j (eqb-false j k q)

  found_written : (j : ℕ) → found_of s' h₀ a z j ≡ write_found (found_of s h₀ a z j)
  unfolding found_of pick
  found_written j =
      ap₂ (λ (n : ℕ) (d : Cell). pick {A = Option Found} (ltb j n) (Some (record { cell = d; left = n - (j + 1) })) None) count_is (part_is j)
      ∙ go (ltb j (count_of h₀ s a z))
    where
      go : (b : Bool) → pick {A = Option Found} b (Some (record { cell = write (cell_of s (field_of h₀) a j); left = count_of h₀ s a z - (j + 1) })) None ≡ write_found (pick {A = Option Found} b (Some (record { cell = cell_of s (field_of h₀) a j; left = count_of h₀ s a z - (j + 1) })) None)
      go true = refl
      go false = refl

  -- ---- the item
  found_is : (x t₁ z₁ f j : ℕ) → header_at s x ≡ Record t₁ z₁ f → (x ≡ a) ⊎ ((f ≤ a) ⊎ (e ≤ x)) → found_of s' (shape_of t₁) x z₁ j ≡ write_found (found_of s (shape_of t₁) x z₁ j)
  found_is x t₁ z₁ f j o (inl q) =
      let m = same_record c o q in
      rw (q, m.0, m.1) (found_written j)
  found_is x t₁ z₁ f j o (inr q) = found_kept x t₁ z₁ f j o q

  on_found_lem : (w : Place) (t₁ f : ℕ) (x : Option Found) → on_found w t₁ f (write_found x) ≡ map_item write (on_found w t₁ f x)
  on_found_lem w t₁ f (Some y) = refl
  on_found_lem w t₁ f None = sym (other_map write w t₁ f)

  on_record : (w : Place) (t₁ z₁ f : ℕ) → header_at s w.at ≡ Record t₁ z₁ f → Beside s a e w.at → record_item s' w t₁ z₁ f ≡ map_item write (record_item s w t₁ z₁ f)
  unfolding record_item pick
  on_record w t₁ z₁ f o b = go (eqb w.level 0)
    where
      go : (y : Bool) → pick y (on_found w t₁ f (found_of s' (shape_of t₁) w.at z₁ w.part)) (other_item w t₁ f) ≡ map_item write (pick y (on_found w t₁ f (found_of s (shape_of t₁) w.at z₁ w.part)) (other_item w t₁ f))
      go true =
          ap (on_found w t₁ f) (found_is w.at t₁ z₁ f w.part o (beside_cases s a e (over s c.whole) w.at f b (over s o)))
          ∙ on_found_lem w t₁ f (found_of s (shape_of t₁) w.at z₁ w.part)
      go false = sym (other_map write w t₁ f)

  on_header_lem : (w : Place) → Beside s a e w.at → (x : Header) → header_at s w.at ≡ x → on_header s' w x ≡ map_item write (on_header s w x)
  on_header_lem w b (Record t₁ z₁ f) o = on_record w t₁ z₁ f o b
  on_header_lem w b Cut o = refl
  on_header_lem w b End o = refl

  -- each step of the listing
  pub item_written : (w : Place) → Beside s a e w.at → cell_item s' w ≡ map_item write (cell_item s w)
  unfolding cell_item
  item_written w b = ap (on_header s' w) (sym (header_kept c w.at b)) ∙ on_header_lem w b (header_at s w.at) refl

  -- ---- the tokens of each cell
  tokens_here : (x t₁ z₁ f j : ℕ) → header_at s x ≡ Record t₁ z₁ f → j < count_of (shape_of t₁) s x z₁ → (x ≡ a) ⊎ ((f ≤ a) ⊎ (e ≤ x)) → tokens_of s' (cell_of s (field_of (shape_of t₁)) x j) ≡ tokens_of s (cell_of s (field_of (shape_of t₁)) x j)
  tokens_here x t₁ z₁ f j o l (inl q) =
      let m = same_record c o q in
      let b : j < count_of h₀ s a z = rw (q, m.0, m.1) at l in
      let w = whole s a t z e c.whole in
      let g = c.size in
      rw (q, m.0) (tokens_kept s s' a z h₀ j k b c.below (omega arith) (omega arith) (same_after c (field_to t a k) (a + 4 + z) (omega arith)))
  tokens_here x t₁ z₁ f j o l (inr q) =
      let w = whole s x t₁ z₁ f o in
      let g = c.size in
      tokens_local s s' x z₁ (shape_of t₁) j l (omega arith) (omega arith) (λ y m n. record_kept c x f q y m (omega arith))

  pub tokens_written : (x t₁ z₁ f j : ℕ) (d : Cell) → header_at s x ≡ Record t₁ z₁ f → j < count_of (shape_of t₁) s x z₁ → d ≡ cell_of s (field_of (shape_of t₁)) x j → Beside s a e x → tokens_of s' d ≡ tokens_of s d
  tokens_written x t₁ z₁ f j d o l i b = rw i (tokens_here x t₁ z₁ f j o l (beside_cases s a e (over s c.whole) x f b (over s o)))

  -- ---- and the bytes after them
  trailing_here : (x t₁ z₁ f j : ℕ) → header_at s x ≡ Record t₁ z₁ f → header_at s' x ≡ Record t₁ z₁ f → j < count_of (shape_of t₁) s x z₁ → (x ≡ a) ⊎ ((f ≤ a) ⊎ (e ≤ x)) → trailing_bytes s' (cell_of s (field_of (shape_of t₁)) x j) ≡ trailing_bytes s (cell_of s (field_of (shape_of t₁)) x j)
  trailing_here x t₁ z₁ f j o o' l (inl q) =
      let m = same_record c o q in
      let b : j < count_of h₀ s a z = rw (q, m.0, m.1) at l in
      let w : Whole s a t z f = whole s a t z f (rw (q, m.0, m.1) at o) in
      let w' : Whole s' a t z f = whole s' a t z f (rw (q, m.0, m.1) at o') in
      rw (q, m.0) (trailing_kept s s' a z w.size w'.size (omega arith) (omega arith) h₀ j k b c.below (same_after c (field_to t a k) (a + 4 + z) (omega arith)))
  trailing_here x t₁ z₁ f j o o' l (inr q) =
      let w = whole s x t₁ z₁ f o in
      let w' = whole s' x t₁ z₁ f o' in
      trailing_local s s' x z₁ w.size w'.size (omega arith) (omega arith) (shape_of t₁) j l (λ y m n. record_kept c x f q y m (omega arith))

  pub trailing_written : (x t₁ z₁ f j : ℕ) (d : Cell) → header_at s x ≡ Record t₁ z₁ f → j < count_of (shape_of t₁) s x z₁ → d ≡ cell_of s (field_of (shape_of t₁)) x j → Beside s a e x → trailing_bytes s' d ≡ trailing_bytes s d
  trailing_written x t₁ z₁ f j d o l i b = rw i (trailing_here x t₁ z₁ f j o (sym (header_kept c x b) ∙ o) l (beside_cases s a e (over s c.whole) x f b (over s o)))
