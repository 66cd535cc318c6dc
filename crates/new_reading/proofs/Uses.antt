-- What the listed cells of a record say of the strings that are used. Assumes nothing.
use Prim.Native.Nat.{ℕ, ◌+◌, ◌*◌}
use mathlib.Core.Path.{◌≡◌, ap, ◌∙◌, subst}
use mathlib.Core.List.{List, [], ◌∷◌, ◌++◌}
use native.Mathlib.Omega.{arith}
use lib.Dec.{eqb}
use borrow.Author.Tests.{eqb-true}
use Rattle.std.specs.Prelude.{Option, Some, None}
use Rattle.std.specs.Prelude.{Float as F64}
use Rattle.steps.specs.Choice.{pick}
use Rattle.steps.proofs.Choice.{pick_any, pick_by}
use Rattle.number.specs.Rk.{rk_of}
use Rattle.value.specs.declared.Field.{Field}
use Rattle.value.specs.declared.CellValue.{CellValue}
use Rattle.value.specs.declared.CellValue.TheVariants.{Blank, Number, NotNumber, Text as TextValue, Truth, Error, Formula}
use Rattle.value.specs.Value.{float_value, rk_value, truth_error, value_of}
use Rattle.byte_numbers.specs.Bytes.{num_at, u32_at}
use Rattle.cell.specs.declared.Shape.{Shape}
use Rattle.cell.specs.declared.Shape.TheVariants.{LABELSST}
use Rattle.cell.specs.declared.Cell.{Cell}
use Rattle.cell.specs.Cells.{shape_of, field_of, part_of, row_at, first_at, sized, count_of, field_at, cell_from, cells_from, cells_of}
use Rattle.reading.specs.Claims.{Every}
use Rattle.new_reading.proofs.Views.{every_cells}

-- ---- values that are no text
abbrev NotText : CellValue → Type 0
NotText Blank = Unit {0}
NotText (Number x) = Unit {0}
NotText (NotNumber b) = Unit {0}
NotText (TextValue i) = ⊥
NotText (Truth b) = Unit {0}
NotText (Error b) = Unit {0}
NotText (Formula r) = Unit {0}

abbrev NoText : Field → Type 0
NoText f = (n : ℕ) → NotText (value_of f n)

float_not : (n : ℕ) → NotText (float_value n)
unfolding float_value
float_not n = pick_any NotText _ tt tt

rk_not : (x : Option F64) → NotText (rk_value x)
rk_not (Some x) = tt
rk_not None = tt

truth_not : (n : ℕ) → NotText (truth_error n)
unfolding truth_error
truth_not n = pick_any NotText _ tt tt

no_text : (ty : ℕ) → (ty ≡ 0x00FD → ⊥) → NoText (field_of (shape_of ty))
unfolding shape_of
no_text ty d =
    pick_by P _ (λ _ n. tt) (λ _. pick_by P _ (λ _ n. float_not n) (λ _. pick_by P _ (λ _ n. rk_not (rk_of n))
    (λ _. pick_by P (eqb ty 0x00FD) (λ i. absurd (d (eqb-true ty 0x00FD i))) (λ _. pick_by P _ (λ _ n. truth_not n) (λ _. pick_by P _ (λ _ n. rk_not (rk_of n))
    (λ _. pick_by P _ (λ _ n. tt) (λ _. pick_by P _ (λ _ n. tt) (λ _ n. tt))))))))
  where
    P : Shape → Type 0
    P h = NoText (field_of h)

pub every_append : {A : Type 0} (P : A → Type 0) (l r : List A) → Every P l → Every P r → Every P (l ++ r)
every_append P [] r h i = i
every_append P (x ∷ l) r h i = (h.0, every_append P l r h.1 i)

-- ---- the index of a text cell is used
abbrev pub Says : (ℕ → Type 0) → Cell → Type 0
Says Used c = (i : ℕ) → c.value ≡ TextValue i → Used i

module _ (Used : ℕ → Type 0) (s : List ℕ) (p : ℕ) where
  pub label_says : Used (u32_at s (p + 10)) → Every (Says Used) (cells_of s LABELSST p 10)
  unfolding cells_of cells_from cell_from sized pick field_at
  label_says used = ((λ i x. subst Used (index i x) used), tt)
    where
      index : (i : ℕ) → TextValue (num_at s 4 (p + 8 + 2)) ≡ TextValue i → num_at s 4 (p + 10) ≡ i
      index i x = let y : num_at s 4 (p + 8 + 2) ≡ i = cc in ap (num_at s 4) (let n : p + 10 ≡ p + 8 + 2 = omega arith in n) ∙ y

  pub plain_says : (ty z : ℕ) → (ty ≡ 0x00FD → ⊥) → Every (Says Used) (cells_of s (shape_of ty) p z)
  unfolding cells_of cell_from
  plain_says ty z d =
      every_cells (Says Used) (field_of (shape_of ty)) s (row_at s p) (count_of (shape_of ty) s p z) (first_at s p) (p + 8)
      (λ k _ j x. absurd (subst NotText x (no_text ty d (field_at (field_of (shape_of ty)) s (p + 8 + k * part_of (field_of (shape_of ty)))))))
