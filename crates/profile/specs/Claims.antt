-- What holds of the cells that are judged.
use Rattle.std.specs.Prelude.{ℕ, ◌+◌, ◌*◌, ◌/◌, ◌%◌, ◌≤◌, ◌<◌, ◌≡◌, List, [], map, ◌⊎◌, length, Some, Ok}
use Rattle.steps.specs.Items.{nth}
use Rattle.value.specs.declared.Field.{Field}
use Rattle.value.specs.declared.Field.TheVariants.{Float, RkWord}
use Rattle.value.specs.Value.{value_of}
use Rattle.reading.specs.declared.Place.{Place}
use Rattle.reading.specs.Cells.{listed_from}
use Rattle.profile.specs.Placed.{Placed, placed_from}
use Rattle.profile.specs.Profile.{amount_in, on_amount, profile_at, profile_of}

-- they are the listed cells, in order
abbrev pub PlacedListed : Type 0
PlacedListed = (s : List ℕ) (v : Place) → map (λ (x : Placed). x.cell) (placed_from s v) ≡ listed_from s v

-- only a value field of NUMBER, RK or MULRK has a number of a session
abbrev pub NumbersOnly : Type 0
NumbersOnly = (column n m : ℕ) (f : Field) → amount_in column (value_of f n) ≡ Some m → (f ≡ Float) ⊎ (f ≡ RkWord)

-- the seconds of the i-th cell
abbrev pub seconds_at : List Placed → ℕ → ℕ
seconds_at l i = nth l i (λ (x : Placed). on_amount 0 (λ n. n) (amount_in 2 x.cell.value)) 0

-- a session of so many rows and columns has a cell at each address, by row and then by column, and no other; its seconds never fall
pub record Filled (l : List Placed) (rows columns : ℕ) : Type 0 where
  pub count : length l ≡ rows * columns
  pub rows_of : (i : ℕ) → i < length l → nth l i (λ (x : Placed). x.cell.row) 0 ≡ i / columns
  pub columns_of : (i : ℕ) → i < length l → nth l i (λ (x : Placed). x.cell.column) 0 ≡ i % columns
  pub seconds : (i : ℕ) → i + 3 < length l → i % columns ≡ 2 → seconds_at l i ≤ seconds_at l (i + 3)

abbrev pub SessionFilled : Type 0
SessionFilled = (s : List ℕ) (rows columns : ℕ) (v : Place) → profile_of s ≡ Ok (record { rows = rows; columns = columns; cells = v }) → Filled (placed_from s v) rows columns

-- a worksheet without cells is inside
abbrev pub EmptyInside : Type 0
EmptyInside = (s : List ℕ) (v : Place) → listed_from s v ≡ [] → profile_at s v ≡ Ok (record { rows = 0; columns = 2; cells = v })
