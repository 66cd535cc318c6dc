-- What the contracts speak of: a window of addresses, with the records of two sheets that have a cell in it in two tables.
use Rattle.std.specs.Prelude.{ℕ, ◌≤◌, ◌<◌, ◌≡◌, List}
use Rattle.cell.specs.declared.Cell.{Cell}
use Rattle.cell_addresses.specs.Addresses.{value_in}
use Rattle.address_windows.specs.Windows.{Window}

-- from `lo` on and below `high` the first x records of the table a have what the list l has, and the first y of b what m has
pub record Holds (s t : List ℕ) (l m : List Cell) (lo : ℕ) (a b : List ℕ) (high x y : ℕ) : Type 0 where
  pub first : Window s l a lo high x
  pub second : Window t m b lo high y

-- from `lo` on and below `top` the list c has what l has
abbrev pub Tells : List Cell → List Cell → ℕ → ℕ → Type 0
Tells c l lo top = (b : ℕ) → lo ≤ b → b < top → value_in b l ≡ value_in b c
