-- What the contracts speak of: a flag for each address of a window of 1,536 rows and 256 columns, set where a cell was met.
use Rattle.std.specs.Prelude.{ℕ, zero, suc, ◌+◌, ◌-◌, ◌*◌, ◌/◌, ◌%◌, ◌≤◌, ◌<◌, ◌≡◌, ◌⊎◌, Bool, true, false, List, [], ◌∷◌, length, ltb, eqb, Result, Ok, Err}
use Rattle.steps.specs.Choice.{pick}
use Rattle.flags.specs.Flags.{flag_at}
use Rattle.cell.specs.declared.Cell.{Cell}
use Rattle.cell.specs.Cells.{row_at, first_at}
use Rattle.reading.specs.Cells.{place_at, listed_from}
use Rattle.cell_addresses.specs.Addresses.{address_in, twice_among}
use Rattle.address_twice.specs.declared.rows.Stop.{Stop}
use Rattle.address_twice.specs.declared.rows.Stop.TheVariants.{Twice, Odd}

-- the address has two or more cells, with one that was met before the list where t says so
unfoldable pub again : Bool → ℕ → List Cell → Bool
again t b [] = false
again t b (c ∷ l) = pick (eqb (address_in c) b) (pick t true (again true b l)) (again t b l)

-- the same where the n addresses from a on have a cell each, and z tells the rest
unfoldable pub run : ℕ → ℕ → ℕ → (Bool → Bool) → Bool → Bool
run b a zero z t = z t
run b a (suc n) z t = pick (eqb a b) (pick t true (run b (a + 1) n z true)) (run b (a + 1) n z t)

-- ---- the flags of the window from `low` on
abbrev pub window_size : ℕ
window_size = 100663296

unfoldable pub inside : ℕ → ℕ → Bool
inside low b = pick (ltb b (low + window_size)) (ltb ((b - low) % 65536) 256) false

abbrev pub slot_of : ℕ → ℕ → ℕ
slot_of low b = (b - low) / 65536 * 256 + (b - low) % 65536

unfoldable pub taken : List ℕ → ℕ → ℕ → Bool
taken m low b = pick (inside low b) (ltb 0 (flag_at m (slot_of low b))) false

abbrev pub Empty : List ℕ → Type 0
Empty m = (j : ℕ) → flag_at m j ≡ 0

-- n addresses from a on, in one row of the window
abbrev pub Fits : ℕ → ℕ → ℕ → Type 0
Fits low a n = (low ≤ a) × (a < low + window_size) × ((a - low) % 65536 + n ≤ 256)

-- an address of the window had a cell before, and is one of the n from a on
pub record Clash (m : List ℕ) (low a n : ℕ) : Type 0 where
  pub address : ℕ
  pub after : low ≤ address
  pub before : address < low + window_size
  pub met : (z : Bool → Bool) → run address a n z (taken m low address) ≡ true

-- or none is, and they are met now
pub record Met (m : List ℕ) (low a n : ℕ) (m' : List ℕ) : Type 0 where
  pub size : length m' ≡ length m
  pub all : (b : ℕ) (z : Bool → Bool) → low ≤ b → run b a n z (taken m low b) ≡ z (taken m' low b)

abbrev pub Marked : List ℕ → ℕ → ℕ → ℕ → List ℕ → Bool → Type 0
Marked m low a n m' true = Clash m low a n
Marked m low a n m' false = Met m low a n m'

-- 2^32 is no address: all are before it
abbrev pub Before : ℕ → ℕ → Type 0
Before b next = next < 4294967296 → b < next

-- where the next window may start
pub record Ahead (low next : ℕ) : Type 0 where
  pub past : next < 4294967296 → low + window_size ≤ next
  pub round : next % 65536 ≡ 0
  pub top : next ≤ 4294967296

-- a record of n cells from address a on: those before the next window were not met before and are now
pub record Kept (m : List ℕ) (low next a n : ℕ) (m' : List ℕ) (next' : ℕ) : Type 0 where
  pub size : length m' ≡ length m
  pub ahead : Ahead low next → Ahead low next'
  pub before : next' ≤ next
  pub all : (b : ℕ) (z : Bool → Bool) → low ≤ b → Before b next' → run b a n z (taken m low b) ≡ z (taken m' low b)

abbrev pub Stepped : List ℕ → ℕ → ℕ → ℕ → ℕ → List ℕ → Result ℕ Stop → Type 0
Stepped m low next a n m' (Ok next') = Kept m low next a n m' next'
Stepped m low next a n m' (Err Twice) = Clash m low a n
Stepped m low next a n m' (Err Odd) = Unit {0}

-- a record that is too short for a cell, or whose cells, at most 256, are before address `low` or from `high` on
abbrev pub Clear : List ℕ → ℕ → ℕ → ℕ → ℕ → Bool → Type 0
Clear s at z low high true = (z < 6) ⊎ ((row_at s at * 65536 + first_at s at + 256 ≤ low) ⊎ ((high ≤ row_at s at * 65536 + first_at s at) × (high < 4294967296)))
Clear s at z low high false = Unit {0}

-- between two places no address from `low` on and before `high` has a cell
pub record PastClear (s : List ℕ) (level from low high r : ℕ) : Type 0 where
  pub ahead : from ≤ r
  pub all : (t : Bool) (b : ℕ) → low ≤ b → Before b high → again t b (listed_from s (place_at from level)) ≡ again t b (listed_from s (place_at r level))

-- from `low` on and before the next window no address has two cells
pub record Once (l : List Cell) (low next : ℕ) : Type 0 where
  pub ahead : Ahead low next
  pub once : (b : ℕ) → low ≤ b → Before b next → again false b l ≡ false

abbrev pub Passed : List Cell → ℕ → Result ℕ Stop → Type 0
Passed l low (Ok next) = Once l low next
Passed l low (Err Twice) = twice_among l ≡ true
Passed l low (Err Odd) = Unit {0}
