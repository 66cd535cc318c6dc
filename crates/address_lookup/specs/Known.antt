-- What a pass finds of the addresses of a lookup.
use Rattle.std.specs.Prelude.{ℕ, ◌<◌, ◌≤◌, ◌≡◌, List, Ok, length, get_or}
use Rattle.value.specs.declared.Field.{Field}
use Rattle.reading.specs.Cells.{place_at, listed_from}
use Rattle.correction.specs.declared.Target.TheVariants as target
use Rattle.correction.specs.Correction.{cells_at}
use Rattle.correction.specs.Parts.{target_of, aim_in, TargetWithin}
use Rattle.address_lookup.specs.declared.Found.TheVariants as cell
use Rattle.address_lookup.specs.declared.Lookup.{Lookup}
use Rattle.address_lookup.specs.Table.{Sorted, sheet_in, row_in, column_in, key_at, slot, met_key}

pub record InOrder (x : Lookup) : Type 0 where
  pub few : x.count ≤ 3072
  pub sorted : Sorted x.keys x.count

-- the same addresses
pub record Same (x y : Lookup) : Type 0 where
  pub keys : y.keys ≡ x.keys
  pub count : y.count ≡ x.count

-- each has what it had, with the cell of this row
pub record Marked (m id at here first count : ℕ) (x y : Lookup) : Type 0 where
  pub same : Same x y
  pub each : (k : ℕ) → k < x.count → slot y.found k ≡ met_key m id at here first count (key_at x.keys k) (slot x.found k)

-- nothing was found in sheet m
pub record Fresh (m : ℕ) (x : Lookup) : Type 0 where
  pub each : (k : ℕ) → k < x.count → sheet_in (key_at x.keys k) ≡ m → slot x.found k ≡ target.None

-- the addresses in sheet m, whose listing starts at `from`, have what they have there; the others what they had
pub record Looked (s : List ℕ) (from m : ℕ) (x y : Lookup) : Type 0 where
  pub same : Same x y
  pub here : (k : ℕ) → k < x.count → sheet_in (key_at x.keys k) ≡ m → slot y.found k ≡ target_of (cells_at (row_in (key_at x.keys k)) (column_in (key_at x.keys k)) (listed_from s (place_at from 0)))
  pub within : (k : ℕ) → k < x.count → sheet_in (key_at x.keys k) ≡ m → TargetWithin (length s) (slot y.found k)
  pub other : (k : ℕ) → k < x.count → (sheet_in (key_at x.keys k) ≡ m → ⊥) → slot y.found k ≡ slot x.found k

pub record Clear (x : Lookup) : Type 0 where
  pub each : (k : ℕ) → k < x.count → get_or x.found k cell.None ≡ cell.None

-- where one cell was found of an address, it is the one that the address has
pub record Knows (s : List ℕ) (x : Lookup) : Type 0 where
  pub few : x.count ≤ 3072
  pub aims : (k : ℕ) → k < x.count → (f : Field) (p : ℕ) → slot x.found k ≡ target.One f p → (u t : ℕ) → aim_in s u t (sheet_in (key_at x.keys k)) (row_in (key_at x.keys k)) (column_in (key_at x.keys k)) ≡ Ok (record { kind = f; field = p; unique = u })
  pub within : (k : ℕ) → k < x.count → TargetWithin (length s) (slot x.found k)
