-- What the contracts speak of: the next cells of two sheets.
use Rattle.std.specs.Prelude.{ℕ, ◌+◌, ◌≤◌, ◌≡◌, List}
use Rattle.cell.specs.declared.Cell.{Cell}
use Rattle.reading.specs.declared.Place.{Place}
use Rattle.cell_addresses.specs.declared.Head.{Head}
use Rattle.cell_addresses.specs.Addresses.{Least}
use Rattle.cell_differences.specs.Merge.{words_between}

-- what a list tells from an address on is found from a place on
abbrev pub FoundFrom : Type 1
FoundFrom = List Cell → Place → ℕ → Type 0

-- some list's cells from address k on are found from there
abbrev pub Findable : FoundFrom → Place → ℕ → Type 0
Findable on place k = (k ≤ 4294967296) × ((l : List Cell) × on l place k)

-- r is the next cell from address k on of each list whose cells are found from there
abbrev pub Found : FoundFrom → Place → ℕ → Head → Type 0
Found on place k r = (l : List Cell) → on l place k → Least l k r × on l r.next (r.address + 1)

-- x and y are the next cells from address k on, of lists that tell from there on what l and m tell
pub record Next (first_on second_on : FoundFrom) (s t : List ℕ) (p q : List (List ℕ)) (l m : List Cell) (k : ℕ) (x y : Head) : Type 0 where
  pub one : List Cell
  pub two : List Cell
  pub first : Least one k x
  pub second : Least two k y
  pub first_next : first_on one x.next (x.address + 1)
  pub second_next : second_on two y.next (y.address + 1)
  pub words : (base : ℕ) → words_between s t p q l m base k ≡ words_between s t p q one two base k
