-- What holds of every comparison of two streams.
use Rattle.std.specs.Prelude.{ℕ, ◌+◌, ◌-◌, ◌/◌, ◌%◌, ◌≡◌, false, List, [], ◌∷◌, ◌++◌, map, eqb}
use Rattle.steps.specs.Choice.{pick}
use Rattle.globals.specs.declared.Globals.{Globals}
use Rattle.workbook.specs.Check.{Right, checked_of}
use Rattle.reading.specs.Reading.{Reading, reading_of}
use Rattle.differences.specs.Differences.{twice_in, differences}
use Rattle.differences.specs.Claims.{AscendFrom}
use Rattle.compare.specs.Comparison.{lists, comparison_of}

-- a stream that passes, and has no address twice, compared with itself: nothing is listed
abbrev pub WithItself : Type 0
WithItself = (s : List ℕ) (g : Globals) (from : ℕ) → checked_of s 0 ≡ Right g → twice_in (reading_of s 0).sheets ≡ false → comparison_of s s from ≡ lists []

-- what is listed are the differences of the two readings, in ascending order of their keys
pub record Listed (s t : List ℕ) (from : ℕ) (l : List ℕ) : Type 0 where
  pub once_first : twice_in (reading_of s 0).sheets ≡ false
  pub once_second : twice_in (reading_of t 0).sheets ≡ false
  pub all : l ≡ differences (reading_of s 0) (reading_of t 0) from
  pub ascend : AscendFrom from l

abbrev pub ListsDifferences : Type 0
ListsDifferences = (s t : List ℕ) (from : ℕ) (l : List ℕ) → comparison_of s t from ≡ lists l → Listed s t from l

-- going on from the key after a word's gives the words after it
abbrev pub GoesOn : Type 0
GoesOn = (x y : Reading) (from w : ℕ) (l m : List ℕ) → differences x y from ≡ l ++ (w ∷ m) → differences x y (w / 4 + 1) ≡ m

-- the same word where first and second change places: kind 1 for kind 2, and 2 for 1
unfoldable pub other_word : ℕ → ℕ
other_word w = pick (eqb (w % 4) 1) (w + 1) (pick (eqb (w % 4) 2) (w - 1) w)

-- compared in the other order, the same is listed with first and second in each other's place
abbrev pub OtherOrder : Type 0
OtherOrder = (s t : List ℕ) (from : ℕ) (l : List ℕ) → comparison_of s t from ≡ lists l → comparison_of t s from ≡ lists (map other_word l)
