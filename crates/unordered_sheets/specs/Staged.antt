-- What the contracts speak of: windows in four sizes.
use Rattle.std.specs.Prelude.{ℕ, List}
use Rattle.cell.specs.declared.Cell.{Cell}
use Rattle.unordered_sheets.specs.Unordered.{Holds}
use Rattle.unordered_sheets.specs.declared.stage.Stages.{Stages}

-- each has from `lo` on what the lists have, as far as it goes
pub record AllHold (s t : List ℕ) (l m : List Cell) (lo : ℕ) (w : Stages) : Type 0 where
  pub far : Holds s t l m lo w.far.first w.far.second w.far.high w.far.first_count w.far.second_count
  pub middle : Holds s t l m lo w.middle.first w.middle.second w.middle.high w.middle.first_count w.middle.second_count
  pub close : Holds s t l m lo w.close.first w.close.second w.close.high w.close.first_count w.close.second_count
  pub near : Holds s t l m lo w.near.first w.near.second w.near.high w.near.first_count w.near.second_count
