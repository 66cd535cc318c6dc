-- The units of the text result of a cell by its value and the place of its value field.
use Rattle.std.specs.Prelude.{ℕ, ◌-◌, List, []}
use Rattle.steps.specs.Choice.{pick}
use Rattle.value.specs.declared.CellValue.{CellValue}
use Rattle.reading.specs.Reading.{says_text, text_after}

-- as `units_of` has it of a cell
abbrev pub units_by : List ℕ → CellValue → ℕ → List ℕ
units_by s v f = pick (says_text v) (text_after s (f - 10)) []
