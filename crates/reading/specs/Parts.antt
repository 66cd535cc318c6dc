-- What the contract of the code speaks of.
use Rattle.std.specs.Prelude.{Option, None, Some}
use Rattle.steps.specs.Items.{Item, skips, ends}
use Rattle.cell.specs.declared.Cell.{Cell}
use Rattle.reading.specs.declared.Place.{Place}

abbrev pub outside_item : Option Place → Item Place Cell
outside_item (Some v) = skips v
outside_item None = ends
