-- What the contracts speak of: a sheet whose next cells are looked for.
use Rattle.std.specs.Prelude.{ℕ, ◌≡◌, List}
use Rattle.cell.specs.declared.Cell.{Cell}
use Rattle.reading.specs.declared.Place.{Place}
use Rattle.reading.specs.Cells.{place_at, listed_from}
use Rattle.cell_addresses.specs.Addresses.{When, Follows}
use Rattle.address_windows.specs.Ascending.{ascending}
use Rattle.address_windows.specs.Windows.{side_list}
use Rattle.address_windows.specs.declared.side.SheetCells.{SheetCells}

-- the list is the sheet's own, and where its addresses ascend, those before the place are below k
abbrev pub SideOn : SheetCells → List Cell → Place → ℕ → Type 0
SideOn x l place k = (l ≡ side_list x) × When (ascending x.source) (Follows x.stream.now (listed_from x.stream.now (place_at x.from 0)) place k)
