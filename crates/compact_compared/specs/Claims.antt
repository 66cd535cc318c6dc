-- A stream beside itself without its unused strings: no difference.
use Rattle.std.specs.Prelude.{ℕ, ◌≡◌, false, List, []}
use Rattle.globals.specs.declared.Globals.{Globals}
use Rattle.reading.specs.Reading.{reading_of}
use Rattle.differences.specs.Differences.{twice_in, differences}
use Rattle.compare.specs.Comparison.{lists, comparison_of}
use Rattle.new_table.specs.NewTable.{compact_of}
use Rattle.new_table.specs.Claims.{Given}

-- of the readings; u is the unique count of strings where the stream has no SST
abbrev pub ReadAlike : Type 0
ReadAlike = (s : List ℕ) (u : ℕ) (g : Globals) (from : ℕ) → Given s u g → differences (reading_of s u) (reading_of (compact_of s u) u) from ≡ []

-- a stream that passes and has no address twice, compared with itself without its unused strings: nothing is listed
abbrev pub NothingLost : Type 0
NothingLost = (s : List ℕ) (g : Globals) (from : ℕ) → Given s 0 g → twice_in (reading_of s 0).sheets ≡ false → comparison_of s (compact_of s 0) from ≡ lists []
