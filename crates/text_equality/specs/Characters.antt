-- What the contracts speak of: characters where they stand.
use Rattle.std.specs.Prelude.{ℕ, ◌-◌, ◌≤◌, ◌≡◌, true, List}
use Rattle.segments.specs.Segments.{list_of, items}
use Rattle.differences.specs.Differences.{chars_of}
use Rattle.text_equality.specs.declared.standing.Run.{Run}
use Rattle.text_equality.specs.declared.standing.Chars.{Chars}

-- of a run
abbrev pub units_of : Run → List ℕ
units_of r = chars_of r.bytes.now r.width

-- of a string
abbrev pub units_in : Chars → List ℕ
units_in x = list_of (items 8 x.stream.now true x.width x.count x.place)

-- the same characters, the first of them in this segment
pub record Entered (x r : Chars) : Type 0 where
  pub count : r.count ≡ x.count
  pub units : units_in x ≡ units_in r
  pub here : r.width ≤ r.place.end - r.place.at
