-- The strings one after the other: what a caller is given who calls `next_string` again and again, each time with any buffer.
use Rattle.std.specs.Prelude.{ℕ, ◌≤◌, ◌<◌, ◌≡◌, List, ◌++◌, length, drop, Some, None, Ok}
use Rattle.steps.specs.Items.{Lists}
use Rattle.segments.specs.declared.Cursor.{Cursor}
use Rattle.globals.specs.declared.Globals.{Globals}
use Rattle.refusal.specs.Refused.{refuse}
use Rattle.workbook.specs.Check.{checked_of}
use Rattle.reading.specs.Reading.{reading_of}
use Rattle.fetch.specs.Strings.{first_of, next_string_of, next_buffer}

-- from c, the string us and the place d: its units at the front of the buffer, and after them what it held; or 12 at 0 where the buffer has fewer units
pub record StringGiven (s : List ℕ) (c : Cursor) (us : List ℕ) (d : Cursor) : Type 0 where
  pub units : (b : List ℕ) → length us ≤ length b → (next_string_of s c b ≡ Ok (Some (record { units = length us; next = d }))) × (next_buffer s c b ≡ us ++ drop (length us) b)
  pub short : (b : List ℕ) → length b < length us → (next_string_of s c b ≡ refuse 12 0) × (next_buffer s c b ≡ b)

-- from c, the end
abbrev pub NoString : List ℕ → Cursor → Type 0
NoString s c = (b : List ℕ) → (next_string_of s c b ≡ Ok None) × (next_buffer s c b ≡ b)

-- after a check that passes, from `first_string` on: exactly the strings of the reading, in order, and then the end; u is the unique count where the
-- stream has no SST
abbrev pub StringsListed : Type 0
StringsListed = (s : List ℕ) (u : ℕ) (g : Globals) → checked_of s u ≡ Ok g → Lists (StringGiven s) (NoString s) (first_of s g.table) (reading_of s u).strings
