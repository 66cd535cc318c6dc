-- What is claimed of a filled table.
use Rattle.std.specs.Prelude.{ℕ, ◌≡◌, List, Ok}
use Rattle.fetch.specs.Fetch.{answer_of, buffer_after}
use Rattle.string_places.specs.Places.{fill_of, table_after, through_of, buffer_through}

-- after filling, fetching through the table answers for every index and every buffer as plain fetching does on the same stream, and leaves the same buffer
abbrev pub FetchesAsPlain : Type 0
FetchesAsPlain =
    (s t : List ℕ) (n : ℕ) → fill_of s 0 t ≡ Ok n → (i : ℕ) (b : List ℕ)
    → (through_of s (table_after s 0 t) i b ≡ answer_of s i b) × (buffer_through s (table_after s 0 t) i b ≡ buffer_after s i b)
