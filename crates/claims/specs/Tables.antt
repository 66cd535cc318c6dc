-- A table of string places outlives corrections: a granted correction writes outside the string table. s is the stream before it, t the stream after it,
-- a the lent table before filling.
use Rattle.std.specs.Prelude.{ℕ, ◌≡◌, List, Ok}
use Rattle.string_places.specs.Places.{fill_of, table_after, through_of, buffer_through}
use Rattle.claims.specs.Demand3.{Granted}

-- filling after it gives the table that filling before it gave
abbrev pub SameTable : Type 0
SameTable = Granted (λ s lent n row column v c t. (a : List ℕ) → (fill_of t lent a ≡ fill_of s lent a) × (table_after t lent a ≡ table_after s lent a))

-- a fetch through the table that was filled before it answers the same after it, for every index and every buffer
abbrev pub Outlives : Type 0
Outlives =
    Granted (λ s lent n row column v c t.
    (a : List ℕ) (k : ℕ) → fill_of s lent a ≡ Ok k → (i : ℕ) (b : List ℕ)
    → (through_of t (table_after s lent a) i b ≡ through_of s (table_after s lent a) i b) × (buffer_through t (table_after s lent a) i b ≡ buffer_through s (table_after s lent a) i b))
