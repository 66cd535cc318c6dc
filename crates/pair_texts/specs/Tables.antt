-- String places over the pair: one table for each stream, filled after the pair's check. A fetch names the stream: it is a fetch through that stream's
-- table (the crate `string_places`).
use Rattle.std.specs.Prelude.{ℕ, ◌*◌, List, Bool, ◌||◌, length, ltb, Result, Ok}
use Rattle.steps.specs.Choice.{pick}
use Rattle.segments.specs.declared.Cursor.{Cursor}
use Rattle.string_places.specs.Places.{places_at, table_of}
use Rattle.pair.specs.declared.Of.TheVariants as of
use Rattle.pair.specs.declared.PairRefusal.{PairRefusal}
use Rattle.pair.specs.Refused.{refuse_of}
use Rattle.pair.specs.Pair.{pair_of, on_pair}
use Rattle.pair_texts.specs.declared.PairFilled.{PairFilled}

-- the table has under two numbers for each string
abbrev pub too_short : List ℕ → List Cursor → Bool
too_short a l = ltb (length a) (2 * length l)

abbrev pub either_short : List Cursor → List Cursor → List ℕ → List ℕ → Bool
either_short l m a b = too_short a l || too_short b m

-- l and m are the places of the template's strings and of the session's, a and b the tables: 12 where either is too short, and then neither changes
unfoldable pub both_filled : List Cursor → List Cursor → List ℕ → List ℕ → Result PairFilled PairRefusal
both_filled l m a b = pick (either_short l m a b) (refuse_of of.Question 12 0) (Ok (record { template = length l; session = length m }))

unfoldable pub first_table : List Cursor → List Cursor → List ℕ → List ℕ → List ℕ
first_table l m a b = pick (either_short l m a b) a (table_of a l)

unfoldable pub second_table : List Cursor → List Cursor → List ℕ → List ℕ → List ℕ
second_table l m a b = pick (either_short l m a b) b (table_of b m)

-- the answer, and both tables after it; a session without an SST has no places, so that each of its numbers is 4,294,967,295
unfoldable pub pair_fill_of : List ℕ → List ℕ → List ℕ → List ℕ → Result PairFilled PairRefusal
pair_fill_of t s a b = on_pair refuse_of (λ g h. both_filled (places_at t g.table) (places_at s h.table) a b) (pair_of t s)

unfoldable pub template_table_after : List ℕ → List ℕ → List ℕ → List ℕ → List ℕ
template_table_after t s a b = on_pair (λ _ _ _. a) (λ g h. first_table (places_at t g.table) (places_at s h.table) a b) (pair_of t s)

unfoldable pub session_table_after : List ℕ → List ℕ → List ℕ → List ℕ → List ℕ
session_table_after t s a b = on_pair (λ _ _ _. b) (λ g h. second_table (places_at t g.table) (places_at s h.table) a b) (pair_of t s)
