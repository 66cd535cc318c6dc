-- After the pair's filling, a fetch through a stream's table is the plain fetch in that stream's own strings.
use Rattle.std.specs.Prelude.{ℕ, ◌≡◌, List, length, Ok}
use Rattle.steps.specs.Items.{nth}
use Rattle.refusal.specs.Refused.{refuse}
use Rattle.strings.specs.Table.{fetched_of, buffer_of}
use Rattle.globals.specs.declared.Globals.{Globals}
use Rattle.reading.specs.Reading.{strings_at}
use Rattle.string_places.specs.Places.{through_of, buffer_through}
use Rattle.pair_texts.specs.Tables.{pair_fill_of, template_table_after, session_table_after}
use Rattle.pair.specs.Pair.{Passes}

-- x is a stream whose SST is at p (0 where there is none), t its table after filling: the answer and the buffer for each index and each buffer
abbrev pub AsPlain : List ℕ → List ℕ → ℕ → Type 0
AsPlain x t p =
    (i : ℕ) (c : List ℕ)
    → (through_of x t i c ≡ nth (strings_at x p) i (fetched_of (length c)) (refuse 11 0)) × (buffer_through x t i c ≡ nth (strings_at x p) i (buffer_of c) c)

-- t is the template, s the session, a and b the tables
abbrev pub PairAsPlain : Type 0
PairAsPlain =
    (t s a b : List ℕ) (k m : ℕ) (g h : Globals) → Passes t s g h → pair_fill_of t s a b ≡ Ok (record { template = k; session = m })
    → AsPlain t (template_table_after t s a b) g.table × AsPlain s (session_table_after t s a b) h.table

-- a session without an SST gives 11
abbrev pub NoTable : Type 0
NoTable =
    (t s a b : List ℕ) (k m : ℕ) (g h : Globals) → Passes t s g h → pair_fill_of t s a b ≡ Ok (record { template = k; session = m }) → h.table ≡ 0
    → (i : ℕ) (c : List ℕ) → through_of s (session_table_after t s a b) i c ≡ refuse 11 0
