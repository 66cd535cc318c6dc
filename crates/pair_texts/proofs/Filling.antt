-- The laws of filling over the pair. Assumes nothing.
use Prim.Native.Nat.{ℕ, ◌*◌, ◌≤◌}
use mathlib.Core.Path.{◌≡◌, refl, ap, ap₂}
use mathlib.Core.List.{List}
use mathlib.Core.Bool.{Bool, ◌||◌}
use lib.ListN.{length}
use lib.Dec.{ltb}
use Rattle.std.specs.Prelude.{Result, Ok}
use Rattle.steps.specs.Choice.{pick}
use Rattle.fetch.specs.Parts.{TableAt}
use Rattle.string_places.specs.Places.{places_at, table_of}
use Rattle.string_places.specs.Parts.{count_of}
use Rattle.string_places.proofs.Filling.{table_at, places_count}
use Rattle.pair.specs.declared.Whose.TheVariants.{Session, Template}
use Rattle.pair.specs.declared.Of.TheVariants as of
use Rattle.pair.specs.declared.PairRefusal.{PairRefusal}
use Rattle.pair.specs.declared.PairChecked.{PairChecked}
use Rattle.pair.specs.Refused.{refuse_of}
use Rattle.globals.specs.declared.Globals.{Globals}
use Rattle.pair.specs.Pair.{pair_of, Passes, on_pair}
use Rattle.pair.proofs.Laws.{template_short, session_short, where_passed}
use Rattle.pair_texts.specs.declared.PairFilled.{PairFilled}
use Rattle.pair_texts.specs.Tables.{either_short, both_filled, first_table, second_table, pair_fill_of, template_table_after, session_table_after}
use Rattle.pair_texts.proofs.Fetching.{table_in}

-- what a filling asks for, of each stream
module _ (t s : List ℕ) (c : PairChecked) (is : Ok c ≡ pair_of t s) (k : ℕ) where
  pub template_ready : k ≡ count_of c.template.table c.template.unique → (length t ≤ 16777216) × TableAt t c.template.table k
  template_ready i = (template_short t s c is, table_in t s c is Template k i)

  pub session_ready : k ≡ count_of c.session.table c.session.unique → (length s ≤ 16777216) × TableAt s c.session.table k
  session_ready i = (session_short t s c is, table_in t s c is Session k i)

module _ (t s a b : List ℕ) where
  -- whether either table has under two numbers for each string, by the streams' globals
  abbrev short : Globals → Globals → Bool
  short g h = ltb (length a) (2 * count_of g.table g.unique) || ltb (length b) (2 * count_of h.table h.unique)

  abbrev counts : Globals → Globals → Result PairFilled PairRefusal
  counts g h = Ok (record { template = count_of g.table g.unique; session = count_of h.table h.unique })

  module _ (g h : Globals) (p : Passes t s g h) where
    template_places : length (places_at t g.table) ≡ count_of g.table g.unique
    template_places = places_count t g.table (count_of g.table g.unique) (table_at t 0 refl g p.template (count_of g.table g.unique) refl)

    session_places : length (places_at s h.table) ≡ count_of h.table h.unique
    session_places = places_count s h.table (count_of h.table h.unique) (table_at s g.unique refl h p.session (count_of h.table h.unique) refl)

    short_is : either_short (places_at t g.table) (places_at s h.table) a b ≡ short g h
    short_is = ap₂ (λ (n m : ℕ). ltb (length a) (2 * n) || ltb (length b) (2 * m)) template_places session_places

    counts_are : ◌≡◌ {A = Result PairFilled PairRefusal} (Ok (record { template = length (places_at t g.table); session = length (places_at s h.table) })) (counts g h)
    counts_are = ap₂ (λ (n m : ℕ). Ok (record { template = n; session = m })) template_places session_places

  pub fill_by : pair_fill_of t s a b ≡ on_pair refuse_of (λ g h. pick (short g h) (refuse_of of.Question 12 0) (counts g h)) (pair_of t s)
  unfolding pair_fill_of both_filled
  fill_by = where_passed t s refuse_of _ _ (λ g h p. ap₂ (λ x y. pick x (refuse_of of.Question 12 0) y) (short_is g h p) (counts_are g h p))

  pub first_by : template_table_after t s a b ≡ on_pair (λ _ _ _. a) (λ g h. pick (short g h) a (table_of a (places_at t g.table))) (pair_of t s)
  unfolding template_table_after first_table
  first_by = where_passed t s (λ _ _ _. a) _ _ (λ g h p. ap (λ x. pick x a (table_of a (places_at t g.table))) (short_is g h p))

  pub second_by : session_table_after t s a b ≡ on_pair (λ _ _ _. b) (λ g h. pick (short g h) b (table_of b (places_at s h.table))) (pair_of t s)
  unfolding session_table_after second_table
  second_by = where_passed t s (λ _ _ _. b) _ _ (λ g h p. ap (λ x. pick x b (table_of b (places_at s h.table))) (short_is g h p))

pub ruleset fill_laws = (fill_by, first_by, second_by)
