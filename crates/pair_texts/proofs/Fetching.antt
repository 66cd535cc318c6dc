-- The laws of a fetch over the pair. Assumes nothing.
use Prim.Native.Nat.{ℕ, zero, suc}
use mathlib.Core.Path.{◌≡◌, refl, sym, ap, ◌∙◌}
use mathlib.Core.List.{List, [], ◌∷◌}
use mathlib.Core.Bool.{Bool, true, false}
use lib.ListN.{length}
use lib.Dec.{ltb}
use Rattle.std.specs.Prelude.{Ok}
use Rattle.steps.specs.Choice.{pick}
use Rattle.steps.specs.Items.{nth}
use Rattle.refusal.specs.Refused.{refuse}
use Rattle.strings.specs.Table.{fetched_of, buffer_of}
use Rattle.reading.specs.Reading.{strings_at}
use Rattle.fetch.specs.Parts.{TableAt}
use Rattle.string_places.specs.Parts.{count_of}
use Rattle.string_places.proofs.Filling.{table_at}
use Rattle.pair.specs.declared.Whose.{Whose}
use Rattle.pair.specs.declared.Whose.TheVariants.{Session, Template}
use Rattle.pair.specs.declared.Of.TheVariants as of
use Rattle.pair.specs.declared.PairChecked.{PairChecked}
use Rattle.globals.specs.declared.Globals.{Globals}
use Rattle.pair.specs.Refused.{refuse_of}
use Rattle.pair.specs.Pair.{pair_of, on_pair}
use Rattle.pair.specs.Parts.{stream_of, globals_in}
use Rattle.pair_texts.specs.Texts.{table_of, strings_of, units_told, pair_fetch_of, pair_buffer_of, told_of}
use Rattle.pair.proofs.Laws.{through_nth, both, where_passed}

-- each stream's table stands where its globals say
module _ (t s : List ℕ) (c : PairChecked) (is : Ok c ≡ pair_of t s) where
  pub table_in : (w : Whose) (k : ℕ) → k ≡ count_of (globals_in c w).table (globals_in c w).unique → TableAt (stream_of w t s) (globals_in c w).table k
  table_in Session k i = table_at s c.template.unique refl c.session (both t s c is).session k i
  table_in Template k i = table_at t 0 refl c.template (both t s c is).template k i

-- ---- the answer over the pair
told_pick : (w : Whose) (b : Bool) (n : ℕ) → told_of w (pick b (refuse 12 0) (Ok n)) ≡ pick b (refuse_of of.Question 12 0) (Ok (record { whose = w; units = n }))
unfolding pick
told_pick w true n = refl
told_pick w false n = refl

told_units : (w : Whose) (n : ℕ) (us : List ℕ) → told_of w (fetched_of n us) ≡ units_told w n us
unfolding fetched_of units_told
told_units w n us = told_pick w (ltb n (length us)) (length us)

nth_same : {A B : Type 0} (f g : A → B) (d : B) → ((x : A) → f x ≡ g x) → (l : List A) (i : ℕ) → nth l i f d ≡ nth l i g d
unfolding nth
nth_same f g d h [] i = refl
nth_same f g d h (x ∷ l) zero = h x
nth_same f g d h (x ∷ l) (suc i) = nth_same f g d h l i

told_nth : (w : Whose) (n : ℕ) (l : List (List ℕ)) (i : ℕ) → nth l i (units_told w n) (refuse_of of.Question 11 0) ≡ told_of w (nth l i (fetched_of n) (refuse 11 0))
told_nth w n l i =
    sym (nth_same (λ (us : List ℕ). told_of w (fetched_of n us)) (units_told w n) (refuse_of of.Question 11 0) (told_units w n) l i)
    ∙ through_nth (told_of w) (fetched_of n) (refuse 11 0) l i

strings_in : (t s : List ℕ) (c : PairChecked) (w : Whose) → strings_of t s c.template c.session w ≡ strings_at (stream_of w t s) (globals_in c w).table
strings_in t s c Session = refl
strings_in t s c Template = refl

module _ (t s : List ℕ) (v : Whose) (i : ℕ) (b : List ℕ) where
  -- whose strings are asked
  abbrev asked_of : Globals → Globals → List (List ℕ)
  asked_of g h = let w = table_of v h in strings_at (stream_of w t s) (globals_in (record { template = g; session = h }) w).table

  pub fetch_by : pair_fetch_of t s v i b ≡ on_pair refuse_of (λ g h. told_of (table_of v h) (nth (asked_of g h) i (fetched_of (length b)) (refuse 11 0))) (pair_of t s)
  unfolding pair_fetch_of
  fetch_by =
      where_passed t s refuse_of _ _
      (λ g h _.
      ap (λ (l : List (List ℕ)). nth l i (units_told (table_of v h) (length b)) (refuse_of of.Question 11 0)) (strings_in t s (record { template = g; session = h }) (table_of v h))
      ∙ told_nth (table_of v h) (length b) (asked_of g h) i)

  pub buffer_by : pair_buffer_of t s v i b ≡ on_pair (λ _ _ _. b) (λ g h. nth (asked_of g h) i (buffer_of b) b) (pair_of t s)
  unfolding pair_buffer_of
  buffer_by = where_passed t s (λ _ _ _. b) _ _ (λ g h _. ap (λ (l : List (List ℕ)). nth l i (buffer_of b) b) (strings_in t s (record { template = g; session = h }) (table_of v h)))

pub ruleset fetch_laws = (table_in, fetch_by, buffer_by)
