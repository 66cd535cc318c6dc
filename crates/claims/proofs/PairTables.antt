-- From the pair's filling to a filling of each stream. Assumes nothing.
use Prim.Native.Nat.{ℕ}
use mathlib.Core.Path.{◌≡◌, refl, sym, ap, ◌∙◌}
use mathlib.Core.List.{List}
use mathlib.Core.Bool.{Bool, true, false, ◌||◌}
use lib.ListN.{length}
use Rattle.steps.specs.Choice.{pick}
use Rattle.steps.specs.Items.{nth}
use Rattle.steps.proofs.Choice.{never, pick_false}
use Rattle.std.specs.Prelude.{Result, Ok}
use Rattle.refusal.specs.Refused.{refuse}
use Rattle.strings.specs.Table.{fetched_of}
use Rattle.globals.specs.declared.Globals.{Globals}
use Rattle.workbook.specs.Check.{Right, checked_of, on_checked}
use Rattle.fetch.specs.Fetch.{answer_in, buffer_in}
use Rattle.fetch.proofs.Laws.{strings_none}
use Rattle.string_places.specs.Places.{places_at, filled_of, table_of, fill_of, table_after, through_of, buffer_through}
use Rattle.string_places.proofs.Claims.{given, through_filled, buffer_filled}
use Rattle.pair.specs.declared.Of.TheVariants as of
use Rattle.pair_texts.specs.declared.PairFilled.{PairFilled}
use Rattle.pair.specs.declared.PairRefusal.{PairRefusal}
use Rattle.pair.specs.Refused.{refuse_of}
use Rattle.pair.specs.Pair.{Passes, on_pair}
use Rattle.pair.proofs.Laws.{passes_is}
use Rattle.pair_texts.specs.Tables.{too_short, either_short, both_filled, first_table, second_table, pair_fill_of, template_table_after, session_table_after}
use Rattle.claims.specs.PairTables.{AsPlain, PairAsPlain, NoTable}

abbrev filled : ℕ → ℕ → Result PairFilled PairRefusal
filled k m = Ok (record { template = k; session = m })

or_left : (x y : Bool) → (x || y) ≡ false → x ≡ false
or_left true y h = h
or_left false y h = refl

or_right : (x y : Bool) → (x || y) ≡ false → y ≡ false
or_right true y h = never cc
or_right false y h = h

-- a table that is long enough is filled
module _ (x : List ℕ) (u : ℕ) (g : Globals) (passes : checked_of x u ≡ Right g) (a : List ℕ) (room : too_short a (places_at x g.table) ≡ false) where
  fills : fill_of x u a ≡ Ok (length (places_at x g.table))
  unfolding fill_of filled_of
  fills = ap (on_checked refuse (λ (y : Globals). filled_of (length a) (places_at x y.table))) passes ∙ sym (pick_false _ _ _ _ room refl)

  after : table_after x u a ≡ table_of a (places_at x g.table)
  unfolding table_after
  after = ap (on_checked (λ _ _. a) (λ (y : Globals). table_of a (places_at x y.table))) passes

  as_plain : (t : List ℕ) → t ≡ table_of a (places_at x g.table) → AsPlain x t g.table
  as_plain t e i c =
      let k = length (places_at x g.table) in
      let q = given x a u k fills i c in
      let one : q.globals ≡ g = right_one q.globals q.passes in (
        ap (λ (y : List ℕ). through_of x y i c) (e ∙ sym after) ∙ through_filled x a u k fills i c ∙ ap (answer_in x i c) one,
        ap (λ (y : List ℕ). buffer_through x y i c) (e ∙ sym after) ∙ buffer_filled x a u k fills i c ∙ ap (buffer_in x i c) one,
      )
    where
      right_one : (y : Globals) → checked_of x u ≡ Right y → y ≡ g
      right_one y z = cc

module _ (t s a b : List ℕ) (k m : ℕ) (g h : Globals) (both : Passes t s g h) (is : pair_fill_of t s a b ≡ filled k m) where
  filled_both : both_filled (places_at t g.table) (places_at s h.table) a b ≡ filled k m
  unfolding pair_fill_of
  filled_both = sym (ap (on_pair refuse_of (λ g h. both_filled (places_at t g.table) (places_at s h.table) a b)) (passes_is t s g h both)) ∙ is

  long : either_short (places_at t g.table) (places_at s h.table) a b ≡ false
  unfolding both_filled pick
  long = by (either_short (places_at t g.table) (places_at s h.table) a b) filled_both
    where
      by : (x : Bool) → pick x (refuse_of of.Question 12 0) (filled (length (places_at t g.table)) (length (places_at s h.table))) ≡ filled k m → x ≡ false
      by true e = never cc
      by false e = refl

  first_is : template_table_after t s a b ≡ table_of a (places_at t g.table)
  unfolding template_table_after first_table
  first_is = ap (on_pair (λ _ _ _. a) (λ g h. first_table (places_at t g.table) (places_at s h.table) a b)) (passes_is t s g h both) ∙ sym (pick_false _ _ _ _ long refl)

  second_is : session_table_after t s a b ≡ table_of b (places_at s h.table)
  unfolding session_table_after second_table
  second_is = ap (on_pair (λ _ _ _. b) (λ g h. second_table (places_at t g.table) (places_at s h.table) a b)) (passes_is t s g h both) ∙ sym (pick_false _ _ _ _ long refl)

  template_plain : AsPlain t (template_table_after t s a b) g.table
  template_plain = as_plain t 0 g both.template a (or_left (too_short a (places_at t g.table)) (too_short b (places_at s h.table)) long) (template_table_after t s a b) first_is

  session_plain : AsPlain s (session_table_after t s a b) h.table
  session_plain = as_plain s g.unique h both.session b (or_right (too_short a (places_at t g.table)) (too_short b (places_at s h.table)) long) (session_table_after t s a b) second_is

pub pair_as_plain : PairAsPlain
pair_as_plain t s a b k m g h both is = (template_plain t s a b k m g h both is, session_plain t s a b k m g h both is)

pub no_table : NoTable
unfolding nth
no_table t s a b k m g h both is none i c =
    (session_plain t s a b k m g h both is i c).0 ∙ ap (λ (x : List (List ℕ)). nth x i (fetched_of (length c)) (refuse 11 0)) (strings_none s h.table none)
