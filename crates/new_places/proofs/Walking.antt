-- From record to record, as the iterator goes. Assumes nothing.
use Prim.Native.Nat.{ℕ, ◌+◌, ◌≤◌, ◌<◌}
use mathlib.Core.Path.{◌≡◌, refl, sym, ap, ◌∙◌, subst}
use mathlib.Core.List.{List, [], ◌∷◌}
use native.Mathlib.Omega.{arith}
use lib.ListN.{length}
use lib.Dec.{leb}
use borrow.Author.Tests.{leb-false}
use Rattle.std.specs.Prelude.{Option, Some, None}
use Rattle.steps.proofs.Choice.{pick_any, pick_by}
use Rattle.steps.specs.Items.{Item, gives, skips, ends, onto}
use Rattle.record.specs.declared.Header.{Header}
use Rattle.record.specs.declared.Header.TheVariants as header
use Rattle.record.specs.Record.{header_at}
use Rattle.record.proofs.Laws.{whole}
use Rattle.new_stream.specs.declared.Spot.{Spot}
use Rattle.new_stream.specs.declared.Entry.{Entry}
use Rattle.new_stream.specs.Entries.{level_after, spot_after, record_item, rest_item, on_header, entry_item, entries_from}
use Rattle.new_stream.proofs.Entries.{entries_step}
use Rattle.new_places.specs.declared.Step.{Step}
use Rattle.new_places.specs.Places.{place_for}
use Rattle.new_places.specs.Parts.{item_of}
use Rattle.new_places.proofs.Places.{place_none, place_here}

-- ---- an entry goes ahead, and at most one level inside
abbrev pub Ahead : List ℕ → Spot → Item Spot Entry → Type 0
Ahead s w (gives x v) = (x.at ≡ w.at) × (0 < x.size) × (v.at ≡ w.at + x.size) × (v.at ≤ length s) × (v.level ≤ w.level + 1)
Ahead s w (skips v) = ⊥
Ahead s w ends = Unit {0}

level_low : (l t : ℕ) → level_after l t ≤ l + 1
unfolding level_after
level_low l t = pick_any (λ (n : ℕ). n ≤ l + 1) _ (omega arith) (pick_any (λ (n : ℕ). n ≤ l + 1) _ (omega arith) (omega arith))

module _ (s : List ℕ) (w : Spot) where
  ahead_rest : Ahead s w (rest_item s w)
  unfolding rest_item
  ahead_rest = pick_by (Ahead s w) (leb (length s) w.at) (λ _. tt) (λ h. let i = leb-false (length s) w.at h in (refl, omega arith, omega arith, omega arith, omega arith))

  ahead_record : (t z e : ℕ) → header_at s w.at ≡ header.Record t z e → Ahead s w (record_item s w t z e)
  unfolding record_item spot_after
  ahead_record t z e h = let i = whole s w.at t z e h in let l = level_low w.level t in (refl, omega arith, omega arith, omega arith, omega arith)

  ahead_header : (x : Header) → header_at s w.at ≡ x → Ahead s w (on_header s w x)
  ahead_header (header.Record t z e) h = pick_any (Ahead s w) _ (pick_any (Ahead s w) _ (ahead_record t z e h) ahead_rest) (ahead_record t z e h)
  ahead_header header.Cut h = ahead_rest
  ahead_header header.End h = tt

  pub ahead : Ahead s w (entry_item s w)
  unfolding entry_item
  ahead = ahead_header (header_at s w.at) refl

-- nothing before p is left where the next entry isn't before it
module _ (s : List ℕ) (w : Spot) (n p : ℕ) (h : p ≤ w.at) where
  none_before : (x : Item Spot Entry) → Ahead s w x → place_for n (onto x (λ v. entries_from s v)) p ≡ 0
  none_before (gives x v) a = place_here n _ x (entries_from s v) refl p (let e = a.1 in omega arith)
  none_before (skips v) a = absurd a
  none_before ends a = place_none n [] p refl

  pub place_past : place_for n (entries_from s w) p ≡ 0
  place_past = ap (λ (l : List Entry). place_for n l p) (entries_step s w) ∙ none_before (entry_item s w) (ahead s w)

-- ---- an answer of the code
module _ (s : List ℕ) (w : Spot) (r : Option Step) (is : item_of r ≡ entry_item s w) where
  left_is : (x : Option Step) → r ≡ x → entries_from s w ≡ onto (item_of x) (λ v. entries_from s v)
  left_is x h = entries_step s w ∙ ap (λ (y : Item Spot Entry). onto y (λ v. entries_from s v)) (sym is ∙ ap item_of h)

  pub left_none : r ≡ None → entries_from s w ≡ []
  left_none h = left_is None h

  module _ (x : Step) (h : r ≡ Some x) where
    pub left_some : entries_from s w ≡ x.entry ∷ entries_from s x.next
    left_some = left_is (Some x) h

    pub step_ahead : Ahead s w (gives x.entry x.next)
    step_ahead = subst (Ahead s w) (sym is ∙ ap item_of h) (ahead s w)
