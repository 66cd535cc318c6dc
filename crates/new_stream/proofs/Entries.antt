-- The list of entries, record by record. Assumes nothing.
use Prim.Native.Nat.{ℕ, ◌+◌, ◌-◌}
use mathlib.Core.Path.{◌≡◌, refl, sym, ap, ◌∙◌, subst}
use mathlib.Core.List.{List, [], ◌∷◌}
use native.Mathlib.Omega.{arith}
use lib.ListN.{length}
use lib.Dec.{leb}
use borrow.Author.Tests.{leb-false}
use Rattle.steps.proofs.Choice.{pick_any, pick_by, pick_eq, pick_ne}
use Rattle.steps.specs.Items.{Item, gives, onto}
use Rattle.steps.proofs.Items.{Nearer, collect_step}
use Rattle.record.specs.declared.Header.{Header}
use Rattle.record.specs.declared.Header.TheVariants.{Record, Cut, End}
use Rattle.record.specs.Record.{header_at}
use Rattle.record.proofs.Laws.{whole}
use Rattle.new_stream.specs.declared.Spot.{Spot}
use Rattle.new_stream.specs.declared.Entry.{Entry}
use Rattle.new_stream.specs.Entries.{fate_of, spot_after, record_item, rest_item, on_header, entry_item, entries_from}

-- the first entry stands at p
abbrev pub Begins : ℕ → List Entry → Type 0
Begins p [] = Unit {0}
Begins p (x ∷ l) = x.at ≡ p

module _ (s : List ℕ) where
  abbrev Near : Spot → Item Spot Entry → Type 0
  Near w x = Nearer (λ w. length s - w.at) w x

  near_rest : (w : Spot) → Near w (rest_item s w)
  unfolding rest_item
  near_rest w = pick_by (Near w) (leb (length s) w.at) (λ _. tt) (λ h. let i = leb-false (length s) w.at h in omega arith)

  near_record : (w : Spot) (t z e : ℕ) → header_at s w.at ≡ Record t z e → Near w (record_item s w t z e)
  unfolding record_item spot_after
  near_record w t z e h = let i = whole s w.at t z e h in omega arith

  near_header : (w : Spot) (x : Header) → header_at s w.at ≡ x → Near w (on_header s w x)
  near_header w (Record t z e) h = pick_any (Near w) _ (pick_any (Near w) _ (near_record w t z e h) (near_rest w)) (near_record w t z e h)
  near_header w Cut h = near_rest w
  near_header w End h = tt

  near : (w : Spot) → Near w (entry_item s w)
  unfolding entry_item
  near w = near_header w (header_at s w.at) refl

  pub entries_step : (w : Spot) → entries_from s w ≡ onto (entry_item s w) (λ w. entries_from s w)
  unfolding entries_from
  entries_step w = collect_step (entry_item s) (λ w. length s - w.at) near w

  -- a record, then the others
  module _ (w : Spot) (t z e : ℕ) (h : header_at s w.at ≡ Record t z e) where
    abbrev entry : Entry
    entry = record { at = w.at; size = 4 + z; fate = fate_of w t }

    item_inside : (w.level ≡ 0 → ⊥) → entry_item s w ≡ gives entry (spot_after s w t e)
    unfolding entry_item record_item
    item_inside n = ap (on_header s w) h ∙ sym (pick_ne _ _ _ w.level 0 n refl)

    pub entries_record : (w.level ≡ 0 → ⊥) → entries_from s w ≡ entry ∷ entries_from s (spot_after s w t e)
    entries_record n = entries_step w ∙ ap (λ (x : Item Spot Entry). onto x (λ w. entries_from s w)) (item_inside n)

    item_bof : w.level ≡ 0 → t ≡ 0x0809 → entry_item s w ≡ gives entry (spot_after s w t e)
    unfolding entry_item record_item
    item_bof n i = ap (on_header s w) h ∙ sym (pick_eq _ _ _ w.level 0 n (pick_eq _ _ _ t 0x0809 i refl))

    pub entries_bof : w.level ≡ 0 → t ≡ 0x0809 → entries_from s w ≡ entry ∷ entries_from s (spot_after s w t e)
    entries_bof n i = entries_step w ∙ ap (λ (x : Item Spot Entry). onto x (λ w. entries_from s w)) (item_bof n i)

  begins_rest : (w : Spot) → Begins w.at (onto (rest_item s w) (λ w. entries_from s w))
  unfolding rest_item
  begins_rest w = pick_any (λ (x : Item Spot Entry). Begins w.at (onto x (λ w. entries_from s w))) _ tt refl

  begins_header : (w : Spot) (x : Header) → Begins w.at (onto (on_header s w x) (λ w. entries_from s w))
  unfolding record_item
  begins_header w (Record t z e) =
      pick_any (λ (x : Item Spot Entry). Begins w.at (onto x (λ w. entries_from s w))) _
      (pick_any (λ (x : Item Spot Entry). Begins w.at (onto x (λ w. entries_from s w))) _ refl (begins_rest w)) refl
  begins_header w Cut = begins_rest w
  begins_header w End = tt

  pub begins : (w : Spot) → Begins w.at (entries_from s w)
  unfolding entry_item
  begins w = subst (Begins w.at) (sym (entries_step w)) (begins_header w (header_at s w.at))
