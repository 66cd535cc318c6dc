-- The formula with a text result that is at a place. Assumes nothing.
use Prim.Native.Nat.{ℕ, ◌-◌, ◌≤◌}
use mathlib.Core.Path.{◌≡◌, refl, sym, ap, ◌∙◌}
use mathlib.Core.List.{List}
use mathlib.Core.Bool.{true}
use Rattle.std.specs.Prelude.{Some}
use Rattle.steps.proofs.Choice.{pick_nlt, pick_yes}
use Rattle.record.specs.declared.Header.TheVariants.{Record}
use Rattle.record.specs.Record.{header_at}
use Rattle.text_result.specs.TextResult.{has_text}
use Rattle.text_result.specs.FromPlace.{on_placed, placed_at}

pub placed_text_lem : (s : List ℕ) (p t z e : ℕ) → 10 ≤ p → header_at s (p - 10) ≡ Record t z e → 22 ≤ z → has_text s t (p - 10) ≡ true → Some (record { at = p - 10; end = e }) ≡ placed_at s p
unfolding placed_at
placed_text_lem s p t z e low h l q =
    pick_nlt _ _ _ _ _ low (pick_nlt _ _ _ _ _ l (pick_yes (Some (record { at = p - 10; end = e })) _ _ refl q refl) ∙ ap (on_placed s (p - 10)) (sym h))
