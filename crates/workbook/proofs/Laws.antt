-- The laws of the check. Assumes nothing.
use Rattle.std.proofs.Common.{◌≡◌, ℕ, ◌≤◌, ◌<◌, List, Option, Result, Ok, Err, length, ltb, refl, sym, ap, ◌∙◌, subst}
use borrow.Author.Tests.{ltb-false}
use Rattle.steps.proofs.Choice.{never, pick_by, pick_lt, pick_nlt}
use Rattle.refusal.specs.declared.Refusal.{Refusal}
use Rattle.sheet_agreement.specs.Agreement.{agreement_of}
use Rattle.globals.specs.declared.Globals.{Globals}
use Rattle.globals.specs.Globals.{globals_of}
use Rattle.globals.specs.Sheets.{sheets_of}
use Rattle.top_level.specs.TopLevel.{bofs_from}
use Rattle.top_level.specs.Tops.{tail_of}
use Rattle.top_level.proofs.Following.{Tailed, tail_says}
use Rattle.workbook.specs.Check.{Checked, Right, Wrong, agreed, on_walked, on_globals, checked_of}

-- ---- from the answers of the parts to the whole
module _ (s : List ℕ) (u : ℕ) where
  pub too_long : 16777216 < length s → checked_of s u ≡ Wrong 1 0
  unfolding checked_of
  too_long h = sym (pick_lt _ _ _ _ _ h refl)

  module _ (short : length s ≤ 16777216) where
    by_globals : checked_of s u ≡ on_globals s (globals_of s u)
    unfolding checked_of
    by_globals = sym (pick_nlt _ _ _ _ _ short refl)

    pub globals_wrong : (r : Refusal) → globals_of s u ≡ Err r → checked_of s u ≡ Err r
    globals_wrong r h = by_globals ∙ ap (on_globals s) h

    module _ (g : Globals) (h : globals_of s u ≡ Ok g) where
      says : (x : Result (Option ℕ) Refusal) → tail_of s g.unique g.at ≡ x → Tailed s g.unique g.at x
      says x i = subst (Tailed s g.unique g.at) i (tail_says s g.unique g.at)

      pub tops_wrong : (r : Refusal) → tail_of s g.unique g.at ≡ Err r → checked_of s u ≡ Err r
      tops_wrong r i = by_globals ∙ ap (on_globals s) h ∙ ap (on_walked s g) (sym (says (Err r) i))

      pub tops_passed : (p : Option ℕ) → tail_of s g.unique g.at ≡ Ok p → checked_of s u ≡ agreed g (agreement_of (sheets_of s) (bofs_from s g.unique g.at))
      tops_passed p i = by_globals ∙ ap (on_globals s) h ∙ ap (on_walked s g) (sym (says (Ok p) i).0)

pub ruleset check_laws = (too_long, globals_wrong, tops_wrong, tops_passed)

-- a stream that passes is not too long: r is what the check gave
short_by : (s : List ℕ) (u : ℕ) (g : Globals) → checked_of s u ≡ Right g → length s ≤ 16777216
unfolding checked_of
short_by s u g h =
    pick_by (λ (x : Checked). x ≡ Right g → length s ≤ 16777216) (ltb 16777216 (length s))
    (λ _ i. never (cc))
    (λ i _. ltb-false 16777216 (length s) i) h

pub short : (s : List ℕ) (u : ℕ) (g : Globals) {r : Checked} → r ≡ checked_of s u → r ≡ Right g → length s ≤ 16777216
short s u g is h = short_by s u g (sym is ∙ h)
