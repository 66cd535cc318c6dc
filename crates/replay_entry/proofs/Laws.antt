-- The laws of one entry of a replay, with what a call gave as the proofs have it. Assumes nothing.
use Rattle.std.proofs.Common.{◌≡◌, ℕ, ◌+◌, ◌%◌, ◌^◌, ◌≤◌, ◌<◌, List, Bool, true, false, not, Result, Ok, Err, ltb, refl, sym, ap, ◌∙◌, subst}
use Rattle.std.proofs.Math.Nat.{mod-eq_of_lt}
use Rattle.steps.specs.Choice.{pick}
use Rattle.steps.proofs.Choice.{pick_true, pick_false, pick_eq, pick_ne}
use Rattle.number.specs.Rk.{means_nothing}
use Rattle.refusal.specs.declared.Refusal.{Refusal}
use Rattle.value.specs.declared.Field.{Field}
use Rattle.value.specs.declared.Field.TheVariants.{NoField, Float, RkWord, TextIndex, TruthError, StoredResult}
use Rattle.value.specs.Value.{width_of, value_fits}
use Rattle.correction.specs.declared.Aim.{Aim}
use Rattle.correction.specs.Parts.{AimWithin}
use Rattle.correction.specs.Correction.{refuses, writes}
use Rattle.journal.specs.declared.Entry.{Entry}
use Rattle.replay_entry.specs.declared.Write.{Write}
use Rattle.replay_entry.specs.Steps.{passes_in, on_make, on_undo, make_at, undo_at}
use Rattle.replay_entry.specs.Parts.{step_of, step_is}

-- ---- what the check passes in a field
module _ (k : Field) (unique n : ℕ) where
  pub pass_none : k ≡ NoField → true ≡ passes_in k unique n
  unfolding passes_in pick
  pass_none h = rw h refl

  pub pass_float : k ≡ Float → true ≡ passes_in k unique n
  unfolding passes_in pick
  pass_float h = rw h refl

  first_true : (b : Bool) → pick b true false ≡ b
  unfolding pick
  first_true true = refl
  first_true false = refl

  pub pass_word : k ≡ RkWord → not (means_nothing (n % 2 ^ 32)) ≡ passes_in k unique n
  unfolding passes_in pick
  pass_word h = rw h (go (means_nothing (n % 2 ^ 32)))
    where
      go : (b : Bool) → not b ≡ pick (not b) true false
      go true = refl
      go false = refl

  pub pass_index : k ≡ TextIndex → ltb (n % 2 ^ 32) unique ≡ passes_in k unique n
  unfolding passes_in pick
  pass_index h = rw h refl

  pub pass_pair : (r : Bool) → k ≡ TruthError → r ≡ value_fits TruthError (n % 2 ^ 16) → r ≡ passes_in k unique n
  unfolding passes_in
  pass_pair r h e = rw h (e ∙ sym (first_true _))

  pub pass_result : (r : Bool) → k ≡ StoredResult → n < 2 ^ 64 → r ≡ value_fits StoredResult n → r ≡ passes_in k unique n
  unfolding passes_in
  pass_result r h l e = rw h (e ∙ ap (value_fits StoredResult) (sym (mod-eq_of_lt l)) ∙ sym (first_true _))

pub ruleset pass_laws = (pass_none, pass_float, pass_word, pass_index, pass_pair, pass_result)

-- ---- forwards, from the plan on
module _ (f : Field) (p : ℕ) (there : Bool) (y : Result ℕ Refusal) where
  module _ (r : Refusal) (h : y ≡ Err r) where
    pub make_kind : r.number ≡ 17 → refuses 17 0 ≡ on_make f p there y
    make_kind i = rw h (pick_eq _ _ _ r.number 17 i refl)

    pub make_unfit : (r.number ≡ 17 → ⊥) → there ≡ true → refuses r.number 0 ≡ on_make f p there y
    make_unfit i k = rw h (pick_ne _ _ _ r.number 17 i (pick_true _ _ _ there k refl))

    pub make_other : (r.number ≡ 17 → ⊥) → there ≡ false → refuses 19 0 ≡ on_make f p there y
    make_other i k = rw h (pick_ne _ _ _ r.number 17 i (pick_false _ _ _ there k refl))

  module _ (b : ℕ) (h : y ≡ Ok b) where
    pub make_put : there ≡ true → writes f p b ≡ on_make f p there y
    make_put k = rw h (pick_true _ _ _ there k refl)

    pub make_else : there ≡ false → refuses 19 0 ≡ on_make f p there y
    make_else k = rw h (pick_false _ _ _ there k refl)

pub ruleset make_laws = (make_kind, make_unfit, make_other, make_put, make_else)

-- ---- backwards, from the plan on
module _ (f : Field) (p : ℕ) (there : ℕ → Bool) (right : Bool) (old : ℕ) (y : Result ℕ Refusal) where
  module _ (r : Refusal) (h : y ≡ Err r) where
    pub undo_kind : r.number ≡ 17 → refuses 17 0 ≡ on_undo f p there right old y
    undo_kind i = rw h (pick_eq _ _ _ r.number 17 i refl)

    pub undo_unfit : (r.number ≡ 17 → ⊥) → refuses 19 0 ≡ on_undo f p there right old y
    undo_unfit i = rw h (pick_ne _ _ _ r.number 17 i refl)

  module _ (b : ℕ) (h : y ≡ Ok b) where
    pub undo_other : there b ≡ false → refuses 19 0 ≡ on_undo f p there right old y
    undo_other k = rw h (pick_false _ _ _ (there b) k refl)

    pub undo_put : there b ≡ true → right ≡ true → writes f p old ≡ on_undo f p there right old y
    undo_put k l = rw h (pick_true _ _ _ (there b) k (pick_true _ _ _ right l refl))

    pub undo_bad : there b ≡ true → right ≡ false → refuses 18 0 ≡ on_undo f p there right old y
    undo_bad k l = rw h (pick_true _ _ _ (there b) k (pick_false _ _ _ right l refl))

pub ruleset undo_laws = (undo_kind, undo_unfit, undo_other, undo_put, undo_bad)

-- ---- with the cell that the entry names
pub aimed_in : (len : ℕ) (a : Result Aim Refusal) (x : Aim) → AimWithin len a → a ≡ Ok x → x.field + width_of x.kind ≤ len
aimed_in len a x w h = let z : AimWithin len (Ok x) = subst (AimWithin len) h w in z

module _ (s : List ℕ) (x : Entry) (a : Result Aim Refusal) where
  pub step_refused : (back : Bool) (r : Refusal) → a ≡ Err r → refuses r.number 0 ≡ step_of back x a s
  step_refused true r h = rw h refl
  step_refused false r h = rw h refl

  module _ (m : Aim) (h : a ≡ Ok m) (back : Bool) (y : Result Write ℕ) where
    pub step_made : back ≡ false → step_is y ≡ make_at s x (Ok m) → step_is y ≡ step_of back x a s
    step_made l e = rw (l, h) e

    pub step_undone : back ≡ true → step_is y ≡ undo_at s x (Ok m) → step_is y ≡ step_of back x a s
    step_undone l e = rw (l, h) e

pub ruleset step_laws = (aimed_in, step_refused, step_made, step_undone)
