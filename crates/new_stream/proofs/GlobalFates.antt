-- What becomes of the records of the globals, and what the walk and the list of sheets make of each. Assumes nothing.
use Prim.Native.Nat.{ℕ, ◌+◌, ◌≤◌, ◌<◌}
use mathlib.Core.Path.{◌≡◌, refl, sym, ap, ◌∙◌, subst}
use mathlib.Core.List.{List, [], ◌∷◌}
use mathlib.Core.Bool.{Bool, true, false}
use mathlib.Core.Logic.{◌⊎◌, inl, inr}
use native.Mathlib.Omega.{arith}
use lib.ListN.{get_or, drop}
use lib.Dec.{eqb, ltb}
use lib.Seq.{get_or-drop}
use borrow.Author.Tests.{eqb-true, eqb-false, ltb-false}
use Rattle.std.specs.Prelude.{Result, Ok, Err}
use Rattle.refusal.specs.declared.Refusal.{Refusal}
use Rattle.refusal.specs.Refused.{refuse}
use Rattle.steps.specs.Choice.{pick}
use Rattle.steps.proofs.Choice.{never, pick_by, pick_eq, pick_ne, pick_nlt, pick_same}
use Rattle.byte_numbers.specs.Bytes.{byte_at, u32_at}
use Rattle.record.specs.declared.Header.TheVariants.{Record}
use Rattle.record.specs.Record.{header_at}
use Rattle.globals.specs.declared.Globals.{Globals}
use Rattle.globals.specs.declared.Step.{Step}
use Rattle.globals.specs.declared.Step.TheVariants.{More, Close}
use Rattle.globals.specs.declared.Bound.TheVariants as bound
use Rattle.globals.specs.Globals.{past, boundsheet_fits, boundsheet_record, sst_record, bof_record, eof_record, continue_record, record_in}
use Rattle.globals.specs.Sheets.{type_kind, sheet_at, on_bound, bound_at, sheets_from}
use Rattle.globals.proofs.Sheets.{sheets_done, sheets_skip, sheets_more}
use Rattle.record_chain.specs.Chain.{here, on}
use Rattle.new_stream.specs.declared.Spot.{Spot}
use Rattle.new_stream.specs.declared.Fate.{Fate}
use Rattle.new_stream.specs.declared.Fate.TheVariants.{Stays, Goes, Table, Text, Sheet}
use Rattle.new_stream.specs.Entries.{in_globals, fate_of}
use Rattle.new_stream.specs.Claims.{Row}

-- ---- what becomes of it
abbrev pub Turns : Spot → ℕ → Fate → Type 0
Turns w t Stays = (t ≡ 0x003C → w.gone ≡ false) × (t ≡ 0x0085 → ⊥) × (t ≡ 0x00FC → ⊥)
Turns w t Goes = (t ≡ 0x003C) ⊎ (t ≡ 0x00FF)
Turns w t Table = t ≡ 0x00FC
Turns w t Text = ⊥
Turns w t Sheet = t ≡ 0x0085

pub turns : (w : Spot) (t : ℕ) → w.level ≡ 1 → w.kind ≡ 0x0005 → Turns w t (fate_of w t)
unfolding fate_of in_globals
turns w t level kind =
    pick_by (Turns w t) (eqb t 0x003C)
    (λ i. let c = eqb-true t 0x003C i in pick_by (Turns w t) w.gone (λ _. inl c) (λ g. ((λ _. g), (λ j. omega arith), (λ j. omega arith))))
    (λ i. pick_by (Turns w t) (eqb w.level 1)
    (λ _. pick_by (Turns w t) (eqb w.kind 0x0005)
    (λ _. pick_by (Turns w t) (eqb t 0x00FF) (λ j. inr (eqb-true t 0x00FF j))
    (λ _. pick_by (Turns w t) (eqb t 0x00FC) (λ j. eqb-true t 0x00FC j)
    (λ j. pick_by (Turns w t) (eqb t 0x0085) (λ l. eqb-true t 0x0085 l)
    (λ l. ((λ c. absurd (eqb-false t 0x003C i c)), eqb-false t 0x0085 l, eqb-false t 0x00FC j)))))
    (λ j. absurd (eqb-false w.kind 0x0005 j kind)))
    (λ j. absurd (eqb-false w.level 1 j level)))

-- ---- what the walk makes of it
module _ (s : List ℕ) (v : Globals) (t z e : ℕ) where
  pub sheet_step : t ≡ 0x0085 → record_in s v t z e ≡ boundsheet_record s v z e
  unfolding record_in pick
  sheet_step h = rw h refl

  pub sst_step : t ≡ 0x00FC → record_in s v t z e ≡ sst_record s v e
  unfolding record_in pick
  sst_step h = rw h refl

  pub eof_step : t ≡ 0x000A → record_in s v t z e ≡ eof_record v z e
  unfolding record_in pick
  eof_step h = rw h refl

  pub extsst_step : t ≡ 0x00FF → record_in s v t z e ≡ Ok (More (past v false e))
  unfolding record_in pick
  extsst_step h = rw h refl

  pub continue_step : t ≡ 0x003C → record_in s v t z e ≡ continue_record v e
  unfolding record_in pick
  continue_step h = rw h refl

-- two choices by one test are related where their sides are
pick_two : {A B : Type 0} (R : A → B → Type 0) (b : Bool) {x y : A} {x' y' : B} → (b ≡ true → R x x') → (b ≡ false → R y y') → R (pick b x y) (pick b x' y')
unfolding pick
pick_two R true f g = f refl
pick_two R false f g = g refl

-- any other is passed over, or refused: in another stream too
module _ (s s' : List ℕ) (v v' : Globals) (t z e e' : ℕ) where
  abbrev pub Both : Result Step Refusal → Result Step Refusal → Type 0
  Both (Ok (More w)) x = (w ≡ past v false e) × (x ≡ Ok (More (past v' false e')))
  Both (Ok (Close w)) x = ⊥
  Both (Err r) x = Unit {0}

  pub plain_both : (t ≡ 0x0085 → ⊥) → (t ≡ 0x00FC → ⊥) → (t ≡ 0x000A → ⊥) → (t ≡ 0x003C → v.orphan ≡ v'.orphan) → Both (record_in s v t z e) (record_in s' v' t z e')
  unfolding record_in bof_record continue_record
  plain_both a b c o =
      pick_two Both (eqb t 0x0085) (λ i. absurd (a (eqb-true t 0x0085 i)))
      (λ _. pick_two Both (eqb t 0x00FC) (λ i. absurd (b (eqb-true t 0x00FC i)))
      (λ _. pick_two Both (eqb t 0x002F) (λ _. tt)
      (λ _. pick_two Both (eqb t 0x0809) (λ _. pick_two Both (eqb z 16) (λ _. tt) (λ _. tt))
      (λ _. pick_two Both (eqb t 0x000A) (λ i. absurd (c (eqb-true t 0x000A i)))
      (λ _. pick_two Both (eqb t 0x003C)
      (λ i. subst (λ (b : Bool). Both (pick v.orphan (refuse 7 v.at) (Ok (More (past v false e)))) (pick b (refuse 7 v'.at) (Ok (More (past v' false e'))))) (o (eqb-true t 0x003C i)) (pick_two Both v.orphan (λ _. tt) (λ _. (refl, refl))))
      (λ _. (refl, refl)))))))

-- no BOF is passed over
bof_refused : (s : List ℕ) (v : Globals) (t z e : ℕ) (w : Globals) → t ≡ 0x0809 → record_in s v t z e ≡ Ok (More w) → ◌≡◌ {A = ℕ} 0 1
unfolding record_in bof_record pick
bof_refused s v t z e w c h = by (eqb z 16) (sym (rw c refl) ∙ h)
  where
    by : (b : Bool) → pick b (refuse 4 v.at) (refuse 6 v.at) ≡ Ok (More w) → ◌≡◌ {A = ℕ} 0 1
    by true i = cc
    by false i = cc

pub bof_not : (s : List ℕ) (v : Globals) (t z e : ℕ) (w : Globals) → record_in s v t z e ≡ Ok (More w) → t ≡ 0x0809 → ⊥
bof_not s v t z e w h c = let x = bof_refused s v t z e w c h in omega arith

-- ---- the sheets
module _ (s : List ℕ) (p t z e : ℕ) (h : header_at s p ≡ Record t z e) where
  pub skip_sheets : (t ≡ 0x0085 → ⊥) → (t ≡ 0x000A → ⊥) → sheets_from s p ≡ sheets_from s e
  unfolding bound_at
  skip_sheets a b = sheets_skip s p (bound.Other e) (pick_ne _ _ _ t 0x0085 a (pick_ne _ _ _ t 0x000A b refl) ∙ sym (ap (on_bound s p) h)) e refl

  pub end_sheets : t ≡ 0x000A → sheets_from s p ≡ []
  unfolding bound_at
  end_sheets a = sheets_done s p bound.Done (pick_ne _ _ _ t 0x0085 (λ b. omega arith) (pick_eq _ _ _ t 0x000A a refl) ∙ sym (ap (on_bound s p) h)) refl

  pub some_sheets : t ≡ 0x0085 → 8 ≤ z → sheets_from s p ≡ record { header = p; position = u32_at s (p + 4); kind = type_kind (byte_at s (p + 9)) } ∷ sheets_from s e
  unfolding bound_at sheet_at
  some_sheets a l = sheets_more s p (bound.Sheet (sheet_at s p e)) (pick_eq _ _ _ t 0x0085 a (pick_nlt _ _ _ z 8 l refl) ∙ sym (ap (on_bound s p) h)) (sheet_at s p e) refl

-- over CONTINUEs
pub row_sheets : (s : List ℕ) {x y : ℕ} → Row s x y → sheets_from s x ≡ sheets_from s y
row_sheets s here = refl
row_sheets s (on {x = x} {e = e} h r) = skip_sheets s x 0x003C h.size e h.is (λ i. omega arith) (λ i. omega arith) ∙ row_sheets s r

-- ---- a BOUNDSHEET with another position
pub fits_moved : (s t : List ℕ) (p q z : ℕ) → ((k : ℕ) → k < 4 + z → 8 ≤ k → get_or (drop p s) k 0 ≡ get_or (drop q t) k 0) → boundsheet_fits s p z ≡ boundsheet_fits t q z
unfolding boundsheet_fits
fits_moved s t p q z same =
    pick_same (ltb z 8) _ _ _ _ (λ _. refl)
    (λ i. let l = ltb-false z 8 i in rw (byte 9 (omega arith) (omega arith), byte 10 (omega arith) (omega arith), byte 11 (omega arith) (omega arith)) refl)
  where
    byte : (k : ℕ) → k < 4 + z → 8 ≤ k → byte_at s (p + k) ≡ byte_at t (q + k)
    byte k a b = sym (get_or-drop p s k 0) ∙ same k a b ∙ get_or-drop q t k 0

pub fits_long : (s : List ℕ) (p z : ℕ) → boundsheet_fits s p z ≡ true → 8 ≤ z
unfolding boundsheet_fits
fits_long s p z h = pick_by (λ (b : Bool). b ≡ true → 8 ≤ z) (ltb z 8) (λ _ i. never (cc)) (λ i _. ltb-false z 8 i) h
