-- The laws of a journalled correction, with what a call gave as the proofs have it. Assumes nothing.
use Rattle.std.proofs.Common.{◌≡◌, ℕ, ◌≤◌, ◌<◌, List, Bool, true, false, Result, Ok, Err, ltb, ltb-false, eqb, length, refl, sym, ap, ◌∙◌, subst}
use Rattle.steps.specs.Choice.{pick}
use Rattle.steps.proofs.Choice.{never, pick_by, pick_any, pick_lt, pick_nlt, pick_ne}
use Rattle.refusal.specs.declared.Refusal.{Refusal}
use Rattle.refusal.specs.Refused.{refuse}
use Rattle.number.specs.Float64.{bits_of}
use Rattle.new_value.specs.declared.NewValue.{NewValue}
use Rattle.new_value.specs.declared.NewValue.TheVariants as value
use Rattle.correction.specs.declared.Aim.{Aim}
use Rattle.correction.specs.Parts.{aim_in, AimWithin}
use Rattle.journal.specs.Entries.{journal_fits, room_for}
use Rattle.journal.specs.EntryParts.{Room, RoomIf}
use Rattle.journal.specs.Journal.{declines, begins, start_in, on_room, spot_in, number_of}
use Rattle.journal.specs.Parts.{SpotWithin}

-- ---- starting
pub start_short : (q n : ℕ) → n < 16 → start_in q n ≡ declines 12 0
unfolding start_in
start_short q n l = sym (pick_lt (declines 12 0) (declines 12 0) (begins q) n 16 l refl)

pub start_long : (q n : ℕ) → 16 ≤ n → start_in q n ≡ begins q
unfolding start_in
start_long q n l = sym (pick_nlt (begins q) (declines 12 0) (begins q) n 16 l refl)

pub ruleset start_laws = (start_short, start_long)

-- ---- the one cell, and room
module _ (room : Bool) (a : Result Aim Refusal) where
  pub room_there : room ≡ true → a ≡ on_room room a
  unfolding pick
  room_there h = rw h (go a)
    where
      go : (x : Result Aim Refusal) → x ≡ on_room true x
      go (Ok y) = refl
      go (Err r) = pick_any (λ (x : Result Aim Refusal). Err r ≡ x) (eqb r.number 16) refl refl

  module _ (h : room ≡ false) where
    pub full_one : (x : Aim) → a ≡ Ok x → refuse 12 0 ≡ on_room room a
    unfolding pick
    full_one x e = rw (h, e) refl

    pub full_many : (r : Refusal) → a ≡ Err r → r.number ≡ 16 → refuse 12 0 ≡ on_room room a
    unfolding pick
    full_many r e i = rw (h, e, i) refl

    pub full_other : (r : Refusal) → a ≡ Err r → (r.number ≡ 16 → ⊥) → Err r ≡ on_room room a
    full_other r e i = rw e (pick_ne _ _ _ r.number 16 i refl)

pub ruleset room_laws = (room_there, full_one, full_many, full_other)

-- ---- the spot
fits_long : (j : List ℕ) (len unique : ℕ) → journal_fits j len unique ≡ true → 16 ≤ length j
unfolding journal_fits
fits_long j len unique = pick_by (λ (b : Bool). b ≡ true → 16 ≤ length j) (ltb (length j) 16) (λ _ e. never (cc)) (λ i _. ltb-false (length j) 16 i)

at_within : (s j : List ℕ) (room : Bool) (a : Result Aim Refusal) → AimWithin (length s) a → (room ≡ true → Room j) → SpotWithin s j (on_room room a)
at_within s j room (Ok a) w r = pick_by (SpotWithin s j) room (λ h. (w, r h)) (λ _. tt)
at_within s j room (Err e) w r = pick_any (SpotWithin s j) (eqb e.number 16) (pick_any (SpotWithin s j) room tt tt) tt

module _ (s j : List ℕ) (q t n row column : ℕ) (b : Bool) (b-is : b ≡ journal_fits j (length s) q) where
  pub spot_bad : b ≡ false → refuse 21 0 ≡ spot_in s q t j n row column
  unfolding spot_in pick
  spot_bad i = rw (← b-is, i) refl

  module _ (i : b ≡ true) where
    pub spot_room : 16 ≤ length j
    spot_room = fits_long j (length s) q (sym b-is ∙ i)

    module _ (a : Result Aim Refusal) (a-is : a ≡ aim_in s q t n row column) (m : Bool) (m-is : m ≡ room_for j) (x : Result Aim Refusal) (x-is : x ≡ on_room m a) where
      pub spot_there : x ≡ spot_in s q t j n row column
      unfolding spot_in pick
      spot_there = rw (← b-is, i, ← m-is, ← a-is) x-is

      pub spot_within : AimWithin (length s) a → RoomIf j m → SpotWithin s j x
      spot_within w room = subst (SpotWithin s j) (sym x-is) (at_within s j m a w (λ e. let k : RoomIf j true = subst (RoomIf j) e room in k))

pub ruleset spot_laws = (spot_bad, spot_room, spot_there, spot_within)

pub number_float : (v : NewValue) (x : _) {r : ℕ} → v ≡ value.Number x → r ≡ bits_of x → r ≡ number_of v
number_float v x h e = e ∙ ap number_of (sym h)
