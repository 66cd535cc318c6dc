-- Two technicians and one journal: it keeps both entries, in the order made. Assumes nothing.
use Prim.Native.Nat.{ℕ, ◌+◌, ◌^◌, ◌≤◌, ◌<◌}
use mathlib.Core.Path.{◌≡◌, refl, sym, ap, ◌∙◌}
use mathlib.Core.List.{List}
use mathlib.Core.Bool.{Bool, true, false}
use mathlib.Core.Logic.{◌⊎◌, inl, inr}
use native.Mathlib.Omega.{arith}
use lib.ListN.{length}
use lib.Dec.{eqb}
use Rattle.steps.specs.Choice.{pick}
use Rattle.steps.proofs.Choice.{pick_true}
use Rattle.byte_numbers.specs.Bytes.{num_at}
use Rattle.value.specs.declared.Field.{Field}
use Rattle.value.specs.Value.{width_of}
use Rattle.cell.specs.declared.Cell.{Cell}
use Rattle.new_value.specs.declared.NewValue.{NewValue}
use Rattle.globals.specs.declared.Globals.{Globals}
use Rattle.workbook.specs.Check.{on_checked}
use Rattle.correction.specs.declared.Aim.{Aim}
use Rattle.refusal.specs.declared.Refusal.{Refusal}
use Rattle.refusal.specs.Refused.{refuse}
use Rattle.std.specs.Prelude.{Result, Ok, Err}
use Rattle.correction.specs.Parts.{aim_in}
use Rattle.correction.specs.Correction.{refuses, writes, correction_in, correction_of, stream_after}
use Rattle.passes_after.proofs.Stored.{number_now}
use Rattle.either_order.specs.Apart.{Asked, outcome, Elsewhere, OneCell}
use Rattle.either_order.proofs.Apart.{as_alone, fields_apart, same_cell}
use Rattle.passes_after.specs.Granted.{Granted}
use Rattle.passes_after.proofs.Granted.{granted}
use Rattle.passes_after.proofs.Upheld.{stored}
use Rattle.journal_claims.proofs.Aims.{aimed_correction}
use Rattle.journal.specs.declared.Entry.{Entry}
use Rattle.journal.specs.Entries.{count_in, entry_at, entry_in, journal_fits, room_for}
use Rattle.journal.specs.Journal.{on_room, spot_in, on_spot, journalled_in, journalled_of, entry_of}
use Rattle.journal_claims.specs.Replayed.{Bytes, Sent, journalled, journal_next, Since, asked, AsUnjournalled, Both, BothLogged, SecondLogged, entry_with, Logs}
use Rattle.journal_claims.proofs.Places.{formed_fits, put_else}
use Rattle.journal_claims.proofs.Trip.{Keeping, keeping, logged_each}

-- ---- with room, as without a journal
room_same : (v : NewValue) (r : Bool) (a : Result Aim Refusal) → r ≡ true → on_spot v (on_room r a) ≡ on_spot v a
unfolding pick
room_same v r (Err e) h = rw h (many (eqb e.number 16))
  where
    many : (c : Bool) → on_spot v (pick c (Err e) (Err e)) ≡ refuses e.number e.offset
    many true = refl
    many false = refl
room_same v r (Ok x) h = rw h refl

module _ {u t : ℕ} {s₀ s j : List ℕ} (k : Keeping u t s₀ s j) (room : room_for j ≡ true) (x : Asked) where
  fits_now : journal_fits j (length s) k.globals.unique ≡ true
  fits_now = formed_fits j (length s) k.globals.unique k.formed

  abbrev here : Result Aim Refusal
  here = aim_in s k.globals.unique t x.sheet x.row x.column

  pub unjournalled : journalled s u t j x ≡ outcome s u t x
  unfolding journalled_of journalled_in spot_in correction_of
  unjournalled =
      ap (on_checked refuses (λ (g : Globals). on_spot x.value (pick (journal_fits j (length s) g.unique) (on_room (room_for j) (aim_in s g.unique t x.sheet x.row x.column)) (refuse 21 0)))) k.now
      ∙ ap (on_spot x.value) (sym (pick_true (on_room (room_for j) here) _ (refuse 21 0) (journal_fits j (length s) k.globals.unique) fits_now refl))
      ∙ room_same x.value (room_for j) here room
      ∙ aimed_correction s k.globals.unique t x.sheet x.row x.column x.value
      ∙ sym (ap (on_checked refuses (λ (g : Globals). correction_in s g.unique t x.sheet x.row x.column x.value)) k.now)

pub as_unjournalled : AsUnjournalled
as_unjournalled u t s₀ j₀ s j lent bytes since room x = unjournalled (keeping u t s₀ j₀ lent bytes since) room x

-- ---- both entries
module _ (u t : ℕ) (s₀ j₀ s j : List ℕ) (lent : u < 2 ^ 32) (bytes : Bytes s₀) (since : Since u t s₀ j₀ s j) (x y : Asked) (sx : Sent x) (sy : Sent y)
    (room : room_for j ≡ true) (more : room_for (journal_next s u t j x) ≡ true) (f k : Field) (p q b a : ℕ) (hx : outcome s u t x ≡ writes f p b) (hy : outcome s u t y ≡ writes k q a) where
  abbrev s₁ : List ℕ
  s₁ = stream_after s (journalled s u t j x)

  abbrev j₁ : List ℕ
  j₁ = journal_next s u t j x

  since₁ : Since u t s₀ j₀ s₁ j₁
  since₁ = asked since x sx

  first_is : journalled s u t j x ≡ writes f p b
  first_is = unjournalled (keeping u t s₀ j₀ lent bytes since) room x ∙ hx

  stream_is : s₁ ≡ stream_after s (outcome s u t x)
  stream_is = ap (stream_after s) (unjournalled (keeping u t s₀ j₀ lent bytes since) room x)

  second_is : journalled s₁ u t j₁ y ≡ writes k q a
  second_is = unjournalled (keeping u t s₀ j₀ lent bytes since₁) more y ∙ ap (λ (z : List ℕ). outcome z u t y) stream_is ∙ as_alone s u t x y sx.1 ∙ hy

  one : Logs s j j₁ x f p
  one = logged_each u t s₀ j₀ s j lent bytes since x sx f p b first_is

  two : Logs s₁ j₁ (journal_next s₁ u t j₁ y) y k q
  two = logged_each u t s₀ j₀ s₁ j₁ lent bytes since₁ y sy k q a second_is

  pub both_by : (e : Entry) → entry_of s₁ y.sheet y.row y.column y.value k q ≡ e → Both s j u t x y (entry_of s x.sheet x.row x.column x.value f p) e
  both_by e h =
      let c = one.count in
      let d = two.count in
      record {
        count = omega arith;
        one = two.before (count_in j) (omega arith) ∙ one.entry;
        two = ap (λ (n : ℕ). entry_in (journal_next s₁ u t j₁ y) (entry_at n)) (sym c) ∙ two.entry ∙ h;
      }

  -- the stream that the second finds
  found_is : s₁ ≡ stream_after s (writes f p b)
  found_is = ap (stream_after s) first_is

  wx : Granted s u x.sheet x.row x.column x.value f p b
  wx = granted s u t x.sheet x.row x.column x.value f p b hx

  wy : Granted s u y.sheet y.row y.column y.value k q a
  wy = granted s u t y.sheet y.row y.column y.value k q a hy

  pub both_apart : Elsewhere x y → Both s j u t x y (entry_of s x.sheet x.row x.column x.value f p) (entry_of s y.sheet y.row y.column y.value k q)
  both_apart else =
      both_by (entry_of s y.sheet y.row y.column y.value k q)
      (ap (entry_with y k) (ap (λ (z : List ℕ). num_at z (width_of k) q) found_is ∙ put_else s p (width_of f) b (width_of k) q (turned (fields_apart s u x y else wx wy))))
    where
      turned : (p + width_of f ≤ q) ⊎ (q + width_of k ≤ p) → (q + width_of k ≤ p) ⊎ (p + width_of f ≤ q)
      turned (inl l) = inr l
      turned (inr l) = inl l

  pub both_one : OneCell x y → Both s j u t x y (entry_of s x.sheet x.row x.column x.value f p) (entry_with y f b)
  both_one cell =
      let r = same_cell s u x y cell wx wy in
      let d : k ≡ f = sym wy.kind ∙ ap (λ (c : Cell). c.kind) (sym r) ∙ wx.kind in
      let e : q ≡ p = sym wy.field ∙ ap (λ (c : Cell). c.field) (sym r) ∙ wx.field in
      both_by (entry_with y f b)
      ((λ i. entry_of s₁ y.sheet y.row y.column y.value (d i) (e i)) ∙ ap (entry_with y f) (ap (λ (z : List ℕ). num_at z (width_of f) p) found_is ∙ number_now (stored s u x.sheet x.row x.column x.value f p b sx.1 wx).placed))

pub both_logged : BothLogged
both_logged u t s₀ j₀ s j lent bytes since x y sx sy else room more f k p q b a hx hy = both_apart u t s₀ j₀ s j lent bytes since x y sx sy room more f k p q b a hx hy else

pub second_logged : SecondLogged
second_logged u t s₀ j₀ s j lent bytes since x y sx sy cell room more f k p q b a hx hy = both_one u t s₀ j₀ s j lent bytes since x y sx sy room more f k p q b a hx hy cell
