-- The laws of `header_at`: the end, what a whole record says, and that it depends on its four bytes and the stream's length alone.
-- Assumes nothing.
use Prim.Native.Nat.{ℕ, ◌+◌, ◌-◌, ◌≤◌}
use mathlib.Core.Path.{◌≡◌, refl, sym, ap, ◌∙◌}
use mathlib.Core.List.{List}
use native.Mathlib.Omega.{arith}
use lib.ListN.{length}
use borrow.Author.Tests.{le-ltb, le-leb, lt-leb}
use Rattle.std.proofs.lemmas.Grind.{common_steps}
use Rattle.steps.specs.Choice.{pick}
use Rattle.byte_numbers.specs.Bytes.{u16_at}
use Rattle.byte_numbers.proofs.Laws.{Same, num_same}
use Rattle.record.specs.declared.Header.{Header}
use Rattle.record.specs.declared.Header.TheVariants.{Record, End}
use Rattle.record.specs.Record.{header_at}

-- ---- the end, and a whole record; z and w are its size, as calls gave it
module _ (s : List ℕ) (at : ℕ) where
  pub header_end : length s ≤ at → End ≡ header_at s at
  unfolding header_at pick
  header_end h = simp (le-leb _ _ h)

  module _ (z w : ℕ) (is : z ≡ u16_at s (at + 2)) (same : w ≡ z) (h : 4 ≤ length s - at) where
    pub header_whole : (k : ℕ) → k ≡ u16_at s at → w ≤ 8224 → w ≤ length s - (at + 4) → Record k w (at + 4 + w) ≡ header_at s at
    unfolding header_at pick
    header_whole k p i j =
        let e : w ≡ u16_at s (at + 2) = same ∙ is in
        simp (lt-leb (length s) at (omega arith), le-ltb (length s - at) 4 (omega arith), le-ltb 8224 (u16_at s (at + 2)) (omega arith), le-ltb (length s - (at + 4)) (u16_at s (at + 2)) (omega arith)) (λ i. Record (p i) (e i) (at + 4 + e i))

-- ---- what a whole record says
pub record Whole (s : List ℕ) (at k z e : ℕ) : Type 0 where
  pub kind : k ≡ u16_at s at
  pub size : z ≡ u16_at s (at + 2)
  pub end : e ≡ at + 4 + z
  pub low : at + 4 ≤ length s
  pub small : z ≤ 8224
  pub within : e ≤ length s

module _ (s : List ℕ) (at k z e : ℕ) where
  pub whole : header_at s at ≡ Record k z e → Whole s at k z e
  unfolding header_at pick
  whole h = record { kind = grind (arith, common_steps); size = grind (arith, common_steps); end = grind (arith, common_steps); low = grind (arith, common_steps); small = grind (arith, common_steps); within = grind (arith, common_steps) }

  -- the body of a record that a call gave, r
  pub body_within : {r : Header} → r ≡ header_at s at → r ≡ Record k z e → at + 4 + z ≤ length s
  body_within is h = let w : Whole s at k z e = whole (sym is ∙ h) in omega arith

  pub end_within : {r : Header} → r ≡ header_at s at → r ≡ Record k z e → e ≤ length s
  end_within is h = (whole (sym is ∙ h)).within

  pub body_end : {r : Header} → r ≡ header_at s at → r ≡ Record k z e → e ≡ at + 4 + z
  body_end is h = (whole (sym is ∙ h)).end

-- ---- two streams of one length that have the same header
module _ (s s' : List ℕ) (len : length s ≡ length s') (at : ℕ) where
  pub header_same : Same s s' at (at + 4) → header_at s at ≡ header_at s' at
  unfolding header_at
  header_same h =
      let k : u16_at s at ≡ u16_at s' at = num_same s s' 2 at (λ j i l. h j (omega arith) (omega arith)) in
      let z : u16_at s (at + 2) ≡ u16_at s' (at + 2) = num_same s s' 2 (at + 2) (λ j i l. h j (omega arith) (omega arith)) in
      rw (len, k, z)

-- a whole record is the same in another stream that has its header and is as long
pub header_alike : (s s' : List ℕ) (at k z e : ℕ) → header_at s at ≡ Record k z e → Same s s' at (at + 4) → e ≤ length s' → header_at s' at ≡ Record k z e
header_alike s s' at k z e h same fits =
    let w = whole s at k z e h in
    let size : z ≡ u16_at s' (at + 2) = w.size ∙ num_same s s' 2 (at + 2) (λ j i l. same j (omega arith) (omega arith)) in
    let kind : k ≡ u16_at s' at = w.kind ∙ num_same s s' 2 at (λ j i l. same j (omega arith) (omega arith)) in
    sym (header_whole s' at z z size refl (omega arith) k kind w.small (omega arith)) ∙ ap (Record k z) (sym w.end)
