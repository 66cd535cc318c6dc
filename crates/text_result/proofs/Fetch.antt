-- The laws of a fetch, with their premises as the calls give them. Assumes nothing.
use Prim.Native.Nat.{ℕ, ◌+◌, ◌-◌, ◌≤◌, ◌<◌}
use mathlib.Core.Path.{◌≡◌, refl, sym, ap, ap₂, ◌∙◌, subst, subst⁻¹}
use mathlib.Core.List.{List, [], ◌++◌}
use mathlib.Core.Bool.{true}
use Rattle.std.specs.Prelude.{Ok}
use native.Mathlib.Omega.{arith}
use native.Mathlib.Nat.{zero-add}
use lib.ListN.{length, drop}
use lib.Seq.{sets, sets-eq}
use Rattle.steps.proofs.Choice.{pick_any, pick_lt, pick_nlt}
use Rattle.byte_numbers.specs.Bytes.{byte_at, u16_at}
use Rattle.segments.specs.declared.Cursor.{Cursor}
use Rattle.segments.specs.Segments.{Got, got, refused, list_of, on, width_of, items}
use Rattle.segments.specs.Parts.{Passes, stored}
use Rattle.segments.proofs.Laws.{Count, count_items}
use Rattle.refusal.specs.Refused.{refuse}
use Rattle.strings.specs.Table.{fetched_of, buffer_of}
use Rattle.text_result.specs.TextResult.{start_size, string_at}
use Rattle.text_result.proofs.Local.{start_size_low, right}

-- ---- no units
pub none_units : (n : ℕ) → Ok 0 ≡ fetched_of n []
unfolding fetched_of
none_units n = pick_nlt (Ok 0) _ _ n 0 (omega arith) refl

pub none_buffer : (b : List ℕ) → b ≡ buffer_of b []
unfolding buffer_of
none_buffer b = pick_any (λ (l : List ℕ). b ≡ l) _ refl refl

-- ---- a string of which nothing is refused: c is where it stands
pub record Chars (s : List ℕ) (c : Cursor) (us : List ℕ) : Type 0 where
  pub start : start_size s c.at ≤ c.end - c.at
  pub passes : Passes (items 6 s true (width_of (byte_at s (c.at + 2))) (u16_at s c.at) (on c 3))
  pub are : list_of (items 6 s true (width_of (byte_at s (c.at + 2))) (u16_at s c.at) (on c 3)) ≡ us
  pub count : length us ≡ u16_at s c.at

chars_by : (s : List ℕ) (c : Cursor) (x : Got (List ℕ)) → string_at s c ≡ x → Passes x → Chars s c (list_of x)
chars_by s c (got us d) q p =
    let r = right s c us d q in
    record {
      start = r.start;
      passes = subst⁻¹ Passes r.read tt;
      are = ap list_of r.read;
      count = subst (Count (u16_at s c.at)) r.read (count_items 6 s true (width_of (byte_at s (c.at + 2))) (u16_at s c.at) (on c 3));
    }
chars_by s c (refused n o) q p = absurd p

module _ (s : List ℕ) (c : Cursor) (passes : Passes (string_at s c)) where
  pub chars : Chars s c (list_of (string_at s c))
  chars = chars_by s c (string_at s c) refl passes

  pub text_long : (string_at s c ≡ string_at s c) × (3 ≤ c.end - c.at)
  text_long = (refl, (let l = start_size_low s c.at in let i = chars.start in omega arith))

  pub short_not : c.end - c.at < 3 → ⊥
  short_not h = let l = start_size_low s c.at in let i = chars.start in omega arith

  module _ (n : ℕ) (n-is : n ≡ u16_at s c.at) where
    pub copied_passes : (w : ℕ) → w ≡ width_of (byte_at s (c.at + 2)) → Passes (items 6 s true w n (on c 3))
    copied_passes w w-is = subst⁻¹ Passes (ap₂ (λ (a b : ℕ). items 6 s true a b (on c 3)) w-is n-is) chars.passes

    count_is : length (list_of (string_at s c)) ≡ n
    count_is = chars.count ∙ sym n-is

    pub copied_short : (m : ℕ) → m < n → refuse 12 0 ≡ fetched_of m (list_of (string_at s c))
    unfolding fetched_of
    copied_short m l = let k : m < length (list_of (string_at s c)) = omega (arith, count_is) in pick_lt (refuse 12 0) (refuse 12 0) _ _ _ k refl

    pub copied_units : (m : ℕ) → n ≤ m → Ok n ≡ fetched_of m (list_of (string_at s c))
    unfolding fetched_of
    copied_units m l = let k : length (list_of (string_at s c)) ≤ m = omega (arith, count_is) in pick_nlt (Ok n) _ (Ok (length (list_of (string_at s c)))) _ _ k (ap Ok (sym count_is))

    pub buffer_short : (b : List ℕ) → length b < n → b ≡ buffer_of b (list_of (string_at s c))
    unfolding buffer_of
    buffer_short b l = let k : length b < length (list_of (string_at s c)) = omega (arith, count_is) in pick_lt b b _ _ _ k refl

    pub buffer_units : (w : ℕ) (b b' : List ℕ) → w ≡ width_of (byte_at s (c.at + 2)) → n ≤ length b → b' ≡ stored b 0 (list_of (items 6 s true w n (on c 3))) → b' ≡ buffer_of b (list_of (string_at s c))
    unfolding buffer_of stored
    buffer_units w b b' w-is l e =
        let us = list_of (string_at s c) in
        let k : length us ≤ length b = omega (arith, count_is) in
        let a : list_of (items 6 s true w n (on c 3)) ≡ us = ap₂ (λ (a b : ℕ). list_of (items 6 s true a b (on c 3))) w-is n-is ∙ chars.are in
        pick_nlt b' b _ _ _ k (e ∙ ap (sets b 0) a ∙ sets-eq us b 0 (omega (arith, count_is)) ∙ ap (λ (k : ℕ). us ++ drop k b) (zero-add (length us)))

pub ruleset copy_laws = (copied_short, copied_units, buffer_short, buffer_units)
