-- The laws that the functions' proofs cite. Assumes nothing.
use Prim.Native.Nat.{ℕ, suc, ◌+◌, ◌-◌, ◌*◌, ◌/◌, ◌%◌, ◌^◌, ◌≤◌}
use mathlib.Core.Path.{◌≡◌, refl, sym, ap, ap₂, ◌∙◌}
use mathlib.Core.List.{List}
use mathlib.Core.Bool.{true, false}
use native.Mathlib.Omega.{arith}
use native.Mathlib.Nat.{suc-mul, le-div_iff_mul-le}
use lib.ListN.{length}
use lib.Dec.{eqb}
use borrow.Author.Tests.{eqb-false}
use Rattle.steps.proofs.Choice.{pick_any, pick_by, pick_eq, pick_ne}
use Rattle.byte_numbers.specs.Bytes.{byte_at, u16_at}
use Rattle.record.specs.declared.Header.TheVariants.{Record}
use Rattle.record.specs.Record.{header_at}
use Rattle.record.proofs.Laws.{whole}
use Rattle.segments.specs.declared.Cursor.{Cursor}
use Rattle.segments.specs.Segments.{Got, got, refused, then, on, continues, filled, need, width_of, items}
use Rattle.segments.specs.Parts.{Inside, ends}
use Rattle.segments.proofs.Local.{filled_got}
use Rattle.segments.proofs.Laws.{skip_all}
use Rattle.value.specs.declared.FormulaResult.{FormulaResult}
use Rattle.number.specs.Float64.{is_nan_bits}
use Rattle.value.specs.Value.{result_of, marked_result, result_number}
use Rattle.text_result.specs.TextResult.{is_text, start_size, string_at}
use Rattle.text_result.specs.Parts.{at_end}
use Rattle.text_result.proofs.Local.{string_starts}

-- ---- a formula's stored result
pub text_number : (n : ℕ) → (n / 2 ^ 48 ≡ 0xFFFF → ⊥) → false ≡ is_text (result_of n)
unfolding result_of result_number
text_number n h = pick_any (λ (r : FormulaResult). false ≡ is_text r) (is_nan_bits n) refl refl ∙ ap is_text (pick_ne (result_number n) _ _ (n / 2 ^ 48) 0xFFFF h refl)

pub text_marked : (n : ℕ) → n / 2 ^ 48 ≡ 0xFFFF → eqb (n % 256) 0 ≡ is_text (result_of n)
unfolding result_of marked_result
text_marked n h =
    pick_by (λ (r : FormulaResult). eqb (n % 256) 0 ≡ is_text r) (eqb (n % 256) 0) (λ q. q)
    (λ q. pick_any (λ (r : FormulaResult). eqb (n % 256) 0 ≡ is_text r) _ q (pick_any (λ (r : FormulaResult). eqb (n % 256) 0 ≡ is_text r) _ q q))
    ∙ ap is_text (pick_eq (marked_result (n % 256) (n / 2 ^ 16 % 256)) _ _ (n / 2 ^ 48) 0xFFFF h refl)

pub ruleset text_laws = (text_number, text_marked)

-- ---- a record that stands whole
pub record_within : (s : List ℕ) (p k z e : ℕ) → header_at s p ≡ Record k z e → (e ≡ p + 4 + z) × (e ≤ length s)
record_within s p k z e h = let w = whole s p k z e h in (omega arith, omega arith)

pub body_inside : (s : List ℕ) (p k z e : ℕ) → header_at s p ≡ Record k z e → Inside s (record { seg = p; at = p + 4; end = e })
body_inside s p k z e h = let w = whole s p k z e h in (omega arith, omega arith)

-- ---- past a string
ends_whole : {A : Type 0} (x : Got A) (k : Cursor → Got Unit) → ends (then x (λ a d. then (k d) (λ _ i. got a i))) ≡ then (ends x) (λ _ d. k d)
ends_whole (got a d) k = by (k d)
  where
    by : (y : Got Unit) → ends (then y (λ _ i. got a i)) ≡ y
    by (got u i) = refl
    by (refused n o) = refl
ends_whole (refused n o) k = refl

pub string_ends : (s : List ℕ) (c : Cursor) → ends (string_at s c)
    ≡ then (need 6 (start_size s c.at) c) (λ _ d. then (ends (items 6 s true (width_of (byte_at s (d.at + 2))) (u16_at s d.at) (on d 3))) (λ _ e. filled 6 s e))
unfolding string_at
string_ends s c = by (need 6 (start_size s c.at) c)
  where
    by : (x : Got ℕ) → ends (then x (λ _ d. then (items 6 s true (width_of (byte_at s (d.at + 2))) (u16_at s d.at) (on d 3)) (λ us e. then (filled 6 s e) (λ _ i. got us i))))
        ≡ then x (λ _ d. then (ends (items 6 s true (width_of (byte_at s (d.at + 2))) (u16_at s d.at) (on d 3))) (λ _ e. filled 6 s e))
    by (got v d) = ends_whole (items 6 s true (width_of (byte_at s (d.at + 2))) (u16_at s d.at) (on d 3)) (filled 6 s)
    by (refused n o) = refl

-- ---- a plain string, of n characters of w bytes
module _ (s : List ℕ) (c : Cursor) (n w : ℕ) (n-is : n ≡ u16_at s c.at) (w-is : w ≡ width_of (byte_at s (c.at + 2))) (fits : c.end - c.at ≡ 3 + n * w) where
  plain_start : start_size s c.at ≤ c.end - c.at
  unfolding start_size
  plain_start =
      pick_by (λ (k : ℕ). k ≤ c.end - c.at) (eqb (u16_at s c.at) 0) (λ _. omega arith)
      (λ q. some (eqb-false (u16_at s c.at) 0 q))
    where
      some : (u16_at s c.at ≡ 0 → ⊥) → 3 + width_of (byte_at s (c.at + 2)) ≤ c.end - c.at
      some o =
          let i : n ≡ 0 → ⊥ = λ h. o (sym n-is ∙ h) in
          let j : n ≡ suc (n - 1) = omega arith in
          let k : n * w ≡ (n - 1) * w + w = ap (λ (a : ℕ). a * w) j ∙ suc-mul (n - 1) w in
          omega arith

  abbrev last : Cursor
  last = record { seg = c.seg; at = c.end; end = c.end }

  plain_chars : got tt last ≡ ends (items 6 s true w n (on c 3))
  plain_chars =
      let some : 1 ≤ w = omega arith in
      let all : n ≤ (c.end - (c.at + 3)) / w = (le-div_iff_mul-le {k = w} {x = n} {y = c.end - (c.at + 3)} some).1 (omega arith) in
      let at : c.end ≡ c.at + 3 + n * w = omega arith in
      ap (λ (k : ℕ). got tt (record { seg = c.seg; at = k; end = c.end })) at ∙ skip_all s w n (on c 3) ((c.end - (c.at + 3)) / w) refl all 6 true some

  pub plain_there : continues s c.end ≡ false → at_end c ≡ ends (string_at s c)
  plain_there alone =
      sym (ap ends (string_starts s c plain_start) ∙ ends_whole (items 6 s true (width_of (byte_at s (c.at + 2))) (u16_at s c.at) (on c 3)) (filled 6 s)
      ∙ ap₂ (λ (a b : ℕ). then (ends (items 6 s true a b (on c 3))) (λ _ e. filled 6 s e)) (sym w-is) (sym n-is)
      ∙ ap (λ (x : Got Unit). then x (λ _ e. filled 6 s e)) (sym plain_chars) ∙ filled_got 6 s last refl alone)
