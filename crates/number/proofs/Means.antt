-- A word that packing gives is undivided and means exactly the f64 with the bits b; and where it gives none, no undivided word means it. Assumes nothing.
use mathlib.Core.Path.{◌≡◌, refl, sym, ap, ◌∙◌}
use mathlib.Core.Bool.{Bool, true, false, ◌&&◌}
use Prim.Native.Nat.{ℕ, ◌+◌, ◌-◌, ◌*◌, ◌/◌, ◌%◌, ◌^◌, ◌≤◌, ◌<◌}
use native.Mathlib.Nat.{div-add-mod', add-zero, zero-mul, mul-div_cancel, mul-mod_left, pos_of_ne-zero}
use native.Mathlib.Omega.{arith}
use mathlib.Core.Logic.{◌↔◌}
use lib.Dec.{leb, eqb}
use lib.Pow.{pow_pos}
use lib.Pow as Pow
use lib.Ieee.{binary64, of_bits}
use lib.Ieee.Exact.{HasValue}
use borrow.Author.Tests.{leb-true, leb-false, ltb-true, eqb-true, eqb-false, lt-leb, le-leb, lt-ltb, eq-eqb, ne_eqb}
use Rattle.steps.specs.Choice.{pick}
use Rattle.steps.proofs.Choice.{pick_by}
use Rattle.number.specs.Float64.{float_sign, float_size}
use Rattle.number.specs.Rk.{is_whole, whole_sign, whole_size, float_bits, rk_sign, rk_size, quotient_bits, rk_bits, means_nothing}
use Rattle.number.specs.Rounding.{rounded, signed}
use Rattle.number.specs.Packing.{Means, in_range, thirty_bits, whole_form, pack_of}
use Rattle.std.specs.Prelude.{Option, Some, None}
use Rattle.number.proofs.Units.{Finite, finite_value, size_rounded, units_some, one_value, value_finite}
use Rattle.number.proofs.Decoding.{undivided_value}
use Rattle.number.proofs.Packing.{whole_word}

word_never : {A : Type 0} (w : ℕ) → Some w ≡ None → A
word_never w e = absurd (let z : ◌≡◌ {A = ℕ} 0 1 = cc in omega arith)

undivided_bits : (w : ℕ) → w % 2 ≡ 0 → rk_bits w ≡ quotient_bits w 1
unfolding rk_bits pick
undivided_bits w h = rw (ne_eqb (w % 2) 1 (λ e. omega arith))

float_bits_lem : (w : ℕ) → w < 2 ^ 32 → is_whole w ≡ false → quotient_bits w 1 ≡ float_bits (w / 4)
unfolding quotient_bits rk_sign rk_size pick
float_bits_lem w f e = rw e (size_rounded (float_bits (w / 4)) (omega arith))

float_means : (b : ℕ) → b < 2 ^ 64 → (b / 2 ^ 52 % 2 ^ 11 ≡ 2047 → ⊥) → b % 2 ^ 34 ≡ 0 → Means (b / 2 ^ 32) b
unfolding means_nothing
float_means b f h g =
    let e : is_whole (b / 2 ^ 32) ≡ false = ne_eqb (b / 2 ^ 32 / 2 % 2) 1 (λ k. omega arith) in
    let l : b / 2 ^ 32 < 2 ^ 32 = omega arith in
    let p : b / 2 ^ 32 % 2 ≡ 0 = omega arith in record {
      fits = l;
      undivided = p;
      meant = rw e (ne_eqb (b / 2 ^ 32 / 2 ^ 20 % 2 ^ 11) 2047 (λ k. h (sym (ap (λ (n : ℕ). n % 2 ^ 11) (Pow.shr-shr b 32 20)) ∙ k)));
      bits = undivided_bits (b / 2 ^ 32) p ∙ float_bits_lem (b / 2 ^ 32) l e ∙ omega arith;
    }

-- the 30 bits of a whole number have its sign and its size
module _ (m : ℕ) (p : 1 ≤ m) where
  thirty_lt : (s : Bool) → in_range s m ≡ true → thirty_bits s m < 2 ^ 30
  unfolding pick
  thirty_lt true r = omega arith
  thirty_lt false r = omega (arith, ltb-true m (2 ^ 29) r)

  thirty_sign : (s : Bool) → in_range s m ≡ true → whole_sign (thirty_bits s m) ≡ s
  unfolding pick
  thirty_sign true r = le-leb (2 ^ 29) (2 ^ 30 - m) (omega (arith, leb-true m (2 ^ 29) r))
  thirty_sign false r = lt-leb (2 ^ 29) m (ltb-true m (2 ^ 29) r)

  thirty_size : (s : Bool) → in_range s m ≡ true → whole_size (thirty_bits s m) ≡ m
  unfolding pick
  thirty_size true r = rw (thirty_sign true r) (omega (arith, leb-true m (2 ^ 29) r))
  thirty_size false r = rw (thirty_sign false r) refl

module _ (v : ℕ) where
  whole_bit : is_whole (v * 4 + 2) ≡ true
  whole_bit = eq-eqb ((v * 4 + 2) / 2 % 2) 1 (omega arith)

  whole_bits : rk_bits (v * 4 + 2) ≡ signed (whole_sign v) (rounded (whole_size v * 2 ^ 1074) 1)
  unfolding quotient_bits rk_sign rk_size pick
  whole_bits =
      let up : (v * 4 + 2) / 4 ≡ v = omega arith in
      undivided_bits (v * 4 + 2) (omega arith) ∙ rw (whole_bit, up)

whole_means : (b : ℕ) (s : Bool) (m : ℕ) → b < 2 ^ 64 → float_sign b ≡ s → float_size b ≡ m * 2 ^ 1074 → 1 ≤ m → in_range s m ≡ true → Means (thirty_bits s m * 4 + 2) b
unfolding means_nothing
whole_means b s m f p q o r = record {
  fits = omega (arith, thirty_lt m o s r);
  undivided = omega arith;
  meant = rw (whole_bit (thirty_bits s m));
  bits = whole_bits (thirty_bits s m) ∙ rw (thirty_size m o s r, thirty_sign m o s r, ← q, ← p) (size_rounded b f);
}

-- of a number whose lower 34 bits are not all zero
whole_form_means : (b w : ℕ) → b < 2 ^ 64 → (b % 2 ^ 34 ≡ 0 → ⊥) → whole_form b ≡ Some w → Means w b
unfolding whole_form pick
whole_form_means b w f g = go (eqb (float_size b % 2 ^ 1074) 0) (in_range (float_sign b) (float_size b / 2 ^ 1074)) refl refl
  where
    m : ℕ
    m = float_size b / 2 ^ 1074

    go : (z i : Bool) → eqb (float_size b % 2 ^ 1074) 0 ≡ z → in_range (float_sign b) m ≡ i → pick (z && i) (Some (thirty_bits (float_sign b) m * 4 + 2)) None ≡ Some w → Means w b
    go true true p q e =
        let n : float_size b ≡ m * 2 ^ 1074 = sym (div-add-mod' (float_size b) (2 ^ 1074)) ∙ rw (eqb-true (float_size b % 2 ^ 1074) 0 p, add-zero) in
        let some : m ≡ 0 → ⊥ = λ k. units_some (b % 2 ^ 63 / 2 ^ 52) (b % 2 ^ 52) (λ z. g (omega arith)) (n ∙ rw (k, zero-mul)) in
        let w-is : thirty_bits (float_sign b) m * 4 + 2 ≡ w = cc in
        rw w-is at (whole_means b (float_sign b) m f refl n (pos_of_ne-zero some) q)
    go true false p q e = word_never w (sym e)
    go false i p q e = word_never w (sym e)

pub sound : (b w : ℕ) → b < 2 ^ 64 → pack_of b ≡ Some w → Means w b
unfolding pack_of
sound b w f =
    pick_by (λ (r : Option ℕ). r ≡ Some w → Means w b) (eqb (b / 2 ^ 52 % 2 ^ 11) 2047) (λ h e. word_never w (sym e))
    (λ h. pick_by (λ (r : Option ℕ). r ≡ Some w → Means w b) (eqb (b % 2 ^ 34) 0)
    (λ g e. float_word g h e)
    (λ g. whole_form_means b w f (eqb-false (b % 2 ^ 34) 0 g)))
  where
    float_word : eqb (b % 2 ^ 34) 0 ≡ true → eqb (b / 2 ^ 52 % 2 ^ 11) 2047 ≡ false → Some (b / 2 ^ 32) ≡ Some w → Means w b
    float_word g h e = let w-is : b / 2 ^ 32 ≡ w = cc in rw w-is at (float_means b f (eqb-false (b / 2 ^ 52 % 2 ^ 11) 2047 h) (eqb-true (b % 2 ^ 34) 0 g))

whole_number : (w : ℕ) → is_whole w ≡ true → (rk_sign w ≡ whole_sign (w / 4)) × (rk_size w ≡ whole_size (w / 4) * 2 ^ 1074)
unfolding rk_sign rk_size pick
whole_number w e = (rw e, rw e)

in_range_lem : (v : ℕ) → v < 2 ^ 30 → in_range (whole_sign v) (whole_size v) ≡ true
unfolding pick
in_range_lem v h = go (leb (2 ^ 29) v) refl
  where
    go : (t : Bool) → leb (2 ^ 29) v ≡ t → in_range t (pick t (2 ^ 30 - v) v) ≡ true
    go true e = le-leb (2 ^ 30 - v) (2 ^ 29) (omega (arith, leb-true (2 ^ 29) v e))
    go false e = lt-ltb v (2 ^ 29) (leb-false (2 ^ 29) v e)

pub complete : (b w : ℕ) → Means w b → pack_of b ≡ None → ⊥
unfolding pack_of
complete b w m =
    pick_by (λ (r : Option ℕ). r ≡ None → ⊥) (eqb (b / 2 ^ 52 % 2 ^ 11) 2047) (λ h e. finite (Pow.field b 11 52 ∙ eqb-true (b / 2 ^ 52 % 2 ^ 11) 2047 h))
    (λ h. pick_by (λ (r : Option ℕ). r ≡ None → ⊥) (eqb (b % 2 ^ 34) 0) (λ g. word_never (b / 2 ^ 32)) (λ g. by (is_whole w) refl (eqb-false (b % 2 ^ 34) 0 g)))
  where
    bits_are : quotient_bits w 1 ≡ b
    bits_are = sym (undivided_bits w m.undivided) ∙ m.bits

    value : HasValue (of_bits binary64 b) (rk_sign w) (rk_size w) (2 ^ 1074)
    value = rw bits_are at (undivided_value w m.fits m.meant)

    finite : Finite b
    finite = value_finite b (rk_sign w) (rk_size w) value

    same : (float_sign b ≡ rk_sign w) × (float_size b ≡ rk_size w)
    same = one_value (of_bits binary64 b) (float_sign b) (rk_sign w) (float_size b) (rk_size w) (finite_value b finite) value

    by : (t : Bool) → is_whole w ≡ t → (b % 2 ^ 34 ≡ 0 → ⊥) → whole_form b ≡ None → ⊥
    by true i g e =
        let n = whole_number w i in
        let v = w / 4 in
        let size : float_size b ≡ whole_size v * 2 ^ 1074 = same.1 ∙ n.1 in
        word_never (thirty_bits (whole_sign v) (whole_size v) * 4 + 2)
        (whole_word b (whole_sign v) (whole_size v) (same.0 ∙ n.0)
        (ap (λ (y : ℕ). y / 2 ^ 1074) size ∙ mul-div_cancel (whole_size v) (pow_pos 1074))
        (ap (λ (y : ℕ). y % 2 ^ 1074) size ∙ mul-mod_left (whole_size v) (2 ^ 1074))
        (in_range_lem v (omega (arith, m.fits))) ∙ e)
    by false i g e = g (omega (arith, sym bits_are ∙ float_bits_lem w m.fits i))

-- it is refused exactly where no undivided word means it
pub refused_exactly : (b : ℕ) → b < 2 ^ 64 → (pack_of b ≡ None) ↔ ((w : ℕ) → Means w b → ⊥)
refused_exactly b f = (λ e w m. complete b w m e, λ none. go none (pack_of b) refl)
  where
    go : ((w : ℕ) → Means w b → ⊥) → (r : Option ℕ) → pack_of b ≡ r → r ≡ None
    go none (Some w) e = absurd (none w (sound b w f e))
    go none None e = refl
