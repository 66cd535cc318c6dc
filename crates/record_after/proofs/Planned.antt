-- A plan that puts a number puts one that says the new value; and where a number is refused with 18. Assumes nothing.
use Prim.Native.Nat.{ℕ, ◌+◌, ◌*◌, ◌/◌, ◌%◌, ◌^◌, ◌≤◌, ◌<◌}
use mathlib.Core.Path.{◌≡◌, refl, sym, ap, ◌∙◌}
use mathlib.Core.Bool.{Bool, true, false, not}
use mathlib.Core.Logic.{◌↔◌}
use native.Mathlib.Omega.{arith}
use lib.Dec.{T, ltb, eqb}
use lib.Ieee as Ieee
use lib.Ieee.{binary64, fits, of_bits}
use borrow.Author.Tests.{eqb-false, le-ltb}
use Rattle.steps.specs.Choice.{pick}
use Rattle.steps.proofs.Choice.{never, pick_eq, pick_ne, pick_false}
use Rattle.truth_error.specs.Boolerr.{is_truth, is_error}
use Rattle.number.specs.Float64.{is_nan_bits, bits_of}
use Rattle.number.specs.Rk.{rk_of}
use Rattle.number.specs.Packing.{Means, pack_of}
use Rattle.number.proofs.Laws.{float_of_bits, bits_of_lt, sound, refused_exactly, packed_number}
use Rattle.value.specs.declared.Field.{Field}
use Rattle.value.specs.declared.Field.TheVariants.{NoField, Float, RkWord, TextIndex, TruthError, StoredResult}
use Rattle.value.specs.declared.CellValue.TheVariants.{Number as CellNumber, NotNumber as CellNotNumber, Text as CellText, Truth as CellTruth, Error as CellError}
use Rattle.value.specs.Value.{float_value, rk_value, truth_error, truth_error_fits}
use Rattle.new_value.specs.declared.NewValue.{NewValue}
use Rattle.new_value.specs.declared.NewValue.TheVariants.{Number, Text, Truth, Error}
use Rattle.std.specs.Prelude.{Option, Some, None, Ok}
use Rattle.refusal.specs.Refused.{refuse}
use Rattle.new_value.specs.Change.{Held, put_if, finite, float_plan, packed_plan, pair_plan, plan_of, new_of}
use Rattle.record_after.specs.Claims.{Says}

refused_put : {A : Type 0} (number offset b : ℕ) → refuse {A = ℕ} number offset ≡ Ok b → A
refused_put number offset b e = never (cc)

put_right : (t : Bool) (n b : ℕ) → put_if t n ≡ Ok b → (t ≡ true) × (n ≡ b)
unfolding put_if pick
put_right true n b e = (refl, cc)
put_right false n b e = refused_put 18 0 b e

word_put : (k : Option ℕ) (b : ℕ) → packed_plan k ≡ Ok b → k ≡ Some b
word_put (Some w) b e = cc
word_put None b e = refused_put 18 0 b e

-- ---- the number's 64 bits
finite_number : (b : ℕ) → finite b ≡ true → is_nan_bits b ≡ false
unfolding finite is_nan_bits
finite_number b e = le-ltb (2047 * 2 ^ 52) (b % 2 ^ 63) (let o = eqb-false (b / 2 ^ 52 % 2 ^ 11) 2047 (un_not (eqb (b / 2 ^ 52 % 2 ^ 11) 2047) e) in within o)
  where
    un_not : (t : Bool) → not t ≡ true → t ≡ false
    un_not true i = sym i
    un_not false i = refl

    within : (b / 2 ^ 52 % 2 ^ 11 ≡ 2047 → ⊥) → b % 2 ^ 63 ≤ 2047 * 2 ^ 52
    within o = omega arith

module _ (x : Ieee.Float) (held : T (fits binary64 x)) where
  says_float : finite (bits_of x) ≡ true → float_value (bits_of x) ≡ CellNumber x
  unfolding float_value
  says_float e = sym (pick_false (CellNumber x) (CellNotNumber (bits_of x)) (CellNumber (of_bits binary64 (bits_of x))) _ (finite_number (bits_of x) e) (ap CellNumber (sym (float_of_bits x held))))

  says_word : (b : ℕ) → pack_of (bits_of x) ≡ Some b → rk_value (rk_of b) ≡ CellNumber x
  says_word b e = ap rk_value (packed_number (bits_of x) b (bits_of_lt x held) e) ∙ ap CellNumber (float_of_bits x held)

-- ---- the two bytes of a truth or an error
says_truth : (t : ℕ) → t < 256 → is_truth t ≡ true → (truth_error_fits t ≡ true) × (truth_error t ≡ CellTruth t)
unfolding truth_error_fits truth_error
says_truth t l h =
    let d : t / 256 ≡ 0 = omega arith in
    let m : t % 256 ≡ t = omega arith in
    (sym (pick_eq true (is_truth (t % 256)) _ (t / 256) 0 d (sym (ap is_truth m ∙ h))), sym (pick_eq (CellTruth t) (CellTruth (t % 256)) _ (t / 256) 0 d (ap CellTruth (sym m))))

says_error : (e : ℕ) → e < 256 → is_error e ≡ true → (truth_error_fits (e + 256) ≡ true) × (truth_error (e + 256) ≡ CellError e)
unfolding truth_error_fits truth_error
says_error e l h =
    let d : (e + 256) / 256 ≡ 1 = omega arith in
    let m : (e + 256) % 256 ≡ e = omega arith in
    let n : (e + 256) / 256 ≡ 0 → ⊥ = λ q. omega arith in (
      sym (pick_ne true _ _ ((e + 256) / 256) 0 n (pick_eq true (is_error ((e + 256) % 256)) false ((e + 256) / 256) 1 d (sym (ap is_error m ∙ h)))),
      sym (pick_ne (CellError e) _ (CellError ((e + 256) % 256)) ((e + 256) / 256) 0 n (ap CellError (sym m))),
    )

-- ---- by the field's kind and the value's
says_number : (x : Ieee.Float) (f : Field) (u b : ℕ) → Held (Number x) → plan_of f (Number x) u ≡ Ok b → Says f (Number x) u b
unfolding float_plan
says_number x NoField u b l e = refused_put 17 0 b e
says_number x Float u b l e =
    let r = put_right (finite (bits_of x)) (bits_of x) b e in
    record { small = rw r.1 at (bits_of_lt x l); right = refl; index = refl; value = ap float_value (sym r.1) ∙ says_float x l r.0 }
says_number x RkWord u b l e =
    let p = word_put (pack_of (bits_of x)) b e in
    let m = sound (bits_of x) b (bits_of_lt x l) p in
    record { small = m.fits; right = ap not m.meant; index = refl; value = says_word x l b p }
says_number x TextIndex u b l e = refused_put 17 0 b e
says_number x TruthError u b l e = refused_put 17 0 b e
says_number x StoredResult u b l e = refused_put 17 0 b e

says_text_lem : (i : ℕ) (f : Field) (u b : ℕ) → Held (Text i) → plan_of f (Text i) u ≡ Ok b → Says f (Text i) u b
says_text_lem i NoField u b l e = refused_put 17 0 b e
says_text_lem i Float u b l e = refused_put 17 0 b e
says_text_lem i RkWord u b l e = refused_put 17 0 b e
says_text_lem i TextIndex u b l e =
    let r = put_right (ltb i u) i b e in
    record { small = rw r.1 at l; right = refl; index = ap (λ (n : ℕ). ltb n u) (sym r.1) ∙ r.0; value = ap CellText (sym r.1) }
says_text_lem i TruthError u b l e = refused_put 17 0 b e
says_text_lem i StoredResult u b l e = refused_put 17 0 b e

-- a truth or an error goes as the number n, where it is right
says_pair : (v : NewValue) (t : Bool) (n : ℕ) → n < 65536 → (t ≡ true → (truth_error_fits n ≡ true) × (truth_error n ≡ new_of v)) → (f : Field) (u b : ℕ) → pair_plan f t n ≡ Ok b → Says f v u b
says_pair v t n small right NoField u b e = refused_put 17 0 b e
says_pair v t n small right Float u b e = refused_put 17 0 b e
says_pair v t n small right RkWord u b e = refused_put 17 0 b e
says_pair v t n small right TextIndex u b e = refused_put 17 0 b e
says_pair v t n small right TruthError u b e =
    let r = put_right t n b e in
    let s = right r.0 in
    record { small = rw r.1 at small; right = ap truth_error_fits (sym r.1) ∙ s.0; index = refl; value = ap truth_error (sym r.1) ∙ s.1 }
says_pair v t n small right StoredResult u b e = refused_put 17 0 b e

pub planned : (f : Field) (v : NewValue) (u b : ℕ) → Held v → plan_of f v u ≡ Ok b → Says f v u b
planned f (Number x) u b l e = says_number x f u b l e
planned f (Text i) u b l e = says_text_lem i f u b l e
planned f (Truth t) u b l e = says_pair (Truth t) (is_truth t) t (omega arith) (says_truth t l) f u b e
planned f (Error c) u b l e = says_pair (Error c) (is_error c) (c + 256) (omega arith) (says_error c l) f u b e

-- ---- 18
-- for a packed cell, exactly where no undivided word means the number
pub unpacked : (x : Ieee.Float) (u : ℕ) → T (fits binary64 x) → (plan_of RkWord (Number x) u ≡ refuse 18 0) ↔ ((w : ℕ) → Means w (bits_of x) → ⊥)
unpacked x u held =
    let exactly = refused_exactly (bits_of x) (bits_of_lt x held) in
    (λ e. exactly.0 (none (pack_of (bits_of x)) e), λ n. ap packed_plan (exactly.1 n))
  where
    none : (k : Option ℕ) → packed_plan k ≡ refuse 18 0 → k ≡ None
    none (Some w) e = refused_put 18 0 w (sym e)
    none None e = refl
