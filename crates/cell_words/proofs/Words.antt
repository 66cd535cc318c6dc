-- What a value field says, in words. Assumes nothing.
use Prim.Native.Nat.{ℕ, ◌%◌, ◌/◌, ◌^◌, ◌<◌}
use mathlib.Core.Path.{◌≡◌, refl, ap, sym, ◌∙◌}
use mathlib.Core.Bool.{true, false}
use Rattle.std.specs.Prelude.{Option, Float as F64}
use Rattle.steps.proofs.Choice.{pick_eq, pick_ne, pick_by}
use Rattle.number.specs.Float64.{is_nan_bits}
use Rattle.number.proofs.Laws.{bits_of_float, rk_bits_lt, rk_bits_number, rk_number, rk_nothing}
use Rattle.number.specs.Rk.{rk_bits, means_nothing}
use Rattle.value.specs.declared.Field.TheVariants.{Float, RkWord, TruthError, StoredResult}
use Rattle.value.specs.declared.CellValue.{CellValue}
use Rattle.value.specs.declared.CellValue.TheVariants.{Truth, Error}
use Rattle.value.specs.declared.FormulaResult.{FormulaResult}
use Rattle.value.specs.Value.{float_value, rk_value, truth_error, result_number, marked_result}
use Rattle.value.proofs.Laws.{number_is, marked_is}
use Rattle.cell_words.specs.declared.Said.{Said}
use Rattle.cell_words.specs.Batch.{result_kind, result_word, value_kind, value_word}
use Rattle.cell_words.specs.Parts.{said_of}

abbrev pub value_said : CellValue → Said
value_said v = record { kind = value_kind v; word = value_word v }

abbrev pub result_said : FormulaResult → Said
result_said r = record { kind = result_kind r; word = result_word r }

module _ (word : ℕ) where
  pub rk_none : means_nothing word ≡ true → said_of RkWord word ≡ record { kind = 0; word = 0 }
  rk_none e = ap (λ (y : Option F64). value_said (rk_value y)) (rk_nothing word e)

  pub rk_some : means_nothing word ≡ false → word < 2 ^ 32 → said_of RkWord word ≡ record { kind = 1; word = rk_bits word }
  rk_some e l =
      ap (λ (y : Option F64). value_said (rk_value y)) (rk_number word e)
      ∙ (let b = bits_of_float (rk_bits word) (rk_bits_lt word l e) (rk_bits_number word l e) in λ j. record { kind = 1; word = b j })

pub ruleset rk_laws = (rk_none, rk_some)

pub float_said : (b : ℕ) → b < 2 ^ 64 → said_of Float b ≡ record { kind = 1; word = b }
unfolding float_value
float_said b l =
    pick_by (λ (v : CellValue). value_said v ≡ record { kind = 1; word = b }) (is_nan_bits b) (λ _. refl) (λ e. let f = bits_of_float b l e in λ j. record { kind = 1; word = f j })

module _ (n : ℕ) where
  pub truth_said : n / 256 ≡ 0 → said_of TruthError n ≡ record { kind = 3; word = n % 256 }
  unfolding truth_error
  truth_said e = ap value_said (sym (pick_eq (Truth (n % 256)) _ _ (n / 256) 0 e refl))

  pub error_said : (n / 256 ≡ 0 → ⊥) → said_of TruthError n ≡ record { kind = 4; word = n % 256 }
  unfolding truth_error
  error_said e = ap value_said (sym (pick_ne (Error (n % 256)) _ _ (n / 256) 0 e refl))

pub ruleset byte_laws = (truth_said, error_said)

-- a formula's result: a number's bits as they stand, or marked
module _ (n : ℕ) where
  pub plain_said : (n / 281474976710656 ≡ 65535 → ⊥) → n < 2 ^ 64 → said_of StoredResult n ≡ record { kind = 5; word = n }
  unfolding result_number
  plain_said plain l =
      ap result_said (sym (number_is n plain (result_number n) refl))
      ∙ pick_by (λ (r : FormulaResult). result_said r ≡ record { kind = 5; word = n }) (is_nan_bits n) (λ _. refl) (λ e. let f = bits_of_float n l e in λ j. record { kind = 5; word = f j })

  pub marked_said : n / 281474976710656 ≡ 65535 → said_of StoredResult n ≡ result_said (marked_result (n % 256) (n / 65536 % 256))
  marked_said marked = ap result_said (sym (marked_is n (n % 256) refl (n / 65536 % 256) refl marked (marked_result (n % 256) (n / 65536 % 256)) refl))

pub ruleset result_laws = (plain_said, marked_said)
