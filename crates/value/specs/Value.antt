-- What the value field of a cell says. A field is the number of its bytes, the lower first: its first byte is `n % 256`, its second `n / 256 % 256`.
use Rattle.std.specs.Prelude.{ℕ, ◌/◌, ◌%◌, ◌^◌, Bool, true, false, not, Option, Some, None, ltb, eqb, Float as F64}
use Rattle.std.specs.Float.{binary64}
use Rattle.std.specs.Float.Ieee.{of_bits}
use Rattle.steps.specs.Choice.{pick}
use Rattle.truth_error.specs.Boolerr.{is_truth, is_error}
use Rattle.number.specs.Float64.{is_nan_bits, bits_of}
use Rattle.number.specs.Rk.{means_nothing, rk_of}
use Rattle.value.specs.declared.Field.{Field}
use Rattle.value.specs.declared.Field.TheVariants.{NoField, Float, RkWord, TextIndex, TruthError, StoredResult}
use Rattle.value.specs.declared.FormulaResult.{FormulaResult}
use Rattle.value.specs.declared.FormulaResult.TheVariants.{Number as ResultNumber, NotNumber as ResultNotNumber, Text as ResultText, Truth as ResultTruth, Error as ResultError, Empty as ResultEmpty}
use Rattle.value.specs.declared.CellValue.{CellValue}
use Rattle.value.specs.declared.CellValue.TheVariants.{Blank, Number, NotNumber, Text, Truth, Error, Formula}

-- the bytes of a value field
abbrev pub width_of : Field → ℕ
width_of NoField = 0
width_of Float = 8
width_of RkWord = 4
width_of TextIndex = 4
width_of TruthError = 2
width_of StoredResult = 8

-- ---- what it says
unfoldable pub float_value : ℕ → CellValue
float_value b = pick (is_nan_bits b) (NotNumber b) (Number (of_bits binary64 b))

-- a word that means nothing is refused, and so stands in no stream that passes
abbrev pub rk_value : Option F64 → CellValue
rk_value (Some x) = Number x
rk_value None = Blank

-- value byte, then byte 0 truth or 1 error
unfoldable pub truth_error : ℕ → CellValue
truth_error n = pick (eqb (n / 256) 0) (Truth (n % 256)) (Error (n % 256))

unfoldable pub result_number : ℕ → FormulaResult
result_number b = pick (is_nan_bits b) (ResultNotNumber b) (ResultNumber (of_bits binary64 b))

-- a result whose last two bytes are FFFF: its first byte says text 0, truth 1, error 2, empty 3, with truth or code in its third
unfoldable pub marked_result : ℕ → ℕ → FormulaResult
marked_result kind byte =
    pick (eqb kind 0) ResultText
    (pick (eqb kind 1) (ResultTruth byte)
    (pick (eqb kind 2) (ResultError byte)
    ResultEmpty))

unfoldable pub result_of : ℕ → FormulaResult
result_of n = pick (eqb (n / 2 ^ 48) 0xFFFF) (marked_result (n % 256) (n / 2 ^ 16 % 256)) (result_number n)

abbrev pub value_of : Field → ℕ → CellValue
value_of NoField n = Blank
value_of Float n = float_value n
value_of RkWord n = rk_value (rk_of n)
value_of TextIndex n = Text n
value_of TruthError n = truth_error n
value_of StoredResult n = Formula (result_of n)

-- ---- whether it is right; else the record is refused as 6
unfoldable pub truth_error_fits : ℕ → Bool
truth_error_fits n =
    pick (eqb (n / 256) 0) (is_truth (n % 256))
    (pick (eqb (n / 256) 1) (is_error (n % 256))
    false)

unfoldable pub marked_fits : ℕ → ℕ → Bool
marked_fits kind byte =
    pick (eqb kind 0) true
    (pick (eqb kind 1) (is_truth byte)
    (pick (eqb kind 2) (is_error byte)
    (pick (eqb kind 3) true
    false)))

unfoldable pub result_fits : ℕ → Bool
result_fits n = pick (eqb (n / 2 ^ 48) 0xFFFF) (marked_fits (n % 256) (n / 2 ^ 16 % 256)) true

abbrev pub value_fits : Field → ℕ → Bool
value_fits NoField n = true
value_fits Float n = true
value_fits RkWord n = not (means_nothing n)
value_fits TextIndex n = true
value_fits TruthError n = truth_error_fits n
value_fits StoredResult n = result_fits n

-- a text cell's index is below the unique count; else the record is refused as 9
abbrev pub index_fits : Field → ℕ → ℕ → Bool
index_fits NoField n unique = true
index_fits Float n unique = true
index_fits RkWord n unique = true
index_fits TextIndex n unique = ltb n unique
index_fits TruthError n unique = true
index_fits StoredResult n unique = true

-- ---- numbers are compared by their 64 bits: those of a cell's number or of a formula's; 0 where there is none
abbrev pub bits_of_result : FormulaResult → ℕ
bits_of_result (ResultNumber x) = bits_of x
bits_of_result (ResultNotNumber b) = b
bits_of_result ResultText = 0
bits_of_result (ResultTruth t) = 0
bits_of_result (ResultError e) = 0
bits_of_result ResultEmpty = 0

abbrev pub bits_of_value : CellValue → ℕ
bits_of_value Blank = 0
bits_of_value (Number x) = bits_of x
bits_of_value (NotNumber b) = b
bits_of_value (Text i) = 0
bits_of_value (Truth t) = 0
bits_of_value (Error e) = 0
bits_of_value (Formula r) = bits_of_result r
