-- A new value for a cell: what its value field takes, or the refusal, and the stream after it.
use Rattle.std.specs.Prelude.{ℕ, ◌+◌, ◌/◌, ◌%◌, ◌^◌, ◌<◌, Bool, not, Option, Some, None, Result, Ok, Err, List, T, ltb, eqb}
use Rattle.std.specs.Float.{binary64}
use Rattle.std.specs.Float.Ieee.{fits}
use Rattle.std.proofs.lemmas.List.Edits.{sets}
use Rattle.steps.specs.Choice.{pick}
use Rattle.refusal.specs.Refused.{refuse}
use Rattle.refusal.specs.declared.Refusal.{Refusal}
use Rattle.byte_numbers.specs.Bytes.{bytes_of}
use Rattle.truth_error.specs.Boolerr.{is_truth, is_error}
use Rattle.number.specs.Float64.{bits_of}
use Rattle.number.specs.Packing.{pack_of}
use Rattle.value.specs.declared.Field.{Field}
use Rattle.value.specs.declared.Field.TheVariants.{NoField, Float, RkWord, TextIndex, TruthError, StoredResult}
use Rattle.value.specs.declared.CellValue.{CellValue}
use Rattle.value.specs.declared.CellValue.TheVariants.{Number as CellNumber, Text as CellText, Truth as CellTruth, Error as CellError}
use Rattle.value.specs.Value.{width_of}
use Rattle.new_value.specs.declared.NewValue.{NewValue}
use Rattle.new_value.specs.declared.NewValue.TheVariants.{Number, Text, Truth, Error}

-- a new value as its type holds it: an f64, a u32, a byte
abbrev pub Held : NewValue → Type 0
Held (Number x) = T (fits binary64 x)
Held (Text i) = i < 2 ^ 32
Held (Truth t) = t < 256
Held (Error e) = e < 256

-- the value doesn't fit: 18
unfoldable pub put_if : Bool → ℕ → Result ℕ Refusal
put_if right n = pick right (Ok n) (refuse 18 0)

-- 64 bits; an infinity and a NaN have all of bits 52 to 62 set
unfoldable pub finite : ℕ → Bool
finite b = not (eqb (b / 2 ^ 52 % 2 ^ 11) 2047)

unfoldable pub float_plan : ℕ → Result ℕ Refusal
float_plan b = put_if (finite b) b

-- an undivided word, which no infinity and no NaN has
abbrev pub packed_plan : Option ℕ → Result ℕ Refusal
packed_plan (Some w) = Ok w
packed_plan None = refuse 18 0

-- a number goes to NUMBER, RK or MULRK
abbrev pub number_plan : Field → ℕ → Result ℕ Refusal
number_plan NoField b = refuse 17 0
number_plan Float b = float_plan b
number_plan RkWord b = packed_plan (pack_of b)
number_plan TextIndex b = refuse 17 0
number_plan TruthError b = refuse 17 0
number_plan StoredResult b = refuse 17 0

-- a text index to LABELSST
abbrev pub text_plan : Field → ℕ → ℕ → Result ℕ Refusal
text_plan NoField i unique = refuse 17 0
text_plan Float i unique = refuse 17 0
text_plan RkWord i unique = refuse 17 0
text_plan TextIndex i unique = put_if (ltb i unique) i
text_plan TruthError i unique = refuse 17 0
text_plan StoredResult i unique = refuse 17 0

-- truth or error to BOOLERR
abbrev pub pair_plan : Field → Bool → ℕ → Result ℕ Refusal
pair_plan NoField right n = refuse 17 0
pair_plan Float right n = refuse 17 0
pair_plan RkWord right n = refuse 17 0
pair_plan TextIndex right n = refuse 17 0
pair_plan TruthError right n = put_if right n
pair_plan StoredResult right n = refuse 17 0

-- the number that the field takes; 17 where its kind doesn't take such a value, 18 where the value doesn't fit
abbrev pub plan_of : Field → NewValue → ℕ → Result ℕ Refusal
plan_of f (Number x) unique = number_plan f (bits_of x)
plan_of f (Text i) unique = text_plan f i unique
plan_of f (Truth t) unique = pair_plan f (is_truth t) t
plan_of f (Error e) unique = pair_plan f (is_error e) (e + 256)

abbrev pub answer_of : Result ℕ Refusal → Result (Unit {0}) Refusal
answer_of (Ok n) = Ok tt
answer_of (Err r) = Err r

-- the stream after a plan for the field of kind f at p
abbrev pub changed : List ℕ → Field → ℕ → Result ℕ Refusal → List ℕ
changed s f p (Ok n) = sets s p (bytes_of (width_of f) n)
changed s f p (Err r) = s

-- the value that a cell then has
abbrev pub new_of : NewValue → CellValue
new_of (Number x) = CellNumber x
new_of (Text i) = CellText i
new_of (Truth t) = CellTruth t
new_of (Error e) = CellError e
