-- Two corrections of one stream. `lent` and `sheets` are a template's two numbers, 0 for a stream by itself. In a stream that doesn't pass both are refused.
use Rattle.std.specs.Prelude.{ℕ, ◌≡◌, List, Result, Ok}
use Rattle.refusal.specs.declared.Refusal.{Refusal}
use Rattle.new_value.specs.declared.NewValue.{NewValue}
use Rattle.new_value.specs.Change.{Held}
use Rattle.correction.specs.Correction.{Correction, correction_of, answer_of, stream_after}

-- what is asked for
pub record Asked : Type 0 where
  pub sheet : ℕ
  pub row : ℕ
  pub column : ℕ
  pub value : NewValue

abbrev pub outcome : List ℕ → ℕ → ℕ → Asked → Correction
outcome s lent sheets x = correction_of s lent sheets x.sheet x.row x.column x.value

abbrev pub answer : List ℕ → ℕ → ℕ → Asked → Result (Unit {0}) Refusal
answer s lent sheets x = answer_of (outcome s lent sheets x)

abbrev pub after : List ℕ → ℕ → ℕ → Asked → List ℕ
after s lent sheets x = stream_after s (outcome s lent sheets x)

-- different sheets or addresses
abbrev pub Elsewhere : Asked → Asked → Type 0
Elsewhere x y = x.sheet ≡ y.sheet → x.row ≡ y.row → x.column ≡ y.column → ⊥

pub record OneCell (x y : Asked) : Type 0 where
  pub sheet : x.sheet ≡ y.sheet
  pub row : x.row ≡ y.row
  pub column : x.column ≡ y.column

-- whatever was asked before it, a correction comes to what it comes to alone: the same answer, or the same number for the same place
abbrev pub AsAlone : Type 0
AsAlone = (s : List ℕ) (lent sheets : ℕ) (x y : Asked) → Held x.value → outcome (after s lent sheets x) lent sheets y ≡ outcome s lent sheets y

-- of different sheets or addresses, either order ends in the same bytes, and grants or refuses each as alone
abbrev pub EitherOrder : Type 0
EitherOrder =
    (s : List ℕ) (lent sheets : ℕ) (x y : Asked) → Held x.value → Held y.value → Elsewhere x y
    → (after (after s lent sheets x) lent sheets y ≡ after (after s lent sheets y) lent sheets x)
    × (answer (after s lent sheets x) lent sheets y ≡ answer s lent sheets y) × (answer (after s lent sheets y) lent sheets x ≡ answer s lent sheets x)

-- of one cell, where both are granted, the stream is as the second alone leaves it
abbrev pub SecondAlone : Type 0
SecondAlone =
    (s : List ℕ) (lent sheets : ℕ) (x y : Asked) → Held x.value → OneCell x y
    → answer s lent sheets x ≡ Ok tt → answer (after s lent sheets x) lent sheets y ≡ Ok tt → after (after s lent sheets x) lent sheets y ≡ after s lent sheets y
