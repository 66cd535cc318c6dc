-- The same over a template t and a session s.
use Rattle.std.specs.Prelude.{ℕ, ◌≡◌, List, Result, Ok}
use Rattle.new_value.specs.Change.{Held}
use Rattle.pair.specs.declared.PairRefusal.{PairRefusal}
use Rattle.pair.specs.Pair.{PairCorrection, pair_correction_of, answer_of, session_after}
use Rattle.either_order.specs.Apart.{Asked, Elsewhere, OneCell}

abbrev pub outcome : List ℕ → List ℕ → Asked → PairCorrection
outcome t s x = pair_correction_of t s x.sheet x.row x.column x.value

abbrev pub answer : List ℕ → List ℕ → Asked → Result (Unit {0}) PairRefusal
answer t s x = answer_of (outcome t s x)

abbrev pub after : List ℕ → List ℕ → Asked → List ℕ
after t s x = session_after s (outcome t s x)

abbrev pub AsAlone : Type 0
AsAlone = (t s : List ℕ) (x y : Asked) → Held x.value → outcome t (after t s x) y ≡ outcome t s y

abbrev pub EitherOrder : Type 0
EitherOrder =
    (t s : List ℕ) (x y : Asked) → Held x.value → Held y.value → Elsewhere x y
    → (after t (after t s x) y ≡ after t (after t s y) x) × (answer t (after t s x) y ≡ answer t s y) × (answer t (after t s y) x ≡ answer t s x)

abbrev pub SecondAlone : Type 0
SecondAlone =
    (t s : List ℕ) (x y : Asked) → Held x.value → OneCell x y
    → answer t s x ≡ Ok tt → answer t (after t s x) y ≡ Ok tt → after t (after t s x) y ≡ after t s y
