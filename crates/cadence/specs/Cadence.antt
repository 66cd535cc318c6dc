-- Two neighbouring rows of a session: a pause, or the ticks and turns that elapsed and a cadence or none.
use Rattle.std.specs.Prelude.{ℕ, zero, suc, ◌+◌, ◌-◌, ◌*◌, ◌/◌, List, [], ◌∷◌, ltb, leb, eqb, Result, Ok, Err}
use Rattle.steps.specs.Choice.{pick}
use Rattle.refusal.specs.declared.Refusal.{Refusal}
use Rattle.refusal.specs.Refused.{refuse}
use Rattle.cell.specs.declared.Cell.{Cell}
use Rattle.reading.specs.declared.Place.{Place}
use Rattle.reading.specs.Cells.{listed_from}
use Rattle.profile.specs.declared.Session.{Session}
use Rattle.profile.specs.Profile.{amount_in, on_amount, profile_of}
use Rattle.cadence.specs.declared.Row.{Row}
use Rattle.cadence.specs.declared.Cadence.{Cadence}
use Rattle.cadence.specs.declared.Cadence.TheVariants.{Pause, Elapsed, Still}

-- ---- the rows of a session
-- the number of a cell in a column; each cell of a session has one
abbrev pub number_in : ℕ → Cell → ℕ
number_in column c = on_amount 0 (λ n. n) (amount_in column c.value)

unfoldable pub row_with : ℕ → ℕ → ℕ → Row
row_with ticks turns seconds = record { ticks = ticks; turns = turns; seconds = seconds }

unfoldable pub by_two : List Cell → List Row
by_two [] = []
by_two (x ∷ []) = []
by_two (x ∷ y ∷ l) = row_with (number_in 0 x) (number_in 1 y) 0 ∷ by_two l

unfoldable pub by_three : List Cell → List Row
by_three [] = []
by_three (x ∷ []) = []
by_three (x ∷ y ∷ []) = []
by_three (x ∷ y ∷ z ∷ l) = row_with (number_in 0 x) (number_in 1 y) (number_in 2 z) ∷ by_three l

-- where there is no third column, no seconds pass
unfoldable pub rows_of : ℕ → List Cell → List Row
rows_of columns l = pick (eqb columns 3) (by_three l) (by_two l)

-- ---- two neighbouring rows
-- the later less the earlier, plus 65,536 where that is negative
unfoldable pub elapsed_of : ℕ → ℕ → ℕ
elapsed_of earlier later = pick (ltb later earlier) (later + 65536 - earlier) (later - earlier)

-- turns times 61,440 divided by ticks, rounded down; none at zero ticks
unfoldable pub measured_of : ℕ → ℕ → Cadence
measured_of ticks turns = pick (eqb ticks 0) (Still turns) (Elapsed ticks turns (turns * 61440 / ticks))

-- 64 seconds or more between them are a pause
unfoldable pub pair_of : Row → Row → Cadence
pair_of a b =
    pick (leb 64 (b.seconds - a.seconds)) Pause
    (measured_of (elapsed_of a.ticks b.ticks) (elapsed_of a.turns b.turns))

-- a row and the next; 11 if either is missing
unfoldable pub neighbours : List Row → ℕ → Result Cadence Refusal
neighbours [] n = refuse 11 0
neighbours (a ∷ []) n = refuse 11 0
neighbours (a ∷ b ∷ l) zero = Ok (pair_of a b)
neighbours (a ∷ b ∷ l) (suc n) = neighbours (b ∷ l) n

-- ---- the question, by the earlier row: any refusal of the check, then 20, then 11
abbrev pub on_session : {A : Type 0} → (ℕ → Place → Result A Refusal) → Result Session Refusal → Result A Refusal
on_session f (Ok x) = f x.columns x.cells
on_session f (Err e) = Err e

unfoldable pub cadence_of : List ℕ → ℕ → Result Cadence Refusal
cadence_of s row = on_session (λ columns v. neighbours (rows_of columns (listed_from s v)) row) (profile_of s)
