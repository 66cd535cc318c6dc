-- What holds of the answers.
use Rattle.std.specs.Prelude.{ℕ, ◌+◌, ◌-◌, ◌*◌, ◌%◌, ◌≤◌, ◌<◌, ◌≡◌, List, ◌↔◌, length, Some, Ok}
use Rattle.reading.specs.declared.Place.{Place}
use Rattle.reading.specs.Cells.{remaining, listed_from}
use Rattle.profile.specs.Profile.{profile_of}
use Rattle.cadence.specs.declared.Row.{Row}
use Rattle.cadence.specs.declared.Cadence.{Cadence}
use Rattle.cadence.specs.declared.Cadence.TheVariants.{Pause, Elapsed, Still}
use Rattle.cadence.specs.declared.Position.{Position}
use Rattle.cadence.specs.Cadence.{rows_of, elapsed_of, pair_of, cadence_of}
use Rattle.cadence.specs.Steps.{next_pair_of, pairs_of, pairs_from, nth_pair}

-- elapsed is the difference modulo 65,536
abbrev pub ElapsedModulo : Type 0
ElapsedModulo = (earlier later : ℕ) → earlier < 65536 → later < 65536 → (elapsed_of earlier later < 65536) × ((earlier + elapsed_of earlier later) % 65536 ≡ later)

-- of every answer on every stream: ticks and turns are below 65,536, there are ticks where there is a cadence, and the cadence is rounded down
pub record Measured (ticks turns cadence : ℕ) : Type 0 where
  pub ticks_some : 0 < ticks
  pub ticks_below : ticks < 65536
  pub turns_below : turns < 65536
  pub not_over : cadence * ticks ≤ turns * 61440
  pub next_over : turns * 61440 < (cadence + 1) * ticks

abbrev pub CadenceRounded : Type 0
CadenceRounded = (s : List ℕ) (row ticks turns cadence : ℕ) → cadence_of s row ≡ Ok (Elapsed ticks turns cadence) → Measured ticks turns cadence

-- a pair is a pause, which has no cadence, exactly where 64 seconds or more lie between its rows
abbrev pub PauseExactly : Type 0
PauseExactly = (a b : Row) → (pair_of a b ≡ Pause) ↔ (64 ≤ b.seconds - a.seconds)

-- without ticks there is no cadence
abbrev pub StillExactly : Type 0
StillExactly = (a b : Row) (turns : ℕ) → pair_of a b ≡ Still turns → (b.seconds - a.seconds < 64) × ((elapsed_of a.ticks b.ticks ≡ 0) × (turns ≡ elapsed_of a.turns b.turns))

-- a session has as many rows as the profile says
abbrev pub RowsCounted : Type 0
RowsCounted = (s : List ℕ) (rows columns : ℕ) (v : Place) → profile_of s ≡ Ok (record { rows = rows; columns = columns; cells = v }) → length (rows_of columns (listed_from s v)) ≡ rows

-- the n-th pair that the steps give is the answer to the question about row n; where they have ended, that is 11
abbrev pub StepsAnswer : Type 0
StepsAnswer = (s : List ℕ) (p : Position) → pairs_of s ≡ Ok p → (n : ℕ) → nth_pair s p n ≡ cadence_of s n

-- and they end after the last pair
abbrev pub StepsEnd : Type 0
StepsEnd = (s : List ℕ) (p : Position) (rows columns : ℕ) (v : Place) → pairs_of s ≡ Ok p → profile_of s ≡ Ok (record { rows = rows; columns = columns; cells = v }) → length (pairs_from s p) ≡ rows - 1

-- each step, from any state, comes nearer the end
abbrev pub StepsNearer : Type 0
StepsNearer = (s : List ℕ) (p q : Position) (a : Cadence) → next_pair_of s p ≡ Some (record { answer = a; next = q }) → remaining s q.cells < remaining s p.cells
