-- The answers in plain numbers: the refusal's number, 0 where there is none, its offset, and what is answered; what isn't is 0.
use Rattle.std.specs.Prelude.{ℕ, Option, Some, None, Result, Ok, Err}
use Rattle.refusal.specs.declared.Refusal.{Refusal}
use Rattle.profile.specs.declared.Session.{Session}
use Rattle.cadence.specs.declared.Cadence.{Cadence}
use Rattle.cadence.specs.declared.Cadence.TheVariants.{Pause, Elapsed, Still}
use Rattle.cadence.specs.declared.Position.{Position}
use Rattle.cadence.specs.declared.NextPair.{NextPair}
use Rattle.session_answers.specs.declared.Profile.{Profile}
use Rattle.session_answers.specs.declared.Pair as declared
use Rattle.session_answers.specs.declared.Pairs.{Pairs}
use Rattle.session_answers.specs.declared.Step.{Step}

abbrev pub profile_seen : Result Session Refusal → Profile
profile_seen (Ok x) = record { number = 0; offset = 0; rows = x.rows; columns = x.columns }
profile_seen (Err e) = record { number = e.number; offset = e.offset; rows = 0; columns = 0 }

-- a pause, no cadence, a cadence
abbrev pub between_seen : Cadence → declared.Pair
between_seen Pause = record { number = 0; offset = 0; kind = 1; ticks = 0; turns = 0; cadence = 0 }
between_seen (Still u) = record { number = 0; offset = 0; kind = 2; ticks = 0; turns = u; cadence = 0 }
between_seen (Elapsed t u c) = record { number = 0; offset = 0; kind = 3; ticks = t; turns = u; cadence = c }

abbrev pub pair_seen : Result Cadence Refusal → declared.Pair
pair_seen (Ok a) = between_seen a
pair_seen (Err e) = record { number = e.number; offset = e.offset; kind = 0; ticks = 0; turns = 0; cadence = 0 }

-- ---- the steps
abbrev pub start_seen : Result Position Refusal → Pairs
start_seen (Ok p) = record {
  number = 0;
  offset = 0;
  ticks = p.earlier.ticks;
  turns = p.earlier.turns;
  seconds = p.earlier.seconds;
  at = p.cells.at;
  part = p.cells.part;
  level = p.cells.level;
  columns = p.columns;
}
start_seen (Err e) = record { number = e.number; offset = e.offset; ticks = 0; turns = 0; seconds = 0; at = 0; part = 0; level = 0; columns = 0 }

abbrev pub position_of : ℕ → ℕ → ℕ → ℕ → ℕ → ℕ → ℕ → Position
position_of ticks turns seconds at part level columns = record {
  earlier = record { ticks = ticks; turns = turns; seconds = seconds };
  cells = record { at = at; part = part; level = level };
  columns = columns;
}

abbrev pub step_seen : Option NextPair → Step
step_seen (Some x) = record {
  kind = (between_seen x.answer).kind;
  elapsed = (between_seen x.answer).ticks;
  turned = (between_seen x.answer).turns;
  cadence = (between_seen x.answer).cadence;
  ticks = x.next.earlier.ticks;
  turns = x.next.earlier.turns;
  seconds = x.next.earlier.seconds;
  at = x.next.cells.at;
  part = x.next.cells.part;
  level = x.next.cells.level;
}
step_seen None = record { kind = 0; elapsed = 0; turned = 0; cadence = 0; ticks = 0; turns = 0; seconds = 0; at = 0; part = 0; level = 0 }
