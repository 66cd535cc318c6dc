-- The answers about journals in plain numbers: the refusal's number, 0 where there is none, its offset, and how many entries were replayed; or, where one of
-- them stopped it, that one's number in the journal.
use Rattle.std.specs.Prelude.{true, false, Result, Ok, Err}
use Rattle.refusal.specs.declared.Refusal.{Refusal}
use Rattle.replay_entry.specs.declared.Replayed.{Replayed}
use Rattle.replay_entry.specs.declared.Replayed.TheVariants as replayed
use Rattle.pair.specs.declared.PairRefusal.{PairRefusal}
use Rattle.pair_answers.specs.Answers.{of_number}
use Rattle.journal_answers.specs.declared.Answer.{Answer}
use Rattle.journal_answers.specs.declared.Outcome.{Outcome}
use Rattle.journal_answers.specs.declared.PairOutcome.{PairOutcome}

abbrev pub answer_seen : Result (Unit {0}) Refusal → Answer
answer_seen (Ok t) = record { number = 0; offset = 0 }
answer_seen (Err r) = record { number = r.number; offset = r.offset }

abbrev pub replay_seen : Result Replayed Refusal → Outcome
replay_seen (Ok (replayed.All n)) = record { number = 0; offset = 0; stopped = false; entries = n }
replay_seen (Ok (replayed.Stopped n i)) = record { number = n; offset = 0; stopped = true; entries = i }
replay_seen (Err r) = record { number = r.number; offset = r.offset; stopped = false; entries = 0 }

-- whose is the stream that the check refuses: 1 the template, 2 the session, 0 neither
abbrev pub pair_replay_seen : Result Replayed PairRefusal → PairOutcome
pair_replay_seen (Ok (replayed.All n)) = record { whose = 0; number = 0; offset = 0; stopped = false; entries = n }
pair_replay_seen (Ok (replayed.Stopped n i)) = record { whose = 0; number = n; offset = 0; stopped = true; entries = i }
pair_replay_seen (Err r) = record { whose = of_number r.of; number = r.number; offset = r.offset; stopped = false; entries = 0 }
