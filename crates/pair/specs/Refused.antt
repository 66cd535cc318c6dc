-- Why a question over the pair gets no answer.
use Rattle.std.specs.Prelude.{ℕ, Result, Ok, Err}
use Rattle.refusal.specs.declared.Refusal.{Refusal}
use Rattle.pair.specs.declared.Whose.{Whose}
use Rattle.pair.specs.declared.Whose.TheVariants.{Session, Template}
use Rattle.pair.specs.declared.Of.{Of}
use Rattle.pair.specs.declared.Of.TheVariants as of
use Rattle.pair.specs.declared.StreamRefusal.{StreamRefusal}
use Rattle.pair.specs.declared.PairRefusal.{PairRefusal}

-- a refusal of the one stream or the other, as the check gives it
abbrev pub refuse_stream : {A : Type 0} → Whose → ℕ → ℕ → Result A StreamRefusal
refuse_stream w n o = Err (record { whose = w; number = n; offset = o })

-- a refusal of a question over the pair
abbrev pub refuse_of : {A : Type 0} → Of → ℕ → ℕ → Result A PairRefusal
refuse_of w n o = Err (record { of = w; number = n; offset = o })

-- a refusal of the check is of a stream
abbrev pub of_stream : Whose → Of
of_stream Session = of.Session
of_stream Template = of.Template

abbrev pub stream_refusal : StreamRefusal → PairRefusal
stream_refusal r = record { of = of_stream r.whose; number = r.number; offset = r.offset }

-- what a stream that passes refuses, the question does
abbrev pub question_refusal : Refusal → PairRefusal
question_refusal r = record { of = of.Question; number = r.number; offset = r.offset }

abbrev pub questioned : {A : Type 0} → Result A Refusal → Result A PairRefusal
questioned (Ok x) = Ok x
questioned (Err r) = Err (question_refusal r)
