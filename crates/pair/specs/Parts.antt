-- What the contracts of the inner functions speak of.
use Rattle.std.specs.Prelude.{ℕ, ◌+◌, ◌≤◌, List, length, Option, Some, None, Result, Ok, Err}
use Rattle.sheet_agreement.specs.Agreement.{Sheet}
use Rattle.globals.specs.declared.Globals.{Globals}
use Rattle.workbook.specs.Check.{Checked}
use Rattle.listing.specs.Parts.{sought}
use Rattle.pair.specs.declared.Whose.{Whose}
use Rattle.pair.specs.declared.Whose.TheVariants.{Session, Template}
use Rattle.pair.specs.declared.Of.TheVariants as of
use Rattle.pair.specs.declared.StreamRefusal.{StreamRefusal}
use Rattle.pair.specs.declared.PairRefusal.{PairRefusal}
use Rattle.pair.specs.declared.PairChecked.{PairChecked}
use Rattle.pair.specs.declared.Where.{Where}
use Rattle.pair.specs.Refused.{refuse_stream, refuse_of}
use Rattle.pair.specs.Pair.{pair_of, on_pair, sheet_from}

-- what the check of one of the two streams gives
abbrev pub checked_for : Whose → Checked → Result Globals StreamRefusal
checked_for w (Ok g) = Ok g
checked_for w (Err r) = refuse_stream w r.number r.offset

-- the one stream or the other: t is the template, s the session
abbrev pub stream_of : Whose → List ℕ → List ℕ → List ℕ
stream_of Session t s = s
stream_of Template t s = t

abbrev pub globals_in : PairChecked → Whose → Globals
globals_in c Session = c.session
globals_in c Template = c.template

-- a sheet and the stream that has it
abbrev pub standing : Whose → Sheet → Where
standing w x = record { whose = w; sheet = sought x }

unfoldable pub where_of : List ℕ → List ℕ → ℕ → Option Where
where_of t s n = sheet_from t s n (λ w _ x. Some (standing w x)) None

-- its BOUNDSHEET has the 8 bytes of its fields within that stream
abbrev pub Within : List ℕ → List ℕ → Where → Type 0
Within t s w = w.sheet.header + 12 ≤ length (stream_of w.whose t s)

-- after the check
unfoldable pub found_of : List ℕ → List ℕ → ℕ → Result Where PairRefusal
found_of t s n = on_pair refuse_of (λ _ _. sheet_from t s n (λ w _ x. Ok (standing w x)) (refuse_of of.Question 11 0)) (pair_of t s)
