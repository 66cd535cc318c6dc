-- The answers over a template and a session in plain numbers: the refusal's number, 0 where there is none, its offset, and what is answered; what isn't is 0.
use Rattle.std.specs.Prelude.{ℕ, List, eqb, length, Result, Ok, Err}
use Rattle.steps.specs.Choice.{pick}
use Rattle.globals.specs.Sheets.{sheets_of}
use Rattle.reading.specs.Reading.{name_at}
use Rattle.listing.specs.Listing.{first_sheet}
use Rattle.fetch.specs.Strings.{first_of}
use Rattle.string_places.specs.Parts.{count_of}
use Rattle.pair.specs.declared.Whose.{Whose}
use Rattle.pair.specs.declared.Whose.TheVariants.{Session, Template}
use Rattle.pair.specs.declared.Of.{Of}
use Rattle.pair.specs.declared.Of.TheVariants as of
use Rattle.pair.specs.declared.StreamRefusal.{StreamRefusal}
use Rattle.pair.specs.declared.PairRefusal.{PairRefusal}
use Rattle.pair.specs.declared.PairChecked.{PairChecked}
use Rattle.pair.specs.declared.PairSheet.{PairSheet}
use Rattle.pair.specs.declared.PairCells.{PairCells}
use Rattle.pair_texts.specs.declared.PairFetched.{PairFetched}
use Rattle.pair_texts.specs.declared.PairFilled.{PairFilled}
use Rattle.pair_texts.specs.Texts.{table_of}
use Rattle.pair_answers.specs.declared.Stream.{Stream}
use Rattle.pair_answers.specs.declared.Check.{Check}
use Rattle.pair_answers.specs.declared.Sheet.{Sheet}
use Rattle.pair_answers.specs.declared.Cells.{Cells}
use Rattle.pair_answers.specs.declared.Units.{Units}
use Rattle.pair_answers.specs.declared.Answer.{Answer}
use Rattle.pair_answers.specs.declared.Filled.{Filled}

abbrev pub whose_number : Whose → ℕ
whose_number Template = 1
whose_number Session = 2

-- a refusal of the question itself is nobody's
abbrev pub of_number : Of → ℕ
of_number of.Question = 0
of_number of.Template = 1
of_number of.Session = 2

-- whose index is asked
unfoldable pub whose_asked : ℕ → Whose
whose_asked n = pick (eqb n 1) Template Session

-- what the check tells of a stream whose SST is at p, 0 where there is none, and whose unique count is u
unfoldable pub stream_of : List ℕ → ℕ → ℕ → Stream
stream_of s p u = record { sheets = length (sheets_of s); strings = count_of p u; segment = (first_of s p).seg; at = (first_of s p).at; end = (first_of s p).end }

abbrev pub both_seen : ℕ → Stream → Stream → Check
both_seen w a b = record {
  whose = 0;
  number = 0;
  offset = 0;
  table = w;
  sheet = first_sheet;
  sheets = a.sheets;
  strings = a.strings;
  segment = a.segment;
  at = a.at;
  end = a.end;
  ownsheets = b.sheets;
  ownstrings = b.strings;
  ownsegment = b.segment;
  ownat = b.at;
  ownend = b.end;
}

-- t is the template, s the session
abbrev pub check_seen : List ℕ → List ℕ → Result PairChecked StreamRefusal → Check
check_seen t s (Ok x) =
    both_seen (whose_number (table_of Session x.session)) (stream_of t x.template.table x.template.unique) (stream_of s x.session.table x.session.unique)
check_seen t s (Err r) = record {
  whose = whose_number r.whose;
  number = r.number;
  offset = r.offset;
  table = 0;
  sheet = 0;
  sheets = 0;
  strings = 0;
  segment = 0;
  at = 0;
  end = 0;
  ownsheets = 0;
  ownstrings = 0;
  ownsegment = 0;
  ownat = 0;
  ownend = 0;
}

-- the name of the sheet whose BOUNDSHEET is at h in the one stream or the other
abbrev pub name_in : List ℕ → List ℕ → Whose → ℕ → List ℕ
name_in t s Template h = name_at t h
name_in t s Session h = name_at s h

abbrev pub sheet_seen : List ℕ → List ℕ → Result PairSheet PairRefusal → Sheet
sheet_seen t s (Ok x) = record {
  whose = whose_number x.whose;
  number = 0;
  offset = 0;
  header = x.header;
  size = length (name_in t s x.whose x.header);
  width = x.width;
  kind = x.type_byte;
  rows = x.rows;
}
sheet_seen t s (Err r) = record { whose = of_number r.of; number = r.number; offset = r.offset; header = 0; size = 0; width = 0; kind = 0; rows = 0 }

abbrev pub cells_seen : Result PairCells PairRefusal → Cells
cells_seen (Ok x) = record { whose = whose_number x.whose; number = 0; offset = 0; at = x.place.at; part = x.place.part; level = x.place.level }
cells_seen (Err r) = record { whose = of_number r.of; number = r.number; offset = r.offset; at = 0; part = 0; level = 0 }

abbrev pub units_seen : Result PairFetched PairRefusal → Units
units_seen (Ok x) = record { whose = whose_number x.whose; number = 0; offset = 0; units = x.units }
units_seen (Err r) = record { whose = of_number r.of; number = r.number; offset = r.offset; units = 0 }

-- a granted correction is the session's
abbrev pub answer_seen : Result (Unit {0}) PairRefusal → Answer
answer_seen (Ok x) = record { whose = whose_number Session; number = 0; offset = 0 }
answer_seen (Err r) = record { whose = of_number r.of; number = r.number; offset = r.offset }

abbrev pub filled_seen : Result PairFilled PairRefusal → Filled
filled_seen (Ok x) = record { whose = 0; number = 0; offset = 0; strings = x.template; ownstrings = x.session }
filled_seen (Err r) = record { whose = of_number r.of; number = r.number; offset = r.offset; strings = 0; ownstrings = 0 }
