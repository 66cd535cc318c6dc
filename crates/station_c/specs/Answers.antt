-- The answers as C sees them: the refusal's number, 0 where there is none, its offset, and what is answered; what isn't is 0.
use Rattle.std.specs.Prelude.{ℕ, true, false, List, eqb, Float, length, Option, Some, None, Result, Ok, Err}
use Rattle.steps.specs.Choice.{pick}
use Rattle.refusal.specs.declared.Refusal.{Refusal}
use Rattle.workbook.specs.Check.{Checked}
use Rattle.new_value.specs.declared.NewValue.{NewValue}
use Rattle.new_value.specs.declared.NewValue.TheVariants.{Number, Text, Truth, Error}
use Rattle.segments.specs.declared.Cursor.{Cursor}
use Rattle.globals.specs.Sheets.{sheets_of}
use Rattle.fetch.specs.declared.NextString.{NextString}
use Rattle.fetch.specs.Strings.{first_of}
use Rattle.reading.specs.Reading.{name_at}
use Rattle.listing.specs.Listing.{first_sheet}
use Rattle.reading.specs.declared.Place.{Place}
use Rattle.listing.specs.declared.NextSheet.{NextSheet}
use Rattle.compare.specs.declared.Side.{Side}
use Rattle.compare.specs.declared.Side.TheVariants as side
use Rattle.compare.specs.declared.Compared.{Compared}
use Rattle.compare.specs.declared.CompareRefusal.{CompareRefusal}
use Rattle.station_c.specs.declared.Check.{Check}
use Rattle.station_c.specs.declared.Answer.{Answer}
use Rattle.station_c.specs.declared.Units.{Units}
use Rattle.pair.specs.declared.PairRefusal.{PairRefusal}
use Rattle.pair_answers.specs.Answers.{of_number}
use Rattle.station_c.specs.declared.NewStream.{NewStream}
use Rattle.station_c.specs.declared.NewSession.{NewSession}
use Rattle.station_c.specs.declared.SharedString.{SharedString}
use Rattle.station_c.specs.declared.Sheet.{Sheet}
use Rattle.station_c.specs.declared.Cells.{Cells}
use Rattle.station_c.specs.declared.Filled.{Filled}
use Rattle.station_c.specs.declared.Comparison.{Comparison}
use Rattle.station_c.specs.declared.tables.FilledTable.{FilledTable}
use Rattle.cell_words.specs.Batch.{Batch}

-- how many sheets and strings; the sheet list starts after the globals' BOF, the strings in the table
abbrev pub check_seen : List ℕ → Checked → Check
check_seen s (Ok g) = record {
  number = 0;
  offset = 0;
  sheets = length (sheets_of s);
  strings = g.unique;
  sheet = first_sheet;
  segment = (first_of s g.table).seg;
  at = (first_of s g.table).at;
  end = (first_of s g.table).end;
}
check_seen s (Err e) = record { number = e.number; offset = e.offset; sheets = 0; strings = 0; sheet = 0; segment = 0; at = 0; end = 0 }

-- of a judgement and of a correction
abbrev pub answer_seen : Result (Unit {0}) Refusal → Answer
answer_seen (Ok t) = record { number = 0; offset = 0 }
answer_seen (Err e) = record { number = e.number; offset = e.offset }

abbrev pub fetch_seen : Result ℕ Refusal → Units
fetch_seen (Ok n) = record { number = 0; offset = 0; units = n }
fetch_seen (Err e) = record { number = e.number; offset = e.offset; units = 0 }

abbrev pub table_seen : Result ℕ Refusal → FilledTable
table_seen (Ok n) = record { number = 0; offset = 0; strings = n }
table_seen (Err e) = record { number = e.number; offset = e.offset; strings = 0 }

abbrev pub compact_seen : Result ℕ Refusal → NewStream
compact_seen (Ok n) = record { number = 0; offset = 0; written = n }
compact_seen (Err e) = record { number = e.number; offset = e.offset; written = 0 }

abbrev pub pair_compact_seen : Result ℕ PairRefusal → NewSession
pair_compact_seen (Ok n) = record { whose = 2; number = 0; offset = 0; written = n }
pair_compact_seen (Err e) = record { whose = of_number e.of; number = e.number; offset = e.offset; written = 0 }

-- the next string from a place on: the place stays where there is none, or no room for it
abbrev pub text_seen : Cursor → Result (Option NextString) Refusal → SharedString
text_seen c (Ok (Some x)) = record { ended = false; number = 0; offset = 0; units = x.units; segment = x.next.seg; at = x.next.at; end = x.next.end }
text_seen c (Err e) = record { ended = false; number = e.number; offset = e.offset; units = 0; segment = c.seg; at = c.at; end = c.end }
text_seen c (Ok None) = record { ended = true; number = 0; offset = 0; units = 0; segment = c.seg; at = c.at; end = c.end }

abbrev pub cells_seen : Result Place Refusal → Cells
cells_seen (Ok v) = record { number = 0; offset = 0; at = v.at; part = v.part; level = v.level }
cells_seen (Err e) = record { number = e.number; offset = e.offset; at = 0; part = 0; level = 0 }

-- a sheet's name starts 12 bytes after its BOUNDSHEET's header
abbrev pub sheet_seen : List ℕ → Option NextSheet → Sheet
sheet_seen s (Some x) = record {
  ended = false;
  header = x.header;
  size = length (name_at s x.header);
  width = x.width;
  kind = x.type_byte;
  at = x.cells.at;
  part = x.cells.part;
  level = x.cells.level;
  next = x.next;
}
sheet_seen s None = record { ended = true; header = 0; size = 0; width = 0; kind = 0; at = 0; part = 0; level = 0; next = 0 }

-- a new value by its kind: 0 a number, 1 a text index, 2 a truth, else an error code
unfoldable pub new_value : ℕ → Float → ℕ → ℕ → NewValue
new_value kind x index byte = pick (eqb kind 0) (Number x) (pick (eqb kind 1) (Text index) (pick (eqb kind 2) (Truth byte) (Error byte)))

-- how far a batch of cells came
abbrev pub filled_by : ℕ → Option Place → Filled
filled_by n (Some v) = record { cells = n; ended = false; at = v.at; part = v.part; level = v.level }
filled_by n None = record { cells = n; ended = true; at = 0; part = 0; level = 0 }

abbrev pub filled_seen : Batch → Filled
filled_seen x = filled_by x.cells x.rest

-- of a comparison: how many words, and whether there are more; or the refusal of the first stream, 1, or of the second, 2
abbrev pub side_seen : Side → ℕ
side_seen side.First = 1
side_seen side.Second = 2

abbrev pub compared_seen : Result Compared CompareRefusal → Comparison
compared_seen (Ok x) = record { number = 0; which = 0; offset = 0; words = x.words; more = x.more }
compared_seen (Err e) = record { number = e.number; which = side_seen e.side; offset = e.offset; words = 0; more = false }
