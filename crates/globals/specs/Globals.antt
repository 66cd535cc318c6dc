-- The globals: the first substream, in stream order, the first fault winning.
use Rattle.std.specs.Prelude.{ℕ, ◌+◌, ◌-◌, ◌*◌, List, Bool, true, false, Result, Ok, Err, length, ltb, leb, eqb}
use Rattle.steps.specs.Choice.{pick}
use Rattle.steps.specs.Walk.{Next, more, stop, run}
use Rattle.byte_numbers.specs.Bytes.{byte_at, u16_at}
use Rattle.refusal.specs.declared.Refusal.{Refusal}
use Rattle.refusal.specs.Refused.{refuse}
use Rattle.record.specs.declared.Header.{Header}
use Rattle.record.specs.declared.Header.TheVariants.{Record, Cut, End}
use Rattle.record.specs.Record.{header_at}
use Rattle.strings.specs.declared.Table.{Table}
use Rattle.segments.specs.Segments.{width_of}
use Rattle.strings.specs.Table.{table_of, answer_of}
use Rattle.globals.specs.declared.Globals.{Globals}
use Rattle.globals.specs.declared.Step.{Step}
use Rattle.globals.specs.declared.Step.TheVariants.{More, Close}

-- past a record; a CONTINUE right after a BOF or a BOUNDSHEET would have no parent
unfoldable pub past : Globals → Bool → ℕ → Globals
past v orphan e = record { at = e; orphan = orphan; table = v.table; unique = v.unique }

-- past the string table whose SST stands at v, with n strings
unfoldable pub past_table : Globals → ℕ → ℕ → Globals
past_table v n e = record { at = e; orphan = false; table = v.at; unique = n }

-- type byte at most 2, name length byte 1 to 31, flags byte (bit 0: two bytes a character), name to the record's end exactly
unfoldable pub sheet_fits : ℕ → ℕ → ℕ → ℕ → Bool
sheet_fits z type name flags =
    pick (leb type 2)
    (pick (leb 1 name)
    (pick (leb name 31)
    (pick (eqb (8 + name * width_of flags) z) true
    false) false) false) false

-- BOUNDSHEET: BOF position u32, state byte, type byte, name length byte, flags byte, name
unfoldable pub boundsheet_fits : List ℕ → ℕ → ℕ → Bool
boundsheet_fits s at z = pick (ltb z 8) false (sheet_fits z (byte_at s (at + 9)) (byte_at s (at + 10)) (byte_at s (at + 11)))

unfoldable pub boundsheet_record : List ℕ → Globals → ℕ → ℕ → Result Step Refusal
boundsheet_record s v z e = pick (boundsheet_fits s v.at z) (Ok (More (past v true e))) (refuse 6 v.at)

-- the walk goes on past the SST and its CONTINUEs; a second SST is 8
abbrev pub on_table : Globals → Result Table Refusal → Result Step Refusal
on_table v (Ok t) = Ok (More (past_table v t.strings t.end))
on_table v (Err r) = Err r

unfoldable pub sst_record : List ℕ → Globals → ℕ → Result Step Refusal
sst_record s v e = pick (eqb v.table 0) (on_table v (answer_of (table_of s v.at e))) (refuse 8 v.at)

-- nothing sits inside globals: a BOF of another size is 6, else it is 4
unfoldable pub bof_record : ℕ → ℕ → Result Step Refusal
bof_record at z = pick (eqb z 16) (refuse 4 at) (refuse 6 at)

unfoldable pub eof_record : Globals → ℕ → ℕ → Result Step Refusal
eof_record v z e = pick (eqb z 0) (Ok (Close (past v false e))) (refuse 6 v.at)

unfoldable pub continue_record : Globals → ℕ → Result Step Refusal
continue_record v e = pick v.orphan (refuse 7 v.at) (Ok (More (past v false e)))

-- BOUNDSHEET, SST and FILEPASS are read in the globals; all others are passed over
unfoldable pub record_in : List ℕ → Globals → ℕ → ℕ → ℕ → Result Step Refusal
record_in s v t z e =
    pick (eqb t 0x0085) (boundsheet_record s v z e)
    (pick (eqb t 0x00FC) (sst_record s v e)
    (pick (eqb t 0x002F) (refuse 5 v.at)
    (pick (eqb t 0x0809) (bof_record v.at z)
    (pick (eqb t 0x000A) (eof_record v z e)
    (pick (eqb t 0x003C) (continue_record v e)
    (Ok (More (past v false e))))))))

abbrev pub on_header : List ℕ → Globals → Header → Result Step Refusal
on_header s v (Record t z e) = record_in s v t z e
on_header s v Cut = refuse 2 v.at
on_header s v End = refuse 4 (length s)

unfoldable pub step_of : List ℕ → Globals → Result Step Refusal
step_of s v = on_header s v (header_at s v.at)

abbrev pub turn : Result Step Refusal → Next Globals (Result Globals Refusal)
turn (Ok (More v)) = more v
turn (Ok (Close v)) = stop (Ok v)
turn (Err r) = stop (Err r)

unfoldable pub records_from : List ℕ → Globals → Result Globals Refusal
records_from s v = run (λ v. turn (step_of s v)) (refuse 4 (length s)) (λ v. length s - v.at) v

-- u is the unique count where the stream has no SST
unfoldable pub opened : ℕ → Globals
opened u = record { at = 20; orphan = true; table = 0; unique = u }

-- the first record is a globals BOF: 16 bytes, version 0x0600, kind 0x0005; an empty stream and any other first record are 3
unfoldable pub is_globals_bof : List ℕ → ℕ → ℕ → Bool
is_globals_bof s t z =
    pick (eqb t 0x0809)
    (pick (eqb z 16)
    (pick (eqb (u16_at s 4) 0x0600)
    (pick (eqb (u16_at s 6) 0x0005) true
    false) false) false) false

abbrev pub on_first : List ℕ → ℕ → Header → Result Globals Refusal
on_first s u (Record t z e) = pick (is_globals_bof s t z) (records_from s (opened u)) (refuse 3 0)
on_first s u Cut = refuse 2 0
on_first s u End = refuse 3 0

unfoldable pub globals_of : List ℕ → ℕ → Result Globals Refusal
globals_of s u = on_first s u (header_at s 0)
