-- The records of one substream after the globals, in stream order, the first fault winning.
use Rattle.std.specs.Prelude.{ℕ, zero, suc, ◌+◌, ◌-◌, List, Bool, true, false, Option, None, Some, Result, Ok, Err, length, leb, eqb}
use Rattle.steps.specs.Choice.{pick}
use Rattle.steps.specs.Walk.{Next, more, stop, run}
use Rattle.byte_numbers.specs.Bytes.{u16_at, u32_at}
use Rattle.refusal.specs.declared.Refusal.{Refusal}
use Rattle.refusal.specs.Refused.{refuse}
use Rattle.record.specs.declared.Header.{Header}
use Rattle.record.specs.declared.Header.TheVariants.{Record, Cut, End}
use Rattle.record.specs.Record.{header_at}
use Rattle.cell.specs.Cells.{shape_of, judge_of}
use Rattle.segments.specs.Segments.{Got, got, refused}
use Rattle.text_result.specs.TextResult.{has_text, text_of}
use Rattle.substream.specs.declared.Here.{Here}
use Rattle.substream.specs.declared.Step.{Step}
use Rattle.substream.specs.declared.Step.TheVariants.{More, Open, Close}

-- past a record, where a CONTINUE has a parent or not
abbrev pub past : ℕ → Here
past e = record { at = e; orphan = false }

abbrev pub past_parent : ℕ → Here
past_parent e = record { at = e; orphan = true }

-- a BOF's version and kind
abbrev pub version_at : List ℕ → ℕ → ℕ
version_at s at = u16_at s (at + 4)

abbrev pub kind_at : List ℕ → ℕ → ℕ
kind_at s at = u16_at s (at + 6)

-- A BOF inside a substream of kind k: another size than 16 is 6; only a chart may sit there, and nothing inside a macro sheet, else it is 4.
unfoldable pub inner_bof : List ℕ → ℕ → ℕ → ℕ → Result Step Refusal
inner_bof s k at z =
    pick (eqb z 16)
    (pick (eqb k 0x0040) (refuse 4 at)
    (pick (eqb (kind_at s at) 0x0020) (Ok (Open at)) (refuse 4 at)))
    (refuse 6 at)

-- BOF and EOF are judged in every substream; a CONTINUE right after a BOF or a record that is read is 7; all others are passed over
unfoldable pub other_record : List ℕ → ℕ → Here → ℕ → ℕ → ℕ → Result Step Refusal
other_record s k v t z e =
    pick (eqb t 0x0809) (inner_bof s k v.at z)
    (pick (eqb t 0x000A) (pick (eqb z 0) (Ok (Close e)) (refuse 6 v.at))
    (pick (eqb t 0x003C) (pick v.orphan (refuse 7 v.at) (Ok (More (past e))))
    (Ok (More (past e)))))

-- 14 bytes: first row at most 65,535, last row plus one at most 65,536, first column at most 255, last column plus one at most 256
unfoldable pub dimensions_fit : List ℕ → ℕ → ℕ → Bool
dimensions_fit s at z =
    pick (eqb z 14)
    (pick (leb (u32_at s (at + 4)) 65535)
    (pick (leb (u32_at s (at + 8)) 65536)
    (pick (leb (u16_at s (at + 12)) 255)
    (pick (leb (u16_at s (at + 14)) 256) true
    false) false) false) false) false

unfoldable pub dimensions_record : List ℕ → ℕ → ℕ → ℕ → Result Step Refusal
dimensions_record s at z e = pick (dimensions_fit s at z) (Ok (More (past e))) (refuse 6 at)

-- past a text result, or its refusal
abbrev pub on_text : Got (List ℕ) → Result Step Refusal
on_text (got us c) = Ok (More (past c.end))
on_text (refused n o) = refuse n o

-- a cell record that passes; after a FORMULA whose result is text, past its STRING too
unfoldable pub passed_record : List ℕ → ℕ → ℕ → ℕ → Result Step Refusal
passed_record s at t e = pick (has_text s t at) (on_text (text_of s at e)) (Ok (More (past_parent e)))

-- DIMENSIONS and the cell records are read directly in a worksheet; u is the unique count of strings. A STRING that no formula waits for is 6
abbrev pub on_judged : List ℕ → ℕ → Here → ℕ → ℕ → ℕ → Result (Option ℕ) Refusal → Result Step Refusal
on_judged s k v t z e (Ok (Some n)) = passed_record s v.at t e
on_judged s k v t z e (Err r) = Err r
on_judged s k v t z e (Ok None) =
    pick (eqb t 0x0200) (dimensions_record s v.at z e)
    (pick (eqb t 0x0207) (refuse 6 v.at)
    (other_record s k v t z e))

unfoldable pub record_in : List ℕ → ℕ → ℕ → Here → ℕ → ℕ → ℕ → Result Step Refusal
record_in s k u v t z e =
    pick (eqb k 0x0010) (on_judged s k v t z e (judge_of s (shape_of t) v.at z u))
    (other_record s k v t z e)

-- a header or body that passes the end, or a body over 8,224 bytes, is 2; a stream that ends inside a substream is 4
abbrev pub on_header : List ℕ → ℕ → ℕ → Here → Header → Result Step Refusal
on_header s k u v (Record t z e) = record_in s k u v t z e
on_header s k u v Cut = refuse 2 v.at
on_header s k u v End = refuse 4 (length s)

unfoldable pub step_of : List ℕ → ℕ → ℕ → Here → Result Step Refusal
step_of s k u v = on_header s k u v (header_at s v.at)

-- after a substream inside: on from its end, or its refusal
abbrev pub back : Result ℕ Refusal → Next Here (Result ℕ Refusal)
back (Ok e) = more (past e)
back (Err r) = stop (Err r)

-- inner is the walk of a chart that sits inside
abbrev pub turn : (ℕ → Result ℕ Refusal) → Result Step Refusal → Next Here (Result ℕ Refusal)
turn inner (Ok (More v)) = more v
turn inner (Ok (Open b)) = back (inner b)
turn inner (Ok (Close e)) = stop (Ok e)
turn inner (Err r) = stop (Err r)

unfoldable pub records_from : (ℕ → Result ℕ Refusal) → List ℕ → ℕ → ℕ → Here → Result ℕ Refusal
records_from inner s k u v = run (λ v. turn inner (step_of s k u v)) (refuse 4 (length s)) (λ v. length s - v.at) v

-- The substream of kind k whose BOF stands at b, where d substreams may lie inside each other, this one counted: 4 at the BOF where none may,
-- 6 where its version is not 0x0600. Only charts sit inside.
unfoldable pub substream_in : ℕ → List ℕ → ℕ → ℕ → ℕ → Result ℕ Refusal
substream_in zero s u k b = refuse 4 b
substream_in (suc d) s u k b =
    pick (eqb (version_at s b) 0x0600) (records_from (substream_in d s u 0x0020) s k u (past_parent (b + 20)))
    (refuse 6 b)
