-- Starting a journal, and a correction that writes its entry.
-- u is the unique count of strings where the stream has no SST, t how many sheets the template has; both are 0 without a template.
use Rattle.std.specs.Prelude.{ℕ, Bool, List, Result, Ok, Err, length, ltb, eqb}
use Rattle.steps.specs.Choice.{pick}
use Rattle.refusal.specs.declared.Refusal.{Refusal}
use Rattle.refusal.specs.Refused.{refuse}
use Rattle.byte_numbers.specs.Bytes.{num_at}
use Rattle.number.specs.Float64.{bits_of}
use Rattle.value.specs.declared.Field.{Field}
use Rattle.value.specs.Value.{width_of}
use Rattle.new_value.specs.declared.NewValue.{NewValue}
use Rattle.new_value.specs.declared.NewValue.TheVariants.{Number, Text, Truth, Error}
use Rattle.new_value.specs.Change.{plan_of}
use Rattle.globals.specs.declared.Globals.{Globals}
use Rattle.workbook.specs.Check.{checked_of, on_checked}
use Rattle.correction.specs.declared.Aim.{Aim}
use Rattle.correction.specs.Correction.{Correction, refuses, writes}
use Rattle.correction.specs.Parts.{aim_in}
use Rattle.journal.specs.declared.Entry.{Entry}
use Rattle.journal.specs.Entries.{header, journal_fits, room_for, logged}

-- ---- starting
pub data Start : Type 0 where
  declines : ℕ → ℕ → Start
  begins : ℕ → Start

-- for a stream that passes: 12 if under 16 bytes are lent; n is how many are
unfoldable pub start_in : ℕ → ℕ → Start
start_in unique n = pick (ltb n 16) (declines 12 0) (begins unique)

-- any refusal that the check would give comes first
unfoldable pub start_of : List ℕ → ℕ → ℕ → Start
start_of s u n = on_checked declines (λ (g : Globals). start_in g.unique n) (checked_of s u)

abbrev pub start_answer : Start → Result (Unit {0}) Refusal
start_answer (declines n o) = refuse n o
start_answer (begins unique) = Ok tt

abbrev pub started_journal : List ℕ → List ℕ → Start → List ℕ
started_journal s j (declines n o) = j
started_journal s j (begins unique) = header (length s) unique j

-- ---- a journalled correction
-- the template's sheet: 17; no cell: 11; no room: 12; two or more cells: 16
abbrev pub on_room : Bool → Result Aim Refusal → Result Aim Refusal
on_room room (Ok a) = pick room (Ok a) (refuse 12 0)
on_room room (Err r) = pick (eqb r.number 16) (pick room (Err r) (refuse 12 0)) (Err r)

-- in a stream that passes: 21, then those
unfoldable pub spot_in : List ℕ → ℕ → ℕ → List ℕ → ℕ → ℕ → ℕ → Result Aim Refusal
spot_in s unique t j n row column = pick (journal_fits j (length s) unique) (on_room (room_for j) (aim_in s unique t n row column)) (refuse 21 0)

-- then 17 and 18
abbrev pub planned : Field → ℕ → Result ℕ Refusal → Correction
planned f p (Ok n) = writes f p n
planned f p (Err r) = refuses r.number r.offset

abbrev pub on_spot : NewValue → Result Aim Refusal → Correction
on_spot v (Ok a) = planned a.kind a.field (plan_of a.kind v a.unique)
on_spot v (Err r) = refuses r.number r.offset

unfoldable pub journalled_in : List ℕ → ℕ → ℕ → List ℕ → ℕ → ℕ → ℕ → NewValue → Correction
journalled_in s unique t j n row column v = on_spot v (spot_in s unique t j n row column)

-- any refusal that the check would give comes first
unfoldable pub journalled_of : List ℕ → ℕ → ℕ → List ℕ → ℕ → ℕ → ℕ → NewValue → Correction
journalled_of s u t j n row column v = on_checked refuses (λ (g : Globals). journalled_in s g.unique t j n row column v) (checked_of s u)

-- ---- what is written
abbrev pub kind_of : NewValue → ℕ
kind_of (Number x) = 0
kind_of (Text i) = 1
kind_of (Truth t) = 2
kind_of (Error e) = 3

abbrev pub number_of : NewValue → ℕ
number_of (Number x) = bits_of x
number_of (Text i) = i
number_of (Truth t) = t
number_of (Error e) = e

-- the entry of a correction of the value field of kind f at p
abbrev pub entry_of : List ℕ → ℕ → ℕ → ℕ → NewValue → Field → ℕ → Entry
entry_of s n row column v f p = record { sheet = n; row = row; column = column; kind = kind_of v; width = width_of f; old = num_at s (width_of f) p; new = number_of v }

-- the journal after it; the stream after it is `stream_after`
abbrev pub journal_after : List ℕ → List ℕ → ℕ → ℕ → ℕ → NewValue → Correction → List ℕ
journal_after s j n row column v (refuses m o) = j
journal_after s j n row column v (writes f p b) = logged (entry_of s n row column v f p) j
