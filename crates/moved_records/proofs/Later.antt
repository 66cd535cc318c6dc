-- What is said of the bytes from a place on, told of the whole stream: each offset is p more.
use Prim.Native.Nat.{ℕ, ◌+◌}
use Rattle.std.specs.Prelude.{Option, Result, Ok, Err}
use Rattle.refusal.specs.declared.Refusal.{Refusal}
use Rattle.refusal.specs.Refused.{refuse}
use Rattle.record.specs.declared.Header.{Header}
use Rattle.record.specs.declared.Header.TheVariants.{Record, Cut, End}
use Rattle.segments.specs.declared.Cursor.{Cursor}
use Rattle.segments.specs.Segments.{Got, got, refused}
use Rattle.substream.specs.declared.Here.{Here}
use Rattle.substream.specs.declared.Step.{Step}
use Rattle.substream.specs.declared.Step.TheVariants.{More, Open, Close}

abbrev pub later_header : ℕ → Header → Header
later_header p (Record t z e) = Record t z (p + e)
later_header p Cut = Cut
later_header p End = End

abbrev pub later_cursor : ℕ → Cursor → Cursor
later_cursor p c = record { seg = p + c.seg; at = p + c.at; end = p + c.end }

abbrev pub later_got : {A : Type 0} → ℕ → Got A → Got A
later_got p (got a c) = got a (later_cursor p c)
later_got p (refused n o) = refused n (p + o)

abbrev pub later_judged : ℕ → Result (Option ℕ) Refusal → Result (Option ℕ) Refusal
later_judged p (Ok x) = Ok x
later_judged p (Err r) = refuse r.number (p + r.offset)

abbrev pub later_here : ℕ → Here → Here
later_here p v = record { at = p + v.at; orphan = v.orphan }

abbrev pub later_step : ℕ → Result Step Refusal → Result Step Refusal
later_step p (Ok (More v)) = Ok (More (later_here p v))
later_step p (Ok (Open b)) = Ok (Open (p + b))
later_step p (Ok (Close e)) = Ok (Close (p + e))
later_step p (Err r) = refuse r.number (p + r.offset)
