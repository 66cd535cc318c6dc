-- What the contracts of the inner functions speak of.
use Rattle.std.specs.Prelude.{ℕ, ◌≡◌, List, Result, Ok, Err}
use Rattle.refusal.specs.declared.Refusal.{Refusal}
use Rattle.segments.specs.declared.Cursor.{Cursor}
use Rattle.segments.specs.Segments.{Got, got, refused}
use Rattle.segments.specs.Parts.{Inside}
use Rattle.text_result.specs.TextResult.{string_at}

-- a text x starts at a cursor; or it is refused before
abbrev pub StartsAt : List ℕ → Got (List ℕ) → Result Cursor Refusal → Type 0
StartsAt s x (Ok c) = Inside s c × (string_at s c ≡ x)
StartsAt s x (Err r) = refused r.number r.offset ≡ x

-- the reading has come to the end of the segment
abbrev pub at_end : Cursor → Got Unit
at_end c = got tt (record { seg = c.seg; at = c.end; end = c.end })
