-- The record at a place. Header: type u16, size u16; then the body.
use Rattle.std.specs.Prelude.{ℕ, ◌+◌, ◌-◌, List, length, ltb, leb}
use Rattle.steps.specs.Choice.{pick}
use Rattle.byte_numbers.specs.Bytes.{u16_at}
use Rattle.record.specs.declared.Header.{Header}
use Rattle.record.specs.declared.Header.TheVariants.{Record, Cut, End}

-- nothing is left: End; a header or body passes the end, or a body is over 8,224 bytes: Cut, which is refused as 2
unfoldable pub header_at : List ℕ → ℕ → Header
header_at s at =
    pick (leb (length s) at) End
    (pick (ltb (length s - at) 4) Cut
    (pick (ltb 8224 (u16_at s (at + 2))) Cut
    (pick (ltb (length s - (at + 4)) (u16_at s (at + 2))) Cut
    (Record (u16_at s at) (u16_at s (at + 2)) (at + 4 + u16_at s (at + 2))))))
