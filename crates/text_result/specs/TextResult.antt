-- The text result of a formula: a STRING record right after the FORMULA, past one shared-formula, array or table record, and on through the CONTINUEs
-- right after it. A break in it is 6.
use Rattle.std.specs.Prelude.{ℕ, ◌+◌, ◌-◌, List, Bool, true, false, length, ltb, eqb}
use Rattle.steps.specs.Choice.{pick}
use Rattle.byte_numbers.specs.Bytes.{byte_at, u16_at, u64_at}
use Rattle.record.specs.declared.Header.{Header}
use Rattle.record.specs.declared.Header.TheVariants.{Record, Cut, End}
use Rattle.record.specs.Record.{header_at}
use Rattle.segments.specs.declared.Cursor.{Cursor}
use Rattle.segments.specs.Segments.{Got, got, refused, then, on, filled, need, width_of, items}
use Rattle.value.specs.declared.FormulaResult.{FormulaResult}
use Rattle.value.specs.declared.FormulaResult.TheVariants.{Number, NotNumber, Text, Truth, Error, Empty}
use Rattle.value.specs.Value.{result_of}

-- ---- which formulas have one
abbrev pub is_text : FormulaResult → Bool
is_text (Number x) = false
is_text (NotNumber b) = false
is_text Text = true
is_text (Truth t) = false
is_text (Error e) = false
is_text Empty = false

-- the record of type t whose header is at `at` is a FORMULA whose stored result is text
unfoldable pub has_text : List ℕ → ℕ → ℕ → Bool
has_text s t at = pick (eqb t 0x0006) (is_text (result_of (u64_at s (at + 10)))) false

-- ---- where it stands
-- a ShrFmla, Array or Table
unfoldable pub between : ℕ → Bool
between t = pick (eqb t 0x04BC) true (pick (eqb t 0x0221) true (eqb t 0x0236))

-- its STRING is looked for at p, where the formula ends, or past one such record that stands there whole
abbrev pub past_one : ℕ → Header → ℕ
past_one p (Record t z e) = pick (between t) e p
past_one p Cut = p
past_one p End = p

unfoldable pub string_place : List ℕ → ℕ → ℕ
string_place s p = past_one p (header_at s p)

-- a whole header of a STRING stands at p
unfoldable pub is_string : List ℕ → ℕ → Bool
is_string s p = pick (ltb (length s - p) 4) false (eqb (u16_at s p) 0x0207)

-- ---- the string: length u16, flags, of which only bit 0 counts, characters
-- the bytes of length and flags at p, and of the first character, if there is one: they stand in one segment
unfoldable pub start_size : List ℕ → ℕ → ℕ
start_size s p = pick (eqb (u16_at s p) 0) 3 (3 + width_of (byte_at s (p + 2)))

-- the string at c fills its segments: its units
unfoldable pub string_at : List ℕ → Cursor → Got (List ℕ)
string_at s c =
    then (need 6 (start_size s c.at) c) (λ _ d.
    then (items 6 s true (width_of (byte_at s (d.at + 2))) (u16_at s d.at) (on d 3)) (λ us e.
    then (filled 6 s e) (λ _ i. got us i)))

-- the STRING whose header is at p: 2 where its body is cut or over 8,224 bytes
abbrev pub body : ℕ → ℕ → Cursor
body p e = record { seg = p; at = p + 4; end = e }

abbrev pub on_string : List ℕ → ℕ → Header → Got (List ℕ)
on_string s p (Record t z e) = string_at s (body p e)
on_string s p Cut = refused 2 p
on_string s p End = refused 2 p

-- ---- the whole
-- of the formula whose header is at f, where its STRING is looked for at p: 6 at the formula where there is none
unfoldable pub text_at : List ℕ → ℕ → ℕ → Got (List ℕ)
text_at s f p = pick (is_string s p) (on_string s p (header_at s p)) (refused 6 f)

-- of the formula whose header is at f and whose record ends at e
unfoldable pub text_of : List ℕ → ℕ → ℕ → Got (List ℕ)
text_of s f e = text_at s f (string_place s e)
