-- What the contracts of the writer's functions speak of: pieces written one after another into a buffer.
use Rattle.std.specs.Prelude.{ℕ, ◌+◌, ◌-◌, ◌*◌, ◌≤◌, ◌≡◌, List, [], ◌∷◌, ◌++◌, map, Bool, true, false, length, eqb}
use Rattle.steps.specs.Choice.{pick}
use Rattle.byte_numbers.specs.Bytes.{num_at, bytes_of}
use Rattle.segments.specs.declared.Cursor.{Cursor}
use Rattle.segments.specs.Segments.{Got, got, then, list_of, on, items}
use Rattle.segments.specs.Parts.{stored}
use Rattle.strings.specs.declared.Head.{Head}
use Rattle.strings.specs.Table.{phonetic_bit, rich_bit, next_place, strings}
use Rattle.flags.specs.Flags.{flags_from}
use Rattle.table_texts.specs.Texts.{Text, text_of, text_at, the_text, kept}
use Rattle.table_texts.specs.Written.{Piece, opens, laid_size, item_pieces, wide_bit, text_pieces, pieces_of, table_bytes}
use Rattle.table_writer.specs.declared.writer.Out.{Out}

-- where the writer has come to, as an Out tells it
pub record Reached : Type 0 where
  pub seg : ℕ
  pub at : ℕ
  pub room : ℕ

-- what the buffer holds, and where the writer has come to in it
pub record Wrote : Type 0 where
  pub buf : List ℕ
  pub out : Reached

unfoldable pub state : List ℕ → Out → Wrote
state b o = record { buf = b; out = record { seg = o.seg; at = o.at; room = o.room } }

-- the size of the segment at hand, into its header
unfoldable pub closed : Wrote → List ℕ
closed w = stored w.buf (w.out.seg + 2) (bytes_of 2 (w.out.at - (w.out.seg + 4)))

-- bytes in the segment at hand
unfoldable pub added : Wrote → List ℕ → Wrote
added w bs = record { buf = stored w.buf w.out.at bs; out = record { seg = w.out.seg; at = w.out.at + length bs; room = w.out.room - length bs } }

-- a CONTINUE after it, with nothing in it yet; its size is stored when it is closed
unfoldable pub opened : Wrote → Wrote
opened w = record { buf = stored (closed w) w.out.at (bytes_of 2 0x003c); out = record { seg = w.out.at; at = w.out.at + 4; room = 8224 } }

-- a piece
unfoldable pub step : Wrote → Piece → Wrote
step w p = pick (opens w.out.room p) (added (added (opened w) p.opening) p.body) (added w p.body)

-- pieces one after another
unfoldable pub wrote : Wrote → List Piece → Wrote
wrote w [] = w
wrote w (p ∷ ps) = wrote (step w p) ps

-- pieces, and the end of the table
unfoldable pub finished : Wrote → List Piece → List ℕ
finished w ps = closed (wrote w ps)

-- ---- what the writer's functions ask for
-- the buffer is long enough for these pieces
unfoldable pub Long : Wrote → List Piece → Type 0
Long w ps = w.out.at + laid_size w.out.room ps ≤ length w.buf

-- the widths of items: 1, 2 or 4, and of characters 1 or 2
pub record Item (f : Bool) (w : ℕ) : Type 0 where
  pub some : 1 ≤ w
  pub few : w ≤ 4
  pub even : w ≡ 3 → ⊥
  pub char : f ≡ true → w ≤ 2

-- items that are read, as they are written with v bytes each
abbrev pub written : Bool → ℕ → Got (List ℕ) → List Piece
written f v x = item_pieces f v (list_of x)

-- n items of w bytes are written as they are: bytes, of which `here` are left in their segment, into one that has `room` bytes left
abbrev pub Stays : ℕ → ℕ → ℕ → ℕ → ℕ → Type 0
Stays w v n here room = (w ≡ 1) × (v ≡ 1) × (n ≤ here) × (n ≤ room)

-- ---- the parts of a string
-- its head, from the numbers of the old one: the old flags, and whether it is wide now
abbrev pub new_flags : ℕ → ℕ → ℕ
new_flags flags wide = wide + 4 * phonetic_bit flags + 8 * rich_bit flags

abbrev pub counts_size : ℕ → ℕ
counts_size flags = 2 * rich_bit flags + 4 * phonetic_bit flags

unfoldable pub counts_body : ℕ → Head → List ℕ
counts_body flags h = bytes_of (2 * rich_bit flags) h.runs ++ bytes_of (4 * phonetic_bit flags) h.phonetic

unfoldable pub lead_body : ℕ → ℕ → Head → List ℕ
lead_body flags wide h = bytes_of 2 h.chars ++ bytes_of 1 (new_flags flags wide)

unfoldable pub head_body : ℕ → ℕ → Head → List ℕ
head_body flags wide h = lead_body flags wide h ++ counts_body flags h

-- and the first character, v bytes of n
unfoldable pub start_body : ℕ → ℕ → Head → ℕ → ℕ → List ℕ
start_body flags wide h v n = head_body flags wide h ++ bytes_of v n

abbrev pub start_size : ℕ → ℕ → ℕ
start_size flags v = 3 + counts_size flags + v

abbrev pub plain_piece : List ℕ → Piece
plain_piece b = record { opening = []; body = b }

-- head and characters, the first of which stands at g and has u bytes
unfoldable pub from_pieces : List ℕ → ℕ → ℕ → Head → ℕ → Cursor → List Piece
from_pieces s flags wide h u g = plain_piece (start_body flags wide h (1 + wide) (num_at s u g.at)) ∷ item_pieces true (1 + wide) (list_of (items 8 s true u (h.chars - 1) (on g u)))

-- head and characters
unfoldable pub char_pieces : ℕ → Head → List ℕ → List Piece
char_pieces flags h [] = plain_piece (start_body flags 0 h 0 0) ∷ []
char_pieces flags h (u ∷ us) = plain_piece (start_body flags (wide_bit (u ∷ us)) h (1 + wide_bit (u ∷ us)) u) ∷ item_pieces true (1 + wide_bit (u ∷ us)) us

-- runs and phonetic bytes
unfoldable pub rest_at : List ℕ → Head → Cursor → Got Text
rest_at s h c = then (items 8 s false 4 h.runs c) (λ rs g. then (items 8 s false 1 h.phonetic g) (λ ps i. got (text_of 0 [] rs ps) i))

unfoldable pub rest_pieces : Text → List Piece
rest_pieces t = item_pieces false 4 t.runs ++ item_pieces false 1 t.phonetic

-- ---- n strings from c on, with all that stands with them
unfoldable pub texts_from : List ℕ → ℕ → Cursor → List Text
texts_from s n c = map (λ (d : Cursor). the_text (text_at s d)) (list_of (strings s n c))

-- the next one, wherever its head stands
unfoldable pub next_text : List ℕ → Cursor → Got Text
next_text s c = then (next_place s c) (λ _ d. text_at s d)

-- its pieces if its mark is not 0
unfoldable pub marked_pieces : ℕ → Text → List Piece
marked_pieces m t = pick (eqb m 0) [] (text_pieces t [])

-- the pieces of those of n that are kept, from flag i on
unfoldable pub left_pieces : List ℕ → List ℕ → ℕ → ℕ → Cursor → List Piece
left_pieces s flags n i c = pieces_of (kept (flags_from flags i (n - i)) (texts_from s (n - i) c))

-- ---- the table
unfoldable pub with_counts : List ℕ → ℕ → ℕ → ℕ → List ℕ
with_counts b p total n = stored (stored b (p + 4) (bytes_of 4 total)) (p + 8) (bytes_of 4 n)

-- the SST's header, without its size, and the two counts
unfoldable pub table_start : List ℕ → ℕ → ℕ → ℕ → Wrote
table_start b p total n = record {
  buf = with_counts (stored b p (bytes_of 2 0x00fc)) p total n;
  out = record { seg = p; at = p + 12; room = 8224 - 8 };
}

-- the table of the kept strings, in the buffer from p on
unfoldable pub with_table : List ℕ → ℕ → ℕ → List Text → List ℕ
with_table b p total ts = stored b p (table_bytes total ts)
