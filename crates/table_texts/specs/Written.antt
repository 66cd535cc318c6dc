-- The bytes of a string table that is written anew: an SST and its CONTINUEs, from the strings that it is to have.
use Rattle.std.specs.Prelude.{ℕ, ◌+◌, ◌-◌, ◌*◌, List, [], ◌∷◌, ◌++◌, Bool, true, false, length, ltb}
use Rattle.steps.specs.Choice.{pick}
use Rattle.byte_numbers.specs.Bytes.{bytes_of}
use Rattle.table_texts.specs.Texts.{Text}

-- ---- pieces in segments
-- bytes that stand together in one segment; where they are the first of a CONTINUE, the opening stands before them
pub record Piece : Type 0 where
  pub opening : List ℕ
  pub body : List ℕ

-- pieces laid in segments: what stands in the segment at hand, and the bodies of the CONTINUEs after it
pub record Laid : Type 0 where
  pub here : List ℕ
  pub more : List (List ℕ)

abbrev pub laid_none : Laid
laid_none = record { here = []; more = [] }

-- a piece before what is laid: the first of a CONTINUE, or in the segment at hand
abbrev pub put : Bool → Piece → Laid → Laid
put true p l = record { here = []; more = (p.opening ++ (p.body ++ l.here)) ∷ l.more }
put false p l = record { here = p.body ++ l.here; more = l.more }

-- where r bytes are left of a segment: a piece that is longer opens a CONTINUE
abbrev pub opens : ℕ → Piece → Bool
opens r p = ltb r (length p.body)

-- the bytes that are left after it; a segment has at most 8,224
abbrev pub room_after : ℕ → Piece → ℕ
room_after r p = pick (opens r p) (8224 - (length p.opening + length p.body)) (r - length p.body)

-- pieces one after another, r bytes being left of the segment at hand: each segment is filled as far as whole pieces do
unfoldable pub lay : ℕ → List Piece → Laid
lay r [] = laid_none
lay r (p ∷ ps) = put (opens r p) p (lay (room_after r p) ps)

-- how many bytes that is, with the CONTINUEs' headers
unfoldable pub laid_size : ℕ → List Piece → ℕ
laid_size r [] = 0
laid_size r (p ∷ ps) = pick (opens r p) (4 + length p.opening) 0 + (length p.body + laid_size (room_after r p) ps)

-- ---- the pieces of a string
-- before a character that opens a CONTINUE a flags byte tells the width anew; nothing stands before a run or a phonetic byte
abbrev pub opening_of : Bool → ℕ → List ℕ
opening_of true w = (w - 1) ∷ []
opening_of false w = []

abbrev pub piece_of : Bool → ℕ → ℕ → Piece
piece_of f w n = record { opening = opening_of f w; body = bytes_of w n }

-- items of w bytes: characters, f, or runs, or phonetic bytes; none is cut
unfoldable pub item_pieces : Bool → ℕ → List ℕ → List Piece
item_pieces f w [] = []
item_pieces f w (n ∷ ns) = piece_of f w n ∷ item_pieces f w ns

-- 1 where a character is over 255: then all are wide
unfoldable pub wide_bit : List ℕ → ℕ
wide_bit [] = 0
wide_bit (u ∷ us) = pick (ltb 255 u) 1 (wide_bit us)

abbrev pub width_of_text : Text → ℕ
width_of_text t = 1 + wide_bit t.units

-- bit 0 the width, bits 2 and 3 as they were, the others 0
abbrev pub flags_of : Text → ℕ
flags_of t = wide_bit t.units + 4 * t.voiced + 8 * t.rich

-- length u16, flags, run count u16 if rich, phonetic size u32 if voiced
unfoldable pub head_bytes : Text → List ℕ
head_bytes t = bytes_of 2 (length t.units) ++ (flags_of t ∷ (bytes_of (2 * t.rich) (length t.runs) ++ bytes_of (4 * t.voiced) (length t.phonetic)))

-- the first character stands with the head
abbrev pub first_bytes : ℕ → List ℕ → List ℕ
first_bytes w [] = []
first_bytes w (u ∷ us) = bytes_of w u

abbrev pub later : List ℕ → List ℕ
later [] = []
later (u ∷ us) = us

abbrev pub start_piece : Text → Piece
start_piece t = record { opening = []; body = head_bytes t ++ first_bytes (width_of_text t) t.units }

-- the head with the first character, the other characters, the runs, the phonetic bytes; then what comes after the string
unfoldable pub text_pieces : Text → List Piece → List Piece
text_pieces t ps = start_piece t ∷ (item_pieces true (width_of_text t) (later t.units) ++ (item_pieces false 4 t.runs ++ (item_pieces false 1 t.phonetic ++ ps)))

unfoldable pub pieces_of : List Text → List Piece
pieces_of [] = []
pieces_of (t ∷ ts) = text_pieces t (pieces_of ts)

-- ---- the table
-- a record of type k
unfoldable pub record_bytes : ℕ → List ℕ → List ℕ
record_bytes k b = bytes_of 2 k ++ (bytes_of 2 (length b) ++ b)

unfoldable pub continue_bytes : List (List ℕ) → List ℕ
continue_bytes [] = []
continue_bytes (b ∷ bs) = record_bytes 0x003c b ++ continue_bytes bs

-- the SST's body begins with the total u32 and the number of strings u32
abbrev pub laid_of : List Text → Laid
laid_of ts = lay (8224 - 8) (pieces_of ts)

abbrev pub sst_body : ℕ → List Text → List ℕ
sst_body total ts = bytes_of 4 total ++ (bytes_of 4 (length ts) ++ (laid_of ts).here)

-- the SST and its CONTINUEs
unfoldable pub table_bytes : ℕ → List Text → List ℕ
table_bytes total ts = record_bytes 0x00fc (sst_body total ts) ++ continue_bytes (laid_of ts).more

-- how many bytes that is
unfoldable pub table_size : List Text → ℕ
table_size ts = 12 + laid_size (8224 - 8) (pieces_of ts)
