-- One token: its bytes, and the operands that it takes off the stack and gives, before the stack is looked at; or the number of its refusal.
-- In each definition t is the bytes from the token byte on to the end of its formula.
use Rattle.std.specs.Prelude.{ℕ, ◌+◌, ◌-◌, ◌*◌, ◌/◌, ◌%◌, List, Bool, Option, Some, None, Result, Ok, Err, ltb, leb, eqb, length}
use Rattle.steps.specs.Choice.{pick}
use Rattle.refusal.specs.declared.Refusal.{Refusal}
use Rattle.refusal.specs.Refused.{refuse}
use Rattle.byte_numbers.specs.Bytes.{byte_at, u16_at}
use Rattle.truth_error.specs.Boolerr.{is_truth, is_error}
use Rattle.function_counts.specs.declared.Counts.{Counts}
use Rattle.function_counts.specs.Counts.{counts_of}
use Rattle.tokens.specs.declared.Token.{Token}
use Rattle.tokens.specs.declared.Token.TheVariants.{Plain, Memory}

-- the bytes of a token, a memory token's inner ones included
abbrev pub size_of : Token → ℕ
size_of (Plain size takes gives) = size
size_of (Memory size head) = size

-- a token of `size` bytes: it is cut where fewer are left
abbrev pub uncut : ℕ → List ℕ → Result Token ℕ → Result Token ℕ
uncut size t token = pick (ltb (length t) size) (Err 13) token

-- a token of `size` bytes that gives one operand
unfoldable pub operand_of : ℕ → List ℕ → Result Token ℕ
operand_of size t = uncut size t (Ok (Plain size 0 1))

-- ---- the base tokens, 0x01 to 0x1F
-- 0x01 and 0x02: only as the whole outermost formula, which alone starts at offset 0
unfoldable pub whole_of : ℕ → List ℕ → Result Token ℕ
whole_of offset t = pick (eqb offset 0) (pick (eqb (length t) 5) (Ok (Plain 5 0 1)) (Err 13)) (Err 13)

-- 0x17: count byte, flags byte with bit 0 wide, characters
unfoldable pub text_of : List ℕ → Result Token ℕ
text_of t = uncut 3 t (operand_of (3 + byte_at t 1 * (1 + byte_at t 2 % 2)) t)

-- 0x19 of kind 0x04: n in its two bytes and n + 1 words more
unfoldable pub choice_of : ℕ → List ℕ → Result Token ℕ
choice_of n t = uncut (4 + 2 * (n + 1)) t (Ok (Plain (4 + 2 * (n + 1)) 0 0))

unfoldable pub attribute_by : ℕ → List ℕ → Result Token ℕ
attribute_by kind t =
    pick (eqb kind 0x10) (Ok (Plain 4 1 1))
    (pick (eqb kind 0x01) (Ok (Plain 4 0 0))
    (pick (eqb kind 0x02) (Ok (Plain 4 0 0))
    (pick (eqb kind 0x08) (Ok (Plain 4 0 0))
    (pick (eqb kind 0x40) (Ok (Plain 4 0 0))
    (pick (eqb kind 0x41) (Ok (Plain 4 0 0))
    (pick (eqb kind 0x04) (choice_of (u16_at t 2) t)
    (Err 13)))))))

-- 0x19: kind byte and two bytes
unfoldable pub attribute_of : List ℕ → Result Token ℕ
attribute_of t = uncut 4 t (attribute_by (byte_at t 1) t)

-- 0x1C and 0x1D: code and truth as in cells
unfoldable pub error_of : List ℕ → Result Token ℕ
error_of t = uncut 2 t (pick (is_error (byte_at t 1)) (Ok (Plain 2 0 1)) (Err 13))

unfoldable pub truth_of : List ℕ → Result Token ℕ
truth_of t = uncut 2 t (pick (is_truth (byte_at t 1)) (Ok (Plain 2 0 1)) (Err 13))

unfoldable pub base_of : ℕ → ℕ → List ℕ → Result Token ℕ
base_of id offset t =
    pick (eqb id 0x00) (Err 13)
    (pick (leb id 0x02) (whole_of offset t)
    (pick (leb id 0x11) (Ok (Plain 1 2 1))
    (pick (leb id 0x15) (Ok (Plain 1 1 1))
    (pick (eqb id 0x16) (Ok (Plain 1 0 1))
    (pick (eqb id 0x17) (text_of t)
    (pick (eqb id 0x19) (attribute_of t)
    (pick (eqb id 0x1C) (error_of t)
    (pick (eqb id 0x1D) (truth_of t)
    (pick (eqb id 0x1E) (operand_of 3 t)
    (pick (eqb id 0x1F) (operand_of 9 t)
    (Err 13)))))))))))

-- ---- references
-- bits 8 to 13 of a column word are clear
unfoldable pub column_clear : ℕ → Bool
column_clear word = eqb (word / 256 % 64) 0

-- to a cell: the column word is the token's last
unfoldable pub reference_of : ℕ → List ℕ → Result Token ℕ
reference_of size t = uncut size t (pick (column_clear (u16_at t (size - 2))) (Ok (Plain size 0 1)) (Err 13))

-- to an area: the two column words are the token's last
unfoldable pub area_of : ℕ → List ℕ → Result Token ℕ
area_of size t = uncut size t (pick (column_clear (u16_at t (size - 4))) (reference_of size t) (Err 13))

-- ---- functions
abbrev pub fixed_by : Option Counts → Result Token ℕ
fixed_by None = Err 15
fixed_by (Some c) = pick (eqb c.least c.greatest) (Ok (Plain 3 c.least 1)) (Err 15)

-- 0x21: index. The function has a fixed count
unfoldable pub fixed_of : List ℕ → Result Token ℕ
fixed_of t = uncut 3 t (fixed_by (counts_of (u16_at t 1)))

unfoldable pub called_of : ℕ → ℕ → ℕ → Result Token ℕ
called_of least greatest count =
    pick (ltb count least) (Err 15)
    (pick (ltb greatest count) (Err 15)
    (Ok (Plain 4 count 1)))

abbrev pub variable_by : ℕ → Option Counts → Result Token ℕ
variable_by count None = Err 15
variable_by count (Some c) = called_of c.least c.greatest count

-- 0x22: count byte, whose upper bit is ignored, and index. The count is within the function's least and greatest, which may be equal
unfoldable pub variable_of : List ℕ → Result Token ℕ
variable_of t = uncut 4 t (variable_by (byte_at t 1 % 128) (counts_of (u16_at t 2)))

-- ---- memory tokens
-- a formula of `inner` bytes, at least 1, after `head` bytes
unfoldable pub inner_of : ℕ → ℕ → List ℕ → Result Token ℕ
inner_of head inner t = pick (eqb inner 0) (Err 13) (uncut (head + inner) t (Ok (Memory (head + inner) head)))

-- the last two of the `head` bytes are the inner formula's length; the token lies inside `depth` others
unfoldable pub memory_of : ℕ → ℕ → List ℕ → Result Token ℕ
memory_of head depth t = uncut head t (pick (leb 8 depth) (Err 13) (inner_of head (u16_at t (head - 2)) t))

-- ---- the classified tokens, 0x20 to 0x7F, as in 0x20 plus
unfoldable pub classified_of : ℕ → ℕ → List ℕ → Result Token ℕ
classified_of id depth t =
    pick (eqb id 0x23) (operand_of 5 t)
    (pick (eqb id 0x24) (reference_of 5 t)
    (pick (eqb id 0x25) (area_of 9 t)
    (pick (eqb id 0x2A) (operand_of 5 t)
    (pick (eqb id 0x2B) (operand_of 9 t)
    (pick (eqb id 0x2C) (operand_of 5 t)
    (pick (eqb id 0x2D) (operand_of 9 t)
    (pick (eqb id 0x39) (operand_of 7 t)
    (pick (eqb id 0x3A) (reference_of 7 t)
    (pick (eqb id 0x3B) (area_of 11 t)
    (pick (eqb id 0x3C) (operand_of 7 t)
    (pick (eqb id 0x3D) (operand_of 11 t)
    (pick (eqb id 0x21) (fixed_of t)
    (pick (eqb id 0x22) (variable_of t)
    (pick (eqb id 0x29) (memory_of 3 depth t)
    (pick (eqb id 0x27) (memory_of 7 depth t)
    (pick (eqb id 0x28) (memory_of 7 depth t)
    (pick (eqb id 0x20) (operand_of 8 t)
    (pick (eqb id 0x26) (memory_of 7 depth t)
    (Err 13)))))))))))))))))))

-- ---- every token, at `offset` of the outermost bytes and inside `depth` memory tokens
-- what is refused is refused where the token stands
abbrev pub standing : ℕ → Result Token ℕ → Result Token Refusal
standing offset (Ok token) = Ok token
standing offset (Err number) = refuse number offset

-- from 0x20 to 0x7F bits 5 and 6 are the operand class, which says nothing here, and bits 0 to 4 the token
unfoldable pub any_of : List ℕ → ℕ → ℕ → Result Token ℕ
any_of t offset depth =
    pick (ltb (byte_at t 0) 0x20) (base_of (byte_at t 0) offset t)
    (pick (ltb (byte_at t 0) 0x80) (classified_of (0x20 + byte_at t 0 % 0x20) depth t)
    (Err 13))

unfoldable pub token_of : List ℕ → ℕ → ℕ → Result Token Refusal
token_of t offset depth = standing offset (any_of t offset depth)
