-- The data of a token in the bytes after the tokens, as in 001: PtgExtraArray with its SerAr elements, and PtgExtraMem.
-- In each definition t is those bytes from where the data, or the element, starts. It is how many bytes the data takes up, and nothing where it is cut or bad.
use Rattle.std.specs.Prelude.{ℕ, zero, suc, ◌+◌, ◌*◌, ◌%◌, List, Option, Some, None, option_and_then, ltb, eqb, length, drop}
use Rattle.steps.specs.Choice.{pick}
use Rattle.byte_numbers.specs.Bytes.{byte_at, u16_at}
use Rattle.truth_error.specs.Boolerr.{is_truth, is_error}

-- data of `size` bytes at least: it is cut where fewer are left
abbrev pub uncut : ℕ → List ℕ → Option ℕ → Option ℕ
uncut size t x = pick (ltb (length t) size) None x

-- data of `size` bytes, of which nothing is judged
unfoldable pub sized_of : ℕ → List ℕ → Option ℕ
sized_of size t = uncut size t (Some size)

-- ---- an element of an array: its kind, and 8 bytes or a text
-- length word, flags byte with bit 0 wide, characters
unfoldable pub text_of : List ℕ → Option ℕ
text_of t = uncut 4 t (sized_of (4 + u16_at t 1 * (1 + byte_at t 3 % 2)) t)

-- truth and code as in cells
unfoldable pub truth_of : List ℕ → Option ℕ
truth_of t = uncut 9 t (pick (is_truth (byte_at t 1)) (Some 9) None)

unfoldable pub error_of : List ℕ → Option ℕ
error_of t = uncut 9 t (pick (is_error (byte_at t 1)) (Some 9) None)

-- empty, number, text, truth, error
unfoldable pub element_by : ℕ → List ℕ → Option ℕ
element_by kind t =
    pick (eqb kind 0x00) (sized_of 9 t)
    (pick (eqb kind 0x01) (sized_of 9 t)
    (pick (eqb kind 0x02) (text_of t)
    (pick (eqb kind 0x04) (truth_of t)
    (pick (eqb kind 0x10) (error_of t)
    None))))

unfoldable pub element_of : List ℕ → Option ℕ
element_of t = uncut 1 t (element_by (byte_at t 0) t)

-- so many elements from `at` on, one after the other
unfoldable pub elements_of : ℕ → List ℕ → ℕ → Option ℕ
elements_of zero t at = Some at
elements_of (suc n) t at = option_and_then (λ size. elements_of n t (at + size)) (element_of (drop at t))

-- ---- the data of 0x20: one less than the columns in a byte, one less than the rows in a word, and the elements
unfoldable pub array_of : List ℕ → Option ℕ
array_of t = uncut 3 t (elements_of ((byte_at t 0 + 1) * (u16_at t 1 + 1)) t 3)

-- ---- the data of 0x26: a count word and so many areas of 8 bytes
unfoldable pub areas_of : List ℕ → Option ℕ
areas_of t = uncut 2 t (sized_of (2 + 8 * u16_at t 0) t)
