-- Small tables, byte for byte. Assumes nothing.
use Prim.Native.Nat.{ℕ}
use mathlib.Core.Path.{◌≡◌, refl}
use mathlib.Core.List.{List, [], ◌∷◌}
use Rattle.steps.specs.Choice.{pick}
use Rattle.byte_numbers.specs.Bytes.{bytes_of}
use Rattle.table_texts.specs.Texts.{Text}
use Rattle.table_texts.specs.Written.{lay, item_pieces, wide_bit, head_bytes, text_pieces, pieces_of, record_bytes, continue_bytes, table_bytes}

abbrev plain : List ℕ → Text
plain us = record { units = us; rich = 0; runs = []; voiced = 0; phonetic = [] }

-- no strings: the two counts
pub empty : table_bytes 0 [] ≡ 0xfc ∷ 0 ∷ 8 ∷ 0 ∷ 0 ∷ 0 ∷ 0 ∷ 0 ∷ 0 ∷ 0 ∷ 0 ∷ 0 ∷ []
unfolding table_bytes record_bytes continue_bytes pieces_of lay bytes_of
empty = refl

-- an empty string is narrow; one with a character over 255 is wide throughout
pub two : table_bytes 3 (plain [] ∷ plain (0x41 ∷ 0x100 ∷ []) ∷ [])
    ≡ 0xfc ∷ 0 ∷ 18 ∷ 0 ∷ 3 ∷ 0 ∷ 0 ∷ 0 ∷ 2 ∷ 0 ∷ 0 ∷ 0 ∷ 0 ∷ 0 ∷ 0 ∷ 2 ∷ 0 ∷ 1 ∷ 0x41 ∷ 0 ∷ 0 ∷ 1 ∷ []
unfolding table_bytes record_bytes continue_bytes pieces_of text_pieces head_bytes item_pieces wide_bit lay bytes_of pick
two = refl

-- bits 2 and 3 stay, also with counts of 0
pub bits : table_bytes 1 (record { units = 0x41 ∷ []; rich = 1; runs = 0x04030201 ∷ []; voiced = 1; phonetic = [] } ∷ [])
    ≡ 0xfc ∷ 0 ∷ 22 ∷ 0 ∷ 1 ∷ 0 ∷ 0 ∷ 0 ∷ 1 ∷ 0 ∷ 0 ∷ 0 ∷ 1 ∷ 0 ∷ 12 ∷ 1 ∷ 0 ∷ 0 ∷ 0 ∷ 0 ∷ 0 ∷ 0x41 ∷ 1 ∷ 2 ∷ 3 ∷ 4 ∷ []
unfolding table_bytes record_bytes continue_bytes pieces_of text_pieces head_bytes item_pieces wide_bit lay bytes_of pick
bits = refl
