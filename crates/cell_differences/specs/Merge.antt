-- What the contracts speak of.
use Rattle.std.specs.Prelude.{ℕ, ◌+◌, ◌-◌, List, [], ◌∷◌, length, set, ltb, leb}
use Rattle.steps.specs.Choice.{pick}
use Rattle.cell.specs.declared.Cell.{Cell}
use Rattle.reading.specs.Cells.{place_at, listed_from}
use Rattle.reading.specs.Reading.{strings_at}
use Rattle.differences.specs.Differences.{Difference, between, words_from}
use Rattle.cell_addresses.specs.Addresses.{Stood, told, value_in}

-- ---- words put into a buffer after the i that it has, as long as it has room. How many there then are, where a buffer has room for n: the count goes on to
-- the first for which there is none
unfoldable pub puts : List ℕ → ℕ → List ℕ → List ℕ
puts b i [] = b
puts b i (w ∷ l) = pick (ltb i (length b)) (puts (set b i w) (i + 1) l) b

unfoldable pub put_to : ℕ → ℕ → List ℕ → ℕ
put_to n i [] = i
put_to n i (w ∷ l) = pick (leb i n) (put_to n (i + 1) l) i

-- ---- the differences between two lists of cells
-- what stands at one place of both streams, s with the strings p and t with the strings q
abbrev pub at_both : List ℕ → List ℕ → List (List ℕ) → List (List ℕ) → Stood → Stood → Difference
at_both s t p q x y = between p q (told s x) (told t y)

unfoldable pub differs : List ℕ → List ℕ → List (List ℕ) → List (List ℕ) → List Cell → List Cell → ℕ → Difference
differs s t p q l m a = at_both s t p q (value_in a l) (value_in a m)

-- those from address k on, where the key of address 0 is `base`
unfoldable pub words_between : List ℕ → List ℕ → List (List ℕ) → List (List ℕ) → List Cell → List Cell → ℕ → ℕ → List ℕ
words_between s t p q l m base k = words_from (λ key. differs s t p q l m (key - base)) (base + k) (4294967296 - k)

abbrev pub cell_words : List ℕ → ℕ → ℕ → List ℕ → ℕ → ℕ → ℕ → ℕ → List ℕ
cell_words s v p t w q base k = words_between s t (strings_at s p) (strings_at t q) (listed_from s (place_at v 0)) (listed_from t (place_at w 0)) base k
