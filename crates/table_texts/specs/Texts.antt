-- A string of the table with all that stands with it: beside its units, bits 2 and 3 of its flags, its runs and its phonetic bytes.
use Rattle.std.specs.Prelude.{ℕ, ◌+◌, ◌*◌, ◌^◌, ◌<◌, List, [], ◌∷◌, map, Bool, true, false, length, eqb}
use Rattle.byte_numbers.specs.Bytes.{byte_at}
use Rattle.segments.specs.declared.Cursor.{Cursor}
use Rattle.segments.specs.Segments.{Got, got, refused, then, items}
use Rattle.strings.specs.Table.{phonetic_bit, rich_bit, head, places_of}

pub record Text : Type 0 where
  -- its characters
  pub units : List ℕ
  -- bit 3 of its flags, 1 or 0: a run count stands in its head
  pub rich : ℕ
  -- its runs, each the number of its 4 bytes
  pub runs : List ℕ
  -- bit 2 of its flags, 1 or 0: a phonetic size stands in its head
  pub voiced : ℕ
  -- its phonetic bytes
  pub phonetic : List ℕ

abbrev pub text_of : ℕ → List ℕ → List ℕ → List ℕ → Text
text_of flags us rs ps = record { units = us; rich = rich_bit flags; runs = rs; voiced = phonetic_bit flags; phonetic = ps }

-- the string whose head stands at d, with what stands with it: read as `string_at` reads its units
unfoldable pub text_at : List ℕ → Cursor → Got Text
text_at s d =
    then (head s d) (λ h c.
    then (items 8 s true h.width h.chars c) (λ us e.
    then (items 8 s false 4 h.runs e) (λ rs g.
    then (items 8 s false 1 h.phonetic g) (λ ps i. got (text_of (byte_at s (d.at + 2)) us rs ps) i))))

abbrev pub nothing : Text
nothing = record { units = []; rich = 0; runs = []; voiced = 0; phonetic = [] }

abbrev pub the_text : Got Text → Text
the_text (got t c) = t
the_text (refused n o) = nothing

-- the strings of the table whose SST has its header at p and ends at e
abbrev pub texts_of : List ℕ → ℕ → ℕ → List Text
texts_of s p e = map (λ (d : Cursor). the_text (text_at s d)) (places_of s p e)

-- ---- a string that a table can hold
-- numbers below m
abbrev pub Below : ℕ → List ℕ → Type 0
Below m [] = Unit {0}
Below m (n ∷ ns) = (n < m) × Below m ns

pub record Holds (t : Text) : Type 0 where
  pub units : Below (256 ^ 2) t.units
  pub chars : length t.units < 256 ^ 2
  pub rich : t.rich < 2
  pub runs : Below (256 ^ 4) t.runs
  pub count : length t.runs < 256 ^ (2 * t.rich)
  pub voiced : t.voiced < 2
  pub phonetic : Below (256 ^ 1) t.phonetic
  pub size : length t.phonetic < 256 ^ (4 * t.voiced)

abbrev pub AllHold : List Text → Type 0
AllHold [] = Unit {0}
AllHold (t ∷ ts) = Holds t × AllHold ts

-- ---- a choice of strings
abbrev pub keep_if : Bool → Text → List Text → List Text
keep_if true t l = l
keep_if false t l = t ∷ l

-- those whose mark is not 0; those after the last mark aren't kept
unfoldable pub kept : List ℕ → List Text → List Text
kept [] ts = []
kept (m ∷ ms) [] = []
kept (m ∷ ms) (t ∷ ts) = keep_if (eqb m 0) t (kept ms ts)
