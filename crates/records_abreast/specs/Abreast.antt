-- What the contracts speak of: records of two streams that say the same.
use Rattle.std.specs.Prelude.{ℕ, zero, suc, ◌+◌, ◌≤◌, ◌<◌, ◌≡◌, true, List, [], ◌∷◌, ◌++◌, length, get_or, Option, IfSome}
use Rattle.value.specs.declared.Field.{Field}
use Rattle.value.specs.Value.{value_of}
use Rattle.cell.specs.declared.Cell.{Cell}
use Rattle.cell.specs.Cells.{part_of, start_of, field_at}
use Rattle.reading.specs.Cells.{place_at, listed_from}
use Rattle.differences.specs.Differences.{same, none}
use Rattle.cell_addresses.specs.Addresses.{address_in, holds, AscendFrom}
use Rattle.cell_differences.specs.Merge.{at_both, words_between}

-- the first n strings of both tables are the same
abbrev pub Common : List (List ℕ) → List (List ℕ) → ℕ → Type 0
Common p q n = (i : ℕ) → i < n → same (get_or p i []) (get_or q i []) ≡ true

-- ---- cells one by one: the same address, and values that are equal
abbrev pub Paired : List ℕ → List (List ℕ) → List ℕ → List (List ℕ) → List Cell → List Cell → Type 0
Paired s p t q [] [] = Unit {0}
Paired s p t q [] (d ∷ m) = ⊥
Paired s p t q (c ∷ l) [] = ⊥
Paired s p t q (c ∷ l) (d ∷ m) = (address_in c ≡ address_in d) × ((at_both s t p q (holds c.value c.field) (holds d.value d.field) ≡ none) × Paired s p t q l m)

-- the cells whose parts are at a and at b have equal values
abbrev pub Agree : List ℕ → List (List ℕ) → List ℕ → List (List ℕ) → Field → ℕ → ℕ → Type 0
Agree s p t q f a b = at_both s t p q (holds (value_of f (field_at f s a)) (a + start_of f)) (holds (value_of f (field_at f t b)) (b + start_of f)) ≡ none

-- the n cells from there on
abbrev pub Agrees : List ℕ → List (List ℕ) → List ℕ → List (List ℕ) → Field → ℕ → ℕ → ℕ → Type 0
Agrees s p t q f a b zero = Unit {0}
Agrees s p t q f a b (suc n) = Agree s p t q f a b × Agrees s p t q f (a + part_of f) (b + part_of f) n

-- whatever the strings are, as long as the first m are the same
abbrev pub AllAgree : List ℕ → List ℕ → ℕ → Field → ℕ → ℕ → ℕ → Type 0
AllAgree s t m f a b n = (p q : List (List ℕ)) → Common p q m → Agrees s p t q f a b n

-- ---- records
-- d bytes on, past a record with the same cells in both
pub record Same (s t : List ℕ) (m a b d : ℕ) : Type 0 where
  pub ones : List Cell
  pub twos : List Cell
  pub first : listed_from s (place_at a 0) ≡ ones ++ listed_from s (place_at (a + d) 0)
  pub second : listed_from t (place_at b 0) ≡ twos ++ listed_from t (place_at (b + d) 0)
  pub paired : (p q : List (List ℕ)) → Common p q m → Paired s p t q ones twos
  pub some : 0 < d
  pub within : a + d ≤ length s
  pub there : b + d ≤ length t

abbrev pub SameIf : List ℕ → List ℕ → ℕ → ℕ → ℕ → Option ℕ → Type 0
SameIf s t m a b r = IfSome r (Same s t m a b)

-- ---- what is left after records that say the same tells the same
pub record Ahead (s t : List ℕ) (m : ℕ) (l k l' k' : List Cell) : Type 0 where
  pub up : AscendFrom 0 l'
  pub down : AscendFrom 0 k'
  pub words : (p q : List (List ℕ)) → Common p q m → (base from : ℕ) → words_between s t p q l k base from ≡ words_between s t p q l' k' base from
