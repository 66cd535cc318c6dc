-- The starts of top-level substreams, each with its new place, in one word: the place times 4,294,967,296, and the new one.
use Rattle.std.specs.Prelude.{ℕ, ◌+◌, ◌/◌, ◌%◌, ◌≤◌, ◌<◌, ◌≡◌, List, length, get_or}
use Rattle.new_stream.specs.declared.Spot.{Spot}
use Rattle.new_stream.specs.Entries.{entries_from, entries_of, top}
use Rattle.new_places.specs.Places.{sizes, place_for}

-- q is the new place of the spot w: all new places from there on may be counted on from it. The new table has n bytes
pub record Reached (s : List ℕ) (n : ℕ) (w : Spot) (q : ℕ) : Type 0 where
  pub within : w.at ≤ length s
  pub sum : q + sizes n (entries_from s w) ≡ sizes n (entries_of s)
  pub same : (p : ℕ) → w.at ≤ p → place_for n (entries_of s) p ≡ q + place_for n (entries_from s w) p

-- so it is for the first k words of l, which ascend, and the first of all is the stream's start
pub record Slots (s : List ℕ) (n k : ℕ) (l : List ℕ) : Type 0 where
  pub short : length s ≤ 16777216
  pub table : n ≤ 16777216
  pub some : 0 < k
  pub within : k ≤ length l
  pub first : get_or l 0 0 ≡ 0
  pub ascend : (i j : ℕ) → i ≤ j → j < k → get_or l i 0 / 4294967296 ≤ get_or l j 0 / 4294967296
  pub reached : (j : ℕ) → j < k → Reached s n (top (get_or l j 0 / 4294967296)) (get_or l j 0 % 4294967296)

-- the first k words of l are of places up to p
abbrev pub Before : ℕ → List ℕ → ℕ → Type 0
Before k l p = (j : ℕ) → j < k → get_or l j 0 / 4294967296 ≤ p

-- the words after a spot with its new place was met, whatever stream they are of
pub record Grown (k k' : ℕ) (w : Spot) (q : ℕ) (l l' : List ℕ) : Type 0 where
  pub size : length l' ≡ length l
  pub slots : (s : List ℕ) (n : ℕ) → Slots s n k l → Before k l w.at → Reached s n w q → Slots s n k' l' × Before k' l' w.at
