-- What the table of slots says, and what each pass over it keeps. Nothing here is part of the public promise.
use Rattle.std.specs.Prelude.{ℕ, ◌+◌, ◌-◌, ◌*◌, ◌/◌, ◌%◌, ◌≤◌, ◌≡◌, min, List, [], ◌∷◌, Option, None, Some, Bool, true, ◌&&◌, ◌||◌, not, get_or, eqb, ltb, leb}
use Rattle.steps.specs.Choice.{pick}
use Rattle.sheet_agreement.specs.Agreement.{number_of, Sheet, Bof, starts, named, right}
use Rattle.sheet_agreement.specs.declared.SheetKind.{SheetKind}

-- a position lies before the window's end
abbrev pub before : Option ℕ → ℕ → Bool
before None p = true
before (Some hi) p = ltb p hi

-- a position lies in the window
unfoldable pub inside : ℕ → Option ℕ → ℕ → Bool
inside lo hi p = leb lo p && before hi p

-- A slot is 24 positions wide, the least size of a substream, so that two BOFs never share one. What stands in it where a BOF of kind k starts d after the window's start;
-- an empty one has 0.
abbrev pub code_of : ℕ → SheetKind → ℕ
code_of d k = d % 24 * 8 + number_of k

-- the table, whose first slot is at lo, has a BOF of kind k that starts at p
unfoldable pub marks : List ℕ → ℕ → ℕ → SheetKind → Bool
marks T lo p k = leb lo p && (ltb (p - lo) 1277952 && eqb (get_or T ((p - lo) / 24) 0) (code_of (p - lo) k))

-- within its window the table has the BOFs that none of the sheets names
abbrev pub Marked : List ℕ → ℕ → Option ℕ → List Bof → List Sheet → Type 0
Marked T lo hi bofs sheets = (p : ℕ) (k : SheetKind) → inside lo hi p ≡ true → marks T lo p k ≡ starts bofs p k && not (named sheets p)

abbrev pub Empty : List ℕ → Type 0
Empty T = (j : ℕ) → get_or T j 0 ≡ 0

-- from position lo on, the rest of the BOFs are all BOFs
abbrev pub Onward : List Bof → ℕ → List Bof → Type 0
Onward rest lo bofs = (p : ℕ) (k : SheetKind) → lo ≤ p → starts rest p k ≡ starts bofs p k

-- ---- the sheets whose positions are of one sort, for going through them a window at a time
-- the first of these sheets that is not right
unfoldable pub judged_in : (ℕ → Bool) → List Bof → List Sheet → List Sheet → Option ℕ
judged_in P bofs earlier [] = None
judged_in P bofs earlier (x ∷ r) = pick (not (P x.position) || right bofs earlier x) (judged_in P bofs (x ∷ earlier) r) (Some x.header)

-- of two faults the one that comes first in the stream
abbrev pub sooner : Option ℕ → Option ℕ → Option ℕ
sooner None b = b
sooner (Some h) None = Some h
sooner (Some h) (Some g) = Some (min h g)

-- what the pass over the sheets in a window found: all are right, and the table has the BOFs that none names; or the first that isn't
abbrev pub Passed : List ℕ → ℕ → Option ℕ → List Sheet → List Bof → Option ℕ → Type 0
Passed T lo hi sheets bofs None = (None ≡ judged_in (inside lo hi) bofs [] sheets) × Marked T lo hi bofs sheets
Passed T lo hi sheets bofs (Some h) = Some h ≡ judged_in (inside lo hi) bofs [] sheets
