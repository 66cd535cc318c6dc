-- However the owners' calls interleave, each with its own lent memory, each gets the answers and bytes that its calls alone give.
use Rattle.std.specs.Prelude.{ℕ, ◌≡◌, List}
use Rattle.claims.specs.Calls.{Memory, Call, Owned, of_owner, alone, run}

abbrev pub Interleaved : Type 0
Interleaved =
    (t : List ℕ) (f : ℕ → Memory) (l : List (Owned Call)) (o : ℕ)
    → (of_owner o (run t f l).answers ≡ (alone t (f o) (of_owner o l)).answers) × ((run t f l).memories o ≡ (alone t (f o) (of_owner o l)).memory)
