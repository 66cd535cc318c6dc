-- The calls of one owner among those of others. Assumes nothing.
use Prim.Native.Nat.{ℕ}
use mathlib.Core.Path.{◌≡◌, refl, ap, subst}
use mathlib.Core.List.{List, [], ◌∷◌}
use mathlib.Core.Bool.{Bool, true, false}
use lib.Dec.{eqb}
use borrow.Author.Tests.{eqb-true}
use Rattle.steps.specs.Choice.{pick}
use Rattle.claims.specs.Calls.{Memory, Answer, answer_to, memory_after, alone, of_owner, with, Runs, run}
use Rattle.claims.specs.Owners.{Interleaved}

pub interleaved : Interleaved
unfolding run of_owner alone pick with
interleaved t f [] o = (refl, refl)
interleaved t f (x ∷ l) o = by (eqb x.owner o) refl (interleaved t (with f x.owner m) l o)
  where
    m : Memory
    m = memory_after t (f x.owner) x.it

    a : Answer
    a = answer_to t (f x.owner) x.it

    r : Runs
    r = run t (with f x.owner m) l

    by : (b : Bool) → eqb x.owner o ≡ b
        → (of_owner o r.answers ≡ (alone t (with f x.owner m o) (of_owner o l)).answers) × (r.memories o ≡ (alone t (with f x.owner m o) (of_owner o l)).memory)
        → (pick (eqb x.owner o) (a ∷ of_owner o r.answers) (of_owner o r.answers) ≡ (alone t (f o) (pick (eqb x.owner o) (x.it ∷ of_owner o l) (of_owner o l))).answers)
        × (r.memories o ≡ (alone t (f o) (pick (eqb x.owner o) (x.it ∷ of_owner o l) (of_owner o l))).memory)
    by true e h =
        let i : x.owner ≡ o = eqb-true x.owner o e in
        rw e
        (subst (λ (k : ℕ). (answer_to t (f x.owner) x.it ∷ of_owner o r.answers ≡ answer_to t (f k) x.it ∷ (alone t (memory_after t (f k) x.it) (of_owner o l)).answers) × (r.memories o ≡ (alone t (memory_after t (f k) x.it) (of_owner o l)).memory)) i
        (ap (λ (y : List Answer). a ∷ y) (rw e at h).0, (rw e at h).1))
    by false e h = rw e (rw e at h)
