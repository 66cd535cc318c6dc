-- The drop laws of numbers and of tests: what is read at p + i of a stream is what is read at i of its bytes from p on. Assumes nothing.
use Prim.Native.Nat.{ℕ, zero, suc, ◌+◌, ◌*◌, ◌≤◌, ◌<◌}
use mathlib.Core.Path.{◌≡◌, refl, sym, ap, ap₂, ◌∙◌}
use mathlib.Core.List.{List}
use mathlib.Core.Bool.{Bool, true, false}
use native.Mathlib.Omega.{arith}
use lib.ListN.{drop}
use lib.Seq.{get_or-drop}
use lib.Dec.{leb, eqb}
use borrow.Author.Tests.{le-leb, lt-leb, leb-true, leb-false, eq-eqb, ne_eqb, eqb-true, eqb-false}
use Rattle.steps.specs.Choice.{pick}
use Rattle.byte_numbers.specs.Bytes.{byte_at, num_at}

-- a function goes through a choice
pub pick_map : {A B : Type 0} (f : A → B) (t : Bool) {y z : A} {y' z' : B} → f y ≡ y' → f z ≡ z' → f (pick t y z) ≡ pick t y' z'
unfolding pick
pick_map f true h i = h
pick_map f false h i = i

-- two tests agree where their facts do
pub leb_same : (a b c d : ℕ) → (a ≤ b → c ≤ d) → (b < a → d < c) → leb a b ≡ leb c d
leb_same a b c d f g = by (leb a b) refl
  where
    by : (t : Bool) → leb a b ≡ t → leb a b ≡ leb c d
    by true h = h ∙ sym (le-leb c d (f (leb-true a b h)))
    by false h = h ∙ sym (lt-leb c d (g (leb-false a b h)))

pub eqb_later : (p a b : ℕ) → eqb a b ≡ eqb (p + a) (p + b)
eqb_later p a b = by (eqb a b) refl
  where
    by : (t : Bool) → eqb a b ≡ t → eqb a b ≡ eqb (p + a) (p + b)
    by true h = h ∙ sym (eq-eqb (p + a) (p + b) (ap (λ (n : ℕ). p + n) (eqb-true a b h)))
    by false h = h ∙ sym (ne_eqb (p + a) (p + b) (λ i. eqb-false a b h (omega arith)))

-- ---- numbers
pub num_drop : (s : List ℕ) (p w i : ℕ) → num_at (drop p s) w i ≡ num_at s w (p + i)
unfolding num_at
num_drop s p zero i = refl
num_drop s p (suc w) i = ap₂ (λ (a b : ℕ). a + 256 * b) (get_or-drop p s i 0) (num_drop s p w (i + 1) ∙ ap (num_at s w) (omega arith))

-- the same, with the place as a definition has it
pub num_at_lem : (s : List ℕ) (p w i j : ℕ) → p + i ≡ j → num_at (drop p s) w i ≡ num_at s w j
num_at_lem s p w i j e = num_drop s p w i ∙ ap (num_at s w) e

pub byte_at_lem : (s : List ℕ) (p i j : ℕ) → p + i ≡ j → byte_at (drop p s) i ≡ byte_at s j
byte_at_lem s p i j e = get_or-drop p s i 0 ∙ ap (byte_at s) e
