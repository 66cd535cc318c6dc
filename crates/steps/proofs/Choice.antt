-- The laws of a choice: the test's fact picks the side. Over the type. Assumes nothing.
use Prim.Native.Nat.{ℕ, ◌≤◌, ◌<◌}
use mathlib.Core.Path.{◌≡◌, refl, sym, ◌∙◌}
use mathlib.Core.Bool.{Bool, true, false}
use native.Mathlib.Omega.{arith}
use lib.Dec.{ltb, leb, eqb}
use borrow.Author.Rules.{rules}
use borrow.Author.Tests.{eq-eqb, ne_eqb, le-ltb, lt-ltb, le-leb, lt-leb}
use Rattle.steps.specs.Choice.{pick}

-- two constructors are apart: `cc` brings an equation between them to this
pub never : {A : Type 0} → ◌≡◌ {A = ℕ} 0 1 → A
never e = absurd (omega arith)

module _ {A : Type 0} (x y z : A) where
  pub pick_true : (t : Bool) → t ≡ true → x ≡ y → x ≡ pick t y z
  unfolding pick
  pick_true t e h = rw e h

  pub pick_false : (t : Bool) → t ≡ false → x ≡ z → x ≡ pick t y z
  unfolding pick
  pick_false t e h = rw e h

  -- the test as a call gave it, r
  pub pick_yes : {t r : Bool} → r ≡ t → r ≡ true → x ≡ y → x ≡ pick t y z
  pick_yes e f h = pick_true _ (sym e ∙ f) h

  pub pick_no : {t r : Bool} → r ≡ t → r ≡ false → x ≡ z → x ≡ pick t y z
  pick_no e f h = pick_false _ (sym e ∙ f) h

  pub pick_eq : (a b : ℕ) → a ≡ b → x ≡ y → x ≡ pick (eqb a b) y z
  pick_eq a b e h = pick_true _ (eq-eqb a b e) h

  pub pick_ne : (a b : ℕ) → (a ≡ b → ⊥) → x ≡ z → x ≡ pick (eqb a b) y z
  pick_ne a b e h = pick_false _ (ne_eqb a b e) h

  pub pick_lt : (a b : ℕ) → a < b → x ≡ y → x ≡ pick (ltb a b) y z
  pick_lt a b e h = pick_true _ (lt-ltb a b e) h

  pub pick_nlt : (a b : ℕ) → b ≤ a → x ≡ z → x ≡ pick (ltb a b) y z
  pick_nlt a b e h = pick_false _ (le-ltb a b e) h

  pub pick_le : (a b : ℕ) → a ≤ b → x ≡ y → x ≡ pick (leb a b) y z
  pick_le a b e h = pick_true _ (le-leb a b e) h

  pub pick_nle : (a b : ℕ) → b < a → x ≡ z → x ≡ pick (leb a b) y z
  pick_nle a b e h = pick_false _ (lt-leb a b e) h

-- a number that is known isn't another one: for the arms of a `match`
pub pick_other : {A : Type 0} (x y z : A) (a b n : ℕ) → a ≡ n → eqb n b ≡ false → x ≡ z → x ≡ pick (eqb a b) y z
pick_other x y z a b n e f h = pick_false x y z (eqb a b) (rw e f) h

-- two choices by one test agree where their sides do
pub pick_same : {A : Type 0} (t : Bool) (y y' z z' : A) → (t ≡ true → y ≡ y') → (t ≡ false → z ≡ z') → pick t y z ≡ pick t y' z'
unfolding pick
pick_same true y y' z z' f g = f refl
pick_same false y y' z z' f g = g refl

pub pick_any : {A : Type 0} (P : A → Type 0) (b : Bool) {x y : A} → P x → P y → P (pick b x y)
unfolding pick
pick_any P true p q = p
pick_any P false p q = q

-- the same with the test's truth in hand
pub pick_by : {A : Type 0} (P : A → Type 0) (b : Bool) {x y : A} → (b ≡ true → P x) → (b ≡ false → P y) → P (pick b x y)
unfolding pick
pick_by P true p q = p refl
pick_by P false p q = q refl

pub refl' : {A : Type 0} {x : A} → x ≡ x
refl' = refl

-- a test of a number that a call gave, r, told of what the call says it is
pub lt_r : {a b r : ℕ} → r ≡ b → a < r → a < b
lt_r e h = rw e at h

pub lt_l : {a b r : ℕ} → r ≡ a → r < b → a < b
lt_l e h = rw e at h

pub le_r : {a b r : ℕ} → r ≡ b → a ≤ r → a ≤ b
le_r e h = rw e at h

pub le_l : {a b r : ℕ} → r ≡ a → r ≤ b → a ≤ b
le_l e h = rw e at h

pub ne_l : {a b r : ℕ} → r ≡ a → (r ≡ b → ⊥) → a ≡ b → ⊥
ne_l e h i = h (e ∙ i)

pub eq_l : {a b r : ℕ} → r ≡ a → r ≡ b → a ≡ b
eq_l e h = sym e ∙ h

pub ruleset picks_read = (pick_eq, pick_ne, pick_lt, pick_nlt, pick_le, pick_nle, lt_r, lt_l, le_r, le_l, ne_l, eq_l, refl')

-- with tests that are Bools
pub ruleset Picks-told = (pick_true, pick_false, pick_yes, pick_no, picks_read)

pub ruleset picks = (pick_eq, pick_ne, pick_lt, pick_nlt, pick_le, pick_nle, refl')

-- a test from the fact that led to it, for a goal whose definition is unfolded
pub ruleset tests = (eq-eqb, ne_eqb, lt-ltb, le-ltb, le-leb, lt-leb, rules)

pub ruleset arms = (picks, pick_other)
