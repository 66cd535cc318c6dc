-- The laws of comparing values, with what a call gave as the proofs have it. Assumes nothing.
use Prim.Native.Nat.{ℕ}
use mathlib.Core.Path.{◌≡◌, sym, ◌∙◌}
use mathlib.Core.Bool.{Bool, false}
use mathlib.Core.List.{List, []}
use native.Mathlib.Omega.{arith}
use lib.ListN.{get_or}
use borrow.Author.Rules.{rules}
use Rattle.steps.specs.Choice.{pick}
use Rattle.differences.specs.Differences.{same}
use Rattle.cell_equality.specs.declared.Shown.{Shown}
use Rattle.cell_equality.specs.declared.Shown.TheVariants as shown
use Rattle.cell_equality.specs.Equality.{shown_as}
use Rattle.cell_equality.specs.contracts.ShownPartialEq.TheImpl.{eq-value}

apart : (p q : List (List ℕ)) (i : ℕ) (b : Shown) → ((j : ℕ) → b ≡ shown.Text j → ⊥) → false ≡ same (shown_as p (shown.Text i)) (shown_as q b)
unfolding same pick
apart p q i b n = grind (arith, rules)

plain : (p q : List (List ℕ)) (a b : Shown) → ((i : ℕ) → a ≡ shown.Text i → ⊥) → eq-value.it a b ≡ same (shown_as p a) (shown_as q b)
unfolding same pick
plain p q a b n = grind (arith, rules)

module _ (p q : List (List ℕ)) (a b : Shown) (l m : List ℕ) (l-is : l ≡ shown_as p a) (m-is : m ≡ shown_as q b) where
  are : same (shown_as p a) (shown_as q b) ≡ same l m
  are = λ z. same (sym l-is z) (sym m-is z)

  pub texts_same : (i j : ℕ) → a ≡ shown.Text i → b ≡ shown.Text j → (r : Bool) → r ≡ same (get_or p i []) (get_or q j []) → r ≡ same l m
  unfolding same pick
  texts_same i j h k r e = e ∙ (λ z. same (shown_as p (sym h z)) (shown_as q (sym k z))) ∙ are

  pub text_apart : (i : ℕ) → a ≡ shown.Text i → ((j : ℕ) → b ≡ shown.Text j → ⊥) → false ≡ same l m
  text_apart i h n = apart p q i b n ∙ (λ z. same (shown_as p (sym h z)) (shown_as q b)) ∙ are

  pub plains_same : ((i : ℕ) → a ≡ shown.Text i → ⊥) → (r : Bool) → r ≡ eq-value.it a b → r ≡ same l m
  plains_same n r e = e ∙ plain p q a b n ∙ are

pub ruleset text_laws = (texts_same, text_apart)
