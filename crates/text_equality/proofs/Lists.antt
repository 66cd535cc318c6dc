-- The laws of lists of characters compared, with what a call gave as the proofs have it. Assumes nothing.
use Prim.Native.Nat.{ℕ, zero, suc, ◌+◌, ◌≤◌, ◌<◌}
use mathlib.Core.Path.{◌≡◌, refl, sym, ap, ◌∙◌}
use mathlib.Core.Bool.{Bool, true, false}
use mathlib.Core.List.{List, [], ◌∷◌, ◌++◌}
use native.Mathlib.Omega.{arith}
use lib.ListN.{length, get_or}
use lib.Dec.{eqb}
use borrow.Author.Tests.{eqb-true, eqb-false}
use Rattle.std.specs.declared.cmp.Ordering.{Ordering}
use Rattle.std.specs.declared.cmp.Ordering.TheVariants.{Less, Equal, Greater}
use Rattle.std.specs.Ordering.{nat_cmp, ordering_then, ordering_reverse, is_eq, is_ne}
use Rattle.std.specs.Cmp.Lexicographic.{slice_cmp}
use Rattle.std.proofs.lemmas.Cmp.{nat_list_cmp_total, tied_itself, same_from_slice_cmp}
use Rattle.std.proofs.lemmas.Bool.Decides.{nat_tests}
use Rattle.std.proofs.lemmas.Grind.{same_number_lists}
use Rattle.steps.specs.Choice.{pick}
use Rattle.steps.proofs.Choice.{pick_any, pick_eq, pick_ne}
use Rattle.differences.specs.Differences.{same}
use Rattle.differences.proofs.Laws.{same_eq}
use Rattle.text_equality.specs.Lists.{Alike, rank_of}

-- ---- the same characters
pub order_same : (l m : List ℕ) (o : Ordering) → o ≡ slice_cmp nat_cmp l m → is_eq o ≡ same l m
unfolding same pick
order_same = same_from_slice_cmp nat_cmp is_eq same refl (λ _ _. refl) (λ _ _. refl) (λ x y xs ys o h. grind (arith, nat_tests))

same_apart : (l m : List ℕ) → (length l ≡ length m → ⊥) → false ≡ same l m
unfolding same
same_apart [] [] h = absurd (h refl)
same_apart [] (y ∷ m) h = refl
same_apart (x ∷ l) [] h = refl
same_apart (x ∷ l) (y ∷ m) h = pick_any (λ (r : Bool). false ≡ r) (eqb x y) (same_apart l m (λ e. h (ap suc e))) refl

pub apart_not_same : (l m : List ℕ) (x y : ℕ) → length l ≡ x → length m ≡ y → (x ≡ y → ⊥) → false ≡ same l m
apart_not_same l m x y i j h = same_apart l m (λ e. h (sym i ∙ e ∙ j))

pub rank_is_same : (l m : List ℕ) (o : Ordering) → o ≡ rank_of l m → is_eq o ≡ same l m
unfolding rank_of same
rank_is_same l m o h = order_same (length l ∷ l) (length m ∷ m) o h ∙ by (eqb (length l) (length m)) refl
  where
    by : (b : Bool) → eqb (length l) (length m) ≡ b → pick (eqb (length l) (length m)) (same l m) false ≡ same l m
    by true e = sym (pick_eq _ (same l m) false (length l) (length m) (eqb-true _ _ e) refl)
    by false e = sym (pick_ne _ (same l m) false (length l) (length m) (eqb-false _ _ e) refl) ∙ same_apart l m (eqb-false _ _ e)

-- ---- an order of strings
pub rank_same : (l m : List ℕ) → rank_of l m ≡ Equal → l ≡ m
rank_same l m h = same_eq l m (sym (rank_is_same l m Equal (sym h)))

pub rank_on : (l m n : List ℕ) → rank_of l m ≡ Less → rank_of m n ≡ Less → rank_of l n ≡ Less
unfolding rank_of
rank_on l m n = nat_list_cmp_total.trans (length l ∷ l) (length m ∷ m) (length n ∷ n)

pub rank_flip : (l m : List ℕ) → rank_of l m ≡ ordering_reverse (rank_of m l)
unfolding rank_of
rank_flip l m = nat_list_cmp_total.antisymm (length l ∷ l) (length m ∷ m)

pub rank_turned : (l m : List ℕ) → rank_of l m ≡ Greater → rank_of m l ≡ Less
rank_turned l m h = rank_flip m l ∙ ap ordering_reverse h

pub rank_apart : (l m : List ℕ) → rank_of l m ≡ Less → l ≡ m → ⊥
unfolding rank_of
rank_apart l m h e = let s = tied_itself nat_list_cmp_total (length l ∷ l) in let t = ap (λ (k : List ℕ). slice_cmp nat_cmp (length l ∷ l) (length k ∷ k)) e in cc

-- ---- by the first that differs
pub differs : (o : Ordering) → is_ne o ≡ true → o ≡ Equal → ⊥
differs Less h e = cc
differs Equal h e = cc
differs Greater h e = cc

pub agrees : (o : Ordering) → is_ne o ≡ false → o ≡ Equal
agrees Less h = cc
agrees Equal h = refl
agrees Greater h = cc

equal_is : (x y : ℕ) → nat_cmp x y ≡ Equal → x ≡ y
equal_is x y e = grind (arith, nat_tests)

nat_self : (x y : ℕ) → x ≡ y → nat_cmp x y ≡ Equal
nat_self x y e = grind (arith, nat_tests)

then_self : (o : Ordering) → ordering_then o Equal ≡ o
then_self Less = refl
then_self Equal = refl
then_self Greater = refl

then_first : (o p : Ordering) → (o ≡ Equal → ⊥) → o ≡ ordering_then o p
then_first Less p h = refl
then_first Equal p h = absurd (h refl)
then_first Greater p h = refl

then_assoc : (o p q : Ordering) → ordering_then (ordering_then o p) q ≡ ordering_then o (ordering_then p q)
then_assoc Less p q = refl
then_assoc Equal p q = refl
then_assoc Greater p q = refl

first_differs : (l m : List ℕ) (i : ℕ) → length l ≡ length m → i < length l → ((k : ℕ) → k < i → get_or l k 0 ≡ get_or m k 0) → (nat_cmp (get_or l i 0) (get_or m i 0) ≡ Equal → ⊥) → nat_cmp (get_or l i 0) (get_or m i 0) ≡ slice_cmp nat_cmp l m
first_differs [] m i e h f n = absurd (omega arith)
first_differs (x ∷ l) [] i e h f n = absurd (omega arith)
first_differs (x ∷ l) (y ∷ m) zero e h f n = then_first (nat_cmp x y) (slice_cmp nat_cmp l m) n
first_differs (x ∷ l) (y ∷ m) (suc i) e h f n =
    first_differs l m i (omega arith) (omega arith) (λ k j. f (suc k) (omega arith)) n ∙ sym (ap (λ (o : Ordering). ordering_then o (slice_cmp nat_cmp l m)) (nat_self x y (f 0 (omega arith))))

module _ (l m : List ℕ) (n : ℕ) (i : length l ≡ n) (j : length m ≡ n) where
  pub alike_none : Alike l m 0
  alike_none = record { few = omega arith; same = λ k h. absurd (omega arith) }

  pub order_all : (k : ℕ) → Alike l m k → n ≤ k → Equal ≡ slice_cmp nat_cmp l m
  order_all k a h =
      let few : length l ≤ k = omega arith in
      let e : l ≡ m = same_number_lists l m (i ∙ sym j) (λ p q. a.same p (omega (arith, few, q))) in
      sym (ap (slice_cmp nat_cmp l) (sym e) ∙ tied_itself nat_list_cmp_total l)

  module _ (k : ℕ) (a : Alike l m k) (h : k < n) (x y : ℕ) (x-is : x ≡ get_or l k 0) (y-is : y ≡ get_or m k 0) (o : Ordering) (is : o ≡ nat_cmp x y) (b : Bool) (told : b ≡ is_ne o) where
    are : o ≡ nat_cmp (get_or l k 0) (get_or m k 0)
    are = is ∙ (λ z. nat_cmp (x-is z) (y-is z))

    pub order_here : b ≡ true → o ≡ slice_cmp nat_cmp l m
    order_here d = are ∙ first_differs l m k (i ∙ sym j) (omega arith) a.same (λ e. differs o (sym told ∙ d) (are ∙ e))

    pub alike_on : b ≡ false → Alike l m (k + 1)
    alike_on e = record { few = omega arith; same = λ p q. by p q (eqb p k) refl }
      where
        same_here : get_or l k 0 ≡ get_or m k 0
        same_here = equal_is (get_or l k 0) (get_or m k 0) (sym are ∙ agrees o (sym told ∙ e))

        by : (p : ℕ) → p < k + 1 → (c : Bool) → eqb p k ≡ c → get_or l p 0 ≡ get_or m p 0
        by p q true z = let w = eqb-true p k z in ap (λ (x : ℕ). get_or l x 0) w ∙ same_here ∙ sym (ap (λ (x : ℕ). get_or m x 0) w)
        by p q false z = a.same p (let w = eqb-false p k z in omega arith)

pub alike_turned : (l m : List ℕ) (r : ℕ) → length l ≡ length m → Alike l m r → Alike m l r
alike_turned l m r h a = record { few = let f = a.few in omega arith; same = λ k i. sym (a.same k i) }

-- ---- lists in two parts, of which the first are as long
pub order_append : (l m l' m' : List ℕ) → length l ≡ length m → slice_cmp nat_cmp (l ++ l') (m ++ m') ≡ ordering_then (slice_cmp nat_cmp l m) (slice_cmp nat_cmp l' m')
order_append [] [] l' m' h = refl
order_append [] (y ∷ m) l' m' h = absurd (omega arith)
order_append (x ∷ l) [] l' m' h = absurd (omega arith)
order_append (x ∷ l) (y ∷ m) l' m' h = ap (ordering_then (nat_cmp x y)) (order_append l m l' m' (omega arith)) ∙ sym (then_assoc (nat_cmp x y) (slice_cmp nat_cmp l m) (slice_cmp nat_cmp l' m'))

module _ (u l l' v m m' : List ℕ) (i : u ≡ l ++ l') (j : v ≡ m ++ m') (long : length l ≡ length m) (o : Ordering) (is : o ≡ slice_cmp nat_cmp l m) (b : Bool) (told : b ≡ is_ne o) where
  parted : slice_cmp nat_cmp u v ≡ ordering_then o (slice_cmp nat_cmp l' m')
  parted = (λ z. slice_cmp nat_cmp (i z) (j z)) ∙ order_append l m l' m' long ∙ ap (λ (p : Ordering). ordering_then p (slice_cmp nat_cmp l' m')) (sym is)

  pub parted_stop : b ≡ true → o ≡ slice_cmp nat_cmp u v
  parted_stop h = then_first o (slice_cmp nat_cmp l' m') (differs o (sym told ∙ h)) ∙ sym parted

  pub parted_on : b ≡ false → slice_cmp nat_cmp u v ≡ slice_cmp nat_cmp l' m'
  parted_on h = parted ∙ ap (λ (p : Ordering). ordering_then p (slice_cmp nat_cmp l' m')) (agrees o (sym told ∙ h))

-- ---- strings by how many characters they have
module _ (u v : List ℕ) (n k : ℕ) (i : length u ≡ n) (j : length v ≡ k) where
  ranks : rank_of u v ≡ ordering_then (nat_cmp n k) (slice_cmp nat_cmp u v)
  unfolding rank_of
  ranks = λ z. ordering_then (nat_cmp (i z) (j z)) (slice_cmp nat_cmp u v)

  pub rank_apart_by : (o : Ordering) → o ≡ nat_cmp n k → (n ≡ k → ⊥) → o ≡ rank_of u v
  rank_apart_by o is h = is ∙ then_first (nat_cmp n k) (slice_cmp nat_cmp u v) (λ e. h (equal_is n k e)) ∙ sym ranks

  pub rank_even : n ≡ k → rank_of u v ≡ slice_cmp nat_cmp u v
  rank_even e = ranks ∙ ap (λ (o : Ordering). ordering_then o (slice_cmp nat_cmp u v)) (nat_self n k e)

pub rank_end : (u v : List ℕ) (o : Ordering) → o ≡ slice_cmp nat_cmp u v → length u ≡ 0 → length v ≡ 0 → Equal ≡ o
rank_end [] [] o h i j = sym h
rank_end [] (y ∷ v) o h i j = absurd (omega arith)
rank_end (x ∷ u) v o h i j = absurd (omega arith)
