-- The laws of the merge. Assumes nothing.
use Prim.Native.Nat.{ℕ, suc, ◌+◌, ◌-◌, ◌*◌, ◌≤◌, ◌<◌}
use mathlib.Core.Path.{◌≡◌, refl, sym, ap, ◌∙◌, subst}
use mathlib.Core.Bool.{Bool, true, false}
use mathlib.Core.List.{List, [], ◌∷◌, ◌++◌}
use native.Mathlib.Omega.{arith}
use lib.ListN.{length}
use Rattle.std.proofs.Common.{Ordering, Less, Equal, Greater}
use Rattle.std.specs.Ordering.{MatchOrdering, nat_cmp}
use Rattle.std.specs.Cmp.{ranked}
use Rattle.steps.proofs.Choice.{pick_true, pick_false}
use Rattle.cell.specs.declared.Cell.{Cell}
use Rattle.value.specs.declared.CellValue.{CellValue}
use Rattle.differences.specs.Differences.{Difference, none, unequal, alike, words_of, words_from}
use Rattle.differences.specs.Units.{units_by}
use Rattle.differences.proofs.Laws.{words_split, words_none}
use Rattle.cell_addresses.specs.declared.Head.{Head}
use Rattle.cell_addresses.specs.Addresses.{holds, value_in, Least}
use Rattle.cell_differences.proofs.Puts.{puts_part, to_part, length_puts, puts_full, to_stays}
use Rattle.cell_differences.specs.Merge.{puts, put_to, at_both, differs, words_between}
use Rattle.cell_differences.specs.Sides.{FoundFrom, Next}

-- ---- what an answer of `cmp` says
module _ {x y : ℕ} {r : Ordering} (e : r ≡ nat_cmp x y) where
  pub is_less : r ≡ Less → x < y
  is_less i = subst (λ (z : Ordering). MatchOrdering z (x < y) (x ≡ y) (y < x)) i (ranked x y r e)

  pub is_greater : r ≡ Greater → y < x
  is_greater i = subst (λ (z : Ordering). MatchOrdering z (x < y) (x ≡ y) (y < x)) i (ranked x y r e)

  pub is_equal : r ≡ Equal → x ≡ y
  is_equal i = subst (λ (z : Ordering). MatchOrdering z (x < y) (x ≡ y) (y < x)) i (ranked x y r e)

-- ---- the words
module _ (s t : List ℕ) (p q : List (List ℕ)) (l m : List Cell) (base k : ℕ) (x y : Head) (f : Least l k x) (g : Least m k y) where
  abbrev d : ℕ → Difference
  d key = differs s t p q l m (key - base)

  none_before : (a : ℕ) → a ≤ x.address → a ≤ y.address → (j : ℕ) → base + k ≤ j → j < base + k + (a - k) → d j ≡ none
  unfolding differs
  none_before a i h j low high =
      let e = f.gap (j - base) (omega arith) (omega arith) in
      let o = g.gap (j - base) (omega arith) (omega arith) in
      λ z. at_both s t p q (e z) (o z)

  -- on to address a, before which there is nothing
  to_address : (a : ℕ) → k ≤ a → a ≤ x.address → a ≤ y.address → a < 4294967296 → words_between s t p q l m base k ≡ words_of (base + a) (differs s t p q l m a) ++ words_between s t p q l m base (a + 1)
  unfolding words_between words_from
  to_address a i h o n =
      let len : 4294967296 - k ≡ (a - k) + suc (4294967296 - (a + 1)) = omega arith in
      let c : base + k + (a - k) ≡ base + a = omega arith in
      let c' : base + k + (a - k) + 1 ≡ base + (a + 1) = omega arith in
      let e : base + k + (a - k) - base ≡ a = omega arith in
      ap (words_from d (base + k)) len ∙ words_split d (a - k) (suc (4294967296 - (a + 1))) (base + k)
      ∙ ap (λ (z : List ℕ). z ++ words_from d (base + k + (a - k)) (suc (4294967296 - (a + 1)))) (words_none d (a - k) (base + k) (none_before a h o))
      ∙ (λ z. words_of (c z) (differs s t p q l m (e z)) ++ words_from d (c' z) (4294967296 - (a + 1)))

  pub first_words : x.address < y.address → words_between s t p q l m base k ≡ ((base + x.address) * 4 + 1) ∷ words_between s t p q l m base (x.address + 1)
  unfolding differs
  first_words h =
      let u = f.here (let z = g.high in omega arith) in
      let w = g.gap x.address f.low h in
      to_address x.address f.low (omega arith) (omega arith) (let z = g.high in omega arith)
      ∙ (λ z. words_of (base + x.address) (at_both s t p q (u z) (w z)) ++ words_between s t p q l m base (x.address + 1))

  pub second_words : y.address < x.address → words_between s t p q l m base k ≡ ((base + y.address) * 4 + 2) ∷ words_between s t p q l m base (y.address + 1)
  unfolding differs
  second_words h =
      let u = f.gap y.address g.low h in
      let w = g.here (let z = f.high in omega arith) in
      to_address y.address g.low (omega arith) (omega arith) (let z = f.high in omega arith)
      ∙ (λ z. words_of (base + y.address) (at_both s t p q (u z) (w z)) ++ words_between s t p q l m base (y.address + 1))

  pub both_words : x.address ≡ y.address → x.address < 4294967296 → words_between s t p q l m base k ≡ words_of (base + x.address) (at_both s t p q (holds x.value x.field) (holds y.value y.field)) ++ words_between s t p q l m base (x.address + 1)
  unfolding differs
  both_words e h =
      let u = f.here h in
      let w = ap (λ (z : ℕ). value_in z m) e ∙ g.here (omega arith) in
      to_address x.address f.low (omega arith) (omega arith) h
      ∙ (λ z. words_of (base + x.address) (at_both s t p q (u z) (w z)) ++ words_between s t p q l m base (x.address + 1))

  pub end_words : x.address ≡ y.address → 4294967296 ≤ x.address → words_between s t p q l m base k ≡ []
  unfolding words_between
  end_words e h = words_none d (4294967296 - k) (base + k) (λ j low high. none_before 4294967296 h (omega arith) j low high)

-- the other side stays where it is
pub least_later : (l : List Cell) (k j : ℕ) (h : Head) → Least l k h → k ≤ j → j ≤ h.address → Least l j h
least_later l k j h f i o = record { low = o; high = f.high; gap = λ b m n. f.gap b (omega arith) n; here = f.here }

-- ---- two values at one place
module _ (s t : List ℕ) (p q : List (List ℕ)) (v w : CellValue) (a c : ℕ) (r : Bool) (is : r ≡ alike p v (units_by s v a) q w (units_by t w c)) where
  pub values_same : r ≡ true → at_both s t p q (holds v a) (holds w c) ≡ none
  values_same h = sym (pick_true none none unequal (alike p v (units_by s v a) q w (units_by t w c)) (sym is ∙ h) refl)

  pub values_differ : r ≡ false → at_both s t p q (holds v a) (holds w c) ≡ unequal
  values_differ h = sym (pick_false unequal none unequal (alike p v (units_by s v a) q w (units_by t w c)) (sym is ∙ h) refl)

  module _ (b : List ℕ) (n i key : ℕ) where
    pub same_to : r ≡ true → i ≡ put_to n i (words_of key (at_both s t p q (holds v a) (holds w c)))
    unfolding put_to
    same_to h = ap (λ (d : Difference). put_to n i (words_of key d)) (sym (values_same h))

    pub same_puts : r ≡ true → b ≡ puts b i (words_of key (at_both s t p q (holds v a) (holds w c)))
    unfolding puts
    same_puts h = ap (λ (d : Difference). puts b i (words_of key d)) (sym (values_same h))

    pub differ_to : (j : ℕ) → j ≡ put_to n i ((key * 4 + 3) ∷ []) → r ≡ false → j ≡ put_to n i (words_of key (at_both s t p q (holds v a) (holds w c)))
    differ_to j e h = e ∙ ap (λ (d : Difference). put_to n i (words_of key d)) (sym (values_differ h))

    pub differ_puts : (o : List ℕ) → o ≡ puts b i ((key * 4 + 3) ∷ []) → r ≡ false → o ≡ puts b i (words_of key (at_both s t p q (holds v a) (holds w c)))
    differ_puts o e h = e ∙ ap (λ (d : Difference). puts b i (words_of key d)) (sym (values_differ h))

pub ruleset unequal_laws = (same_to, same_puts, differ_to, differ_puts)

-- ---- the merge on its way: x and y are the next cells, j words stand in the buffer, and from address `at` on the lists `one` and `two` tell what is left to tell
pub record Going (f g : FoundFrom) (s t : List ℕ) (p q : List (List ℕ)) (l m : List Cell) (base from i : ℕ) (out₀ out : List ℕ) (x y : Head) (j : ℕ) : Type 0 where
  pub at : ℕ
  pub one : List Cell
  pub two : List Cell
  pub first : Least one at x
  pub second : Least two at y
  pub first_next : f one x.next (x.address + 1)
  pub second_next : g two y.next (y.address + 1)
  pub size : length out ≡ length out₀
  pub words : puts out₀ i (words_between s t p q l m base from) ≡ puts out j (words_between s t p q one two base at)
  pub count : put_to (length out₀) i (words_between s t p q l m base from) ≡ put_to (length out) j (words_between s t p q one two base at)

module _ {f g : FoundFrom} {s t : List ℕ} {p q : List (List ℕ)} {l m : List Cell} {base from i : ℕ} {out₀ : List ℕ} where
  module _ {out : List ℕ} {x y : Head} {j : ℕ} (h : Going f g s t p q l m base from i out₀ out x y j) where
    module _ {out' : List ℕ} {j' : ℕ} where
      pub going_first : {x' : Head} → x.address < y.address → j' ≡ put_to (length out) j (((base + x.address) * 4 + 1) ∷ []) → out' ≡ puts out j (((base + x.address) * 4 + 1) ∷ [])
          → Least h.one (x.address + 1) x' × f h.one x'.next (x'.address + 1) → Going f g s t p q l m base from i out₀ out' x' y j'
      going_first {x'} o a b n =
          let e = first_words s t p q h.one h.two base h.at x y h.first h.second o in
          let c = ap length b ∙ length_puts out j (((base + x.address) * 4 + 1) ∷ []) in
          record {
            at = x.address + 1;
            one = h.one;
            two = h.two;
            first = n.0;
            second = least_later h.two h.at (x.address + 1) y h.second (let z = h.first.low in omega arith) (omega arith);
            first_next = n.1;
            second_next = h.second_next;
            size = c ∙ h.size;
            words = puts_part _ out out' (((base + x.address) * 4 + 1) ∷ []) (words_between s t p q h.one h.two base (x.address + 1)) _ j j' h.words e b a;
            count = to_part _ (length out) (length out') (((base + x.address) * 4 + 1) ∷ []) (words_between s t p q h.one h.two base (x.address + 1)) _ j j' h.count e c a;
          }

      pub going_second : {y' : Head} → y.address < x.address → j' ≡ put_to (length out) j (((base + y.address) * 4 + 2) ∷ []) → out' ≡ puts out j (((base + y.address) * 4 + 2) ∷ [])
          → Least h.two (y.address + 1) y' × g h.two y'.next (y'.address + 1) → Going f g s t p q l m base from i out₀ out' x y' j'
      going_second {y'} o a b n =
          let e = second_words s t p q h.one h.two base h.at x y h.first h.second o in
          let c = ap length b ∙ length_puts out j (((base + y.address) * 4 + 2) ∷ []) in
          record {
            at = y.address + 1;
            one = h.one;
            two = h.two;
            first = least_later h.one h.at (y.address + 1) x h.first (let z = h.second.low in omega arith) (omega arith);
            second = n.0;
            first_next = h.first_next;
            second_next = n.1;
            size = c ∙ h.size;
            words = puts_part _ out out' (((base + y.address) * 4 + 2) ∷ []) (words_between s t p q h.one h.two base (y.address + 1)) _ j j' h.words e b a;
            count = to_part _ (length out) (length out') (((base + y.address) * 4 + 2) ∷ []) (words_between s t p q h.one h.two base (y.address + 1)) _ j j' h.count e c a;
          }

      pub going_both : {x' y' : Head} → x.address ≡ y.address → x.address < 4294967296
          → j' ≡ put_to (length out) j (words_of (base + x.address) (at_both s t p q (holds x.value x.field) (holds y.value y.field)))
          → out' ≡ puts out j (words_of (base + x.address) (at_both s t p q (holds x.value x.field) (holds y.value y.field)))
          → Next f g s t p q h.one h.two (x.address + 1) x' y' → Going f g s t p q l m base from i out₀ out' x' y' j'
      going_both {x'} {y'} o k a b n =
          let ws = words_of (base + x.address) (at_both s t p q (holds x.value x.field) (holds y.value y.field)) in
          let e = both_words s t p q h.one h.two base h.at x y h.first h.second o k in
          let c = ap length b ∙ length_puts out j ws in
          record {
            at = x.address + 1;
            one = n.one;
            two = n.two;
            first = n.first;
            second = n.second;
            first_next = n.first_next;
            second_next = n.second_next;
            size = c ∙ h.size;
            words = puts_part _ out out' ws (words_between s t p q h.one h.two base (x.address + 1)) _ j j' h.words e b a ∙ ap (puts out' j') (n.words base);
            count = to_part _ (length out) (length out') ws (words_between s t p q h.one h.two base (x.address + 1)) _ j j' h.count e c a ∙ ap (put_to (length out') j') (n.words base);
          }

    pub second_both : x.address ≡ y.address → g h.two y.next (x.address + 1)
    second_both e = subst (λ (z : ℕ). g h.two y.next (z + 1)) (sym e) h.second_next

    -- nothing is left, or no room
    pub going_end : x.address ≡ y.address → 4294967296 ≤ x.address → (j ≡ put_to (length out₀) i (words_between s t p q l m base from)) × (out ≡ puts out₀ i (words_between s t p q l m base from))
    unfolding puts put_to
    going_end o k =
        let e = end_words s t p q h.one h.two base h.at x y h.first h.second o k in
        (sym (h.count ∙ ap (put_to (length out) j) e), sym (h.words ∙ ap (puts out j) e))

    pub going_full : length out < j → (j ≡ put_to (length out₀) i (words_between s t p q l m base from)) × (out ≡ puts out₀ i (words_between s t p q l m base from))
    going_full k = (sym (h.count ∙ to_stays (length out) j (words_between s t p q h.one h.two base h.at) k), sym (h.words ∙ puts_full out j (words_between s t p q h.one h.two base h.at) (omega arith)))
