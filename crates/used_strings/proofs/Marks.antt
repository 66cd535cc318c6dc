-- Flags, used index by used index. Assumes nothing.
use Prim.Native.Nat.{ℕ, zero, suc, ◌+◌, ◌-◌, ◌*◌, ◌≤◌, ◌<◌}
use mathlib.Core.Path.{◌≡◌, refl, sym, ap, ap₂, ◌∙◌, subst}
use mathlib.Core.List.{List, [], ◌∷◌}
use mathlib.Core.Bool.{Bool, true, false, ◌||◌}
use native.Mathlib.Omega.{arith}
use native.Mathlib.Nat.{div-lt_iff_lt-mul}
use lib.ListN.{length}
use lib.Dec.{eqb}
use borrow.Author.Tests.{eqb-true, eqb-false, eq-eqb, ne_eqb}
use Rattle.steps.specs.Choice.{pick}
use Rattle.steps.proofs.Choice.{pick_any, pick_false}
use Rattle.std.specs.Prelude.{Option, Some, None}
use Rattle.new_stream.specs.declared.Entry.{Entry}
use Rattle.new_stream.specs.Entries.{entries_of}
use Rattle.new_stream.specs.Compact.{texts_in, uses, used_below}
use Rattle.new_table.specs.NewTable.{marks_from}
use Rattle.new_places.specs.Parts.{text_index}
use Rattle.new_places.proofs.Texts.{texts_none, texts_more}
use Rattle.new_places.proofs.Lying.{Lying, lying_start, lying_low, lying_next}
use Rattle.flags.specs.Flags.{flag_at, flags_from, set_below}
use Rattle.flags.specs.Parts.{SetOne, zeros}
use Rattle.flags.proofs.Clearing.{zeros_length, flag_none}
use Rattle.used_strings.specs.Marked.{Marked, Flagged}

-- ---- one index
same_test : (i base k : ℕ) → base ≤ i → eqb k (i - base) ≡ eqb i (base + k)
same_test i base k h = by (eqb k (i - base)) refl
  where
    by : (b : Bool) → eqb k (i - base) ≡ b → eqb k (i - base) ≡ eqb i (base + k)
    by true e = e ∙ sym (eq-eqb i (base + k) (let a = eqb-true k (i - base) e in omega arith))
    by false e = e ∙ sym (ne_eqb i (base + k) (λ a. eqb-false k (i - base) e (omega arith)))

one_uses : (i k : ℕ) → uses (i ∷ []) k ≡ eqb i k
unfolding uses
one_uses i k = by (eqb i k)
  where
    by : (b : Bool) → b || false ≡ b
    by true = refl
    by false = refl

module _ (i base : ℕ) (l : List ℕ) where
  pub one_here : (j : ℕ) (l' : List ℕ) → base ≤ i → j ≡ i - base → SetOne j l l' → Marked (i ∷ []) base l l'
  one_here j l' h e g = record {
    size = g.size;
    at = λ k a. g.at k a ∙ ap (λ (b : Bool). pick b 1 (flag_at l k)) (ap (eqb k) e ∙ same_test i base k h ∙ sym (one_uses i (base + k)));
  }

  pub one_before : i < base → Marked (i ∷ []) base l l
  one_before h = record { size = refl; at = λ k a. pick_false _ _ _ (uses (i ∷ []) (base + k)) (one_uses i (base + k) ∙ ne_eqb i (base + k) (λ e. omega arith)) refl }

cons_uses : (i : ℕ) (t : List ℕ) (k : ℕ) → uses (i ∷ t) k ≡ uses (i ∷ []) k || uses t k
unfolding uses
cons_uses i t k = by (eqb i k)
  where
    by : (b : Bool) → b || uses t k ≡ (b || false) || uses t k
    by true = refl
    by false = refl

pub ruleset one_laws = (one_here, one_before)

-- ---- one list after another
none_marked : (base : ℕ) (l : List ℕ) → Marked [] base l l
unfolding uses pick
none_marked base l = record { size = refl; at = λ k a. refl }

marked_join : (x y z : List ℕ) (base : ℕ) (l m n : List ℕ) → ((k : ℕ) → uses z k ≡ uses x k || uses y k) → Marked x base l m → Marked y base m n → Marked z base l n
unfolding pick
marked_join x y z base l m n u a b = record {
  size = b.size ∙ a.size;
  at = λ k h.
      b.at k (let e = a.size in omega arith) ∙ ap (λ (v : ℕ). pick (uses y (base + k)) 1 v) (a.at k h) ∙ by (uses x (base + k)) (uses y (base + k)) (flag_at l k)
      ∙ ap (λ (c : Bool). pick c 1 (flag_at l k)) (sym (u (base + k)));
}
  where
    by : (p q : Bool) (v : ℕ) → pick q 1 (pick p 1 v) ≡ pick (p || q) 1 v
    by true true v = refl
    by true false v = refl
    by false true v = refl
    by false false v = refl

-- ---- from no flags
pub all_flagged : (x : List ℕ) (base : ℕ) (l₀ l₁ l : List ℕ) → l₁ ≡ zeros (length l₀) → Marked x base l₁ l → Flagged x base (length l₀) l
all_flagged x base l₀ l₁ l e m =
    let n : length l₁ ≡ length l₀ = ap length e ∙ zeros_length (length l₀) in
    record {
      size = m.size ∙ n;
      at = λ k h. m.at k (omega arith) ∙ ap (λ (v : ℕ). pick (uses x (base + k)) 1 v) (ap (λ (y : List ℕ). flag_at y k) e ∙ flag_none (length l₀) k);
    }

-- ---- the walk: what is marked from here on is all that is marked
pub record Marking (s : List ℕ) (base n : ℕ) (l : List Entry) (w : List ℕ) : Type 0 where
  pub lies : Lying s l
  pub size : length w ≡ n
  pub rest : (w' : List ℕ) → Marked (texts_in s l) base w w' → Flagged (texts_in s (entries_of s)) base n w'

pub marking_start : (s : List ℕ) (base : ℕ) (l : List Entry) (w w₀ : List ℕ) → length s ≤ 16777216 → l ≡ entries_of s → w ≡ zeros (length w₀) → Marking s base (length w₀) l w
marking_start s base l w w₀ h i e = record {
  lies = lying_start s l h i;
  size = ap length e ∙ zeros_length (length w₀);
  rest = λ w' m. all_flagged (texts_in s (entries_of s)) base w₀ w w' e (rw i at m);
}

module _ {s : List ℕ} {base n : ℕ} {l : List Entry} {w : List ℕ} (g : Marking s base n l w) where
  pub marking_end : l ≡ [] → Flagged (texts_in s (entries_of s)) base n w
  marking_end i = g.rest w (subst (λ (t : List ℕ). Marked t base w w) (sym (texts_none s l i)) (none_marked base w))

  module _ (x : Entry) (l' : List Entry) (i : l ≡ x ∷ l') where
    pub marking_low : x.at < 4294967200
    marking_low = lying_low g.lies x l' i

    pub marking_other : {r : Option ℕ} → r ≡ text_index s x.at x.fate → r ≡ None → Marking s base n l' w
    marking_other {r} e h = record {
      lies = lying_next g.lies x l' i;
      size = g.size;
      rest = λ w' m. g.rest w' (subst (λ (t : List ℕ). Marked t base w w') (sym (texts_more s l x l' i (sym h ∙ e))) m);
    }

    pub marking_next : {r : Option ℕ} (k : ℕ) (y : List ℕ) → r ≡ text_index s x.at x.fate → r ≡ Some k → Marked (k ∷ []) base w y → Marking s base n l' y
    marking_next {r} k y e h m = record {
      lies = lying_next g.lies x l' i;
      size = m.size ∙ g.size;
      rest = λ w' v. g.rest w' (subst (λ (t : List ℕ). Marked t base w w') (sym (texts_more s l x l' i (sym h ∙ e))) (marked_join (k ∷ []) (texts_in s l') (k ∷ texts_in s l') base w y w' (cons_uses k (texts_in s l')) m v));
    }

pub ruleset mark_laws = (marking_low, marking_other, marking_next, marking_end)

pub flagged_length : (x : List ℕ) (base n : ℕ) (l : List ℕ) → Flagged x base n l → length l ≡ n
flagged_length x base n l g = g.size

-- ---- the list of flags is that of the marks
flags_are : (x : List ℕ) (base n : ℕ) (l : List ℕ) → Flagged x base n l → (m i : ℕ) → i + m ≤ n * 64 → flags_from l i m ≡ marks_from x (base + i) m
unfolding flags_from marks_from
flags_are x base n l g zero i h = refl
flags_are x base n l g (suc m) i h =
    let e : base + (i + 1) ≡ base + i + 1 = omega arith in
    ap₂ (λ (a : ℕ) (r : List ℕ). a ∷ r) (g.at i ((div-lt_iff_lt-mul pos).1 (omega arith))) (flags_are x base n l g m (i + 1) (omega arith) ∙ ap (λ (j : ℕ). marks_from x j m) e)
  where
    pos : 0 < 64
    pos = omega arith

pub flagged_marks : (x : List ℕ) (base n : ℕ) (l : List ℕ) → Flagged x base n l → (m : ℕ) → m ≤ n * 64 → flags_from l 0 m ≡ marks_from x base m
flagged_marks x base n l g m h = let e : base + 0 ≡ base = omega arith in flags_are x base n l g m 0 (omega arith) ∙ ap (λ (j : ℕ). marks_from x j m) e

-- ---- how many are used
pub used_low : (l : List ℕ) (i : ℕ) → used_below l i ≤ i
unfolding used_below
used_low l zero = omega arith
used_low l (suc i) = let a = used_low l i in let b : pick (uses l i) 1 0 ≤ 1 = pick_any (λ (n : ℕ). n ≤ 1) (uses l i) (omega arith) (omega arith) in omega arith

pub used_from : (x : List ℕ) (base n : ℕ) (l : List ℕ) → Flagged x base n l → (i : ℕ) → i ≤ n * 64 → used_below x (base + i) ≡ used_below x base + set_below l i
unfolding used_below set_below
used_from x base n l g zero h = let e : base + 0 ≡ base = omega arith in ap (used_below x) e ∙ (let r : used_below x base ≡ used_below x base + 0 = omega arith in r)
used_from x base n l g (suc i) h =
    let e : base + suc i ≡ suc (base + i) = omega arith in
    let a = used_from x base n l g i (omega arith) in
    let b = g.at i ((div-lt_iff_lt-mul pos).1 (omega arith)) in
    ap (used_below x) e ∙ (let r : pick (uses x (base + i)) 1 0 + used_below x (base + i) ≡ used_below x base + (flag_at l i + set_below l i) = omega arith in r)
  where
    pos : 0 < 64
    pos = omega arith
