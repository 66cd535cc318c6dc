-- The laws of windows merged one after the other. Assumes nothing.
use Prim.Native.Nat.{ℕ, ◌+◌, ◌-◌, ◌≤◌, ◌<◌}
use mathlib.Core.Path.{◌≡◌, sym, ap, ◌∙◌}
use mathlib.Core.Bool.{Bool, true, false}
use mathlib.Core.List.{List, [], ◌++◌, append-nil}
use native.Mathlib.Omega.{arith}
use lib.ListN.{length, take}
use Rattle.cell.specs.declared.Cell.{Cell}
use Rattle.reading.specs.declared.Place.{Place}
use Rattle.reading.specs.Cells.{listed_from}
use Rattle.differences.specs.Differences.{Difference, words_from}
use Rattle.differences.proofs.Laws.{words_split, words_none, words_agree}
use Rattle.cell_addresses.specs.Addresses.{nothing, value_in, When, Follows, Ascends}
use Rattle.cell_addresses.proofs.Laws.{seek_start}
use Rattle.address_windows.specs.Windows.{kept, below, Window}
use Rattle.address_windows.proofs.Laws.{value_below, value_from, kept_taken}
use Rattle.cell_differences.specs.Merge.{puts, put_to, at_both, differs, words_between}
use Rattle.cell_differences.proofs.Puts.{puts_part, to_part, length_puts, puts_full, to_stays}
use Rattle.unordered_sheets.specs.Unordered.{Holds, Tells}
use Rattle.unordered_sheets.specs.Staged.{AllHold}
use Rattle.unordered_sheets.specs.declared.stage.Stages.{Stages}

module _ (s t : List ℕ) (p q : List (List ℕ)) (base : ℕ) where
  -- ---- a window, and what comes after it: l' and m' have in the window what l and m have there, and nothing after it
  module _ (l m l' m' : List Cell) (lo hi : ℕ) (low : lo ≤ hi) (top : hi ≤ 4294967296)
      (first : (b : ℕ) → lo ≤ b → b < hi → value_in b l ≡ value_in b l') (second : (b : ℕ) → lo ≤ b → b < hi → value_in b m ≡ value_in b m')
      (first-end : (b : ℕ) → hi ≤ b → value_in b l' ≡ nothing) (second-end : (b : ℕ) → hi ≤ b → value_in b m' ≡ nothing) where
    abbrev d : ℕ → Difference
    d key = differs s t p q l m (key - base)

    abbrev e : ℕ → Difference
    e key = differs s t p q l' m' (key - base)

    count : 4294967296 - lo ≡ (hi - lo) + (4294967296 - hi)
    count = omega arith

    from : base + lo + (hi - lo) ≡ base + hi
    from = omega arith

    parts : (f : ℕ → Difference) → words_from f (base + lo) (4294967296 - lo) ≡ words_from f (base + lo) (hi - lo) ++ words_from f (base + hi) (4294967296 - hi)
    parts f =
        ap (words_from f (base + lo)) count ∙ words_split f (hi - lo) (4294967296 - hi) (base + lo)
        ∙ ap (λ (k : ℕ). words_from f (base + lo) (hi - lo) ++ words_from f k (4294967296 - hi)) from

    agree : words_from d (base + lo) (hi - lo) ≡ words_from e (base + lo) (hi - lo)
    unfolding differs
    agree = words_agree d e (hi - lo) (base + lo) (λ j i k. let x = first (j - base) (omega arith) (omega arith) in let y = second (j - base) (omega arith) (omega arith) in λ z. at_both s t p q (x z) (y z))

    over : words_from e (base + hi) (4294967296 - hi) ≡ []
    unfolding differs
    over = words_none e (4294967296 - hi) (base + hi) (λ j i k. let x = first-end (j - base) (omega arith) in let y = second-end (j - base) (omega arith) in λ z. at_both s t p q (x z) (y z))

    pub cut : words_between s t p q l m base lo ≡ words_between s t p q l' m' base lo ++ words_between s t p q l m base hi
    unfolding words_between
    cut =
        parts d ∙ (λ z. agree z ++ words_from d (base + hi) (4294967296 - hi))
        ∙ sym (ap (λ (x : List ℕ). x ++ words_from d (base + hi) (4294967296 - hi)) (parts e ∙ ap (λ (x : List ℕ). words_from e (base + lo) (hi - lo) ++ x) over ∙ append-nil (words_from e (base + lo) (hi - lo))))

  -- ---- on the way: the windows before `lo` are merged, j words stand in the buffer
  pub record Ranging (l m : List Cell) (from i : ℕ) (out₀ out : List ℕ) (lo j : ℕ) : Type 0 where
    pub size : length out ≡ length out₀
    pub words : puts out₀ i (words_between s t p q l m base from) ≡ puts out j (words_between s t p q l m base lo)
    pub count : put_to (length out₀) i (words_between s t p q l m base from) ≡ put_to (length out) j (words_between s t p q l m base lo)

-- from `lo` on and below `hi` the list of what the table keeps there tells what the list tells
in_window : (s : List ℕ) (l : List Cell) (c : List ℕ) (lo hi x : ℕ) → Window s l c lo hi x → (b : ℕ) → lo ≤ b → b < hi → value_in b l ≡ value_in b (below hi (kept s c x))
in_window s l c lo hi x f b i j = f.all b i j ∙ sym (value_below hi b (kept s c x) j)

module _ {s t : List ℕ} {p q : List (List ℕ)} {base : ℕ} {l m : List Cell} {from i : ℕ} {out₀ out : List ℕ} {lo j : ℕ} (g : Ranging s t p q base l m from i out₀ out lo j) where
  range_turn : (l' m' : List Cell) (hi : ℕ) (out' : List ℕ) (j' : ℕ) → words_between s t p q l m base lo ≡ words_between s t p q l' m' base lo ++ words_between s t p q l m base hi
      → j' ≡ put_to (length out) j (words_between s t p q l' m' base lo) → out' ≡ puts out j (words_between s t p q l' m' base lo) → Ranging s t p q base l m from i out₀ out' hi j'
  range_turn l' m' hi out' j' e a b =
      let n = ap length b ∙ length_puts out j (words_between s t p q l' m' base lo) in
      record {
        size = n ∙ g.size;
        words = puts_part _ out out' (words_between s t p q l' m' base lo) (words_between s t p q l m base hi) _ j j' g.words e b a;
        count = to_part _ (length out) (length out') (words_between s t p q l' m' base lo) (words_between s t p q l m base hi) _ j j' g.count e n a;
      }

  abbrev Ends : Type 0
  Ends = (j ≡ put_to (length out₀) i (words_between s t p q l m base from)) × (out ≡ puts out₀ i (words_between s t p q l m base from))

  pub range_full : length out < j → Ends
  range_full h = (sym (g.count ∙ to_stays (length out) j (words_between s t p q l m base lo) h), sym (g.words ∙ puts_full out j (words_between s t p q l m base lo) (omega arith)))

  pub range_end : 4294967296 ≤ lo → Ends
  unfolding puts put_to words_between words_from
  range_end h =
      let n : 4294967296 - lo ≡ 0 = omega arith in
      let e : words_between s t p q l m base lo ≡ [] = ap (words_from (λ key. differs s t p q l m (key - base)) (base + lo)) n in
      (sym (g.count ∙ ap (put_to (length out) j) e), sym (g.words ∙ ap (puts out j) e))

  -- a window merged: in it the tables have what the lists have, and `below` has nothing after it
  pub range_window : {c d : List ℕ} {hi x y : ℕ} → Holds s t l m lo c d hi x y → lo < hi → {one two : List Cell} → (one ≡ below hi (kept s c x)) × (two ≡ below hi (kept t d y))
      → {out' : List ℕ} {j' : ℕ} → j' ≡ put_to (length out) j (words_between s t p q one two base lo) → out' ≡ puts out j (words_between s t p q one two base lo)
      → Ranging s t p q base l m from i out₀ out' hi j'
  range_window {c} {d} {hi} {x} {y} f o {one} {two} e {out'} {j'} a b =
      let k : words_between s t p q one two base lo ≡ words_between s t p q (below hi (kept s c x)) (below hi (kept t d y)) base lo = λ z. words_between s t p q (e.0 z) (e.1 z) base lo in
      range_turn (below hi (kept s c x)) (below hi (kept t d y)) hi out' j'
      (cut s t p q base l m (below hi (kept s c x)) (below hi (kept t d y)) lo hi (omega arith) f.first.top
      (in_window s l c lo hi x f.first) (in_window t m d lo hi y f.second) (λ b z. value_from hi b (kept s c x) z) (λ b z. value_from hi b (kept t d y) z))
      (a ∙ ap (put_to (length out) j) k) (b ∙ ap (puts out j) k)

-- ---- what the tables have
later : (s : List ℕ) (l : List Cell) (a : List ℕ) (lo lo' hi n : ℕ) → lo ≤ lo' → Window s l a lo hi n → Window s l a lo' hi n
later s l a lo lo' hi n i f = record { size = f.size; top = f.top; all = λ b p q. f.all b (omega arith) q }

hold_later : {s t : List ℕ} {l m : List Cell} {lo lo' : ℕ} {a b : List ℕ} {high x y : ℕ} → lo < lo' → Holds s t l m lo a b high x y → Holds s t l m lo' a b high x y
hold_later i f = record { first = later _ _ _ _ _ _ _ (omega arith) f.first; second = later _ _ _ _ _ _ _ (omega arith) f.second }

pub all_later : {s t : List ℕ} {l m : List Cell} {lo lo' : ℕ} {w : Stages} → lo < lo' → AllHold s t l m lo w → AllHold s t l m lo' w
all_later i f = record { far = hold_later i f.far; middle = hold_later i f.middle; close = hold_later i f.close; near = hold_later i f.near }

-- of a table that has what the list has
pub tells_kept : (s : List ℕ) (l : List Cell) (a : List ℕ) (lo high n : ℕ) → Window s l a lo high n → Tells (kept s (take n a) (length (take n a))) l lo high
tells_kept s l a lo high n f b i j = f.all b i j ∙ sym (ap (value_in b) (kept_taken s a n f.size))

-- ---- the next cell of a side
pub start_when : (s : List ℕ) (v : Place) (k : ℕ) (b : Bool) → Ascends (listed_from s v) b → When b (Follows s (listed_from s v) v k)
start_when s v k true a = seek_start s v k a
start_when s v k false a = tt
