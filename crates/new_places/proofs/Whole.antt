-- All that is written, by the sizes of the entries; and how large it may be. Assumes nothing.
use Prim.Native.Nat.{ℕ, zero, suc, ◌+◌, ◌-◌, ◌*◌, ◌≤◌, ◌<◌}
use mathlib.Core.Path.{◌≡◌, refl, sym, ap, ◌∙◌}
use mathlib.Core.List.{List, [], ◌∷◌, map}
use native.Mathlib.Omega.{arith}
use lib.ListN.{length, length-append}
use Rattle.std.specs.List.{fold, sum}
use Rattle.steps.specs.Items.{Item, gives, skips, ends, onto}
use Rattle.reading.specs.Claims.{Every}
use Rattle.new_stream.specs.declared.Spot.{Spot}
use Rattle.new_stream.specs.declared.Fate.{Fate}
use Rattle.new_stream.specs.declared.Fate.TheVariants as fate
use Rattle.new_stream.specs.declared.Entry.{Entry}
use Rattle.new_stream.specs.Entries.{size_for, entry_item, entries_from, start, entries_of}
use Rattle.new_stream.specs.Compact.{new_bytes, written, new_size, place_in, index_in, compact_with}
use Rattle.new_stream.proofs.Entries.{entries_step}
use Rattle.new_stream.proofs.Written.{new_size_lem}
use Rattle.new_stream.proofs.Places.{entries_lie}
use Rattle.new_places.specs.Places.{sizes, LengthOf}
use Rattle.new_places.proofs.Walking.{Ahead, ahead}

-- ---- the table itself, or its length
pub size_is : (T : List ℕ) (z : ℕ) (f : Fate) → new_size T z f ≡ size_for (length T) z f
size_is T z fate.Stays = refl
size_is T z fate.Goes = refl
size_is T z fate.Table = refl
size_is T z fate.Text = refl
size_is T z fate.Sheet = refl

-- ---- all that is written has the length of their sizes
module _ (s T : List ℕ) (index place : ℕ → ℕ) where
  all_written : (l : List Entry) → Every (λ (x : Entry). x.at + x.size ≤ length s) l → sizes (length T) l ≡ length (written s T index place l)
  unfolding sizes written
  all_written [] e = refl
  all_written (x ∷ l) e =
      let a = length-append (new_bytes s T index place x.at x.size x.fate) (written s T index place l) in
      let b = new_size_lem s T index place x.at x.size e.0 x.fate in
      let c = size_is T x.size x.fate in
      let r = all_written l e.1 in
      omega arith

pub length_of : (s : List ℕ) (n r : ℕ) → r ≡ sizes n (entries_of s) → LengthOf s n r
unfolding compact_with
length_of s n r e T i =
    let a : sizes n (entries_of s) ≡ sizes (length T) (entries_of s) = ap (λ (m : ℕ). sizes m (entries_of s)) (sym i) in
    e ∙ a ∙ all_written s T (index_in s T (entries_of s)) (place_in T (entries_of s)) (entries_of s) (entries_lie s start)

-- ---- and no more than 16,777,216 for each byte, if the new table has no more
module _ (s : List ℕ) (n : ℕ) (few : n ≤ 16777216) where
  size_small : (z : ℕ) (f : Fate) → 0 < z → size_for n z f ≤ z * 16777216
  size_small z fate.Stays a = omega arith
  size_small z fate.Goes a = omega arith
  size_small z fate.Table a = omega arith
  size_small z fate.Text a = omega arith
  size_small z fate.Sheet a = omega arith

  sizes_onto : (k : ℕ) (w : Spot) (x : Item Spot Entry) → Ahead s w x → ((v : Spot) → v.at ≤ length s → length s - v.at < k → sizes n (entries_from s v) ≤ (length s - v.at) * 16777216)
      → length s - w.at < suc k → sizes n (onto x (λ v. entries_from s v)) ≤ (length s - w.at) * 16777216
  unfolding sizes
  sizes_onto k w (gives x v) a ih h =
      let b = size_small x.size x.fate a.1 in
      let c = ih v a.3 (omega arith) in
      omega arith
  sizes_onto k w (skips v) a ih h = absurd a
  sizes_onto k w ends a ih h = omega arith

  sizes_to : (k : ℕ) (w : Spot) → length s - w.at < k → sizes n (entries_from s w) ≤ (length s - w.at) * 16777216
  sizes_to zero w h = absurd (omega arith)
  sizes_to (suc k) w h = rw (entries_step s w) (sizes_onto k w (entry_item s w) (ahead s w) (λ v _ d. sizes_to k v d) h)

  pub sizes_small : (w : Spot) → sizes n (entries_from s w) ≤ (length s - w.at) * 16777216
  sizes_small w = sizes_to (suc (length s - w.at)) w (omega arith)

-- ---- as a sum
sizes_fold : (n : ℕ) (l : List Entry) (a : ℕ) → fold (λ a x. a + x) a (map (λ (x : Entry). size_for n x.size x.fate) l) ≡ a + sizes n l
unfolding sizes
sizes_fold n [] a = omega arith
sizes_fold n (x ∷ l) a = let r = sizes_fold n l (a + size_for n x.size x.fate) in omega arith

pub sizes_sum : (n : ℕ) (l : List Entry) → sum (map (λ (x : Entry). size_for n x.size x.fate) l) ≡ sizes n l
sizes_sum n l = let r = sizes_fold n l 0 in omega arith

-- ---- there are no more of them than bytes
few_onto : (s : List ℕ) (k : ℕ) (w : Spot) (x : Item Spot Entry) → Ahead s w x → ((v : Spot) → length s - v.at < k → length (entries_from s v) ≤ length s - v.at) → length s - w.at < suc k → length (onto x (λ v. entries_from s v)) ≤ length s - w.at
few_onto s k w (gives x v) a ih h = let c = ih v (omega arith) in omega arith
few_onto s k w (skips v) a ih h = absurd a
few_onto s k w ends a ih h = omega arith

few_to : (s : List ℕ) (k : ℕ) (w : Spot) → length s - w.at < k → length (entries_from s w) ≤ length s - w.at
few_to s zero w h = absurd (omega arith)
few_to s (suc k) w h = rw (entries_step s w) (few_onto s k w (entry_item s w) (ahead s w) (λ v d. few_to s k v d) h)

pub entries_few : (s : List ℕ) (w : Spot) → length (entries_from s w) ≤ length s - w.at
entries_few s w = few_to s (suc (length s - w.at)) w (omega arith)
