-- New places kept in words, and found again. Assumes nothing.
use Prim.Native.Nat.{ℕ, ◌+◌, ◌-◌, ◌/◌, ◌%◌, ◌≤◌, ◌<◌}
use mathlib.Core.Path.{◌≡◌, refl, sym, ap, ◌∙◌, subst}
use mathlib.Core.List.{List}
use mathlib.Core.Bool.{Bool, true, false}
use native.Mathlib.Omega.{arith}
use lib.ListN.{length, get_or, set, take, length-set}
use lib.Seq.{get_or-set_same, get_or-set_other, get_or-take, length-take-le}
use lib.Dec.{leb, eqb}
use Rattle.std.specs.List.Sorted.{IsPartitionedBy, IsPartitionPoint}
use Rattle.std.proofs.lemmas.List.Sorted.{IsPartitionedBy-leb}
use Rattle.std.proofs.lemmas.Grind.{get_or_default_zero}
use borrow.Author.Tests.{eqb-true, eqb-false, leb-true, leb-false}
use Rattle.std.specs.Prelude.{Option, Some}
use Rattle.steps.specs.Choice.{pick}
use Rattle.steps.specs.Items.{Item, onto}
use Rattle.record.specs.declared.Header.{Header}
use Rattle.record.specs.declared.Header.TheVariants as header
use Rattle.record.specs.Record.{header_at}
use Rattle.new_stream.specs.declared.Spot.{Spot}
use Rattle.new_stream.specs.declared.Entry.{Entry}
use Rattle.new_stream.specs.Entries.{size_for, fate_of, level_after, spot_after, record_item, rest_item, on_header, entry_item, entries_from, entries_of, top}
use Rattle.new_stream.proofs.Entries.{entries_step}
use Rattle.new_places.specs.declared.Step.{Step}
use Rattle.new_places.specs.Parts.{item_of}
use Rattle.new_places.specs.Places.{sizes, place_for}
use Rattle.new_places.proofs.Walking.{left_some, step_ahead}
use Rattle.new_places.proofs.Places.{sizes_more, place_more}
use Rattle.new_places.proofs.Whole.{sizes_small}
use Rattle.new_fields.specs.Slots.{Reached, Slots, Before, Grown}

-- ---- where nothing is open, neither the kind nor what went before it matters
abbrev bare_spot : ℕ → ℕ → Bool → Spot
bare_spot at k g = record { at = at; level = 0; kind = k; gone = g }

module _ (s : List ℕ) (at k : ℕ) (g : Bool) where
  bare_header : (x : Header) → on_header s (bare_spot at k g) x ≡ on_header s (bare_spot at 0 false) x
  unfolding record_item spot_after fate_of level_after rest_item pick
  bare_header (header.Record t z e) = by (eqb t 0x0809) refl
    where
      by : (b : Bool) → eqb t 0x0809 ≡ b → on_header s (bare_spot at k g) (header.Record t z e) ≡ on_header s (bare_spot at 0 false) (header.Record t z e)
      by true h = rw (eqb-true t 0x0809 h) refl
      by false h = rw h refl
  bare_header header.Cut = refl
  bare_header header.End = refl

bare : (s : List ℕ) (w : Spot) → w.level ≡ 0 → entries_from s w ≡ entries_from s (bare_spot w.at 0 false)
unfolding entry_item
bare s w h =
    ap (entries_from s) (λ i. record { at = w.at; level = h i; kind = w.kind; gone = w.gone })
    ∙ entries_step s (bare_spot w.at w.kind w.gone)
    ∙ ap (λ (x : Item Spot Entry). onto x (λ v. entries_from s v)) (bare_header s w.at w.kind w.gone (header_at s w.at))
    ∙ sym (entries_step s (bare_spot w.at 0 false))

-- ---- a spot that is reached
reached_start : (s : List ℕ) (n : ℕ) → Reached s n (top 0) 0
reached_start s n = record { within = omega arith; sum = omega arith; same = λ p h. omega arith }

module _ (s : List ℕ) (n : ℕ) (w : Spot) (q : ℕ) (g : Reached s n w q) where
  reached_bare : w.level ≡ 0 → Reached s n (top w.at) q
  reached_bare z =
      let e = bare s w z in
      record {
        within = g.within;
        sum = ap (λ (l : List Entry). q + sizes n l) (sym e) ∙ g.sum;
        same = λ p h. g.same p h ∙ ap (λ (l : List Entry). q + place_for n l p) e;
      }

  module _ (r : Option Step) (is : item_of r ≡ entry_item s w) (x : Step) (h : r ≡ Some x) (k : ℕ) (size : k ≡ size_for n x.entry.size x.entry.fate) where
    reached_next : Reached s n x.next (q + k)
    reached_next =
        let e = left_some s w r is x h in
        let a = step_ahead s w r is x h in
        let m = sizes_more n _ _ _ e in
        let b = g.sum in
        record {
          within = a.3;
          sum = omega arith;
          same = λ p j. let c = g.same p (omega arith) in let d = place_more n _ _ _ e p (omega arith) in omega arith;
        }

-- ---- words
abbrev Word : List ℕ → ℕ → ℕ → Type 0
Word s n x = Reached s n (top (x / 4294967296)) (x % 4294967296)

first_slot : (l : List ℕ) → 0 < length l → get_or (set l 0 0) 0 0 ≡ 0
first_slot l h = get_or-set_same l 0 0 0 h

slots_start : (s : List ℕ) (n : ℕ) (l : List ℕ) → length s ≤ 16777216 → n ≤ 16777216 → 0 < length l → get_or l 0 0 ≡ 0 → Slots s n 1 l
slots_start s n l a b h e = record {
  short = a;
  table = b;
  some = omega arith;
  within = h;
  first = e;
  ascend = λ i j c d. let x : i ≡ j = omega arith in let y : get_or l i 0 ≡ get_or l j 0 = ap (λ (k : ℕ). get_or l k 0) x in omega arith;
  reached = λ j i. let z : j ≡ 0 = omega arith in subst (Word s n) (sym (ap (λ (k : ℕ). get_or l k 0) z ∙ e)) (reached_start s n);
}

module _ (k : ℕ) (l : List ℕ) (x at q : ℕ) where
  pub grown_same : (w : Spot) → Grown k k w q l l
  grown_same w = record { size = refl; slots = λ s n a b c. (a, b) }

  module _ (a : x / 4294967296 ≡ at) (b : x % 4294967296 ≡ q) (room : k < length l) where
    module _ (s : List ℕ) (n : ℕ) (g : Slots s n k l) (before : Before k l at) (h : Reached s n (top at) q) where
      new : Word s n x
      new = subst (λ (y : ℕ). Reached s n (top y) (x % 4294967296)) (sym a) (subst (λ (y : ℕ). Reached s n (top at) y) (sym b) h)

      here : get_or (set l k x) k 0 ≡ x
      here = get_or-set_same l k x 0 room

      there : (j : ℕ) → j < k → get_or (set l k x) j 0 ≡ get_or l j 0
      there j i = get_or-set_other l k j x 0 (λ e. omega arith)

      by_place : (P : ℕ → Type 0) → P x → ((j : ℕ) → j < k → P (get_or l j 0)) → (j : ℕ) → j < k + 1 → P (get_or (set l k x) j 0)
      by_place P p f j i = by (eqb j k) refl
        where
          by : (c : Bool) → eqb j k ≡ c → P (get_or (set l k x) j 0)
          by true e = let z = eqb-true j k e in subst P (sym (ap (λ (m : ℕ). get_or (set l k x) m 0) z ∙ here)) p
          by false e = let z = eqb-false j k e in let low : j < k = omega arith in subst P (sym (there j low)) (f j low)

      new_before : Before (k + 1) (set l k x) at
      new_before = by_place (λ (y : ℕ). y / 4294967296 ≤ at) (omega arith) before

      new_ascend : (i j : ℕ) → i ≤ j → j < k + 1 → get_or (set l k x) i 0 / 4294967296 ≤ get_or (set l k x) j 0 / 4294967296
      new_ascend i j c d = by (eqb j k) refl
        where
          by : (b : Bool) → eqb j k ≡ b → get_or (set l k x) i 0 / 4294967296 ≤ get_or (set l k x) j 0 / 4294967296
          by true e = let z = eqb-true j k e in let m = ap (λ (m : ℕ). get_or (set l k x) m 0 / 4294967296) z in let o : get_or (set l k x) k 0 / 4294967296 ≡ x / 4294967296 = ap (λ (y : ℕ). y / 4294967296) here in let p = new_before i (omega arith) in omega arith
          by false e =
              let z = eqb-false j k e in
              let m : get_or (set l k x) i 0 / 4294967296 ≡ get_or l i 0 / 4294967296 = ap (λ (y : ℕ). y / 4294967296) (there i (omega arith)) in
              let o : get_or (set l k x) j 0 / 4294967296 ≡ get_or l j 0 / 4294967296 = ap (λ (y : ℕ). y / 4294967296) (there j (omega arith)) in
              let p = g.ascend i j c (omega arith) in
              omega arith

      slots_more : Slots s n (k + 1) (set l k x)
      slots_more = record {
        short = g.short;
        table = g.table;
        some = omega arith;
        within = let z = length-set l k x in omega arith;
        first = there 0 g.some ∙ g.first;
        ascend = new_ascend;
        reached = by_place (Word s n) new g.reached;
      }

    pub grown_more : Grown k (k + 1) (top at) q l (set l k x)
    grown_more = record { size = length-set l k x; slots = λ s n g c h. (slots_more s n g c h, new_before s n g c h) }

pub grown_top : (k k' : ℕ) (w : Spot) (q : ℕ) (l l' : List ℕ) → w.level ≡ 0 → Grown k k' (top w.at) q l l' → Grown k k' w q l l'
grown_top k k' w q l l' z g = record { size = g.size; slots = λ s n a b c. g.slots s n a b (reached_bare s n w q c z) }

pub ruleset grown_laws = (grown_same, grown_more, grown_top)

-- ---- filled one after the other
pub record Filled (s : List ℕ) (n : ℕ) (l₀ : List ℕ) (w : Spot) (q k : ℕ) (l : List ℕ) : Type 0 where
  pub reached : Reached s n w q
  pub slots : Slots s n k l
  pub before : Before k l w.at
  pub size : length l ≡ length l₀
  pub level : w.level ≤ w.at

pub filled_start : (s : List ℕ) (n : ℕ) (l₀ l : List ℕ) → l ≡ set l₀ 0 0 → length s ≤ 16777216 → n ≤ 16777216 → 0 < length l₀ → Filled s n l₀ (top 0) 0 1 l
filled_start s n l₀ l is a b h =
    let z = length-set l₀ 0 0 in
    let y = ap length is in
    let e : get_or l 0 0 ≡ 0 = ap (λ (m : List ℕ). get_or m 0 0) is ∙ first_slot l₀ h in
    record {
      reached = reached_start s n;
      slots = slots_start s n l a b (omega arith) e;
      before = λ j i. let x : j ≡ 0 = omega arith in let y : get_or l j 0 ≡ 0 = ap (λ (m : ℕ). get_or l m 0) x ∙ e in omega arith;
      size = omega arith;
      level = omega arith;
    }

module _ {s : List ℕ} {n : ℕ} {l₀ : List ℕ} {w : Spot} {q k : ℕ} {l : List ℕ} (g : Filled s n l₀ w q k l) where
  pub filled_level : w.level < 9223372036854775808
  filled_level = let a = g.reached.within in let b = g.slots.short in let c = g.level in omega arith

  pub filled_length : length l ≡ length l₀
  filled_length = g.size

  pub filled_slots : Slots s n k l
  filled_slots = g.slots

  module _ {r : Option Step} (is : item_of r ≡ entry_item s w) (x : Step) (h : r ≡ Some x) where
    pub filled_low : x.next.at < 4294967296
    filled_low = let a = step_ahead s w r is x h in let b = g.slots.short in omega arith

    pub filled_less : length s - x.next.at < length s - w.at
    filled_less = let a = step_ahead s w r is x h in omega arith

    pub filled_sum : q + size_for n x.entry.size x.entry.fate < 18446744073709551616
    filled_sum =
        let e = sizes_more n _ _ _ (left_some s w r is x h) in
        let a = g.reached.sum in
        let b = sizes_small s n g.slots.table (top 0) in
        let c = g.slots.short in
        omega arith

    pub filled_next : (m k' : ℕ) (l' : List ℕ) → m ≡ size_for n x.entry.size x.entry.fate → Grown k k' x.next (q + m) l l' → Filled s n l₀ x.next (q + m) k' l'
    filled_next m k' l' size gr =
        let a = step_ahead s w r is x h in
        let c = g.level in
        let next = reached_next s n w q g.reached r is x h m size in
        let both = gr.slots s n g.slots (λ j i. let b = g.before j i in omega arith) next in
        record { reached = next; slots = both.0; before = both.1; size = gr.size ∙ g.size; level = omega arith }

pub ruleset fill_laws = (filled_level, filled_length, filled_slots, filled_low, filled_less, filled_sum)

-- ---- found again
module _ (s : List ℕ) (n : ℕ) (l : List ℕ) (p after : ℕ) (g : Slots s n (length l) l) (bound : after ≤ length l) (point : IsPartitionPoint (λ y. leb (y / 4294967296) p ≡ true) (λ y. leb (y / 4294967296) p ≡ false) l after) where
  pub found_some : 1 ≤ after
  found_some = by (eqb after 0) refl
    where
      by : (b : Bool) → eqb after 0 ≡ b → 1 ≤ after
      by true e =
          let z = eqb-true after 0 e in
          let a : leb (get_or l 0 0 / 4294967296) p ≡ false = point.1 0 0 (omega arith) g.some in
          let b = leb-false (get_or l 0 0 / 4294967296) p a in
          let c = g.first in
          absurd (omega arith)
      by false e = let z = eqb-false after 0 e in omega arith

  found_before : get_or l (after - 1) 0 / 4294967296 ≤ p
  found_before = let a = found_some in leb-true (get_or l (after - 1) 0 / 4294967296) p (point.0 (after - 1) 0 (omega arith) (omega arith))

  -- the word that is read, and the entries from there
  module _ (x : ℕ) (is : x ≡ get_or l (after - 1) 0) (k : List Entry) (from : k ≡ entries_from s (top (x / 4294967296))) where
    reached_here : Reached s n (top (x / 4294967296)) (x % 4294967296)
    reached_here = let a = found_some in subst (λ (y : ℕ). Reached s n (top (y / 4294967296)) (y % 4294967296)) (sym is) (g.reached (after - 1) (omega arith))

    pub found_within : x / 4294967296 ≤ length s
    found_within = reached_here.within

    pub found_sum : x % 4294967296 + sizes n k < 18446744073709551616
    found_sum =
        let a = reached_here.sum in
        let b = sizes_small s n g.table (top 0) in
        let c = g.short in
        let d = ap (sizes n) from in
        omega arith

    pub found_place : (r : ℕ) → r ≡ x % 4294967296 + place_for n k p → r ≡ place_for n (entries_of s) p
    found_place r h =
        let a : x / 4294967296 ≤ p = subst (λ (y : ℕ). y / 4294967296 ≤ p) (sym is) found_before in
        h ∙ ap (λ (m : List Entry). x % 4294967296 + place_for n m p) from ∙ sym (reached_here.same p a)

pub slots_ascend : {s : List ℕ} {n : ℕ} (l : List ℕ) (p : ℕ) → Slots s n (length l) l → IsPartitionedBy (λ y. leb (y / 4294967296) p) l
slots_ascend l p g =
    IsPartitionedBy-leb (λ y. y / 4294967296) l p (λ i j d c e.
    let a = get_or_default_zero l i d (omega arith) in
    let b = get_or_default_zero l j d e in
    let h = g.ascend i j c e in
    omega arith)

-- ---- the first k words alone
pub slots_part : {s : List ℕ} {n : ℕ} (k : ℕ) (l : List ℕ) → Slots s n k l → Slots s n (length (take k l)) (take k l)
slots_part {s} {n} k l g =
    let z = length-take-le k l g.within in
    let same : (j : ℕ) → j < k → get_or (take k l) j 0 ≡ get_or l j 0 = λ j h. get_or-take k l j 0 h in
    record {
      short = g.short;
      table = g.table;
      some = let a = g.some in omega arith;
      within = omega arith;
      first = same 0 g.some ∙ g.first;
      ascend = λ i j c d. let x = same i (omega arith) in let y = same j (omega arith) in let h = g.ascend i j c (omega arith) in omega arith;
      reached = λ j h. subst (Word s n) (sym (same j (omega arith))) (g.reached j (omega arith));
    }
