-- The laws of addresses met twice. Assumes nothing.
use Prim.Native.Nat.{ℕ, zero, suc, ◌+◌, ◌-◌, ◌*◌, ◌/◌, ◌%◌, ◌≤◌, ◌<◌, min}
use mathlib.Core.Path.{◌≡◌, refl, sym, ap, ap₂, ◌∙◌, subst, subst⁻¹}
use mathlib.Core.Logic.{◌⊎◌, inl, inr}
use mathlib.Core.Bool.{Bool, true, false, ◌||◌}
use mathlib.Core.List.{List, [], ◌∷◌, ◌++◌}
use native.Mathlib.Omega.{arith}
use native.Mathlib.Nat.{div-add-mod'}
use native.Mathlib.Numerals.{unary_clauses}
use lib.ListN.{length, replicate}
use lib.Dec.{ltb, eqb}
use lib.Arith.{digits_div, digits_mod}
use borrow.Author.Tests.{eqb-true, eqb-false, ltb-true, ltb-false, lt-ltb}
use Rattle.steps.specs.Choice.{pick}
use Rattle.steps.proofs.Choice.{pick_eq, pick_ne, pick_true, pick_false, pick_any, never}
use Rattle.flags.specs.Flags.{bit_at, flag_at}
use Rattle.flags.specs.Parts.{SetOne}
use Rattle.flags.proofs.Clearing.{flag_none}
use Rattle.record.specs.declared.Header.{Header}
use Rattle.record.specs.declared.Header.TheVariants.{Record}
use Rattle.record.specs.Record.{header_at}
use Rattle.record.proofs.Laws.{whole}
use Rattle.value.specs.declared.Field.{Field}
use Rattle.cell.specs.declared.Cell.{Cell}
use Rattle.cell.specs.Cells.{shape_of, field_of, row_at, first_at, count_of, cell_from, cells_from, cells_of, part_of}
use Rattle.cell.proofs.Sizes.{count_room}
use Rattle.sheet_agreement.proofs.Laws.{no_marks}
use Rattle.std.specs.Prelude.{Option, None, Some, Result, Ok, Err}
use Rattle.reading.specs.declared.Place.{Place}
use Rattle.reading.specs.declared.RecordCells.{RecordCells}
use Rattle.reading.specs.Cells.{place_at, other_item, listed_from}
use Rattle.reading.specs.declared.Scanned.{Scanned}
use Rattle.reading.specs.declared.Scanned.TheVariants as scanned
use Rattle.reading.specs.Scan.{past, record_scan, on_header, scan_of}
use Rattle.reading.proofs.Laws.{count_small, record_cells}
use Rattle.reading.proofs.Scanning.{Row, Scan, scan_says}
use Rattle.cell_addresses.specs.Addresses as addresses
use Rattle.cell_addresses.specs.Addresses.{address_in, has_in, twice_among}
use Rattle.address_twice.specs.declared.rows.Stop.{Stop}
use Rattle.address_twice.specs.declared.rows.Stop.TheVariants.{Twice, Odd}
use Rattle.address_twice.specs.Doubles.{again, run, window_size, inside, slot_of, taken, Empty, Fits, Clash, Met, Marked, Before, Ahead, Kept, Stepped, Clear, PastClear, Once, Passed}

-- ---- an address with two cells
has_is : (b : ℕ) (l : List Cell) → again true b l ≡ has_in b l
unfolding again has_in pick
has_is b [] = refl
has_is b (c ∷ l) = by (eqb (address_in c) b) (has_is b l)
  where
    by : (t : Bool) {x y : Bool} → x ≡ y → pick t true x ≡ (t || y)
    by true e = refl
    by false e = e

-- where one was met, more are needed
again_less : (b : ℕ) (l : List Cell) → again true b l ≡ false → again false b l ≡ false
unfolding again pick
again_less b [] h = refl
again_less b (c ∷ l) h = by (eqb (address_in c) b) h (again_less b l)
  where
    by : (t : Bool) {x y : Bool} → pick t (pick true true x) x ≡ false → (x ≡ false → y ≡ false) → pick t (pick false true x) y ≡ false
    by true e f = never (cc)
    by false e f = f e

again_twice : (b : ℕ) (l : List Cell) → again false b l ≡ true → twice_among l ≡ true
unfolding again twice_among pick
again_twice b [] h = h
again_twice b (c ∷ l) h = by (eqb (address_in c) b) refl h (again_twice b l)
  where
    or_true : (x : Bool) → x || true ≡ true
    or_true true = refl
    or_true false = refl

    by : (t : Bool) → eqb (address_in c) b ≡ t → pick t (pick false true (again true b l)) (again false b l) ≡ true → (again false b l ≡ true → twice_among l ≡ true) → has_in (address_in c) l || twice_among l ≡ true
    by true e i f = ap (λ (x : Bool). x || twice_among l) (ap (λ (k : ℕ). has_in k l) (eqb-true (address_in c) b e) ∙ sym (has_is b l) ∙ i)
    by false e i f = ap (λ (x : Bool). has_in (address_in c) l || x) (f i) ∙ or_true (has_in (address_in c) l)

never_twice : (l : List Cell) → ((b : ℕ) → again false b l ≡ false) → twice_among l ≡ false
unfolding again twice_among pick
never_twice [] h = refl
never_twice (c ∷ l) h = let r = never_twice l (λ b. others b (eqb (address_in c) b) (h b)) in let f = first (h (address_in c)) in λ i. f i || r i
  where
    first : pick (eqb (address_in c) (address_in c)) (pick false true (again true (address_in c) l)) (again false (address_in c) l) ≡ false → has_in (address_in c) l ≡ false
    first e = sym (has_is (address_in c) l) ∙ pick_eq _ _ _ (address_in c) (address_in c) refl refl ∙ e

    others : (b : ℕ) (t : Bool) → pick t (pick false true (again true b l)) (again false b l) ≡ false → again false b l ≡ false
    others b true e = again_less b l e
    others b false e = e

-- ---- the cells of a record
abbrev Apart : ℕ → ℕ → ℕ → Type 0
Apart b a n = (b < a) ⊎ (a + n ≤ b)

run_is : (f : Field) (s : List ℕ) (row column q n b : ℕ) (m : List Cell) (t : Bool) → again t b (cells_from f s row column q n ++ m) ≡ run b (row * 65536 + column) n (λ t. again t b m) t
unfolding again run cells_from cell_from
run_is f s row column q zero b m t = refl
run_is f s row column q (suc n) b m t =
    let e : row * 65536 + (column + 1) ≡ row * 65536 + column + 1 = omega arith in
    let on : (u : Bool) → again u b (cells_from f s row (column + 1) (q + part_of f) n ++ m) ≡ run b (row * 65536 + column + 1) n (λ t. again t b m) u =
    λ u. run_is f s row (column + 1) (q + part_of f) n b m u ∙ ap (λ (a : ℕ). run b a n (λ t. again t b m) u) e in
    let x = on true in
    let y = on t in
    λ i. pick (eqb (row * 65536 + column) b) (pick t true (x i)) (y i)

run_apart : (b a n : ℕ) (z : Bool → Bool) (t : Bool) → Apart b a n → run b a n z t ≡ z t
unfolding run
run_apart b a zero z t h = refl
run_apart b a (suc n) z t (inl h) = sym (pick_ne _ _ _ a b (λ e. omega arith) refl) ∙ run_apart b (a + 1) n z t (inl (omega arith))
run_apart b a (suc n) z t (inr h) = sym (pick_ne _ _ _ a b (λ e. omega arith) refl) ∙ run_apart b (a + 1) n z t (inr (omega arith))

-- ---- marking
inside_says : (low b : ℕ) → inside low b ≡ true → (b < low + window_size) × ((b - low) % 65536 < 256)
unfolding inside pick
inside_says low b h = by (ltb b (low + window_size)) refl h
  where
    by : (t : Bool) → ltb b (low + window_size) ≡ t → pick t (ltb ((b - low) % 65536) 256) false ≡ true → (b < low + window_size) × ((b - low) % 65536 < 256)
    by true e i = (ltb-true _ _ e, ltb-true _ _ i)
    by false e i = never (cc)

is_inside : (low b : ℕ) → b < low + window_size → (b - low) % 65536 < 256 → inside low b ≡ true
unfolding inside pick
is_inside low b h i = simp (lt-ltb _ _ h, lt-ltb _ _ i)

-- two addresses of the window have one flag only if they are one
slot_one : (x y : ℕ) → x % 65536 < 256 → y % 65536 < 256 → x / 65536 * 256 + x % 65536 ≡ y / 65536 * 256 + y % 65536 → x ≡ y
slot_one x y h i e =
    let p = sym (digits_div (x / 65536) h) ∙ ap (λ (n : ℕ). n / 256) e ∙ digits_div (y / 65536) i in
    let q = sym (digits_mod (x / 65536) h) ∙ ap (λ (n : ℕ). n % 256) e ∙ digits_mod (y / 65536) i in
    sym (div-add-mod' x 65536) ∙ ap₂ (λ (a b : ℕ). a * 65536 + b) p q ∙ div-add-mod' y 65536

slot_fits : (low b : ℕ) → b < low + window_size → (b - low) % 65536 < 256 → slot_of low b / 64 < 6144
slot_fits low b h i = omega arith

-- the flag of d is set: no other's
taken_set : (m m' : List ℕ) (low d b : ℕ) → length m ≡ 6144 → SetOne (slot_of low d) m m' → low ≤ d → inside low d ≡ true → low ≤ b → taken m' low b ≡ pick (eqb d b) true (taken m low b)
unfolding taken
taken_set m m' low d b size o h i j = by (inside low b) refl
  where
    by : (t : Bool) → inside low b ≡ t → pick (inside low b) (ltb 0 (flag_at m' (slot_of low b))) false ≡ pick (eqb d b) true (pick (inside low b) (ltb 0 (flag_at m (slot_of low b))) false)
    by false e =
        sym (pick_false _ _ _ (inside low b) e refl)
        ∙ pick_ne _ _ _ d b (λ k. let n : true ≡ false = sym i ∙ ap (inside low) k ∙ e in never (cc)) (pick_false _ _ _ (inside low b) e refl)
    by true e =
        let x = inside_says low b e in
        let y = inside_says low d i in
        sym (pick_true _ _ _ (inside low b) e refl) ∙ ap (ltb 0) (o.at (slot_of low b) (subst⁻¹ (λ (w : ℕ). slot_of low b / 64 < w) size (slot_fits low b x.0 x.1))) ∙ same (eqb d b) refl x y
      where
        same : (t : Bool) → eqb d b ≡ t → (b < low + window_size) × ((b - low) % 65536 < 256) → (d < low + window_size) × ((d - low) % 65536 < 256)
            → ltb 0 (pick (eqb (slot_of low b) (slot_of low d)) 1 (flag_at m (slot_of low b))) ≡ pick (eqb d b) true (pick (inside low b) (ltb 0 (flag_at m (slot_of low b))) false)
        same true k x y =
            ap (ltb 0) (sym (pick_eq _ _ _ (slot_of low b) (slot_of low d) (ap (slot_of low) (sym (eqb-true d b k))) refl)) ∙ pick_true _ _ _ (eqb d b) k refl
        same false k x y =
            ap (ltb 0) (sym (pick_ne _ _ _ (slot_of low b) (slot_of low d) (λ w. eqb-false d b k (let v = slot_one (b - low) (d - low) x.1 y.1 w in omega arith)) refl))
            ∙ pick_false _ _ _ (eqb d b) k (pick_true _ _ _ (inside low b) e refl)

pub record Marking (m₀ : List ℕ) (low a n : ℕ) (m : List ℕ) (k : ℕ) : Type 0 where
  pub size : length m ≡ length m₀
  pub within : k ≤ n
  pub all : (b : ℕ) (z : Bool → Bool) → low ≤ b → run b a n z (taken m₀ low b) ≡ run b (a + k) (n - k) z (taken m low b)

pub mark_start : (m : List ℕ) (low a n : ℕ) → Marking m low a n m 0
mark_start m low a n = record { size = refl; within = omega arith; all = λ b z _. simp unary_clauses }

module _ (m₀ : List ℕ) (low a n : ℕ) (m : List ℕ) (k : ℕ) (f : Marking m₀ low a n m k) where
  pub mark_done : n ≤ k → Met m₀ low a n m
  unfolding run
  mark_done h =
      let e : n - k ≡ 0 = omega arith in
      record { size = f.size; all = λ b z i. f.all b z i ∙ ap (λ (w : ℕ). run b (a + k) w z (taken m low b)) e }

  module _ (fits : Fits low a n) (sized : length m₀ ≡ 6144) (h : k < n) where
    slot_is : slot_of low (a + k) ≡ (a - low) / 65536 * 256 + (a - low) % 65536 + k
    slot_is =
        let c : (a - low) % 65536 + k < 65536 = let x = fits.2 in omega arith in
        let e : a + k - low ≡ (a - low) / 65536 * 65536 + ((a - low) % 65536 + k) = let x = fits.0 in omega arith in
        ap₂ (λ (x y : ℕ). x * 256 + y) (ap (λ (x : ℕ). x / 65536) e ∙ digits_div ((a - low) / 65536) c) (ap (λ (x : ℕ). x % 65536) e ∙ digits_mod ((a - low) / 65536) c) ∙ (omega arith)

    here : inside low (a + k) ≡ true
    here = let x = fits.0 in let y = fits.1 in let z = fits.2 in is_inside low (a + k) (omega arith) (omega arith)

    pub mark_fits : ((a - low) / 65536 * 256 + (a - low) % 65536 + k) / 64 < length m
    mark_fits = let e = f.size in let x = fits.0 in let y = fits.1 in let z = fits.2 in omega arith

    -- the next of them
    turn : (b : ℕ) (z : Bool → Bool) → low ≤ b → run b a n z (taken m₀ low b) ≡ pick (eqb (a + k) b) (pick (taken m low b) true (run b (a + (k + 1)) (n - (k + 1)) z true)) (run b (a + (k + 1)) (n - (k + 1)) z (taken m low b))
    unfolding run
    turn b z i =
        let e : n - k ≡ suc (n - (k + 1)) = omega arith in
        let g : a + k + 1 ≡ a + (k + 1) = omega arith in
        f.all b z i ∙ ap (λ (w : ℕ). run b (a + k) w z (taken m low b)) e
        ∙ ap (λ (w : ℕ). pick (eqb (a + k) b) (pick (taken m low b) true (run b w (n - (k + 1)) z true)) (run b w (n - (k + 1)) z (taken m low b))) g

    module _ (v : ℕ) (is : v ≡ flag_at m ((a - low) / 65536 * 256 + (a - low) % 65536 + k)) where
      flag_is : taken m low (a + k) ≡ ltb 0 v
      unfolding taken
      flag_is = sym (pick_true _ _ _ (inside low (a + k)) here refl) ∙ ap (λ (w : ℕ). ltb 0 (flag_at m w)) slot_is ∙ ap (ltb 0) (sym is)

      pub mark_found : (v ≡ 0 → ⊥) → Clash m₀ low a n
      mark_found o = record {
        address = a + k;
        after = let x = fits.0 in omega arith;
        before = (inside_says low (a + k) here).0;
        met = λ z. turn (a + k) z (let x = fits.0 in omega arith) ∙ sym (pick_eq _ _ _ (a + k) (a + k) refl (pick_true _ _ _ (taken m low (a + k)) (flag_is ∙ lt-ltb 0 v (omega arith)) refl));
      }

      pub mark_turn : v ≡ 0 → (m' : List ℕ) → SetOne ((a - low) / 65536 * 256 + (a - low) % 65536 + k) m m' → Marking m₀ low a n m' (k + 1)
      mark_turn o m' x = record {
        size = x.size ∙ f.size;
        within = omega arith;
        all = λ b z i. turn b z i ∙ by b z i (eqb (a + k) b) refl;
      }
        where
          set : (b : ℕ) → low ≤ b → taken m' low b ≡ pick (eqb (a + k) b) true (taken m low b)
          set b i = taken_set m m' low (a + k) b (f.size ∙ sized) (subst⁻¹ (λ (w : ℕ). SetOne w m m') slot_is x) (let y = fits.0 in omega arith) here i

          by : (b : ℕ) (z : Bool → Bool) → low ≤ b → (t : Bool) → eqb (a + k) b ≡ t
              → pick (eqb (a + k) b) (pick (taken m low b) true (run b (a + (k + 1)) (n - (k + 1)) z true)) (run b (a + (k + 1)) (n - (k + 1)) z (taken m low b)) ≡ run b (a + (k + 1)) (n - (k + 1)) z (taken m' low b)
          by b z i true e =
              let free : taken m low b ≡ false = ap (taken m low) (sym (eqb-true (a + k) b e)) ∙ flag_is ∙ ap (ltb 0) o in
              let now : true ≡ taken m' low b = pick_true _ _ _ (eqb (a + k) b) e refl ∙ sym (set b i) in
              sym (pick_true _ _ _ (eqb (a + k) b) e (pick_false _ _ _ (taken m low b) free refl)) ∙ ap (run b (a + (k + 1)) (n - (k + 1)) z) now
          by b z i false e =
              let now : taken m low b ≡ taken m' low b = pick_false _ _ _ (eqb (a + k) b) e refl ∙ sym (set b i) in
              sym (pick_false _ _ _ (eqb (a + k) b) e refl) ∙ ap (run b (a + (k + 1)) (n - (k + 1)) z) now

pub ruleset mark_laws = (mark_start, mark_done, mark_fits, mark_found, mark_turn)

-- ---- one record
-- it is outside the window
kept : (m : List ℕ) (low next a n next' : ℕ) → next' ≤ next → (Ahead low next → Ahead low next') → ((b : ℕ) → low ≤ b → Before b next' → Apart b a n) → Kept m low next a n m next'
kept m low next a n next' h f g = record { size = refl; ahead = f; before = h; all = λ b z i j. run_apart b a n z (taken m low b) (g b i j) }

module _ (m : List ℕ) (low next row first n : ℕ) (whole : low % 65536 ≡ 0) (f c y : ℕ) (f-is : f ≡ first) (c-is : c ≡ n) (y-is : y ≡ row) (narrow : f + c ≤ 256) where
  pub step_below : y * 65536 < low → Kept m low next (row * 65536 + first) n m next
  step_below h = kept m low next (row * 65536 + first) n next (omega arith) (λ x. x) (λ b i j. inr (omega arith))

  pub step_after : row < 65536 → low + 100663296 ≤ y * 65536 → (r : ℕ) → r ≡ min (y * 65536) next → Kept m low next (row * 65536 + first) n m r
  step_after small h r e =
      kept m low next (row * 65536 + first) n r (omega arith) (λ x. let p = x.past in let q = x.round in let t = x.top in record { past = λ i. by p i (ltb next (y * 65536)) refl; round = omega arith; top = omega arith })
      (λ b i j. let k : b < r = j (omega arith) in inl (omega arith))
    where
      by : (next < 4294967296 → low + window_size ≤ next) → r < 4294967296 → (t : Bool) → ltb next (y * 65536) ≡ t → low + window_size ≤ r
      by p o true i = let j = ltb-true next (y * 65536) i in let k = p (omega arith) in omega arith
      by p o false i = let j = ltb-false next (y * 65536) i in omega arith

  module _ (from : low ≤ y * 65536) (to : y * 65536 < low + 100663296) where
    pub step_fits : Fits low (y * 65536 + f) c
    step_fits = (omega arith, omega arith, omega arith)

    module _ (d : Bool) (m' : List ℕ) (g : Marked m low (y * 65536 + f) c m' d) where
      marked : Marked m low (row * 65536 + first) n m' d
      marked = let e : y * 65536 + f ≡ row * 65536 + first = omega arith in subst (λ (x : ℕ). Marked m low x n m' d) e (subst (λ (x : ℕ). Marked m low (y * 65536 + f) x m' d) c-is g)

      pub step_clash : d ≡ true → Clash m low (row * 65536 + first) n
      step_clash e = subst (Marked m low (row * 65536 + first) n m') e marked

      pub step_marked : d ≡ false → Kept m low next (row * 65536 + first) n m' next
      step_marked e =
          let x : Met m low (row * 65536 + first) n m' = subst (Marked m low (row * 65536 + first) n m') e marked in
          record { size = x.size; ahead = λ q. q; before = omega arith; all = λ b z i _. x.all b z i }

pub ruleset look_laws = (step_below, step_after, step_fits, step_clash, step_marked)

-- ---- past records outside the window
module _ (s : List ℕ) (at k z e : ℕ) (h : header_at s at ≡ Record k z e) (begin : k ≡ 0x0809 → ⊥) (end : k ≡ 0x000A → ⊥) where
  abbrev n : ℕ
  n = count_of (shape_of k) s at z

  abbrev cells : ℕ → List Cell
  cells j = cells_from (field_of (shape_of k)) s (row_at s at) (first_at s at) (at + 8) j

  scanned_past : n ≡ 0 → scan_of s at 0 ≡ Some (scanned.Past (place_at e 0))
  unfolding scan_of record_scan other_item place_at
  scanned_past none =
      ap (on_header s at 0) h
      ∙ sym (pick_eq _ _ _ 0 0 refl (pick_eq _ _ _ n 0 none (ap past (pick_ne _ _ _ k 0x0809 begin (pick_ne _ _ _ k 0x000A end refl)))))

  -- its cells come first, be they none
  listed : listed_from s (place_at at 0) ≡ cells n ++ listed_from s (place_at e 0)
  unfolding cells_of cells_from place_at
  listed = by (eqb n 0) refl
    where
      by : (t : Bool) → eqb n 0 ≡ t → listed_from s (place_at at 0) ≡ cells n ++ listed_from s (place_at e 0)
      by true i =
          let none = eqb-true n 0 i in
          let x : Scan s at 0 (Some (scanned.Past (place_at e 0))) = subst (Scan s at 0) (scanned_past none) (scan_says s at 0) in
          x.0 ∙ ap (λ (j : ℕ). cells j ++ listed_from s (place_at e 0)) (sym none)
      by false i = let some = eqb-false n 0 i in record_cells s at k z e h (omega arith)

  none : z < 6 → n ≡ 0
  none h = by (eqb n 0) refl
    where
      by : (t : Bool) → eqb n 0 ≡ t → n ≡ 0
      by true i = eqb-true n 0 i
      by false i = let some = eqb-false n 0 i in absurd (let w = count_room s at z 0 (shape_of k) (omega arith) in omega arith)

  clear : (low high : ℕ) → Clear s at z low high true → (t : Bool) (b : ℕ) → low ≤ b → Before b high → again t b (listed_from s (place_at at 0)) ≡ again t b (listed_from s (place_at e 0))
  unfolding run
  clear low high c t b i j = ap (again t b) listed ∙ run_is (field_of (shape_of k)) s (row_at s at) (first_at s at) (at + 8) n b (listed_from s (place_at e 0)) t ∙ by c
    where
      by : Clear s at z low high true → run b (row_at s at * 65536 + first_at s at) n (λ t. again t b (listed_from s (place_at e 0))) t ≡ again t b (listed_from s (place_at e 0))
      by (inl x) = ap (λ (w : ℕ). run b (row_at s at * 65536 + first_at s at) w (λ t. again t b (listed_from s (place_at e 0))) t) (none x)
      by (inr (inl x)) = run_apart b (row_at s at * 65536 + first_at s at) n (λ t. again t b (listed_from s (place_at e 0))) t (inr (let y = count_small (shape_of k) s at z in omega arith))
      by (inr (inr x)) = run_apart b (row_at s at * 65536 + first_at s at) n (λ t. again t b (listed_from s (place_at e 0))) t (inl (let y : b < high = j x.1 in let w = x.0 in omega arith))

-- as it is told
module _ (s : List ℕ) (at z low high : ℕ) where
  pub clear_short : z < 6 → Clear s at z low high true
  clear_short h = inl h

  pub clear_told : (row first a : ℕ) → row ≡ row_at s at → first ≡ first_at s at → a ≡ row * 65536 + first → a < 4294967296 → (r : Bool) → addresses.Clear a low high r → Clear s at z low high r
  clear_told row first a i j k l true (inl h) = inr (inl (omega arith))
  clear_told row first a i j k l true (inr h) = inr (inr (omega arith, omega arith))
  clear_told row first a i j k l false h = tt

pub ruleset clear_laws = (clear_short, clear_told)

pub past_start : (s : List ℕ) (level from low high : ℕ) → PastClear s level from low high from
past_start s level from low high = record { ahead = omega arith; all = λ t b i j. refl }

module _ (s : List ℕ) (level from low high at : ℕ) (p : PastClear s level from low high at) (l : level ≡ 0) {r : Header} (is : r ≡ header_at s at) (k z e : ℕ) (h : r ≡ Record k z e) where
  pub past_whole : at + 4 + z ≤ length s
  past_whole = let w = whole s at k z e (sym is ∙ h) in omega arith

  pub past_nearer : length s - e < length s - at
  past_nearer = let w = whole s at k z e (sym is ∙ h) in omega arith

  pub past_turn : (k ≡ 0x0809 → ⊥) → (k ≡ 0x000A → ⊥) → (t : Bool) → Clear s at z low high t → t ≡ true → PastClear s level from low high e
  past_turn begin end t c g =
      let w = whole s at k z e (sym is ∙ h) in
      record {
        ahead = let x = p.ahead in omega arith;
        all = λ t b i j.
            p.all t b i j ∙ ap (λ (v : ℕ). again t b (listed_from s (place_at at v))) l
            ∙ clear s at k z e (sym is ∙ h) begin end low high (subst (Clear s at z low high) g c) t b i j ∙ ap (λ (v : ℕ). again t b (listed_from s (place_at e v))) (sym l);
      }

pub ruleset past_laws = (past_start, past_whole, past_nearer, past_turn)

-- ---- all records
pub record Passing (s : List ℕ) (l : List Cell) (low : ℕ) (m : List ℕ) (at level next : ℕ) : Type 0 where
  pub size : length m ≡ 6144
  pub ahead : Ahead low next
  pub all : (b : ℕ) → low ≤ b → Before b next → again false b l ≡ again (taken m low b) b (listed_from s (place_at at level))

pub pass_start : (s : List ℕ) (from low : ℕ) (m : List ℕ) → length m ≡ 6144 → Empty m → Passing s (listed_from s (place_at from 0)) low m from 0 4294967296
unfolding taken
pass_start s from low m e o = record {
  size = e;
  ahead = record { past = λ i. absurd (omega arith); round = refl; top = omega arith };
  all = λ b i j. ap (λ (t : Bool). again t b (listed_from s (place_at from 0))) (pick_any (λ (t : Bool). false ≡ t) (inside low b) (sym (ap (ltb 0) (o (slot_of low b)))) refl);
}

pub no_flags : (n : ℕ) → Empty (replicate n 0)
unfolding flag_at
no_flags n j = ap (λ (w : ℕ). bit_at w (j % 64)) (no_marks n (j / 64)) ∙ flag_none 0 j

module _ (s : List ℕ) (l : List Cell) (low : ℕ) (m : List ℕ) (at level next : ℕ) (p : Passing s l low m at level next) (here : ℕ) (q : PastClear s level at low next here) (r : Option Scanned) (is : r ≡ scan_of s here level) where
  scanned_says : Scan s here level r
  scanned_says = subst⁻¹ (Scan s here level) is (scan_says s here level)

  from_here : (b : ℕ) → low ≤ b → Before b next → again false b l ≡ again (taken m low b) b (listed_from s (place_at here level))
  from_here b i j = p.all b i j ∙ q.all (taken m low b) b i j

  module _ (y₀ : Scanned) (g : r ≡ Some y₀) (c : RecordCells) (h : y₀ ≡ scanned.Cells c) where
    row_scanned : (level ≡ 0) × Row s here c
    row_scanned = subst (Scan s here level) (g ∙ ap Some h) scanned_says

    pub row_nearer : length s - c.next < length s - at
    row_nearer = let x = row_scanned.1 in let v = x.ahead in let w = x.within in let u = q.ahead in omega arith

    row_run : (b : ℕ) → low ≤ b → Before b next → again false b l ≡ run b (c.row * 65536 + c.first) c.count (λ t. again t b (listed_from s (place_at c.next level))) (taken m low b)
    unfolding cells_of
    row_run b i j =
        let x = row_scanned.1 in
        let z = row_scanned.0 in
        let rest = listed_from s (place_at c.next 0) in
        let e : row_at s here * 65536 + first_at s here ≡ c.row * 65536 + c.first = (let u = x.row_is in let v = x.first_is in omega arith) in
        from_here b i j ∙ ap (λ (v : ℕ). again (taken m low b) b (listed_from s (place_at here v))) z ∙ ap (again (taken m low b) b) x.list
        ∙ run_is (field_of (shape_of c.id)) s (row_at s here) (first_at s here) (here + 8) (count_of (shape_of c.id) s here x.size) b rest (taken m low b)
        ∙ ap₂ (λ (u v : ℕ). run b u v (λ t. again t b rest) (taken m low b)) e (sym x.count)
        ∙ ap (λ (v : ℕ). run b (c.row * 65536 + c.first) c.count (λ t. again t b (listed_from s (place_at c.next v))) (taken m low b)) (sym z)

    module _ (x : Result ℕ Stop) (m' : List ℕ) (k : Stepped m low next (c.row * 65536 + c.first) c.count m' x) where
      pub pass_on : (next' : ℕ) → x ≡ Ok next' → Passing s l low m' c.next level next'
      pass_on next' e =
          let y : Kept m low next (c.row * 65536 + c.first) c.count m' next' = subst (Stepped m low next (c.row * 65536 + c.first) c.count m') e k in
          record {
            size = y.size ∙ p.size;
            ahead = y.ahead p.ahead;
            all = λ b i j. row_run b i (λ o. let z = y.before in let w = j (omega arith) in omega arith) ∙ y.all b (λ t. again t b (listed_from s (place_at c.next level))) i j;
          }

      pub pass_stop : (e : Stop) → x ≡ Err e → Passed l low (Err e)
      pass_stop Twice e =
          let y : Clash m low (c.row * 65536 + c.first) c.count = subst (Stepped m low next (c.row * 65536 + c.first) c.count m') e k in
          let b = y.address in
          again_twice b l
          (row_run b y.after (λ o. let z = p.ahead.past o in let w = y.before in omega arith) ∙ y.met (λ t. again t b (listed_from s (place_at c.next level))))
      pass_stop Odd e = tt

  module _ (y₀ : Scanned) (g : r ≡ Some y₀) (v : Place) (h : y₀ ≡ scanned.Past v) where
    over_scanned : (listed_from s (place_at here level) ≡ listed_from s (place_at v.at v.level)) × (here < v.at) × (v.at ≤ length s)
    over_scanned = subst (Scan s here level) (g ∙ ap Some h) scanned_says

    pub over_on : Passing s l low m v.at v.level next
    over_on = record { size = p.size; ahead = p.ahead; all = λ b j k. from_here b j k ∙ ap (again (taken m low b) b) over_scanned.0 }

    pub over_nearer : length s - v.at < length s - at
    over_nearer = let x = over_scanned.1 in let w = over_scanned.2 in let u = q.ahead in omega arith

  pub none_end : r ≡ None → Once l low next
  unfolding again
  none_end h =
      let x : listed_from s (place_at here level) ≡ [] = subst (Scan s here level) h scanned_says in
      record { ahead = p.ahead; once = λ b j k. from_here b j k ∙ ap (again (taken m low b) b) x }

pub ruleset pass_laws = (pass_start, row_nearer, pass_on, pass_stop, over_on, over_nearer, none_end)

-- ---- window after window
abbrev pub OnceBelow : List Cell → ℕ → Type 0
OnceBelow l low = (low % 65536 ≡ 0) × (low ≤ 4294967296) × ((b : ℕ) → Before b low → again false b l ≡ false)

pub below_start : (l : List Cell) → OnceBelow l 0
below_start l = (refl, omega arith, λ b h. let z = h (omega arith) in absurd (omega arith))

pub below_on : (l : List Cell) (low : ℕ) → OnceBelow l low → low < 4294967296 → (x : Result ℕ Stop) (next : ℕ) → Passed l low x → x ≡ Ok next → OnceBelow l next
below_on l low f g x next k e =
    let y : Once l low next = subst (Passed l low) e k in
    (y.ahead.round, y.ahead.top, λ b h. by y b (ltb b low) refl h)
  where
    by : Once l low next → (b : ℕ) (t : Bool) → ltb b low ≡ t → Before b next → again false b l ≡ false
    by y b true i h = f.2 b (λ _. ltb-true _ _ i)
    by y b false i h = y.once b (ltb-false _ _ i) h

pub below_nearer : (l : List Cell) (low : ℕ) (x : Result ℕ Stop) (next : ℕ) → low < 4294967296 → Passed l low x → x ≡ Ok next → 4294967296 - next < 4294967296 - low
below_nearer l low x next g k e =
    let y : Once l low next = subst (Passed l low) e k in
    by y.ahead (ltb next 4294967296) refl
  where
    by : Ahead low next → (t : Bool) → ltb next 4294967296 ≡ t → 4294967296 - next < 4294967296 - low
    by a true i = let p : low + window_size ≤ next = a.past (ltb-true _ _ i) in omega arith
    by a false i = let p = ltb-false next 4294967296 i in omega arith

pub below_twice : (l : List Cell) (low : ℕ) (x : Result ℕ Stop) → Passed l low x → x ≡ Err Twice → true ≡ twice_among l
below_twice l low x k e = sym (subst (Passed l low) e k)

pub below_all : (l : List Cell) (low : ℕ) → OnceBelow l low → 4294967296 ≤ low → false ≡ twice_among l
below_all l low f h = sym (never_twice l (λ b. f.2 b (λ i. absurd (omega arith))))

pub ruleset below_laws = (below_start, below_on, below_nearer, below_twice, below_all)
