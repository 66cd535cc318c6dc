-- A step of the listing in words is the listing, a cell after the other. Assumes nothing.
use Prim.Native.Nat.{ℕ, zero, suc, ◌+◌, ◌-◌, ◌*◌, ◌≤◌, ◌<◌}
use mathlib.Core.Path.{◌≡◌, refl, ap, sym, ◌∙◌, subst}
use mathlib.Core.List.{List}
use Rattle.std.specs.Prelude.{Option, Some, None}
use native.Mathlib.Omega.{arith}
use lib.ListN.{length}
use lib.Seq.{sets}
use Rattle.steps.specs.Items.{Item, gives, skips, ends}
use Rattle.steps.proofs.Choice.{pick_eq, pick_ne, pick_any}
use Rattle.byte_numbers.specs.Bytes.{u16_at}
use Rattle.record.specs.declared.Header.TheVariants.{Record, Cut, End}
use Rattle.record.specs.Record.{header_at}
use Rattle.record.proofs.Laws.{whole}
use Rattle.value.specs.declared.Field.{Field}
use Rattle.cell.specs.declared.Cell.{Cell}
use Rattle.cell.specs.Cells.{shape_of, field_of, count_of, cell_of}
use Rattle.reading.specs.declared.Place.{Place}
use Rattle.reading.specs.Cells.{place_at, other_item, record_item, on_header, cell_item, remaining}
use Rattle.reading.proofs.Laws.{count_small, found_absent}
use Rattle.listing.specs.Listing.{next_of}
use Rattle.listing.proofs.Laws.{inside, by_found, next_past, next_over, past_nearer, next_part_lem}
use Rattle.cell_words.specs.declared.Done.{Done}
use Rattle.cell_words.specs.declared.Done.TheVariants as done
use Rattle.cell_words.specs.declared.Reached.{Reached}
use Rattle.cell_words.specs.Batch.{words_of, on_listed, filled}
use Rattle.cell_words.specs.Parts.{parts_in, Put, Did, spot_in, past_step, Stepped}
use Rattle.cell_words.proofs.Parts.{parts_long}

-- ---- places in the record
module _ (at e count k : ℕ) where
  pub spot_after_lem : count ≤ k → ◌≡◌ {A = Place} (record { at = e; part = 0; level = 0 }) (spot_in at e count k)
  unfolding spot_in place_at
  spot_after_lem l = pick_eq _ _ _ (count - k) 0 (omega arith) refl

  pub spot_before : k < count → ◌≡◌ {A = Place} (record { at = at; part = k; level = 0 }) (spot_in at e count k)
  unfolding spot_in
  spot_before l = pick_ne _ _ _ (count - k) 0 (λ i. omega arith) refl

-- ---- the parts are what the listing gives
module _ (s : List ℕ) (at t z e : ℕ) (head : header_at s at ≡ Record t z e) (m : ℕ) where
  abbrev count : ℕ
  count = count_of (shape_of t) s at z

  abbrev field : Field
  field = field_of (shape_of t)

  part_filled : (k n : ℕ) (b : List ℕ) → k < count → n < m → filled (m - n) s (spot_in at e count k) n b ≡ filled (m - (n + 1)) s (spot_in at e count (k + 1)) (n + 1) (sets b (4 * n) (words_of s (cell_of s field at k)))
  unfolding filled spot_in
  part_filled k n b l h =
      ap (λ (v : Place). filled (m - n) s v n b) (sym (spot_before at e count k l))
      ∙ (let i : m - n ≡ suc (m - (n + 1)) = omega arith in ap (λ (j : ℕ). filled j s (record { at = at; part = k; level = 0 }) n b) i)
      ∙ ap (on_listed (λ c w. filled (m - (n + 1)) s w (n + 1) (sets b (4 * n) (words_of s c))) (record { words = b; cells = n; rest = None })) (next_part_lem s at t z e head k l)

  parts_filled : (j k n : ℕ) (b : List ℕ) → k + j ≤ count → n + j ≤ m → filled (m - n) s (spot_in at e count k) n b ≡ filled (m - (n + j)) s (spot_in at e count (k + j)) (n + j) (parts_in s field at k j n b)
  unfolding parts_in
  parts_filled zero k n b h i = (let x : n ≡ n + zero = omega arith in let y : k ≡ k + zero = omega arith in λ o. filled (m - x o) s (spot_in at e count (y o)) (x o) b)
  parts_filled (suc j) k n b h i =
      part_filled k n b (omega arith) (omega arith)
      ∙ parts_filled j (k + 1) (n + 1) (sets b (4 * n) (words_of s (cell_of s field at k))) (omega arith) (omega arith)
      ∙ (let x : n + 1 + j ≡ n + suc j = omega arith in let y : k + 1 + j ≡ k + suc j = omega arith in λ o. filled (m - x o) s (spot_in at e count (y o)) (x o) (parts_in s field at (k + 1) j (n + 1) (sets b (4 * n) (words_of s (cell_of s field at k)))))

-- ---- a step
filled_same : (s : List ℕ) (v w : Place) → next_of s v ≡ next_of s w → (k j n : ℕ) (b : List ℕ) → k ≡ suc j → filled k s v n b ≡ filled k s w n b
unfolding filled
filled_same s v w h k j n b e =
    rw e (ap (on_listed (λ c u. filled j s u (n + 1) (sets b (4 * n) (words_of s c))) (record { words = b; cells = n; rest = None })) h)

module _ (s : List ℕ) (v : Place) (t z e : ℕ) (head : header_at s v.at ≡ Record t z e) where
  item_is : (y : Item Place Cell) → y ≡ record_item s v t z e → y ≡ cell_item s v
  unfolding cell_item
  item_is y h = h ∙ ap (on_header s v) (sym head)

  -- a record that has no cell here
  module _ (m n : ℕ) (b : List ℕ) (room : n < m) where
    past_by : (x : Item Place Cell) → x ≡ cell_item s v → ((c : Cell) (w : Place) → x ≡ gives c w → ⊥) → Stepped s m v n b b (past_step n x)
    past_by (gives c w) i o = absurd (o c w refl)
    past_by (skips w) i o = (
      record { same = (let j : m - n ≡ suc (m - (n + 1)) = omega arith in filled_same s v w (next_past s v w (sym i)) (m - n) (m - (n + 1)) n b j); size = refl; from = omega arith; to = omega arith },
      past_nearer s v w (sym i),
    )
    past_by ends i o = (next_over s v (sym i), refl)

    other_gives : (c : Cell) (w : Place) → other_item v t e ≡ gives c w → ⊥
    unfolding other_item
    other_gives c w = pick_any G _ (pick_any G _ skips_not ends_not) (pick_any G _ (pick_any G _ ends_not skips_not) skips_not)
      where
        G : Item Place Cell → Type 0
        G x = x ≡ gives c w → ⊥

        skips_not : {u : Place} → skips u ≡ gives c w → ⊥
        skips_not h = let i : ◌≡◌ {A = ℕ} 0 1 = cc in omega arith

        ends_not : ends ≡ gives c w → ⊥
        ends_not h = let i : ◌≡◌ {A = ℕ} 0 1 = cc in omega arith

    past : other_item v t e ≡ cell_item s v → {r : Option Reached} → r ≡ past_step n (other_item v t e) → Stepped s m v n b b r
    past i j = subst (Stepped s m v n b b) (sym j) (past_by (other_item v t e) i other_gives)

    pub stepped_inside : (v.level ≡ 0 → ⊥) → (r : Option Reached) → r ≡ past_step n (other_item v t e) → Stepped s m v n b b r
    stepped_inside o r j = past (item_is (other_item v t e) (inside s v t z e (other_item v t e) o refl)) j

    -- it was looked at
    module _ (directly : v.level ≡ 0) where
      none : (d : List ℕ) → count_of (shape_of t) s v.at z ≤ v.part → d ≡ b → (r : Option Reached) → r ≡ past_step n (other_item v t e) → Stepped s m v n b d r
      none d l i r j =
          subst (λ (x : List ℕ). Stepped s m v n b x r) (sym i)
          (past (item_is (other_item v t e) (by_found s v t z e (other_item v t e) directly refl (sym (found_absent s (shape_of t) v.at z v.part l)) refl)) j)

      -- cells were put
      module _ {last : ℕ} {d : List ℕ} (p : Put s (field_of (shape_of t)) v.at (count_of (shape_of t) s v.at z) v.part n (m - n) b last d) where
        here : v ≡ spot_in v.at e (count_of (shape_of t) s v.at z) v.part
        here = let o = p.order in let i = p.within in (λ j. record { at = v.at; part = v.part; level = directly j }) ∙ spot_before v.at e (count_of (shape_of t) s v.at z) v.part (omega arith)

        nearer : remaining s (spot_in v.at e (count_of (shape_of t) s v.at z) last) < remaining s v
        unfolding remaining spot_in place_at
        nearer =
            let w = whole s v.at t z e head in
            let f = count_small (shape_of t) s v.at z in
            let o = p.order in
            let i = p.within in
            pick_any (λ (x : Place). (length s - x.at) * 257 + (257 - x.part) < (length s - v.at) * 257 + (257 - v.part)) _ (omega arith) (omega arith)

        put : (j : ℕ) (w : Place) → w ≡ spot_in v.at e (count_of (shape_of t) s v.at z) last → j ≡ last - v.part → Stepped s m v n b d (Some (record { place = w; cells = n + j }))
        put j w q i =
            let f = p.fits in
            let o = p.order in
            let l = p.within in (
              record {
                same =
                    ap (λ (u : Place). filled (m - n) s u n b) here
                    ∙ parts_filled s v.at t z e head m (last - v.part) v.part n b (omega arith) (omega arith)
                    ∙ (let x : v.part + (last - v.part) ≡ last = omega arith in rw (x, ← q, ← p.words, ← i) refl);
                size = ap length p.words ∙ parts_long s (field_of (shape_of t)) v.at (last - v.part) v.part n b;
                from = omega arith;
                to = omega arith;
              },
              rw q nearer,
            )

      -- by what was done with it
      module _ (d : List ℕ) (r : Done) (h : Did s (field_of (shape_of t)) v.at (count_of (shape_of t) s v.at z) v.part n (m - n) b d r) where
        abbrev As : Done → Type 0
        As x = Did s (field_of (shape_of t)) v.at (count_of (shape_of t) s v.at z) v.part n (m - n) b d x

        pub stepped_none : r ≡ done.None → (y : Option Reached) → y ≡ past_step n (other_item v t e) → Stepped s m v n b d y
        stepped_none i y j = let g = subst As i h in none d g.0 g.1 y j

        pub stepped_one : r ≡ done.One → Stepped s m v n b d (Some (record { place = record { at = e; part = 0; level = 0 }; cells = n + 1 }))
        stepped_one i =
            let g = subst As i h in
            let first = g.1.order in
            let c = g.0 in
            put g.1 1 (record { at = e; part = 0; level = 0 }) (spot_after_lem v.at e (count_of (shape_of t) s v.at z) 1 (omega arith)) (omega arith)

        pub stepped_parts : (c last : ℕ) → r ≡ done.Parts c last → (w : Place) → w ≡ spot_in v.at e c last → (j : ℕ) → j ≡ last - v.part → Stepped s m v n b d (Some (record { place = w; cells = n + j }))
        stepped_parts c last i w q j k = let g = subst As i h in put g.1 j w (q ∙ ap (λ (o : ℕ). spot_in v.at e o last) g.0) k

pub parts_order : (s : List ℕ) (f : Field) (at count k n room : ℕ) (b d : List ℕ) (r : Done) (c last : ℕ) → Did s f at count k n room b d r → r ≡ done.Parts c last → k ≤ last
parts_order s f at count k n room b d r c last p i = let g = subst (Did s f at count k n room b d) i p in let l = g.1.order in omega arith

-- ---- a record's size, as its header has it
module _ (s : List ℕ) (at k z e : ℕ) (head : header_at s at ≡ Record k z e) where
  pub size_there : z ≡ u16_at s (at + 2)
  size_there = (whole s at k z e head).size

  pub size_small : z ≤ 8224
  size_small = (whole s at k z e head).small

pub ruleset step_laws = (size_there, size_small, parts_order, stepped_inside, stepped_none, stepped_one, stepped_parts)

module _ (s : List ℕ) (v : Place) where
  pub next_cut : header_at s v.at ≡ Cut → next_of s v ≡ None
  unfolding cell_item
  next_cut h = next_over s v (ap (on_header s v) h)

  pub next_ended : header_at s v.at ≡ End → next_of s v ≡ None
  unfolding cell_item
  next_ended h = next_over s v (ap (on_header s v) h)

pub ruleset over_laws = (next_cut, next_ended)
