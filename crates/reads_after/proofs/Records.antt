-- The listing of a worksheet's cells goes over the records of its substream, and no others. Assumes nothing.
use Prim.Native.Nat.{ℕ, zero, suc, ◌+◌, ◌-◌, ◌≤◌, ◌<◌}
use mathlib.Core.Path.{◌≡◌, refl, sym, ap, ◌∙◌, subst}
use mathlib.Core.List.{List}
use mathlib.Core.Bool.{true}
use native.Mathlib.Omega.{arith}
use lib.Dec.{eqb}
use borrow.Author.Tests.{eqb-true, eqb-false}
use Rattle.steps.specs.Choice.{pick}
use Rattle.steps.proofs.Choice.{never, pick_any, pick_by, pick_eq, pick_true}
use Rattle.steps.specs.Items.{Item}
use Rattle.record.specs.declared.Header.{Header}
use Rattle.record.specs.declared.Header.TheVariants.{Record, Cut, End}
use Rattle.record.specs.Record.{header_at}
use Rattle.record.proofs.Laws.{Whole, whole}
use Rattle.cell.specs.declared.Cell.{Cell}
use Rattle.cell.specs.declared.Shape.TheVariants.{OTHER}
use Rattle.cell.specs.declared.Found.{Found}
use Rattle.std.specs.Prelude.{Option, None, Some, Result, Ok, Err}
use Rattle.refusal.specs.declared.Refusal.{Refusal}
use Rattle.cell.specs.Cells.{shape_of, count_of, found_of, judge_of}
use Rattle.segments.specs.Segments.{Got, got, refused}
use Rattle.segments.specs.Parts.{Passes}
use Rattle.text_result.specs.TextResult.{has_text, text_of}
use Rattle.substream.specs.declared.Here.{Here}
use Rattle.substream.specs.declared.Step.{Step}
use Rattle.substream.specs.declared.Step.TheVariants.{More, Open, Close}
use Rattle.substream.specs.Substream.{past, past_parent, version_at, inner_bof, other_record, dimensions_record, on_text, passed_record, on_judged, record_in, on_header, step_of, back, turn, records_from, substream_in}
use Rattle.substream.proofs.Laws.{Inner, Onward, go, from_more, from_stop, from_onward, onward}
use Rattle.reading.specs.declared.Place.{Place}
use Rattle.reading.specs.Cells as cells
use Rattle.reading.specs.Cells.{place_at, next_part, other_item, on_found, record_item, cell_item, remaining, listed_from}
use Rattle.reading.proofs.Laws.{found_there}
use Rattle.record_chain.specs.Chain.{Chain, here, on, Plain, Reach, Every}
use Rattle.record_chain.proofs.Chain.{Keeps, collect_every, chain_trans, over_ahead, reach_one}
use Rattle.record_chain.proofs.Text.{text_chain}
use Rattle.passes_after.specs.Local.{Moves}
use Rattle.passes_after.proofs.Stored.{has_cell, NotOther, cell_judged}
use Rattle.reads_after.specs.Parts.{Inside, sheet, chart, plain, ListedTo}

-- ---- which way the record of type t at `at`, which ends at f, sends the walk
-- past the plain records of a text result
abbrev Way : List ℕ → ℕ → ℕ → ℕ → Result Step Refusal → Type 0
Way s at t f (Ok (More w)) = Chain (Plain s) f w.at × (t ≡ 0x0809 → ⊥) × (t ≡ 0x000A → ⊥)
Way s at t f (Ok (Open b)) = (b ≡ at) × (t ≡ 0x0809) × (f ≡ at + 20)
Way s at t f (Ok (Close g)) = (g ≡ f) × (t ≡ 0x000A)
Way s at t f (Err r) = Unit {0}

bof_other : (t : ℕ) → t ≡ 0x0809 → shape_of t ≡ OTHER
unfolding shape_of pick
bof_other t h = rw h refl

eof_other : (t : ℕ) → t ≡ 0x000A → shape_of t ≡ OTHER
unfolding shape_of pick
eof_other t h = rw h refl

module _ (s : List ℕ) (k u : ℕ) (v : Here) (t z f : ℕ) (w : Whole s v.at t z f) where
  abbrev Goes : Result Step Refusal → Type 0
  Goes x = Way s v.at t f x

  way_bof : t ≡ 0x0809 → Goes (inner_bof s k v.at z)
  unfolding inner_bof
  way_bof q = pick_by Goes (eqb z 16) (λ h. let i = eqb-true z 16 h in pick_any Goes _ tt (pick_any Goes _ (refl, q, omega arith) tt)) (λ _. tt)

  way_other : Goes (other_record s k v t z f)
  unfolding other_record
  way_other =
      pick_by Goes (eqb t 0x0809) (λ q. way_bof (eqb-true t 0x0809 q))
      (λ n. pick_by Goes (eqb t 0x000A) (λ q. pick_any Goes _ (refl, eqb-true t 0x000A q) tt)
      (λ m. let o : Chain (Plain s) f f × (t ≡ 0x0809 → ⊥) × (t ≡ 0x000A → ⊥) = (here, eqb-false t 0x0809 n, eqb-false t 0x000A m) in pick_any Goes _ (pick_any Goes _ tt o) o))

  no_cell : (n : ℕ) → judge_of s (shape_of t) v.at z u ≡ Ok (Some n) → shape_of t ≡ OTHER → ⊥
  unfolding judge_of pick
  no_cell n q h = let i : judge_of s OTHER v.at z u ≡ Ok (Some n) = subst (λ x. judge_of s x v.at z u ≡ Ok (Some n)) h q in never (cc)

  way_text : (t ≡ 0x0809 → ⊥) → (t ≡ 0x000A → ⊥) → (x : Got (List ℕ)) → text_of s v.at f ≡ x → Goes (on_text x)
  way_text b d (got us c) q = (text_chain s v.at f us c q, b, d)
  way_text b d (refused n o) q = tt

  way_judged : (x : Result (Option ℕ) Refusal) → judge_of s (shape_of t) v.at z u ≡ x → Goes (on_judged s k v t z f x)
  unfolding dimensions_record passed_record
  way_judged (Ok (Some n)) q =
      let b : t ≡ 0x0809 → ⊥ = λ h. no_cell n q (bof_other t h) in
      let d : t ≡ 0x000A → ⊥ = λ h. no_cell n q (eof_other t h) in
      pick_any Goes _ (way_text b d (text_of s v.at f) refl) (here, b, d)
  way_judged (Err r) q = tt
  way_judged (Ok None) q =
      pick_by Goes (eqb t 0x0200) (λ h. let i = eqb-true t 0x0200 h in pick_any Goes _ (here, λ j. omega arith, λ j. omega arith) tt) (λ _. pick_any Goes _ tt way_other)

  way_record : Goes (record_in s k u v t z f)
  unfolding record_in
  way_record = pick_any Goes _ (way_judged (judge_of s (shape_of t) v.at z u) refl) way_other

-- ---- one step of a walk that comes to its end
pub data Stepped (inner : Inner) (s : List ℕ) (k u to at t f : ℕ) : Type 0 where
  opens : t ≡ 0x0809 → f ≡ at + 20 → (e : ℕ) → inner at ≡ Ok e → records_from inner s k u (past e) ≡ Ok to → Stepped inner s k u to at t f
  closes : t ≡ 0x000A → to ≡ f → Stepped inner s k u to at t f
  goes : (h : Here) → (t ≡ 0x0809 → ⊥) → (t ≡ 0x000A → ⊥) → Chain (Plain s) f h.at → records_from inner s k u h ≡ Ok to → Stepped inner s k u to at t f

module _ (inner : Inner) (s : List ℕ) (on : Onward inner s) (k u to : ℕ) (v : Here) (comes : records_from inner s k u v ≡ Ok to) (t z f : ℕ) (is : header_at s v.at ≡ Record t z f) where
  stepped_open : t ≡ 0x0809 → f ≡ v.at + 20 → go inner s k u v ≡ back (inner v.at) → (a : Result ℕ Refusal) → inner v.at ≡ a → Stepped inner s k u to v.at t f
  stepped_open q l g (Ok e) h = opens q l e h (sym (from_more inner s on k u v (past e) (g ∙ ap back h)) ∙ comes)
  stepped_open q l g (Err r) h = let i = from_stop inner s on k u v (Err r) (g ∙ ap back h) in never (cc)

  stepped_by : (x : Result Step Refusal) → step_of s k u v ≡ x → Way s v.at t f x → Stepped inner s k u to v.at t f
  stepped_by (Ok (More w)) h y = goes w y.1 y.2 y.0 (sym (from_more inner s on k u v w (ap (turn inner) h)) ∙ comes)
  stepped_by (Ok (Open b)) h y = stepped_open y.1 y.2 (ap (turn inner) h ∙ ap (λ (i : ℕ). back (inner i)) y.0) (inner v.at) refl
  stepped_by (Ok (Close g)) h y = closes y.1 (let i = from_stop inner s on k u v (Ok g) (ap (turn inner) h) in let j : to ≡ g = cc in j ∙ y.0)
  stepped_by (Err r) h y = let i = from_stop inner s on k u v (Err r) (ap (turn inner) h) in never (cc)

  pub stepped : Stepped inner s k u to v.at t f
  unfolding step_of
  stepped = stepped_by (step_of s k u v) refl (subst (λ (x : Header). Way s v.at t f (on_header s k u v x)) (sym is) (way_record s k u v t z f (whole s v.at t z f is)))

-- a substream that comes to its end does so from its first record on
pub entered : (d : ℕ) (s : List ℕ) (u k b e : ℕ) → substream_in (suc d) s u k b ≡ Ok e → records_from (substream_in d s u 0x0020) s k u (past_parent (b + 20)) ≡ Ok e
unfolding substream_in
entered d s u k b e h =
    pick_by (λ (a : Result ℕ Refusal). a ≡ Ok e → records_from (substream_in d s u 0x0020) s k u (past_parent (b + 20)) ≡ Ok e) (eqb (version_at s b) 0x0600)
    (λ _ i. i) (λ _ i. never (cc)) h

none_inside : (s : List ℕ) (u k b e : ℕ) → substream_in 0 s u k b ≡ Ok e → ⊥
unfolding substream_in
none_inside s u k b e h = never (cc)

-- ---- past a record of the worksheet
pub record After (s : List ℕ) (u to l t f : ℕ) : Type 0 where
  pub bof : t ≡ 0x0809 → Inside s u to (l + 1) f
  pub eof : t ≡ 0x000A → (l ≡ 0 → ⊥) → Inside s u to (l - 1) f
  pub else : (t ≡ 0x0809 → ⊥) → (t ≡ 0x000A → ⊥) → Inside s u to l f

-- plain records lead there
inside_chain : (s : List ℕ) (u to l : ℕ) {x y : ℕ} → Chain (Plain s) x y → Inside s u to l y → Inside s u to l x
inside_chain s u to l here i = i
inside_chain s u to l (on {e = e} p q) i = plain e p (inside_chain s u to l q i)

two : {A : Type 0} {n : ℕ} → n ≡ 0x0809 → n ≡ 0x000A → A
two h i = absurd (omega arith)

module _ (s : List ℕ) (u to l at t f : ℕ) where
  after_sheet : (h : Here) → l ≡ 0 → h.at ≡ at → records_from (substream_in 3 s u 0x0020) s 0x0010 u h ≡ Ok to → Stepped (substream_in 3 s u 0x0020) s 0x0010 u to h.at t f → After s u to l t f
  after_sheet h i j r (opens q m e n o) = record {
    bof = λ _. chart {l = l + 1} 0 2 e (past_parent (h.at + 20)) (omega arith) (omega arith) (sym m) (entered 2 s u 0x0020 h.at e n) (sheet (past e) refl refl o);
    eof = λ p _. two q p;
    else = λ p _. absurd (p q);
  }
  after_sheet h i j r (closes q m) = record { bof = λ p. two p q; eof = λ _ n. absurd (n i); else = λ _ p. absurd (p q) }
  after_sheet h i j r (goes w p q m n) = record { bof = λ o. absurd (p o); eof = λ o _. absurd (q o); else = λ _ _. inside_chain s u to l m (sheet w i refl n) }

  after_chart : (m d e : ℕ) (h : Here) → l ≡ m + 1 → m + d ≡ 2 → h.at ≡ at → records_from (substream_in d s u 0x0020) s 0x0020 u h ≡ Ok e → Inside s u to m e → Stepped (substream_in d s u 0x0020) s 0x0020 u e h.at t f → After s u to l t f
  after_chart m zero e h i j n r o (opens q x g y w) = absurd (none_inside s u 0x0020 h.at g y)
  after_chart m (suc d) e h i j n r o (opens q x g y w) = record {
    bof = λ _. chart l d g (past_parent (h.at + 20)) refl (omega arith) (sym x) (entered d s u 0x0020 h.at g y) (chart m (suc d) e (past g) i j refl w o);
    eof = λ p _. two q p;
    else = λ p _. absurd (p q);
  }
  after_chart m d e h i j n r o (closes q x) = record {
    bof = λ p. two p q;
    eof = λ _ _. let y : m ≡ l - 1 = omega arith in subst (λ (z : ℕ). Inside s u to z f) y (subst (Inside s u to m) x o);
    else = λ _ p. absurd (p q);
  }
  after_chart m d e h i j n r o (goes w p q x y) = record { bof = λ z. absurd (p z); eof = λ z _. absurd (q z); else = λ _ _. inside_chain s u to l x (chart m d e w i j refl y o) }

pub inside_past : (s : List ℕ) (u to l at t z f : ℕ) → Inside s u to l at → header_at s at ≡ Record t z f → After s u to l t f
inside_past s u to l at t z f (sheet h i j r) o =
    after_sheet s u to l at t f h i j r (stepped (substream_in 3 s u 0x0020) s (onward 3 s u 0x0020) 0x0010 u to h r t z f (ap (header_at s) j ∙ o))
inside_past s u to l at t z f (chart m d e h i j n r x) o =
    after_chart s u to l at t f m d e h i j n r x (stepped (substream_in d s u 0x0020) s (onward d s u 0x0020) 0x0020 u e h r t z f (ap (header_at s) n ∙ o))
inside_past s u to l at t z f (plain e p i) o =
    let q = p.over.is in
    let k : p.over.type ≡ t = cc in
    let j : e ≡ f = cc in
    record { bof = λ h. absurd (p.no_bof (k ∙ h)); eof = λ h _. absurd (p.no_eof (k ∙ h)); else = λ _ _. subst (Inside s u to l) j i }

-- what is inside lies before the end
pub inside_low : (s : List ℕ) (u to l at : ℕ) → Inside s u to l at → at ≤ to
inside_low s u to l at (sheet h i j r) = let a = from_onward (substream_in 3 s u 0x0020) s (onward 3 s u 0x0020) 0x0010 u h to r in omega arith
inside_low s u to l at (chart m d e h i j n r x) = let a = from_onward (substream_in d s u 0x0020) s (onward d s u 0x0020) 0x0020 u h e r in let b = inside_low s u to m e x in omega arith
inside_low s u to l at (plain e p i) = let a = over_ahead s at e p.over in let b = inside_low s u to l e i in omega arith

-- ---- the listing
pub no_count : {A : Type 0} (s : List ℕ) (t at z k : ℕ) → k < count_of (shape_of t) s at z → shape_of t ≡ OTHER → A
no_count s t at z k l h = absurd (let i : k < count_of OTHER s at z = subst (λ x. k < count_of x s at z) h l in omega arith)

-- ---- the text result of a formula that the walk went past
moves : (inner : Inner) (s : List ℕ) → Onward inner s → (k u to : ℕ) (v : Here) → records_from inner s k u v ≡ Ok to → (x : Result Step Refusal) → step_of s k u v ≡ x → Moves x
moves inner s ahead k u to v c (Ok (More w)) h = tt
moves inner s ahead k u to v c (Ok (Open b)) h = tt
moves inner s ahead k u to v c (Ok (Close e)) h = tt
moves inner s ahead k u to v c (Err r) h = let i = from_stop inner s ahead k u v (Err r) (ap (turn inner) h) in never (cc)

module _ (s : List ℕ) (u at t z f k : ℕ) (below : k < count_of (shape_of t) s at z) (has : has_text s t at ≡ true) where
  text_passes : (x : Got (List ℕ)) → Moves (on_text x) → Passes x
  text_passes (got us c) m = tt
  text_passes (refused n o) m = absurd m

  text_judged : (v : Here) → v.at ≡ at → (x : Result (Option ℕ) Refusal) → judge_of s (shape_of t) at z u ≡ x → Moves (on_judged s 0x0010 v t z f x) → Passes (text_of s at f)
  unfolding passed_record
  text_judged v q (Ok (Some n)) i m =
      let y : Moves (passed_record s at t f) = subst (λ (w : ℕ). Moves (passed_record s w t f)) q m in
      text_passes (text_of s at f) (subst Moves (sym (pick_true (on_text (text_of s at f)) _ _ (has_text s t at) has refl)) y)
  text_judged v q (Err r) i m = absurd m
  text_judged v q (Ok None) i m = absurd (subst NotOther i (cell_judged (shape_of t) s at z u (has_cell (shape_of t) s at z k below)))

  pub inside_text : (to : ℕ) → Inside s u to 0 at → header_at s at ≡ Record t z f → Passes (text_of s at f)
  unfolding step_of record_in
  inside_text to (sheet h i j r) o =
      let m = moves (substream_in 3 s u 0x0020) s (onward 3 s u 0x0020) 0x0010 u to h r (step_of s 0x0010 u h) refl in
      let y : Moves (record_in s 0x0010 u h t z f) = subst (λ (x : Header). Moves (on_header s 0x0010 u h x)) (ap (header_at s) j ∙ o) m in
      let w : Moves (on_judged s 0x0010 h t z f (judge_of s (shape_of t) h.at z u)) = subst Moves (sym (pick_eq (on_judged s 0x0010 h t z f (judge_of s (shape_of t) h.at z u)) _ _ 0x0010 0x0010 refl refl)) y in
      text_judged h j (judge_of s (shape_of t) at z u) refl (subst (λ (p : ℕ). Moves (on_judged s 0x0010 h t z f (judge_of s (shape_of t) p z u))) j w)
  inside_text to (chart m d e h i j n r x) o = absurd (omega arith)
  inside_text to (plain e p i) o =
      let q = p.over.is in
      let j : p.over.type ≡ t = cc in
      no_count s t at z k below (ap shape_of (sym j) ∙ p.other)

module _ (s : List ℕ) (u from to : ℕ) where
  -- where the listing stands: reached from the BOF, inside the worksheet
  abbrev pub Stands : Place → Type 0
  Stands v = Reach s from v.at × Inside s u to v.level v.at

  abbrev pub Kept : Item Place Cell → Type 0
  Kept x = Keeps Stands (ListedTo s from to) x

  module _ (v : Place) (p : Stands v) (t z f : ℕ) (is : header_at s v.at ≡ Record t z f) where
    after : After s u to v.level t f
    after = inside_past s u to v.level v.at t z f p.1 is

    reached : Reach s from f
    reached = chain_trans p.0 (reach_one s is)

    kept_other : Kept (other_item v t f)
    unfolding other_item place_at
    kept_other =
        pick_by Kept (eqb t 0x0809) (λ q. pick_any Kept _ (reached, after.bof (eqb-true t 0x0809 q)) tt)
        (λ n. pick_by Kept (eqb t 0x000A) (λ q. pick_by Kept (eqb v.level 0) (λ _. tt) (λ m. (reached, after.eof (eqb-true t 0x000A q) (eqb-false v.level 0 m))))
        (λ m. (reached, after.else (eqb-false t 0x0809 n) (eqb-false t 0x000A m))))

    kept_found : v.level ≡ 0 → (x : Option Found) → found_of s (shape_of t) v.at z v.part ≡ x → Kept (on_found v t f x)
    unfolding place_at next_part
    kept_found o (Some y) q =
        let i = found_there s (shape_of t) v.at z v.part y q in
        let next : Inside s u to v.level f = after.else (λ h. no_count s t v.at z v.part i.below (bof_other t h)) (λ h. no_count s t v.at z v.part i.below (eof_other t h)) in (
          record {
            listed = record { at = v.at; type = t; size = z; end = f; part = v.part; left = y.left; reached = p.0; header = is; found = q };
            ends = inside_low s u to v.level f next;
            text = λ has. inside_text s u v.at t z f v.part i.below has to (subst (λ (l : ℕ). Inside s u to l v.at) o p.1) is;
          },
          pick_any Stands (eqb y.left 0) (reached, next) p,
        )
    kept_found o None q = kept_other

    kept_record : Kept (record_item s v t z f)
    unfolding record_item
    kept_record = pick_by Kept (eqb v.level 0) (λ o. kept_found (eqb-true v.level 0 o) (found_of s (shape_of t) v.at z v.part) refl) (λ _. kept_other)

  kept_header : (v : Place) → Stands v → (h : Header) → header_at s v.at ≡ h → Kept (cells.on_header s v h)
  kept_header v p (Record t z f) q = kept_record v p t z f q
  kept_header v p Cut q = tt
  kept_header v p End q = tt

  pub kept_item : (v : Place) → Stands v → Kept (cell_item s v)
  unfolding cell_item
  kept_item v p = kept_header v p (header_at s v.at) refl

  -- each listed cell stands in a record of the worksheet
  pub listed_inside : (v : Place) → Stands v → Every (ListedTo s from to) (listed_from s v)
  unfolding listed_from
  listed_inside v p = collect_every (cell_item s) Stands (ListedTo s from to) kept_item (remaining s) v p
