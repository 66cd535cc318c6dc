-- The listing of a worksheet's cells in both streams, record by record. Assumes nothing.
use Prim.Native.Nat.{ℕ, ◌+◌, ◌-◌, ◌≤◌, ◌<◌}
use mathlib.Core.Path.{◌≡◌, refl, sym, ap, ◌∙◌, subst}
use mathlib.Core.List.{List, []}
use mathlib.Core.Logic.{◌⊎◌, inl, inr}
use native.Mathlib.Omega.{arith}
use lib.ListN.{length}
use lib.Dec.{eqb}
use borrow.Author.Tests.{eqb-true}
use Rattle.std.specs.Prelude.{Option, Some, None, Result, Ok, Err}
use Rattle.refusal.specs.declared.Refusal.{Refusal}
use Rattle.refusal.specs.Refused.{refuse}
use Rattle.steps.specs.Choice.{pick}
use Rattle.steps.proofs.Choice.{never, pick_by, pick_eq, pick_ne, pick_lt, pick_nlt}
use Rattle.steps.specs.Items.{Item, skips, ends, onto}
use Rattle.byte_numbers.specs.Bytes.{u32_at}
use Rattle.record.specs.declared.Header.TheVariants.{Record, Cut, End}
use Rattle.record.specs.Record.{header_at}
use Rattle.cell.specs.declared.Shape.TheVariants.{LABELSST}
use Rattle.cell.specs.declared.Cell.{Cell}
use Rattle.cell.specs.Cells.{shape_of, count_of, judge_of}
use Rattle.substream.specs.declared.Here.{Here}
use Rattle.substream.specs.Substream.{on_judged, on_header, step_of, turn, records_from, substream_in}
use Rattle.substream.proofs.Laws.{Inner, Onward, from_stop, onward}
use Rattle.reading.specs.declared.Place.{Place}
use Rattle.reading.specs.Cells as cells
use Rattle.reading.specs.Cells.{place_at, other_item, on_found, record_item, cell_item, listed_from}
use Rattle.reading.proofs.Laws.{found_absent, listed_step}
use Rattle.record_chain.specs.Chain.{Chain, here, on, Plain}
use Rattle.reads_after.specs.Parts.{Inside, sheet, chart, plain}
use Rattle.reads_after.proofs.Records.{inside_past}
use Rattle.moved_records.proofs.Moved.{label_index}
use Rattle.new_stream.proofs.Fates.{label_step, label_told, label_cell}

-- ---- the list from a record on
module _ (s : List ℕ) (at l ty z e : ℕ) (h : header_at s at ≡ Record ty z e) where
  abbrev v : Place
  v = record { at = at; part = 0; level = l }

  abbrev from : ℕ → ℕ → List Cell
  from x m = listed_from s (place_at x m)

  item_is : cell_item s (place_at at l) ≡ record_item s v ty z e
  unfolding cell_item place_at
  item_is = ap (cells.on_header s v) h

  other_is : (l ≡ 0 → count_of (shape_of ty) s at z ≡ 0) → record_item s v ty z e ≡ other_item v ty e
  unfolding record_item
  other_is none =
      pick_by (λ (x : Item Place Cell). x ≡ other_item v ty e) (eqb l 0)
      (λ i. ap (on_found v ty e) (sym (found_absent s (shape_of ty) at z 0 (let n = none (eqb-true l 0 i) in omega arith))))
      (λ _. refl)

  by_other : (l ≡ 0 → count_of (shape_of ty) s at z ≡ 0) → from at l ≡ onto (other_item v ty e) (λ x. listed_from s x)
  by_other none = listed_step s (place_at at l) ∙ ap (λ (x : Item Place Cell). onto x (λ x. listed_from s x)) (item_is ∙ other_is none)

  abbrev out : Item Place Cell → List Cell
  out x = onto x (λ x. listed_from s x)

  pub list_skip : (ty ≡ 0x0809 → ⊥) → (ty ≡ 0x000A → ⊥) → (l ≡ 0 → count_of (shape_of ty) s at z ≡ 0) → from at l ≡ from e l
  unfolding other_item
  list_skip a b none = by_other none ∙ ap out (sym (pick_ne _ _ _ ty 0x0809 a (pick_ne (skips (place_at e l)) _ _ ty 0x000A b refl)))

  mark_none : (ty ≡ 0x0809) ⊎ (ty ≡ 0x000A) → count_of (shape_of ty) s at z ≡ 0
  unfolding shape_of pick
  mark_none (inl i) = rw i refl
  mark_none (inr i) = rw i refl

  pub list_bof : ty ≡ 0x0809 → l < 3 → from at l ≡ from e (l + 1)
  unfolding other_item
  list_bof a b = by_other (λ _. mark_none (inl a)) ∙ ap out (sym (pick_eq (skips (place_at e (l + 1))) _ _ ty 0x0809 a (pick_lt (skips (place_at e (l + 1))) _ _ l 3 b refl)))

  pub list_deep : ty ≡ 0x0809 → 3 ≤ l → from at l ≡ []
  unfolding other_item
  list_deep a b = by_other (λ _. mark_none (inl a)) ∙ ap out (sym (pick_eq ends _ _ ty 0x0809 a (pick_nlt ends _ _ l 3 b refl)))

  pub list_end : ty ≡ 0x000A → l ≡ 0 → from at l ≡ []
  unfolding other_item
  list_end a b = by_other (λ _. mark_none (inr a)) ∙ ap out (sym (pick_ne ends _ _ ty 0x0809 (λ c. omega arith) (pick_eq ends _ _ ty 0x000A a (pick_eq ends _ _ l 0 b refl))))

  pub list_back : ty ≡ 0x000A → (l ≡ 0 → ⊥) → from at l ≡ from e (l - 1)
  unfolding other_item
  list_back a b = by_other (λ _. mark_none (inr a)) ∙ ap out (sym (pick_ne (skips (place_at e (l - 1))) _ _ ty 0x0809 (λ c. omega arith) (pick_eq (skips (place_at e (l - 1))) _ _ ty 0x000A a (pick_ne (skips (place_at e (l - 1))) _ _ l 0 b refl))))

-- ---- what is inside a worksheet that passes
record_there : (inner : Inner) (s : List ℕ) → Onward inner s → (k u to : ℕ) (h : Here) → records_from inner s k u h ≡ Ok to → (header_at s h.at ≡ Cut → ⊥) × (header_at s h.at ≡ End → ⊥)
unfolding step_of
record_there inner s ahead k u to h r = (
  (λ c. let i = from_stop inner s ahead k u h (refuse 2 h.at) (ap (turn inner) (ap (on_header s k u h) c)) in let z : ◌≡◌ {A = ℕ} 0 1 = cc in omega arith),
  (λ c. let i = from_stop inner s ahead k u h (refuse 4 (length s)) (ap (turn inner) (ap (on_header s k u h) c)) in let z : ◌≡◌ {A = ℕ} 0 1 = cc in omega arith),
)

pub inside_there : (s : List ℕ) (u to l at : ℕ) → Inside s u to l at → (header_at s at ≡ Cut → ⊥) × (header_at s at ≡ End → ⊥)
inside_there s u to l at (sheet h i j r) = subst (λ (x : ℕ). (header_at s x ≡ Cut → ⊥) × (header_at s x ≡ End → ⊥)) j (record_there (substream_in 3 s u 0x0020) s (onward 3 s u 0x0020) 0x0010 u to h r)
inside_there s u to l at (chart m d e h i j n r x) = subst (λ (y : ℕ). (header_at s y ≡ Cut → ⊥) × (header_at s y ≡ End → ⊥)) n (record_there (substream_in d s u 0x0020) s (onward d s u 0x0020) 0x0020 u e h r)
inside_there s u to l at (plain e p i) = let h = p.over.is in ((λ c. never (cc)), (λ c. never (cc)))

-- a LABELSST directly in it is right
label_by : (s : List ℕ) (u to : ℕ) (h : Here) (z e : ℕ) → records_from (substream_in 3 s u 0x0020) s 0x0010 u h ≡ Ok to → header_at s h.at ≡ Record 0x00FD z e → (x : Result (Option ℕ) Refusal) → judge_of s LABELSST h.at z u ≡ x → (z ≡ 10) × (u32_at s (h.at + 10) < u)
unfolding step_of
label_by s u to h z e r hd (Ok (Some n)) j = label_index s h.at z u n j
label_by s u to h z e r hd (Err r₁) j =
    let step : step_of s 0x0010 u h ≡ Err r₁ = ap (on_header s 0x0010 u h) hd ∙ label_step s 0x0010 u h 0x00FD z e refl refl ∙ ap (on_judged s 0x0010 h 0x00FD z e) j in
    let i = from_stop (substream_in 3 s u 0x0020) s (onward 3 s u 0x0020) 0x0010 u h (Err r₁) (ap (turn (substream_in 3 s u 0x0020)) step) in never (cc)
label_by s u to h z e r hd (Ok None) j = absurd (label_told s h.at z u j)

pub inside_label : (s : List ℕ) (u to l at z e : ℕ) → Inside s u to l at → l ≡ 0 → header_at s at ≡ Record 0x00FD z e → (z ≡ 10) × (u32_at s (at + 10) < u)
inside_label s u to l at z e (sheet h i j r) zero-level hd = subst (λ (x : ℕ). (z ≡ 10) × (u32_at s (x + 10) < u)) j (label_by s u to h z e r (ap (header_at s) j ∙ hd) (judge_of s LABELSST h.at z u) refl)
inside_label s u to l at z e (chart m d f h i j n r x) zero-level hd = absurd (omega arith)
inside_label s u to l at z e (plain f p i) zero-level hd =
    let h = p.over.is in
    let t : p.over.type ≡ 0x00FD = cc in
    absurd (label_cell (sym (ap shape_of t) ∙ p.other))

-- past plain records
pub inside_plain : (s : List ℕ) (u to l : ℕ) {x y : ℕ} → Chain (Plain s) x y → Inside s u to l x → Inside s u to l y
inside_plain s u to l here i = i
inside_plain s u to l (on {x = x} {e = e} p r) i = inside_plain s u to l r ((inside_past s u to l x p.over.type p.over.size e i p.over.is).else p.no_bof p.no_eof)
