-- The shift laws: a record whose bytes stand at p of s and at q of t says the same at both. Each is a drop law of `Views` at p and at q, and between them the
-- law of two streams that have the same bytes at one place. Assumes nothing.
use Prim.Native.Nat.{ℕ, zero, suc, ◌+◌, ◌≤◌, ◌<◌}
use mathlib.Core.Path.{◌≡◌, refl, sym, ap, ◌∙◌}
use mathlib.Core.List.{List}
use mathlib.Core.Bool.{Bool, true, false}
use native.Mathlib.Omega.{arith}
use lib.ListN.{length, drop}
use lib.Dec.{eqb}
use borrow.Author.Tests.{eqb-true, ltb-true, lt-ltb}
use Rattle.std.specs.Prelude.{Some, Ok}
use Rattle.steps.specs.Choice.{pick}
use Rattle.steps.proofs.Choice.{pick_same, pick_by}
use Rattle.byte_numbers.specs.Bytes.{num_at, u16_at, u32_at}
use Rattle.byte_numbers.proofs.Laws.{Same, num_same}
use Rattle.record.specs.declared.Header.TheVariants.{Record}
use Rattle.record.specs.Record.{header_at}
use Rattle.record.proofs.Laws.{whole, header_whole}
use Rattle.value.specs.declared.Field.TheVariants.{TextIndex}
use Rattle.value.specs.Value.{index_fits}
use Rattle.cell.specs.declared.Shape.{Shape}
use Rattle.cell.specs.declared.Shape.TheVariants.{LABELSST}
use Rattle.cell.specs.Cells.{shape_of, field_of, first_at, field_at, fields_fit, judged as judged_at, judge_of, sized, count_of}
use Rattle.record_after.specs.Claims.{Right}
use Rattle.record_after.proofs.Records.{right, passes}
use Rattle.substream.specs.declared.Here.{Here}
use Rattle.substream.specs.Substream.{on_judged, record_in}
use Rattle.segments.specs.declared.Cursor.{Cursor}
use Rattle.segments.specs.Segments.{got}
use Rattle.text_result.specs.TextResult.{has_text, text_of}
use Rattle.passes_after.specs.Local.{Moves}
use Rattle.passes_after.proofs.Steps.{record_local}
use Rattle.moved_records.proofs.Later.{later_step}
use Rattle.moved_records.proofs.Views.{num_drop, num_at_lem, record_drop}

module _ (s t : List ℕ) (p q : ℕ) where
  -- a number inside the part that is the same
  pub num_moved : (w i n : ℕ) → Same (drop p s) (drop q t) 0 n → i + w ≤ n → num_at s w (p + i) ≡ num_at t w (q + i)
  num_moved w i n h l = sym (num_drop s p w i) ∙ num_same (drop p s) (drop q t) w i (λ k a b. h k (omega arith) (omega arith)) ∙ num_drop t q w i

  -- ---- the header: its four bytes, and room for the body
  pub header_moved : (k z e : ℕ) → header_at s p ≡ Record k z e → Same (drop p s) (drop q t) 0 4 → q + 4 + z ≤ length t → header_at t q ≡ Record k z (q + 4 + z)
  header_moved k z e h same fits =
      let w = whole s p k z e h in
      let size : z ≡ u16_at t (q + 2) = w.size ∙ num_moved 2 2 4 same (omega arith) in
      let kind : k ≡ u16_at t q = w.kind ∙ sym (num_at_lem s p 2 0 p (omega arith)) ∙ num_same (drop p s) (drop q t) 2 0 (λ j a b. same j a (omega arith)) ∙ num_at_lem t q 2 0 q (omega arith) in
      sym (header_whole t q z z size refl (omega arith) k kind w.small (omega arith))

  -- ---- the judgement of a cell record
  module _ (z : ℕ) (same : Same (drop p s) (drop q t) 0 (4 + z)) where
    -- ---- a record of a substream that goes on: what it leads to, told from its own place on; so does the text result after it, if it is read
    pub record_moved : (k u : ℕ) (o : Bool) (ty : ℕ)
        → (k ≡ 0x0010 → has_text (drop p s) ty 0 ≡ true → (us : List ℕ) (d : Cursor) → text_of (drop p s) 0 (4 + z) ≡ got us d → text_of (drop q t) 0 (4 + z) ≡ got us d)
        → Moves (record_in (drop p s) k u (record { at = 0; orphan = o }) ty z (4 + z))
        → later_step q (record_in (drop p s) k u (record { at = 0; orphan = o }) ty z (4 + z)) ≡ record_in t k u (record { at = q; orphan = o }) ty z (q + (4 + z))
    record_moved k u o ty text moves =
        ap (later_step q) (record_local (drop p s) (drop q t) k u (record { at = 0; orphan = o }) ty z (4 + z) refl same text moves)
        ∙ record_drop t q k u o ty z (4 + z)

-- ---- the unique count of strings
-- only LABELSST looks at it
abbrev Blind : Shape → Type 0
Blind h = (n u u' : ℕ) → index_fits (field_of h) n u ≡ index_fits (field_of h) n u'

blind : (ty : ℕ) → (ty ≡ 0x00FD → ⊥) → Blind (shape_of ty)
unfolding shape_of
blind ty d =
    pick_by Blind _ (λ _ n u u'. refl) (λ _. pick_by Blind _ (λ _ n u u'. refl) (λ _. pick_by Blind _ (λ _ n u u'. refl)
    (λ _. pick_by Blind (eqb ty 0x00FD) (λ i. absurd (d (eqb-true ty 0x00FD i))) (λ _. pick_by Blind _ (λ _ n u u'. refl) (λ _. pick_by Blind _ (λ _ n u u'. refl)
    (λ _. pick_by Blind _ (λ _ n u u'. refl) (λ _. pick_by Blind _ (λ _ n u u'. refl) (λ _ n u u'. refl))))))))

judge_blind : (s : List ℕ) (h : Shape) (at z u u' : ℕ) → Blind h → judge_of s h at z u ≡ judge_of s h at z u'
unfolding judge_of judged_at
judge_blind s h at z u u' b = rw (b (field_at (field_of h) s (at + 8)) u u') refl

pub record_blind : (s : List ℕ) (k u u' : ℕ) (v : Here) (ty z e : ℕ) → (k ≡ 0x0010 → ty ≡ 0x00FD → ⊥) → record_in s k u v ty z e ≡ record_in s k u' v ty z e
unfolding record_in
record_blind s k u u' v ty z e d =
    pick_same (eqb k 0x0010) _ _ _ _
    (λ i. ap (on_judged s k v ty z e) (judge_blind s (shape_of ty) v.at z u u' (blind ty (d (eqb-true k 0x0010 i)))))
    (λ _. refl)

-- ---- a LABELSST with another index
text_fits : (s : List ℕ) (n q : ℕ) → fields_fit TextIndex s q n ≡ true
unfolding fields_fit pick
text_fits s zero q = refl
text_fits s (suc n) q = text_fits s n (q + 6)

pub label_moved : (s t : List ℕ) (p q z u u' n : ℕ) → Same (drop p s) (drop q t) 0 10 → u32_at t (q + 10) < u' → judge_of s LABELSST p z u ≡ Ok (Some n) → judge_of t LABELSST q z u' ≡ Ok (Some n)
unfolding first_at field_at
label_moved s t p q z u u' n same below h =
    let r : Right s LABELSST p z u n = right s LABELSST p z u n h in
    let place : q + 10 ≡ q + 8 + 2 = omega arith in
    passes t LABELSST q z u' n (record {
      cell = refl;
      count = r.count;
      some = r.some;
      column = rw (num_moved s t p q 2 6 10 same (omega arith)) at r.column;
      values = text_fits t n (q + 8);
      index = lt-ltb _ _ (rw place at below);
    })

pub label_index : (s : List ℕ) (p z u n : ℕ) → judge_of s LABELSST p z u ≡ Ok (Some n) → (z ≡ 10) × (u32_at s (p + 10) < u)
unfolding field_at pick sized
label_index s p z u n h =
    let r : Right s LABELSST p z u n = right s LABELSST p z u n h in
    let place : p + 8 + 2 ≡ p + 10 = omega arith in
    (sized_is r.count r.some, rw place at (ltb-true (num_at s 4 (p + 8 + 2)) u r.index))
  where
    sized_is : n ≡ count_of LABELSST s p z → 1 ≤ n → z ≡ 10
    sized_is e o = by (eqb z 10) refl
      where
        by : (b : Bool) → eqb z 10 ≡ b → z ≡ 10
        by true i = eqb-true z 10 i
        by false i = absurd (let j : n ≡ pick (eqb z 10) 1 0 = e in let l : n ≡ pick false 1 0 = j ∙ ap (λ (b : Bool). pick b 1 0) i in omega arith)
