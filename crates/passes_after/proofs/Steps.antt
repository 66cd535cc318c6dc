-- A step of a substream's walk that goes on reads its own record, the text result of a formula there, and the length of the stream. Assumes nothing.
use Prim.Native.Nat.{ℕ, ◌+◌, ◌≤◌}
use mathlib.Core.Path.{◌≡◌, refl, sym, ap, ap₂, ◌∙◌}
use mathlib.Core.List.{List}
use mathlib.Core.Bool.{Bool, true, false}
use native.Mathlib.Omega.{arith}
use lib.ListN.{length}
use lib.Dec.{eqb}
use borrow.Author.Tests.{eqb-true}
use Rattle.steps.specs.Choice.{pick}
use Rattle.steps.proofs.Choice.{pick_same}
use Rattle.byte_numbers.specs.Bytes.{num_at}
use Rattle.byte_numbers.proofs.Laws.{Same, num_same}
use Rattle.record.specs.declared.Header.{Header}
use Rattle.record.specs.declared.Header.TheVariants.{Record, Cut, End}
use Rattle.record.specs.Record.{header_at}
use Rattle.record.proofs.Laws.{header_same}
use Rattle.std.specs.Prelude.{Option, None, Some, Result, Ok, Err}
use Rattle.refusal.specs.declared.Refusal.{Refusal}
use Rattle.refusal.specs.Refused.{refuse}
use Rattle.cell.specs.Cells.{shape_of, judge_of}
use Rattle.record_after.proofs.Locality.{judge_local}
use Rattle.segments.specs.declared.Cursor.{Cursor}
use Rattle.segments.specs.Segments.{Got, got, refused}
use Rattle.value.specs.Value.{result_of}
use Rattle.text_result.specs.TextResult.{is_text, has_text, text_of}
use Rattle.substream.specs.declared.Here.{Here}
use Rattle.substream.specs.declared.Step.TheVariants.{More, Open}
use Rattle.substream.specs.Substream.{past_parent, kind_at, inner_bof, other_record, dimensions_fit, dimensions_record, on_text, passed_record, on_judged, record_in, on_header, step_of}
use Rattle.substream.proofs.Laws.{formula_body}
use Rattle.passes_after.specs.Local.{Moves}

-- two choices by one test agree where their sides do, if the one that is taken has Q
pub pick_same_by : {A : Type 0} (Q : A → Type 0) (t : Bool) (y y' z z' : A) → (t ≡ true → Q y → y ≡ y') → (t ≡ false → Q z → z ≡ z') → Q (pick t y z) → pick t y z ≡ pick t y' z'
unfolding pick
pick_same_by Q true y y' z z' f g q = f refl q
pick_same_by Q false y y' z z' f g q = g refl q

module _ (s s' : List ℕ) (k u : ℕ) (v : Here) (t z e : ℕ) where
  -- all but what is read directly in a worksheet depends on a BOF's kind alone
  pub other_same : (z ≡ 16 → kind_at s v.at ≡ kind_at s' v.at) → other_record s k v t z e ≡ other_record s' k v t z e
  unfolding other_record inner_bof
  other_same h =
      pick_same _ _ _ _ _
      (λ _. pick_same _ _ _ _ _
      (λ i. ap (λ (m : ℕ). pick (eqb k 0x0040) (refuse 4 v.at) (pick (eqb m 0x0020) (Ok (Open v.at)) (refuse 4 v.at))) (h (eqb-true z 16 i)))
      (λ _. refl))
      (λ _. refl)

  module _ (end : e ≡ v.at + 4 + z) (h : Same s s' v.at e) where
    fields_at : (w i : ℕ) → z ≡ 14 → i + w ≤ 18 → num_at s w (v.at + i) ≡ num_at s' w (v.at + i)
    fields_at w i n l = num_same s s' w (v.at + i) (λ j a b. h j (omega arith) (omega arith))

    other_local : other_record s k v t z e ≡ other_record s' k v t z e
    other_local = other_same (λ n. num_same s s' 2 (v.at + 6) (λ j i l. h j (omega arith) (omega arith)))

    dimensions_local : dimensions_record s v.at z e ≡ dimensions_record s' v.at z e
    unfolding dimensions_record dimensions_fit
    dimensions_local =
        ap (λ (b : Bool). pick b (Ok (More (record { at = e; orphan = false }))) (refuse 6 v.at))
        (pick_same _ _ _ _ _
        (λ i. let n = eqb-true z 14 i in rw (fields_at 4 4 n (omega arith), fields_at 4 8 n (omega arith), fields_at 2 12 n (omega arith), fields_at 2 14 n (omega arith)) refl)
        (λ _. refl))

    has_local : (n : ℕ) → judge_of s (shape_of t) v.at z u ≡ Ok (Some n) → has_text s t v.at ≡ has_text s' t v.at
    unfolding has_text
    has_local n i =
        pick_same _ _ _ _ _
        (λ q. let m = formula_body s t v.at z u n i (eqb-true t 0x0006 q) in ap (λ (x : ℕ). is_text (result_of x)) (num_same s s' 8 (v.at + 10) (λ j a b. h j (omega arith) (omega arith))))
        (λ _. refl)

    -- its text result, if it is read, is the same
    module _ (text : k ≡ 0x0010 → has_text s t v.at ≡ true → (us : List ℕ) (d : Cursor) → text_of s v.at e ≡ got us d → text_of s' v.at e ≡ got us d) where
      text_local : k ≡ 0x0010 → has_text s t v.at ≡ true → (x : Got (List ℕ)) → text_of s v.at e ≡ x → Moves (on_text x) → on_text x ≡ on_text (text_of s' v.at e)
      text_local w q (got us d) i m = ap on_text (sym (text w q us d i))
      text_local w q (refused n o) i m = absurd m

      passed_local : k ≡ 0x0010 → has_text s t v.at ≡ has_text s' t v.at → Moves (passed_record s v.at t e) → passed_record s v.at t e ≡ passed_record s' v.at t e
      unfolding passed_record
      passed_local w q m =
          pick_same_by Moves (has_text s t v.at) _ _ _ _ (λ i o. text_local w i (text_of s v.at e) refl o) (λ _ _. refl) m
          ∙ ap (λ (b : Bool). pick b (on_text (text_of s' v.at e)) (Ok (More (past_parent e)))) q

      judged_local : k ≡ 0x0010 → (x : Result (Option ℕ) Refusal) → judge_of s (shape_of t) v.at z u ≡ x → Moves (on_judged s k v t z e x) → on_judged s k v t z e x ≡ on_judged s' k v t z e x
      judged_local w (Ok (Some n)) i m = passed_local w (has_local n i) m
      judged_local w (Err r) i m = refl
      judged_local w (Ok None) i m = ap₂ (pick (eqb t 0x0200)) dimensions_local (ap (pick (eqb t 0x0207) (refuse 6 v.at)) other_local)

      pub record_local : Moves (record_in s k u v t z e) → record_in s k u v t z e ≡ record_in s' k u v t z e
      unfolding record_in
      record_local m =
          pick_same_by Moves (eqb k 0x0010) _ _ _ _
          (λ w o. judged_local (eqb-true k 0x0010 w) (judge_of s (shape_of t) v.at z u) refl o ∙ ap (on_judged s' k v t z e) (sym (judge_local s s' v.at z (shape_of t) (λ j i l. h j i (omega arith)) u)))
          (λ _ _. other_local) m

module _ (s s' : List ℕ) (len : length s ≡ length s') (k u : ℕ) (v : Here) where
  step_by : (x : Header) → header_at s v.at ≡ x → ((t z e : ℕ) → x ≡ Record t z e → record_in s k u v t z e ≡ record_in s' k u v t z e) → on_header s k u v x ≡ on_header s' k u v x
  step_by (Record t z e) i f = f t z e refl
  step_by Cut i f = refl
  step_by End i f = ap (refuse 4) len

  -- from what the step makes of a whole record to the step
  pub step_from : Same s s' v.at (v.at + 4) → ((t z e : ℕ) → header_at s v.at ≡ Record t z e → record_in s k u v t z e ≡ record_in s' k u v t z e) → step_of s k u v ≡ step_of s' k u v
  unfolding step_of
  step_from h f = step_by (header_at s v.at) refl f ∙ ap (on_header s' k u v) (header_same s s' len v.at h)
