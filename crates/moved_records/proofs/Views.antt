-- The drop laws: what is read at p + i of a stream is what is read at i of its bytes from p on. They ask nothing of the stream. Assumes nothing.
use Prim.Native.Nat.{ℕ, zero, suc, ◌+◌, ◌*◌}
use mathlib.Core.Path.{◌≡◌, refl, ap, ap₂, ◌∙◌}
use mathlib.Core.List.{List}
use mathlib.Core.Bool.{Bool, false}
use native.Mathlib.Omega.{arith}
use lib.ListN.{drop}
use lib.Dec.{leb}
use Rattle.std.specs.Prelude.{Option, Some, None, Result, Ok, Err}
use Rattle.steps.specs.Choice.{pick}
use Rattle.refusal.specs.declared.Refusal.{Refusal}
use Rattle.refusal.specs.Refused.{refuse}
use Rattle.value.specs.declared.Field.{Field}
use Rattle.value.specs.Value.{width_of, value_fits}
use Rattle.cell.specs.declared.Shape.{Shape}
use Rattle.cell.specs.declared.Shape.TheVariants.{BLANK, NUMBER, RK, LABELSST, BOOLERR, MULRK, MULBLANK, FORMULA, OTHER}
use Rattle.cell.specs.Cells.{shape_of, field_of, part_of, start_of, row_at, first_at, last_at, sized, columns, multiple, length_at, count_of, field_at, fields_fit, judged as judged_at, judge_of}
use Rattle.substream.specs.declared.Here.{Here}
use Rattle.substream.specs.declared.Step.TheVariants.{Open}
use Rattle.substream.specs.Substream.{inner_bof, other_record, dimensions_fit, dimensions_record, on_text, passed_record, on_judged, record_in}
use Rattle.segments.specs.Segments.{Got, got, refused}
use Rattle.text_result.specs.TextResult.{text_of}
use Rattle.moved_records.proofs.Later.{later_got, later_judged, later_step}
pub use Rattle.moved_records.proofs.Numbers.{pick_map, num_drop, num_at_lem}
use Rattle.moved_records.proofs.Texts.{text_drop, has_drop}

-- ---- a cell record
module _ (s : List ℕ) (p : ℕ) where
  pub row_drop : row_at (drop p s) 0 ≡ row_at s p
  unfolding row_at
  row_drop = num_drop s p 2 4

  pub first_drop : first_at (drop p s) 0 ≡ first_at s p
  unfolding first_at
  first_drop = num_drop s p 2 6

  last_drop : (z : ℕ) → last_at (drop p s) 0 z ≡ last_at s p z
  unfolding last_at
  last_drop z = num_at_lem s p 2 (2 + z) (p + 2 + z) (omega arith)

  pub length_drop : (q : ℕ) → length_at (drop p s) q ≡ length_at s (p + q)
  unfolding length_at
  length_drop q = num_at_lem s p 2 (q + 16) (p + q + 16) (omega arith)

  pub field_drop : (f : Field) (q : ℕ) → field_at f (drop p s) q ≡ field_at f s (p + q)
  unfolding field_at
  field_drop f q = num_at_lem s p (width_of f) (q + start_of f) (p + q + start_of f) (omega arith)

  pub fits_drop : (f : Field) (n q : ℕ) → fields_fit f (drop p s) q n ≡ fields_fit f s (p + q) n
  unfolding fields_fit
  fits_drop f zero q = refl
  fits_drop f (suc n) q =
      ap₂ (λ (a b : Bool). pick a b false) (ap (value_fits f) (field_drop f q))
      (fits_drop f n (q + part_of f) ∙ ap (λ (i : ℕ). fields_fit f s i n) (let e : p + (q + part_of f) ≡ p + q + part_of f = omega arith in e))

  many_drop : (z part : ℕ) → multiple (drop p s) 0 z part ≡ multiple s p z part
  unfolding multiple
  many_drop z part = ap (λ (m : ℕ). sized z (6 + part * m) m) (ap₂ columns first_drop (last_drop z))

  pub count_drop : (h : Shape) (z : ℕ) → count_of h (drop p s) 0 z ≡ count_of h s p z
  count_drop BLANK z = refl
  count_drop NUMBER z = refl
  count_drop RK z = refl
  count_drop LABELSST z = refl
  count_drop BOOLERR z = refl
  count_drop MULRK z = many_drop z 6
  count_drop MULBLANK z = many_drop z 2
  count_drop FORMULA z = ap (λ (m : ℕ). pick (leb (22 + m) z) 1 0) (length_drop 8)
  count_drop OTHER z = refl

  zero_on : p + 0 ≡ p
  zero_on = omega arith

  refused_drop : (n : ℕ) → later_judged p (refuse n 0) ≡ refuse n p
  refused_drop n = λ i. refuse n (zero_on i)

  judged_drop : (h : Shape) (z u : ℕ) → later_judged p (judged_at (drop p s) h 0 z u) ≡ judged_at s h p z u
  unfolding judged_at
  judged_drop h z u =
      rw (count_drop h z, first_drop, fits_drop (field_of h) (count_of h s p z) 8, field_drop (field_of h) 8)
      (pick_map (later_judged p) _ (refused_drop 6) (pick_map (later_judged p) _ (refused_drop 6)
      (pick_map (later_judged p) _ (pick_map (later_judged p) _ refl (refused_drop 9)) (refused_drop 6))))

  pub judge_drop : (h : Shape) (z u : ℕ) → later_judged p (judge_of (drop p s) h 0 z u) ≡ judge_of s h p z u
  unfolding judge_of
  judge_drop h z u = pick_map (later_judged p) _ (judged_drop h z u) refl

  -- ---- a record of a substream
  module _ (k u : ℕ) (o : Bool) (t z e : ℕ) where
    abbrev v₀ : Here
    v₀ = record { at = 0; orphan = o }

    abbrev v : Here
    v = record { at = p; orphan = o }

    stop_drop : (n : ℕ) → later_step p (refuse n 0) ≡ refuse n p
    stop_drop n = λ i. refuse n (zero_on i)

    bof_drop : later_step p (inner_bof (drop p s) k 0 z) ≡ inner_bof s k p z
    unfolding inner_bof
    bof_drop =
        rw (num_drop s p 2 6)
        (pick_map (later_step p) _ (pick_map (later_step p) _ (stop_drop 4) (pick_map (later_step p) _ (λ i. Ok (Open (zero_on i))) (stop_drop 4))) (stop_drop 6))

    other_drop : later_step p (other_record (drop p s) k v₀ t z e) ≡ other_record s k v t z (p + e)
    unfolding other_record
    other_drop =
        pick_map (later_step p) _ bof_drop (pick_map (later_step p) _ (pick_map (later_step p) _ refl (stop_drop 6))
        (pick_map (later_step p) _ (pick_map (later_step p) _ (stop_drop 7) refl) refl))

    dimensions_drop : later_step p (dimensions_record (drop p s) 0 z e) ≡ dimensions_record s p z (p + e)
    unfolding dimensions_record dimensions_fit
    dimensions_drop =
        rw (num_drop s p 4 4, num_drop s p 4 8, num_drop s p 2 12, num_drop s p 2 14)
        (pick_map (later_step p) _ refl (stop_drop 6))

    on_text_drop : (x : Got (List ℕ)) → later_step p (on_text x) ≡ on_text (later_got p x)
    on_text_drop (got us c) = refl
    on_text_drop (refused n i) = refl

    passed_drop : later_step p (passed_record (drop p s) 0 t e) ≡ passed_record s p t (p + e)
    unfolding passed_record
    passed_drop =
        rw (has_drop s p t)
        (pick_map (later_step p) _ (on_text_drop (text_of (drop p s) 0 e) ∙ ap on_text (text_drop s p 0 e ∙ ap (λ (f : ℕ). text_of s f (p + e)) zero_on)) refl)

    on_judged_drop : (x : Result (Option ℕ) Refusal) → later_step p (on_judged (drop p s) k v₀ t z e x) ≡ on_judged s k v t z (p + e) (later_judged p x)
    on_judged_drop (Ok (Some n)) = passed_drop
    on_judged_drop (Err r) = refl
    on_judged_drop (Ok None) = pick_map (later_step p) _ dimensions_drop (pick_map (later_step p) _ (stop_drop 6) other_drop)

    pub record_drop : later_step p (record_in (drop p s) k u v₀ t z e) ≡ record_in s k u v t z (p + e)
    unfolding record_in
    record_drop =
        pick_map (later_step p) _
        (on_judged_drop (judge_of (drop p s) (shape_of t) 0 z u) ∙ ap (on_judged s k v t z (p + e)) (judge_drop (shape_of t) z u))
        other_drop
