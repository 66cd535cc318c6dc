-- The laws of a step and of the walk, with what a call gave as the proofs have it. Assumes nothing.
use Prim.Native.Nat.{ℕ, zero, suc, ◌+◌, ◌-◌, ◌≤◌, ◌<◌, ◌/◌, ◌%◌, ◌^◌}
use mathlib.Core.Path.{◌≡◌, refl, sym, ap, ◌∙◌, subst⁻¹}
use mathlib.Core.List.{List}
use mathlib.Core.Bool.{Bool, true, false}
use native.Mathlib.Omega.{arith}
use lib.ListN.{length}
use Rattle.std.specs.Prelude.{Option, None, Some, Result, Ok, Err}
use lib.Dec.{leb, eqb}
use borrow.Author.Tests.{eq-eqb, ne_eqb, eqb-true, leb-true}
use Rattle.steps.specs.Choice.{pick}
use Rattle.steps.proofs.Choice.{never, pick_any, pick_by, pick_eq, pick_ne, pick_true, pick_false}
use Rattle.steps.specs.Walk.{Next, more, stop, next}
use Rattle.steps.proofs.Walk.{run_more, run_stop, run_keeps}
use Rattle.refusal.specs.declared.Refusal.{Refusal}
use Rattle.refusal.specs.Refused.{refuse}
use Rattle.record.specs.declared.Header.{Header}
use Rattle.record.specs.declared.Header.TheVariants.{Record, Cut, End}
use Rattle.record.specs.Record.{header_at}
use Rattle.record.proofs.Laws.{Whole, whole}
use Rattle.cell.specs.declared.Shape.TheVariants.{FORMULA}
use Rattle.cell.specs.Cells.{shape_of, length_at, count_of, judged as judged_of, judge_of}
use Rattle.cell.specs.Parts.{formula_sized}
use Rattle.cell.proofs.Sizes.{formula_shape}
use Rattle.cell.proofs.Judging.{formula_unsized, result_room, formula_value, formula_passed}
use Rattle.byte_numbers.specs.Bytes.{u64_at}
use Rattle.value.specs.Value.{result_of, marked_fits, result_fits}
use Rattle.segments.specs.declared.Cursor.{Cursor}
use Rattle.segments.specs.Segments.{Got, got, refused}
use Rattle.segments.specs.Parts.{ends, moved}
use Rattle.segments.proofs.Local.{refused_not}
use Rattle.text_result.specs.TextResult.{is_text, has_text, text_of}
use Rattle.text_result.proofs.Laws.{text_number, text_marked}
use Rattle.text_result.proofs.Local.{text_ahead}
use Rattle.substream.specs.declared.Here.{Here}
use Rattle.substream.specs.declared.Step.{Step}
use Rattle.substream.specs.declared.Step.TheVariants.{More, Open, Close}
use Rattle.substream.specs.Parts.{result_record, formula_record}
use Rattle.substream.specs.Substream.{past, past_parent, version_at, inner_bof, other_record, dimensions_record, on_text, passed_record, on_judged, record_in, on_header, step_of, back, turn, records_from, substream_in}

-- ---- from an answer to the definition that goes by it
module _ (s : List ℕ) (k u : ℕ) (v : Here) (t z e : ℕ) (y : Result Step Refusal) where
  formula_in : formula_record s v z e ≡ record_in s 0x0010 u v 0x0006 z e
  unfolding record_in formula_record judge_of judged_of shape_of pick
  formula_in = refl

  pub in_formula : k ≡ 0x0010 → t ≡ 0x0006 → y ≡ formula_record s v z e → y ≡ record_in s k u v t z e
  in_formula h i g = g ∙ formula_in ∙ ap (λ (x : ℕ). record_in s x u v 0x0006 z e) (sym h) ∙ ap (λ (x : ℕ). record_in s k u v x z e) (sym i)

  pub in_sheet : k ≡ 0x0010 → y ≡ record_in s 0x0010 u v t z e → y ≡ record_in s k u v t z e
  in_sheet h g = g ∙ ap (λ (x : ℕ). record_in s x u v t z e) (sym h)

  pub in_other : (k ≡ 0x0010 → ⊥) → y ≡ other_record s k v t z e → y ≡ record_in s k u v t z e
  unfolding record_in
  in_other h g = pick_ne _ _ _ _ _ h g

-- only a FORMULA has a text result
pub passed_plain : (s : List ℕ) (at t e : ℕ) → (t ≡ 0x0006 → ⊥) → passed_record s at t e ≡ Ok (More (past_parent e))
unfolding passed_record has_text
passed_plain s at t e o = sym (pick_false _ _ _ _ (sym (pick_ne _ _ _ t 0x0006 o refl)) refl)

-- ---- a cell record that passes
-- a FORMULA that passes has its stored result in its body
formula_size : (s : List ℕ) (at z u n : ℕ) → judge_of s FORMULA at z u ≡ Ok (Some n) → 22 ≤ z
unfolding judge_of judged_of pick
formula_size s at z u n h =
    pick_by (λ (x : Result (Option ℕ) Refusal). x ≡ Ok (Some n) → 22 ≤ z) (eqb (count_of FORMULA s at z) 0) (λ _ i. never (cc))
    (λ q _. pick_by (λ (k : ℕ). eqb k 0 ≡ false → 22 ≤ z) (leb (22 + length_at s (at + 8)) z) (λ l _. let m = leb-true (22 + length_at s (at + 8)) z l in omega arith) (λ _ j. never (cc)) q) h

-- a record of a FORMULA's type that passes
pub formula_body : (s : List ℕ) (t at z u n : ℕ) → judge_of s (shape_of t) at z u ≡ Ok (Some n) → t ≡ 0x0006 → 22 ≤ z
formula_body s t at z u n h q = formula_size s at z u n (ap (λ x. judge_of s x at z u) (sym formula_shape ∙ ap shape_of (sym q)) ∙ h)

-- one that is right but for its stored result n, as its bits tell it
module _ (s : List ℕ) (at e n : ℕ) (y : Result Step Refusal) where
  pub result_plain : (n / 2 ^ 48 ≡ 0xFFFF → ⊥) → y ≡ Ok (More (past_parent e)) → y ≡ result_record s at e n
  unfolding result_record result_fits
  result_plain h i = pick_true _ _ _ _ (sym (pick_ne _ _ _ (n / 2 ^ 48) 0xFFFF h refl)) (pick_false _ _ _ _ (sym (text_number n h)) i)

  module _ (marked : n / 2 ^ 48 ≡ 0xFFFF) where
    pub result_text : n % 256 ≡ 0 → y ≡ on_text (text_of s at e) → y ≡ result_record s at e n
    unfolding result_record result_fits marked_fits
    result_text h i = pick_true _ _ _ _ (sym (pick_eq _ _ _ (n / 2 ^ 48) 0xFFFF marked (pick_eq _ _ _ (n % 256) 0 h refl))) (pick_true _ _ _ _ (sym (text_marked n marked) ∙ eq-eqb (n % 256) 0 h) i)

    module _ (other : n % 256 ≡ 0 → ⊥) (r : Bool) (told : r ≡ result_fits n) where
      pub result_other : r ≡ true → y ≡ Ok (More (past_parent e)) → y ≡ result_record s at e n
      unfolding result_record
      result_other f i = pick_true _ _ _ _ (sym told ∙ f) (pick_false _ _ _ _ (sym (text_marked n marked) ∙ ne_eqb (n % 256) 0 other) i)

      pub result_wrong : r ≡ false → y ≡ refuse 6 at → y ≡ result_record s at e n
      unfolding result_record
      result_wrong f i = pick_false _ _ _ _ (sym told ∙ f) i

pub ruleset result_laws = (result_plain, result_text, result_other, result_wrong)

pub formula_room : (s : List ℕ) (v : Here) (z : ℕ) (b : Bool) → b ≡ formula_sized s v.at z → b ≡ true → v.at + 4 + z ≤ length s → v.at + 10 + 8 ≤ length s
formula_room s v z b is h l = result_room s v.at z b is h (length s) l

module _ (s : List ℕ) (v : Here) (z e : ℕ) (y : Result Step Refusal) (b : Bool) (is : b ≡ formula_sized s v.at z) where
  pub formula_wrong : b ≡ false → y ≡ refuse 6 v.at → y ≡ formula_record s v z e
  unfolding formula_record
  formula_wrong h i = i ∙ ap (on_judged s 0x0010 v 0x0006 z e) (formula_unsized s v.at z 0 b is h _ refl)

  module _ (h : b ≡ true) where
    pub formula_right : (n : ℕ) → n ≡ u64_at s (v.at + 10) → y ≡ result_record s v.at e n → y ≡ formula_record s v z e
    unfolding formula_record result_record passed_record has_text pick
    formula_right n read i = i ∙ by (result_fits n) refl
      where
        by : (f : Bool) → result_fits n ≡ f → result_record s v.at e n ≡ formula_record s v z e
        by true q =
            sym (pick_true _ _ _ _ q refl)
            ∙ ap (λ (x : ℕ). pick (is_text (result_of x)) (on_text (text_of s v.at e)) (Ok (More (past_parent e)))) read
            ∙ ap (on_judged s 0x0010 v 0x0006 z e) (formula_passed s v.at z 0 b is h n read true (sym q) refl)
        by false q =
            sym (pick_false _ _ _ _ q refl)
            ∙ ap (on_judged s 0x0010 v 0x0006 z e) (formula_value s v.at z 0 b is h n read false (sym q) refl _ refl)

pub ruleset formula_laws = (formula_wrong, formula_room, formula_right)

abbrev on_moved : Result Cursor Refusal → Result Step Refusal
on_moved (Ok c) = Ok (More (past c.end))
on_moved (Err r) = Err r

-- the text result of a formula: what a call gave for its end, m
pub text_past : (s : List ℕ) (at e : ℕ) (m : Result Cursor Refusal) → moved m ≡ ends (text_of s at e) → on_text (text_of s at e) ≡ on_moved m
text_past s at e m q = by (text_of s at e) m q
  where
    by : (x : Got (List ℕ)) (m : Result Cursor Refusal) → moved m ≡ ends x → on_text x ≡ on_moved m
    by (got us d) (Ok c) h = let l : d ≡ c = cc in ap (λ (x : Cursor). Ok (More (past x.end))) l
    by (got us d) (Err r) h = absurd (refused_not h)
    by (refused n o) (Ok c) h = absurd (refused_not (sym h))
    by (refused n o) (Err r) h = let k : refused r.number r.offset ≡ refused n o = h in let i : n ≡ r.number = cc in let j : o ≡ r.offset = cc in rw (i, j) refl

pub ruleset record_laws = (in_formula, in_sheet, in_other)

-- ---- a step goes at least a header ahead and stays within the stream
abbrev pub Ahead : List ℕ → Here → Result Step Refusal → Type 0
Ahead s v (Ok (More w)) = (v.at + 4 ≤ w.at) × (w.at ≤ length s)
Ahead s v (Ok (Open b)) = (b ≡ v.at) × (b + 20 ≤ length s)
Ahead s v (Ok (Close e)) = (v.at + 4 ≤ e) × (e ≤ length s)
Ahead s v (Err r) = Unit {0}

module _ (s : List ℕ) (k u : ℕ) (v : Here) (t z e : ℕ) (w : Whole s v.at t z e) where
  ahead_bof : Ahead s v (inner_bof s k v.at z)
  unfolding inner_bof
  ahead_bof =
      pick_by (Ahead s v) (eqb z 16)
      (λ h. let i = eqb-true z 16 h in pick_any (Ahead s v) _ tt (pick_any (Ahead s v) _ (omega arith) tt))
      (λ _. tt)

  ahead_other : Ahead s v (other_record s k v t z e)
  unfolding other_record
  ahead_other =
      let f : (v.at + 4 ≤ e) × (e ≤ length s) = omega arith in
      pick_any (Ahead s v) _ ahead_bof (pick_any (Ahead s v) _ (pick_any (Ahead s v) _ f tt) (pick_any (Ahead s v) _ (pick_any (Ahead s v) _ tt f) f))

  ahead_dimensions : Ahead s v (dimensions_record s v.at z e)
  unfolding dimensions_record
  ahead_dimensions = pick_any (Ahead s v) _ (omega arith) tt

  ahead_text : (x : Got (List ℕ)) → text_of s v.at e ≡ x → Ahead s v (on_text x)
  ahead_text (got us c) h = let i = text_ahead s v.at e us c h in omega arith
  ahead_text (refused n o) h = tt

  ahead_passed : Ahead s v (passed_record s v.at t e)
  unfolding passed_record
  ahead_passed = pick_any (Ahead s v) _ (ahead_text (text_of s v.at e) refl) (omega arith)

  ahead_judged : (x : Result (Option ℕ) Refusal) → Ahead s v (on_judged s k v t z e x)
  ahead_judged (Ok (Some n)) = ahead_passed
  ahead_judged (Err r) = tt
  ahead_judged (Ok None) = pick_any (Ahead s v) _ ahead_dimensions (pick_any (Ahead s v) _ tt ahead_other)

  ahead_record : Ahead s v (record_in s k u v t z e)
  unfolding record_in
  ahead_record = pick_any (Ahead s v) _ (ahead_judged (judge_of s (shape_of t) v.at z u)) ahead_other

ahead_header : (s : List ℕ) (k u : ℕ) (v : Here) (h : Header) → header_at s v.at ≡ h → Ahead s v (on_header s k u v h)
ahead_header s k u v (Record t z e) h = ahead_record s k u v t z e (whole s v.at t z e h)
ahead_header s k u v Cut h = tt
ahead_header s k u v End h = tt

pub step_ahead : (s : List ℕ) (k u : ℕ) (v : Here) (x : Result Step Refusal) → x ≡ step_of s k u v → Ahead s v x
unfolding step_of
step_ahead s k u v x e = subst⁻¹ (Ahead s v) e (ahead_header s k u v (header_at s v.at) refl)

-- ---- the walk
abbrev pub Inner : Type 0
Inner = ℕ → Result ℕ Refusal

-- a substream has its BOF and its EOF
abbrev pub Onward : Inner → List ℕ → Type 0
Onward inner s = (b e : ℕ) → inner b ≡ Ok e → (b + 24 ≤ e) × (e ≤ length s)

abbrev pub go : Inner → List ℕ → ℕ → ℕ → Here → Next Here (Result ℕ Refusal)
go inner s k u v = turn inner (step_of s k u v)

abbrev pub left : List ℕ → Here → ℕ
left s v = length s - v.at

abbrev pub Gives : List ℕ → Here → Next Here (Result ℕ Refusal) → Type 0
Gives s v (more w) = (v.at < w.at) × (w.at ≤ length s)
Gives s v (stop a) = (e : ℕ) → a ≡ Ok e → (v.at + 4 ≤ e) × (e ≤ length s)

module _ (inner : Inner) (s : List ℕ) (on : Onward inner s) (k u : ℕ) where
  gives_back : (v : Here) (a : Result ℕ Refusal) → inner v.at ≡ a → Gives s v (back a)
  gives_back v (Ok e) h = let i = on v.at e h in omega arith
  gives_back v (Err r) h = λ e i. never (cc)

  gives_by : (v : Here) (x : Result Step Refusal) → x ≡ step_of s k u v → Gives s v (turn inner x)
  gives_by v (Ok (More w)) h = let i = step_ahead s k u v (Ok (More w)) h in omega arith
  gives_by v (Ok (Open b)) h = let i = step_ahead s k u v (Ok (Open b)) h in gives_back v (inner b) (ap inner (sym i.0))
  gives_by v (Ok (Close e)) h = λ f j. let i = step_ahead s k u v (Ok (Close e)) h in let m : e ≡ f = cc in omega arith
  gives_by v (Err r) h = λ e i. never (cc)

  pub gives : (v : Here) (x : Next Here (Result ℕ Refusal)) → go inner s k u v ≡ x → Gives s v x
  gives v x h = rw h at (gives_by v (step_of s k u v) refl)

  pub falls : (v w : Here) → go inner s k u v ≡ more w → left s w < left s v
  falls v w h = let g = gives v (more w) h in omega arith

  pub from_more : (v w : Here) → go inner s k u v ≡ more w → records_from inner s k u v ≡ records_from inner s k u w
  unfolding records_from
  from_more v w h = run_more (go inner s k u) (refuse 4 (length s)) (left s) falls h

  pub from_stop : (v : Here) (a : Result ℕ Refusal) → go inner s k u v ≡ stop a → records_from inner s k u v ≡ a
  unfolding records_from
  from_stop v a h = run_stop (go inner s k u) (refuse 4 (length s)) (left s) falls h

  from_step : (v : Here) → records_from inner s k u v ≡ next (go inner s k u v) (λ w. records_from inner s k u w)
  from_step v = by (go inner s k u v) refl
    where
      by : (x : Next Here (Result ℕ Refusal)) → go inner s k u v ≡ x → records_from inner s k u v ≡ next x (λ w. records_from inner s k u w)
      by (more w) h = from_more v w h
      by (stop a) h = from_stop v a h

  pub from_onward : (v : Here) (e : ℕ) → records_from inner s k u v ≡ Ok e → (v.at + 4 ≤ e) × (e ≤ length s)
  unfolding records_from
  from_onward v e h =
      run_keeps (go inner s k u) (refuse 4 (length s)) (left s) falls (λ w. v.at ≤ w.at) (λ a. a ≡ Ok e → (v.at + 4 ≤ e) × (e ≤ length s))
      (λ w x i j. let g = gives w (more x) j in omega arith)
      (λ w a i j l. let g = gives w (stop a) j e l in omega arith)
      v (omega arith) h

-- a substream that ends does so past its BOF and its EOF, within the stream
pub onward : (d : ℕ) (s : List ℕ) (u k : ℕ) → Onward (substream_in d s u k) s
unfolding substream_in
onward zero s u k b e h = never (cc)
onward (suc d) s u k b e h =
    pick_by (λ (a : Result ℕ Refusal). a ≡ Ok e → (b + 24 ≤ e) × (e ≤ length s)) (eqb (version_at s b) 0x0600)
    (λ _ i. let f = from_onward (substream_in d s u 0x0020) s (onward d s u 0x0020) k u (past_parent (b + 20)) e i in omega arith)
    (λ _ i. never (cc)) h

-- ---- the laws as the proof of `walk` meets them
pub walk_none : (d : ℕ) (s : List ℕ) (u k b : ℕ) → d ≡ 0 → substream_in d s u k b ≡ refuse 4 b
unfolding substream_in
walk_none d s u k b e = rw e refl

walk_by : (d : ℕ) (s : List ℕ) (u k b : ℕ) → (d ≡ 0 → ⊥) → substream_in d s u k b ≡ pick (eqb (version_at s b) 0x0600) (records_from (substream_in (d - 1) s u 0x0020) s k u (past_parent (b + 20))) (refuse 6 b)
unfolding substream_in
walk_by zero s u k b h = absurd (h refl)
walk_by (suc d) s u k b h = let e : suc d - 1 ≡ d = omega arith in rw e refl

module _ (d : ℕ) (s : List ℕ) (u k b : ℕ) (some : d ≡ 0 → ⊥) where
  pub walk_version : (version_at s b ≡ 0x0600 → ⊥) → substream_in d s u k b ≡ refuse 6 b
  walk_version h = walk_by d s u k b some ∙ sym (pick_ne _ _ _ _ _ h refl)

  pub walk_some : version_at s b ≡ 0x0600 → substream_in d s u k b ≡ records_from (substream_in (d - 1) s u 0x0020) s k u (past_parent (b + 20))
  walk_some h = walk_by d s u k b some ∙ sym (pick_eq _ _ _ _ _ h refl)

module _ (d : ℕ) (s : List ℕ) (u k : ℕ) (v : Here) where
  pub records_step : records_from (substream_in d s u 0x0020) s k u v ≡ next (turn (substream_in d s u 0x0020) (step_of s k u v)) (λ w. records_from (substream_in d s u 0x0020) s k u w)
  records_step = from_step (substream_in d s u 0x0020) s (onward d s u 0x0020) k u v

  pub more_less : (w : Here) → step_of s k u v ≡ Ok (More w) → length s - w.at < length s - v.at
  more_less w h = falls (substream_in d s u 0x0020) s (onward d s u 0x0020) k u v w (ap (turn (substream_in d s u 0x0020)) h)

  pub open_less : (b e : ℕ) → step_of s k u v ≡ Ok (Open b) → substream_in d s u 0x0020 b ≡ Ok e → length s - e < length s - v.at
  open_less b e h i = falls (substream_in d s u 0x0020) s (onward d s u 0x0020) k u v (past e) (ap (turn (substream_in d s u 0x0020)) h ∙ ap back i)

pub open_room : (s : List ℕ) (u k : ℕ) (v : Here) (b : ℕ) → step_of s k u v ≡ Ok (Open b) → b + 20 ≤ length s
open_room s u k v b h = let a = step_ahead s k u v (Ok (Open b)) (sym h) in omega arith

pub ruleset walk_laws = (walk_none, walk_version, walk_some, records_step, more_less, open_less, open_room)
