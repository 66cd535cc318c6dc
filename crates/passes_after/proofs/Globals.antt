-- The globals depend on their own bytes and on the length of the stream. Assumes nothing.
use Prim.Native.Nat.{ℕ, ◌+◌, ◌-◌, ◌≤◌, ◌<◌}
use mathlib.Core.Path.{◌≡◌, refl, sym, ap, ◌∙◌, subst}
use mathlib.Core.List.{List}
use mathlib.Core.Bool.{Bool, true}
use native.Mathlib.Omega.{arith}
use lib.ListN.{length}
use lib.Dec.{eqb}
use borrow.Author.Tests.{ltb-false}
use Rattle.steps.specs.Choice.{pick}
use Rattle.steps.proofs.Choice.{never, pick_by, pick_same, pick_true}
use Rattle.steps.specs.Walk.{next, run}
use Rattle.steps.proofs.Walk.{run_agree, run_more}
use Rattle.byte_numbers.proofs.Laws.{Same, num_same}
use Rattle.record.specs.declared.Header.{Header}
use Rattle.record.specs.declared.Header.TheVariants.{Record, Cut, End}
use Rattle.record.specs.Record.{header_at}
use Rattle.record.proofs.Laws.{whole, header_same}
use Rattle.segments.specs.declared.Cursor.{Cursor}
use Rattle.segments.specs.Segments.{Got, got, refused}
use Rattle.segments.proofs.Local.{continues_kept}
use Rattle.strings.specs.Table.{table_of, answer_of}
use Rattle.strings.proofs.Local.{table_same}
use Rattle.globals.specs.declared.Globals.{Globals}
use Rattle.globals.specs.declared.Step.{Step}
use Rattle.globals.specs.declared.Step.TheVariants.{More, Close}
use Rattle.std.specs.Prelude.{Result, Ok, Err}
use Rattle.refusal.specs.declared.Refusal.{Refusal}
use Rattle.refusal.specs.Refused.{refuse}
use Rattle.globals.specs.Globals.{past, past_table, boundsheet_fits, boundsheet_record, on_table, sst_record, record_in, on_header, step_of, turn, opened, records_from, is_globals_bof, on_first, globals_of}
use Rattle.globals.proofs.Laws.{step_ahead, go, left, falls, records_step, records_within}
use Rattle.record_chain.specs.Chain.{Reach}
use Rattle.record_chain.proofs.Chain.{chain_past, over, over_ahead, over_one, reach_ahead}
use Rattle.record_chain.proofs.Walks.{Going, going}
use Rattle.passes_after.specs.Local.{GlobalsLocal}
use Rattle.passes_after.proofs.Steps.{pick_same_by}

-- ---- a walk of the globals that ends with g
module _ (s : List ℕ) (g : Globals) where
  abbrev Ending : Globals → Type 0
  Ending v = records_from s v ≡ Ok g

  -- what a step of it leads to
  abbrev To : Result Step Refusal → Type 0
  To (Ok (More w)) = Ending w
  To (Ok (Close w)) = w ≡ g
  To (Err r) = ⊥

  stepped : (v : Globals) (x : Result Step Refusal) → x ≡ step_of s v → records_from s v ≡ next (turn x) (λ w. records_from s w)
  stepped v x i = records_step s v ∙ ap (λ (y : Result Step Refusal). next (turn y) (λ w. records_from s w)) (sym i)

  to : (v : Globals) → Ending v → (x : Result Step Refusal) → x ≡ step_of s v → To x
  to v p (Ok (More w)) i = sym (stepped v (Ok (More w)) i) ∙ p
  to v p (Ok (Close w)) i = let h : ◌≡◌ {A = Result Globals Refusal} (Ok w) (Ok g) = sym (stepped v (Ok (Close w)) i) ∙ p in cc
  to v p (Err r) i = let h : ◌≡◌ {A = Result Globals Refusal} (Err r) (Ok g) = sym (stepped v (Err r) i) ∙ p in never (cc)

  -- its record has a header before the end of the globals
  room : (v : Globals) → Ending v → v.at + 4 ≤ g.at
  room v p = by (step_of s v) refl
    where
      by : (x : Result Step Refusal) → x ≡ step_of s v → v.at + 4 ≤ g.at
      by (Ok (More w)) i = let a = step_ahead s v (Ok (More w)) i in let b = records_within s w g (to v p (Ok (More w)) i) in omega arith
      by (Ok (Close w)) i = let a = step_ahead s v (Ok (Close w)) i in let b : w.at ≡ g.at = ap (λ (x : Globals). x.at) (to v p (Ok (Close w)) i) in omega arith
      by (Err r) i = absurd (to v p (Err r) i)

  -- and ends by then
  body : (v : Globals) (t z e : ℕ) → Ending v → header_at s v.at ≡ Record t z e → e ≤ g.at
  body v t z e p h = by (step_of s v) refl
    where
      past : (w : ℕ) → Reach s v.at w → v.at < w → e ≤ w
      past w q l = reach_ahead s (chain_past (over_ahead s) (over_one s) q (over s h) l)

      by : (x : Result Step Refusal) → x ≡ step_of s v → e ≤ g.at
      by (Ok (More w)) i =
          let a = step_ahead s v (Ok (More w)) i in
          let b = records_within s w g (to v p (Ok (More w)) i) in
          let c = past w.at (subst (Going s v) (sym i) (going s v)) (omega arith) in
          omega arith
      by (Ok (Close w)) i =
          let a = step_ahead s v (Ok (Close w)) i in
          let b : w.at ≡ g.at = ap (λ (x : Globals). x.at) (to v p (Ok (Close w)) i) in
          let c = past w.at (subst (Going s v) (sym i) (going s v)) (omega arith) in
          omega arith
      by (Err r) i = absurd (to v p (Err r) i)

-- ---- a stream of the same length that has the same bytes up to there
module _ (s s' : List ℕ) (len : length s ≡ length s') (g : Globals) (same : Same s s' 0 g.at) where
  module _ (v : Globals) (p : Ending s g v) (t z e : ℕ) (h : header_at s v.at ≡ Record t z e) where
    boundsheet_same : boundsheet_record s v z e ≡ boundsheet_record s' v z e
    unfolding boundsheet_record boundsheet_fits
    boundsheet_same =
        let w = whole s v.at t z e h in
        let m = body s g v t z e p h in
        ap (λ (b : Bool). pick b (Ok (More (past v true e))) (refuse 6 v.at))
        (pick_same _ _ _ _ _ (λ _. refl)
        (λ i. let n = ltb-false z 8 i in rw (same (v.at + 9) (omega arith) (omega arith), same (v.at + 10) (omega arith) (omega arith), same (v.at + 11) (omega arith) (omega arith)) refl))

    table_by : (x : Got (List Cursor)) → table_of s v.at e ≡ x → To s g (on_table v (answer_of x)) → on_table v (answer_of x) ≡ on_table v (answer_of (table_of s' v.at e))
    unfolding past_table
    table_by (got l c) i m =
        let w = whole s v.at t z e h in
        let r = room s g (past_table v (length l) c.end) m in
        ap (λ (x : Got (List Cursor)). on_table v (answer_of x))
        (sym (table_same s s' len v.at e w.within l c i (λ j a b. same j (omega arith) (omega arith)) (continues_kept s s' 0 g.at same len c.end (omega arith) (omega arith))))
    table_by (refused n o) i m = absurd m

    sst_same : To s g (sst_record s v e) → sst_record s v e ≡ sst_record s' v e
    unfolding sst_record
    sst_same m = pick_same_by (To s g) (eqb v.table 0) _ _ _ _ (λ _ n. table_by (table_of s v.at e) refl n) (λ _ _. refl) m

    record_same : To s g (record_in s v t z e) → record_in s v t z e ≡ record_in s' v t z e
    unfolding record_in
    record_same m =
        pick_same_by (To s g) (eqb t 0x0085) _ _ _ _ (λ _ _. boundsheet_same)
        (λ _ n. pick_same_by (To s g) (eqb t 0x00FC) _ _ _ _ (λ _ o. sst_same o) (λ _ _. refl) n) m

  step_by : (v : Globals) → Ending s g v → (h : Header) → header_at s v.at ≡ h → To s g (on_header s v h) → on_header s v h ≡ on_header s' v h
  step_by v p (Record t z e) h m = record_same v p t z e h m
  step_by v p Cut h m = refl
  step_by v p End h m = ap (refuse 4) len

  step_same : (v : Globals) → Ending s g v → step_of s v ≡ step_of s' v
  unfolding step_of
  step_same v p =
      let r = room s g v p in
      step_by v p (header_at s v.at) refl (to s g v p (step_of s v) refl)
      ∙ ap (on_header s' v) (header_same s s' len v.at (λ j a b. same j (omega arith) (omega arith)))

  records_same : (v : Globals) → Ending s g v → records_from s' v ≡ Ok g
  unfolding records_from
  records_same v p =
      sym (run_agree (go s) (go s') (refuse 4 (length s)) (Ending s g)
      (λ v p. ap turn (step_same v p))
      (λ v w p h. sym (run_more (go s) (refuse 4 (length s)) (left s) (falls s) h) ∙ p)
      (left s) (left s') v (ap (λ (n : ℕ). n - v.at) len) p
      ∙ ap (λ (n : ℕ). run (go s') (refuse 4 n) (left s') v) len)
      ∙ p

  first_same : (t z : ℕ) → 8 ≤ g.at → is_globals_bof s t z ≡ is_globals_bof s' t z
  unfolding is_globals_bof
  first_same t z l = rw (num_same s s' 2 4 (λ j a b. same j (omega arith) (omega arith)), num_same s s' 2 6 (λ j a b. same j (omega arith) (omega arith))) refl

  first_by : (u : ℕ) (h : Header) → header_at s 0 ≡ h → on_first s u h ≡ Ok g → globals_of s' u ≡ Ok g
  unfolding globals_of opened
  first_by u (Record t z e) h i =
      pick_by (λ (a : Result Globals Refusal). a ≡ Ok g → globals_of s' u ≡ Ok g) (is_globals_bof s t z)
      (λ b j.
      let l = records_within s (opened u) g j in
      ap (on_first s' u) (sym (header_same s s' len 0 (λ k a c. same k (omega arith) (omega arith))) ∙ h)
      ∙ sym (pick_true (Ok g) _ _ _ (sym (first_same t z (omega arith)) ∙ b) (sym (records_same (opened u) j))))
      (λ _ j. never (cc)) i
  first_by u Cut h i = never (cc)
  first_by u End h i = never (cc)

  globals_same : (u : ℕ) → globals_of s u ≡ Ok g → globals_of s' u ≡ Ok g
  unfolding globals_of
  globals_same u h = first_by u (header_at s 0) refl h

pub globals_local : GlobalsLocal
globals_local s s' u g len same h = globals_same s s' len g same u h
