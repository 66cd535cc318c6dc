-- Each walk goes over whole records, one after the other: the globals, a substream. Assumes nothing.
use Prim.Native.Nat.{ℕ, zero, suc, ◌+◌}
use mathlib.Core.Path.{◌≡◌, refl, sym, ap, ◌∙◌, subst}
use mathlib.Core.List.{List}
use native.Mathlib.Omega.{arith}
use lib.ListN.{length}
use lib.Dec.{eqb}
use borrow.Author.Tests.{eqb-true}
use Rattle.steps.proofs.Choice.{never, pick_any, pick_by}
use Rattle.steps.specs.Walk.{more, stop}
use Rattle.steps.proofs.Walk.{run_keeps}
use Rattle.record.specs.declared.Header.{Header}
use Rattle.record.specs.declared.Header.TheVariants.{Record, Cut, End}
use Rattle.record.specs.Record.{header_at}
use Rattle.record.proofs.Laws.{whole}
use Rattle.std.specs.Prelude.{Option, None, Some, Result, Ok, Err}
use Rattle.refusal.specs.declared.Refusal.{Refusal}
use Rattle.refusal.specs.Refused.{refuse}
use Rattle.cell.specs.Cells.{shape_of, judge_of}
use Rattle.segments.specs.Segments.{Got, got, refused}
use Rattle.text_result.specs.TextResult.{text_of}
use Rattle.strings.specs.declared.Table.{Table}
use Rattle.strings.specs.Table.{table_of, answer_of}
use Rattle.globals.specs.declared.Globals.{Globals}
use Rattle.globals.specs.declared.Step.{Step as GlobalsStep}
use Rattle.globals.specs.declared.Step.TheVariants as step
use Rattle.globals.specs.Globals as globals
use Rattle.globals.proofs.Laws as globals-laws
use Rattle.substream.specs.declared.Here.{Here}
use Rattle.substream.specs.declared.Step.{Step}
use Rattle.substream.specs.declared.Step.TheVariants.{More, Open, Close}
use Rattle.substream.specs.Substream.{past, past_parent, version_at, inner_bof, other_record, dimensions_record, on_text, passed_record, on_judged, record_in, on_header, step_of, back, turn, records_from, substream_in}
use Rattle.substream.proofs.Laws.{Inner, Onward, go, left, falls, onward}
use Rattle.record_chain.specs.Chain.{here, on, Over, Reach}
use Rattle.record_chain.specs.Tops.{GlobalsReach, SubstreamReach}
use Rattle.record_chain.proofs.Chain.{chain_trans, over, reach_one}
use Rattle.record_chain.proofs.Table.{table_reach}
use Rattle.record_chain.proofs.Text.{text_chain, plain_reach}

-- ---- the globals
abbrev pub Going : List ℕ → Globals → Result GlobalsStep Refusal → Type 0
Going s v (Ok (step.More w)) = Reach s v.at w.at
Going s v (Ok (step.Close w)) = Reach s v.at w.at
Going s v (Err r) = Unit {0}

module _ (s : List ℕ) (v : Globals) (t z e : ℕ) (h : header_at s v.at ≡ Record t z e) where
  going_table : (x : Result Table Refusal) → answer_of (table_of s v.at e) ≡ x → Going s v (globals.on_table v x)
  unfolding globals.past_table
  going_table (Ok y) i = on (over s h) (table_reach s v.at e y i)
  going_table (Err r) i = tt

  going_record : Going s v (globals.record_in s v t z e)
  unfolding globals.record_in globals.boundsheet_record globals.sst_record globals.bof_record globals.eof_record globals.continue_record globals.past
  going_record =
      let r = reach_one s h in
      pick_any (Going s v) _ (pick_any (Going s v) _ r tt)
      (pick_any (Going s v) _ (pick_any (Going s v) _ (going_table (answer_of (table_of s v.at e)) refl) tt)
      (pick_any (Going s v) _ tt
      (pick_any (Going s v) _ (pick_any (Going s v) _ tt tt)
      (pick_any (Going s v) _ (pick_any (Going s v) _ r tt)
      (pick_any (Going s v) _ (pick_any (Going s v) _ tt r)
      r)))))

going_header : (s : List ℕ) (v : Globals) (h : Header) → header_at s v.at ≡ h → Going s v (globals.on_header s v h)
going_header s v (Record t z e) h = going_record s v t z e h
going_header s v Cut h = tt
going_header s v End h = tt

pub going : (s : List ℕ) (v : Globals) → Going s v (globals.step_of s v)
unfolding globals.step_of
going s v = going_header s v (header_at s v.at) refl

module _ (s : List ℕ) (v w : Globals) where
  going_more : (x : Result GlobalsStep Refusal) → Going s v x → globals.turn x ≡ more w → Reach s v.at w.at
  going_more (Ok (step.More y)) g h = let e : ◌≡◌ {A = Globals} y w = cc in subst (λ (y : Globals). Reach s v.at y.at) e g
  going_more (Ok (step.Close y)) g h = never (cc)
  going_more (Err r) g h = never (cc)

  going_stop : (x : Result GlobalsStep Refusal) → Going s v x → globals.turn x ≡ stop (Ok w) → Reach s v.at w.at
  going_stop (Ok (step.More y)) g h = never (cc)
  going_stop (Ok (step.Close y)) g h = let e : ◌≡◌ {A = Globals} y w = cc in subst (λ (y : Globals). Reach s v.at y.at) e g
  going_stop (Err r) g h = never (cc)

records_reach : (s : List ℕ) (v w : Globals) → globals.records_from s v ≡ Ok w → Reach s v.at w.at
unfolding globals.records_from
records_reach s v w h =
    run_keeps (globals-laws.go s) (refuse 4 (length s)) (globals-laws.left s) (globals-laws.falls s)
    (λ u. Reach s v.at u.at) (λ a. a ≡ Ok w → Reach s v.at w.at)
    (λ u x q i. chain_trans q (going_more s u x (globals.step_of s u) (going s u) i))
    (λ u a q i j. chain_trans q (going_stop s u w (globals.step_of s u) (going s u) (i ∙ ap stop j)))
    v here h

pub globals_reach : GlobalsReach
unfolding globals.globals_of globals.opened
globals_reach s u g h = by (header_at s 0) h
  where
    by : (x : Header) → globals.on_first s u x ≡ Ok g → Reach s 20 g.at
    by (Record t z e) i =
        pick_by (λ (a : Result Globals Refusal). a ≡ Ok g → Reach s 20 g.at) (globals.is_globals_bof s t z)
        (λ _ j. records_reach s (globals.opened u) g j)
        (λ _ j. never (cc)) i
    by Cut i = never (cc)
    by End i = never (cc)

-- ---- a substream
-- what a step leads to: past the record at v, and the text result of a formula there, or into a BOF there
abbrev pub Leads : List ℕ → Here → Result Step Refusal → Type 0
Leads s v (Ok (More w)) = Reach s v.at w.at
Leads s v (Ok (Open b)) = (b ≡ v.at) × Over s v.at (v.at + 20)
Leads s v (Ok (Close e)) = Over s v.at e
Leads s v (Err r) = Unit {0}

module _ (s : List ℕ) (k u : ℕ) (v : Here) (t z e : ℕ) (h : header_at s v.at ≡ Record t z e) where
  leads_bof : Leads s v (inner_bof s k v.at z)
  unfolding inner_bof
  leads_bof =
      pick_by (Leads s v) (eqb z 16)
      (λ i.
      let j = eqb-true z 16 i in
      let w = whole s v.at t z e h in
      let l : e ≡ v.at + 20 = omega arith in
      pick_any (Leads s v) _ tt (pick_any (Leads s v) _ (refl, subst (Over s v.at) l (over s h)) tt))
      (λ _. tt)

  leads_other : Leads s v (other_record s k v t z e)
  unfolding other_record
  leads_other =
      let r = reach_one s h in
      pick_any (Leads s v) _ leads_bof (pick_any (Leads s v) _ (pick_any (Leads s v) _ (over s h) tt) (pick_any (Leads s v) _ (pick_any (Leads s v) _ tt r) r))

  leads_text : (x : Got (List ℕ)) → text_of s v.at e ≡ x → Leads s v (on_text x)
  leads_text (got us c) i = on (over s h) (plain_reach s (text_chain s v.at e us c i))
  leads_text (refused n o) i = tt

  leads_judged : (x : Result (Option ℕ) Refusal) → Leads s v (on_judged s k v t z e x)
  unfolding dimensions_record passed_record
  leads_judged (Ok (Some n)) = pick_any (Leads s v) _ (leads_text (text_of s v.at e) refl) (reach_one s h)
  leads_judged (Err r) = tt
  leads_judged (Ok None) = pick_any (Leads s v) _ (pick_any (Leads s v) _ (reach_one s h) tt) (pick_any (Leads s v) _ tt leads_other)

  leads_record : Leads s v (record_in s k u v t z e)
  unfolding record_in
  leads_record = pick_any (Leads s v) _ (leads_judged (judge_of s (shape_of t) v.at z u)) leads_other

leads_header : (s : List ℕ) (k u : ℕ) (v : Here) (h : Header) → header_at s v.at ≡ h → Leads s v (on_header s k u v h)
leads_header s k u v (Record t z e) h = leads_record s k u v t z e h
leads_header s k u v Cut h = tt
leads_header s k u v End h = tt

pub step_leads : (s : List ℕ) (k u : ℕ) (v : Here) (x : Result Step Refusal) → step_of s k u v ≡ x → Leads s v x
unfolding step_of
step_leads s k u v x e = subst (Leads s v) e (leads_header s k u v (header_at s v.at) refl)

-- an inner substream is reached through its BOF
module _ (inner : Inner) (s : List ℕ) (onward : Onward inner s) (reach : (b e : ℕ) → inner b ≡ Ok e → Reach s (b + 20) e) (k u : ℕ) where
  reach_back : (v w : Here) (a : Result ℕ Refusal) → inner v.at ≡ a → Over s v.at (v.at + 20) → back a ≡ more w → Reach s v.at w.at
  reach_back v w (Ok e) i o h = let j : ◌≡◌ {A = Here} (past e) w = cc in subst (λ (y : Here). Reach s v.at y.at) j (on o (reach v.at e i))
  reach_back v w (Err r) i q h = never (cc)

  pub reach_more : (v w : Here) (x : Result Step Refusal) → Leads s v x → turn inner x ≡ more w → Reach s v.at w.at
  reach_more v w (Ok (More y)) l h = let j : ◌≡◌ {A = Here} y w = cc in subst (λ (y : Here). Reach s v.at y.at) j l
  reach_more v w (Ok (Open b)) l h = reach_back v w (inner v.at) refl l.1 (ap (λ (c : ℕ). back (inner c)) (sym l.0) ∙ h)
  reach_more v w (Ok (Close e)) l h = never (cc)
  reach_more v w (Err r) l h = never (cc)

  stop_back : (a : Result ℕ Refusal) (e : ℕ) → back a ≡ stop (Ok e) → ⊥
  stop_back (Ok f) e h = never (cc)
  stop_back (Err r) e h = never (cc)

  reach_stop : (v : Here) (e : ℕ) (x : Result Step Refusal) → Leads s v x → turn inner x ≡ stop (Ok e) → Reach s v.at e
  reach_stop v e (Ok (More y)) l h = never (cc)
  reach_stop v e (Ok (Open b)) l h = absurd (stop_back (inner b) e h)
  reach_stop v e (Ok (Close f)) l h = let j : ◌≡◌ {A = ℕ} f e = cc in subst (Reach s v.at) j (on l here)
  reach_stop v e (Err r) l h = never (cc)

  from_reach : (v : Here) (e : ℕ) → records_from inner s k u v ≡ Ok e → Reach s v.at e
  unfolding records_from
  from_reach v e h =
      run_keeps (go inner s k u) (refuse 4 (length s)) (left s) (falls inner s onward k u)
      (λ w. Reach s v.at w.at) (λ a. a ≡ Ok e → Reach s v.at e)
      (λ w x q i. chain_trans q (reach_more w x (step_of s k u w) (step_leads s k u w _ refl) i))
      (λ w a q i j. chain_trans q (reach_stop w e (step_of s k u w) (step_leads s k u w _ refl) (i ∙ ap stop j)))
      v here h

pub substream_reach : SubstreamReach
unfolding substream_in
substream_reach zero s u k b e h = never (cc)
substream_reach (suc d) s u k b e h =
    pick_by (λ (a : Result ℕ Refusal). a ≡ Ok e → Reach s (b + 20) e) (eqb (version_at s b) 0x0600)
    (λ _ i. from_reach (substream_in d s u 0x0020) s (onward d s u 0x0020) (λ c f j. substream_reach d s u 0x0020 c f j) k u (past_parent (b + 20)) e i)
    (λ _ i. never (cc)) h
