-- The laws of the globals' walk, with what a call gave as the proofs have it. Assumes nothing.
use Prim.Native.Nat.{ℕ, ◌+◌, ◌-◌, ◌≤◌, ◌<◌}
use mathlib.Core.Path.{◌≡◌, refl, ap, ◌∙◌, subst⁻¹}
use mathlib.Core.List.{List}
use native.Mathlib.Omega.{arith}
use lib.ListN.{length}
use Rattle.std.specs.Prelude.{Result, Ok, Err}
use Rattle.steps.proofs.Choice.{never, pick_any}
use Rattle.steps.specs.Walk.{Next, more, stop, next}
use Rattle.steps.proofs.Walk.{run_more, run_stop, run_keeps}
use Rattle.refusal.specs.declared.Refusal.{Refusal}
use Rattle.refusal.specs.Refused.{refuse}
use Rattle.record.specs.declared.Header.{Header}
use Rattle.record.specs.declared.Header.TheVariants.{Record, Cut, End}
use Rattle.record.specs.Record.{header_at}
use Rattle.record.proofs.Laws.{Whole, whole}
use Rattle.strings.specs.declared.Table.{Table}
use Rattle.strings.specs.Table.{table_of, answer_of}
use Rattle.strings.proofs.Laws.{checked_low, checked_within}
use Rattle.globals.specs.declared.Globals.{Globals}
use Rattle.globals.specs.declared.Step.{Step}
use Rattle.globals.specs.declared.Step.TheVariants.{More, Close}
use Rattle.globals.specs.Globals.{past, past_table, boundsheet_record, on_table, sst_record, bof_record, eof_record, continue_record, record_in, on_header, step_of, turn, records_from}

-- ---- a step goes at least a header ahead and stays within the stream
abbrev pub Ahead : List ℕ → Globals → Result Step Refusal → Type 0
Ahead s v (Ok (More w)) = (v.at + 4 ≤ w.at) × (w.at ≤ length s)
Ahead s v (Ok (Close w)) = (v.at + 4 ≤ w.at) × (w.at ≤ length s)
Ahead s v (Err r) = Unit {0}

module _ (s : List ℕ) (v : Globals) (t z e : ℕ) (w : Whole s v.at t z e) where
  ahead_table : (x : Result Table Refusal) → x ≡ answer_of (table_of s v.at e) → Ahead s v (on_table v x)
  unfolding past_table
  ahead_table (Ok t) h =
      let low = checked_low s v.at e t h (omega arith) (omega arith) in
      let within = checked_within s v.at e t h (omega arith) (omega arith) in
      omega arith
  ahead_table (Err r) h = tt

  ahead_record : Ahead s v (record_in s v t z e)
  unfolding record_in boundsheet_record sst_record bof_record eof_record continue_record past
  ahead_record =
      pick_any (Ahead s v) _ (pick_any (Ahead s v) _ (omega arith) tt)
      (pick_any (Ahead s v) _ (pick_any (Ahead s v) _ (ahead_table (answer_of (table_of s v.at e)) refl) tt)
      (pick_any (Ahead s v) _ tt
      (pick_any (Ahead s v) _ (pick_any (Ahead s v) _ tt tt)
      (pick_any (Ahead s v) _ (pick_any (Ahead s v) _ (omega arith) tt)
      (pick_any (Ahead s v) _ (pick_any (Ahead s v) _ tt (omega arith))
      (omega arith))))))

ahead_header : (s : List ℕ) (v : Globals) (h : Header) → header_at s v.at ≡ h → Ahead s v (on_header s v h)
ahead_header s v (Record t z e) h = ahead_record s v t z e (whole s v.at t z e h)
ahead_header s v Cut h = tt
ahead_header s v End h = tt

pub step_ahead : (s : List ℕ) (v : Globals) (x : Result Step Refusal) → x ≡ step_of s v → Ahead s v x
unfolding step_of
step_ahead s v x e = subst⁻¹ (Ahead s v) e (ahead_header s v (header_at s v.at) refl)

-- ---- the walk
module _ (s : List ℕ) where
  abbrev pub go : Globals → Next Globals (Result Globals Refusal)
  go v = turn (step_of s v)

  abbrev pub left : Globals → ℕ
  left v = length s - v.at

  falls_by : (v w : Globals) (x : Result Step Refusal) → x ≡ step_of s v → turn x ≡ more w → left w < left v
  falls_by v w (Ok (More u)) h e = let i = step_ahead s v (Ok (More u)) h in let j : u ≡ w = cc in let k : u.at ≡ w.at = ap (λ (g : Globals). g.at) j in omega arith
  falls_by v w (Ok (Close u)) h e = never (cc)
  falls_by v w (Err r) h e = never (cc)

  pub falls : (v w : Globals) → go v ≡ more w → left w < left v
  falls v w h = falls_by v w (step_of s v) refl h

  pub step_less : (v w : Globals) → step_of s v ≡ Ok (More w) → length s - w.at < length s - v.at
  step_less v w h = falls v w (ap turn h)

  pub records_step : (v : Globals) → records_from s v ≡ next (turn (step_of s v)) (λ w. records_from s w)
  unfolding records_from
  records_step v = by (go v) refl
    where
      by : (x : Next Globals (Result Globals Refusal)) → go v ≡ x → records_from s v ≡ next x (λ w. records_from s w)
      by (more w) h = run_more go (refuse 4 (length s)) left falls h
      by (stop a) h = run_stop go (refuse 4 (length s)) left falls h

  -- the globals end within the stream, past their BOF
  gives_by : (v : Globals) (x : Result Step Refusal) → x ≡ step_of s v → (w : Globals) → turn x ≡ stop (Ok w) → (v.at < w.at) × (w.at ≤ length s)
  gives_by v (Ok (More u)) h w e = never (cc)
  gives_by v (Ok (Close u)) h w e = let i = step_ahead s v (Ok (Close u)) h in let j : u ≡ w = cc in let k : u.at ≡ w.at = ap (λ (g : Globals). g.at) j in omega arith
  gives_by v (Err r) h w e = never (cc)

  pub records_within : (v w : Globals) → records_from s v ≡ Ok w → (v.at < w.at) × (w.at ≤ length s)
  unfolding records_from
  records_within v w h =
      run_keeps go (refuse 4 (length s)) left falls (λ u. v.at ≤ u.at) (λ a. a ≡ Ok w → (v.at < w.at) × (w.at ≤ length s))
      (λ u x i j. let g = falls u x j in omega arith)
      (λ u a i j l. let g = gives_by u (step_of s u) refl w (j ∙ ap stop l) in omega arith)
      v (omega arith) h

pub ruleset walk_laws = (step_less, records_step)
