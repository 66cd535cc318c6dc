-- The laws of a run over the entries, and of the answer. Assumes nothing.
use Prim.Native.Nat.{ℕ, suc, ◌+◌, ◌-◌, ◌*◌, ◌≤◌, ◌<◌}
use mathlib.Core.Path.{◌≡◌, refl, sym, ap, ◌∙◌}
use mathlib.Core.List.{List}
use mathlib.Core.Bool.{Bool, true, false}
use native.Mathlib.Omega.{arith}
use lib.ListN.{length}
use lib.Dec.{ltb, eqb}
use borrow.Author.Tests.{ltb-false}
use lib.Seq.{sets}
use Rattle.steps.proofs.Choice.{never, pick_by}
use Rattle.byte_numbers.specs.Bytes.{u32_at, bytes_of}
use Rattle.value.specs.Value.{width_of}
use Rattle.std.specs.Prelude.{Result, Ok, Err}
use Rattle.refusal.specs.declared.Refusal.{Refusal}
use Rattle.refusal.specs.Refused.{refuse}
use Rattle.correction.specs.Correction.{Correction, refuses, writes, stream_after}
use Rattle.journal.specs.Entries.{count_in, entry_at, entry_in, journal_fits}
use Rattle.journal.specs.declared.Entry.{Entry}
use Rattle.replay_entry.specs.declared.Write.{Write}
use Rattle.correction.specs.declared.Aim.{Aim}
use Rattle.replay_entry.specs.Steps.{undo_of}
use Rattle.replay_entry.specs.Parts.{entry_aimed, step_of, step_is}
use Rattle.replay_entry.specs.declared.Replayed.{Replayed}
use Rattle.steps.specs.Choice.{pick}
use Rattle.replay_entry.specs.Replay.{Ran, all, stopped, on_step, forwards, backwards, declined, ran, runs, replay_in, stream_ran, stream_replayed, answer_ran, answer_replayed}
use Rattle.replay.specs.Parts.{step_in, done_of, runs_by, turn_of}

-- ---- one entry, by its step
module _ (back : Bool) (unique t : ℕ) (s : List ℕ) (x e : Entry) (e-is : e ≡ x) (a : Result Aim Refusal) (a-is : a ≡ entry_aimed unique t x s) (r : Result Write ℕ) (is : step_is r ≡ step_of back e a s) where
  step_here : step_is r ≡ step_in back unique t x s
  step_here = rw (e-is, a-is) at is

  pub step_stop : (n : ℕ) → r ≡ Err n → Err n ≡ done_of (step_in back unique t x s)
  step_stop n h = rw (← step_here, h) refl

  pub step_kept : (n : ℕ) → r ≡ Err n → s ≡ stream_after s (step_in back unique t x s)
  step_kept n h = rw (← step_here, h) refl

  pub step_made : (w : Write) → r ≡ Ok w → Ok tt ≡ done_of (step_in back unique t x s)
  step_made w h = rw (← step_here, h) refl

  pub step_wrote : (w : Write) (n : ℕ) (y : List ℕ) → r ≡ Ok w → n ≡ width_of w.kind → y ≡ sets s w.field (bytes_of n w.number) → y ≡ stream_after s (step_in back unique t x s)
  step_wrote w n y h i k = rw (← step_here, h) (rw i at k)

pub ruleset step_laws = (step_stop, step_kept, step_made, step_wrote)

-- ---- a step of a run
stopped_by : (s : List ℕ) (i : ℕ) (k : List ℕ → Ran) (c : Correction) (n : ℕ) → Err n ≡ done_of c → on_step s i c k ≡ stopped n i (stream_after s c)
stopped_by s i k (refuses m o) n h = let e : m ≡ n = cc in ap (λ (x : ℕ). stopped x i s) e
stopped_by s i k (writes f p b) n h = never (cc)

made_by : (s : List ℕ) (i : ℕ) (k : List ℕ → Ran) (c : Correction) → Ok tt ≡ done_of c → on_step s i c k ≡ k (stream_after s c)
made_by s i k (refuses m o) h = never (cc)
made_by s i k (writes f p b) h = refl

-- ---- what is left of a run after so many entries
pub turn_back : (back : Bool) (count past : ℕ) → back ≡ true → count - 1 - past ≡ turn_of back count past
turn_back back count past h = rw h refl

pub turn_on : (back : Bool) (count past : ℕ) → back ≡ false → past ≡ turn_of back count past
turn_on back count past h = rw h refl

pub ruleset turn_laws = (turn_back, turn_on)

abbrev pub rest_of : Bool → ℕ → ℕ → List ℕ → ℕ → ℕ → List ℕ → Ran
rest_of true unique t j count past s = backwards unique t j (count - past) s
rest_of false unique t j count past s = forwards unique t j past (count - past) s

pub rest_start : (back : Bool) (unique t : ℕ) (j : List ℕ) (count : ℕ) (s : List ℕ) → runs_by back unique t j count s ≡ rest_of back unique t j count 0 s
rest_start true unique t j count s = let e : count ≡ count - 0 = omega arith in ap (λ (n : ℕ). backwards unique t j n s) e
rest_start false unique t j count s = let e : count ≡ count - 0 = omega arith in ap (λ (n : ℕ). forwards unique t j 0 n s) e

rest_end : (back : Bool) (unique t : ℕ) (j : List ℕ) (count past : ℕ) (s : List ℕ) → count ≤ past → rest_of back unique t j count past s ≡ all s
unfolding forwards backwards
rest_end true unique t j count past s end = let e : count - past ≡ 0 = omega arith in ap (λ (n : ℕ). backwards unique t j n s) e
rest_end false unique t j count past s end = let e : count - past ≡ 0 = omega arith in ap (λ (n : ℕ). forwards unique t j past n s) e

rest_step : (back : Bool) (unique t : ℕ) (j : List ℕ) (count past : ℕ) (s : List ℕ) → past < count
    → rest_of back unique t j count past s
    ≡ on_step s (turn_of back count past) (step_in back unique t (entry_in j (entry_at (turn_of back count past))) s) (λ r. rest_of back unique t j count (past + 1) r)
unfolding forwards backwards
rest_step true unique t j count past s more =
    let e : count - past ≡ suc (count - 1 - past) = omega arith in
    let f : count - 1 - past ≡ count - (past + 1) = omega arith in
    ap (λ (n : ℕ). backwards unique t j n s) e
    ∙ ap (λ (n : ℕ). on_step s (count - 1 - past) (undo_of unique t (entry_in j (entry_at (count - 1 - past))) s) (λ r. backwards unique t j n r)) f
rest_step false unique t j count past s more =
    let e : count - past ≡ suc (count - (past + 1)) = omega arith in
    ap (λ (n : ℕ). forwards unique t j past n s) e

-- the run so far, and what is left of it
module _ (back : Bool) (unique t : ℕ) (j : List ℕ) (count : ℕ) (s₀ s : List ℕ) (past : ℕ) (rest : runs_by back unique t j count s₀ ≡ rest_of back unique t j count past s) where
  pub run_end : count ≤ past → runs_by back unique t j count s₀ ≡ all s
  run_end end = rest ∙ rest_end back unique t j count past s end

  module _ (more : past < count) {i at : ℕ} (i-is : i ≡ turn_of back count past) (at_is : at ≡ entry_at i)
      {d : Result (Unit {0}) ℕ} (d-is : d ≡ done_of (step_in back unique t (entry_in j at) s)) {x : List ℕ} (x-is : x ≡ stream_after s (step_in back unique t (entry_in j at) s)) where
    abbrev c : Correction
    c = step_in back unique t (entry_in j at) s

    next_is : runs_by back unique t j count s₀ ≡ on_step s i c (λ r. rest_of back unique t j count (past + 1) r)
    next_is =
        rest ∙ rest_step back unique t j count past s more
        ∙ (λ z. on_step s (sym i-is z) (step_in back unique t (entry_in j ((ap entry_at (sym i-is) ∙ sym at_is) z)) s) (λ r. rest_of back unique t j count (past + 1) r))

    pub run_stopped : (n : ℕ) → d ≡ Err n → runs_by back unique t j count s₀ ≡ stopped n i x
    run_stopped n h = next_is ∙ stopped_by s i _ c n (sym h ∙ d-is) ∙ ap (stopped n i) (sym x-is)

    pub run_on : d ≡ Ok tt → runs_by back unique t j count s₀ ≡ rest_of back unique t j count (past + 1) x
    run_on h = next_is ∙ made_by s i _ c (sym h ∙ d-is) ∙ ap (rest_of back unique t j count (past + 1)) (sym x-is)

-- ---- the answer
runs_by_lem : (b : Bool) (unique t : ℕ) (j s : List ℕ) → runs_by b unique t j (count_in j) s ≡ runs b unique t j s
runs_by_lem true unique t j s = refl
runs_by_lem false unique t j s = refl

-- a journal that fits has a header and all its entries
whole_by : (j : List ℕ) (len unique : ℕ) → journal_fits j len unique ≡ true → 16 + u32_at j 0 * 28 ≤ length j
unfolding journal_fits
whole_by j len unique h =
    pick_by Goal (ltb (length j) 16) (λ _ z. never (cc)) (λ _.
    pick_by Goal (eqb (u32_at j 4) 16) (λ _.
    pick_by Goal (eqb (u32_at j 8) len) (λ _.
    pick_by Goal (eqb (u32_at j 12) unique) (λ _.
    pick_by Goal (ltb (length j) (entry_at (count_in j))) (λ _ z. never (cc)) (λ i _. ltb-false (length j) (entry_at (count_in j)) i)) (λ _ z. never (cc))) (λ _ z. never (cc))) (λ _ z. never (cc))) h
  where
    Goal : Bool → Type 0
    Goal b = b ≡ true → 16 + u32_at j 0 * 28 ≤ length j

module _ (j : List ℕ) (len unique : ℕ) (c : Bool) (is : c ≡ journal_fits j len unique) (h : c ≡ true) where
  pub header_room : 4 ≤ length j
  header_room = omega (arith, whole_by j len unique (sym is ∙ h))

  pub whole_room : (n : ℕ) → n ≡ u32_at j 0 → 16 + n * 28 ≤ length j
  whole_room n e = omega (arith, whole_by j len unique (sym is ∙ h))

-- in a stream that passes
module _ (s j : List ℕ) (q t : ℕ) (b : Bool) where
  bad_is : journal_fits j (length s) q ≡ false → replay_in s q t j b ≡ declined 21 0
  unfolding replay_in pick
  bad_is h = rw h refl

  module _ (c : Bool) (c-is : c ≡ journal_fits j (length s) q) where
    pub replay_bad : c ≡ false → refuse 21 0 ≡ answer_replayed (count_in j) (replay_in s q t j b)
    replay_bad h = rw (bad_is (sym c-is ∙ h)) refl

    pub replay_bad_kept : c ≡ false → s ≡ stream_replayed s (replay_in s q t j b)
    replay_bad_kept h = rw (bad_is (sym c-is ∙ h)) refl

    module _ (i : c ≡ true) where
      run_is : replay_in s q t j b ≡ ran (runs_by b q t j (u32_at j 0) s)
      unfolding replay_in pick
      run_is = rw (← c-is, i) (ap ran (sym (runs_by_lem b q t j s)))

      pub replay_done : (n : ℕ) (a : Replayed) → n ≡ u32_at j 0 → a ≡ answer_ran n (runs_by b q t j n s) → Ok a ≡ answer_replayed (count_in j) (replay_in s q t j b)
      replay_done n a e f = rw run_is (rw e at (ap {B = Result Replayed Refusal} (λ (x : Replayed). Ok x) f))

      pub replay_stream : (n : ℕ) (x : List ℕ) → n ≡ u32_at j 0 → x ≡ stream_ran (runs_by b q t j n s) → x ≡ stream_replayed s (replay_in s q t j b)
      replay_stream n x e f = rw run_is (rw e at f)

pub ruleset replay_laws = (header_room, replay_bad, replay_bad_kept, replay_done, replay_stream)
