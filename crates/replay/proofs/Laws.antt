-- The laws of a replay in batches, with what a call gave as the proofs have it. Assumes nothing.
use Prim.Native.Nat.{ℕ, zero, suc, ◌+◌, ◌*◌, ◌≤◌, ◌<◌}
use mathlib.Core.Path.{◌≡◌, refl, sym, ap, ◌∙◌, subst}
use mathlib.Core.List.{List}
use mathlib.Core.Bool.{Bool, true, false}
use native.Mathlib.Omega.{arith}
use lib.ListN.{length}
use lib.Dec.{ltb, eqb}
use lib.Seq.{length-sets}
use Rattle.steps.specs.Choice.{pick}
use Rattle.steps.proofs.Choice.{never, pick_by}
use Rattle.byte_numbers.specs.Bytes.{u32_at, bytes_of}
use Rattle.value.specs.declared.Field.{Field}
use Rattle.value.specs.Value.{width_of}
use Rattle.globals.specs.declared.Globals.{Globals}
use Rattle.std.specs.Prelude.{Result, Ok, Err}
use Rattle.workbook.specs.Check.{Checked, Right, checked_of}
use Rattle.workbook.proofs.Laws.{short}
use Rattle.correction.specs.declared.Target.{Target}
use Rattle.correction.specs.declared.Target.TheVariants as target
use Rattle.correction.specs.Correction.{Correction, refuses, writes, stream_after}
use Rattle.correction.specs.Parts.{aim_in, AimWithin, TargetWithin}
use Rattle.passes_after.specs.Stored.{stored_in, Stored}
use Rattle.journal.specs.declared.Entry.{Entry}
use Rattle.journal.specs.Entries.{count_in, entry_at, entry_in, fits_at, entries_fit, journal_fits}
use Rattle.replay_entry.specs.Steps.{make_of, undo_of}
use Rattle.replay_entry.specs.Parts.{entry_aimed}
use Rattle.replay_entry.specs.declared.Replayed.TheVariants as answer
use Rattle.replay_entry.specs.Replay.{stream_ran, answer_ran}
use Rattle.replay.proofs.Running.{rest_of, rest_start, run_end, run_stopped, run_on}
use Rattle.journal_claims.specs.Replayed.{Bytes, Small, Well}
use Rattle.journal_claims.proofs.Aims.{aim_stays, check_stays}
use Rattle.journal_claims.proofs.Made.{entries_small, entries_store}
use Rattle.address_lookup.specs.Table.{key_at, sheet_in, row_in, column_in, slot, AimsAt}
use Rattle.address_lookup.specs.declared.Lookup.{Lookup}
use Rattle.address_lookup.specs.Known.{Knows}
use Rattle.address_lookup.proofs.Laws.{knows_none}
use Rattle.replay.specs.Parts.{Passes, Formed, step_in, done_of, runs_by, turn_of}

-- ---- the cell of an entry
module _ (s : List ℕ) (u t : ℕ) (x : Entry) {r : Target} (is : AimsAt s u t x r) (f : Field) (p : ℕ) (h : r ≡ target.One f p) where
  aims_both : (aim_in s u t x.sheet x.row x.column ≡ Ok (record { kind = f; field = p; unique = u })) × (p + width_of f ≤ length s)
  aims_both = subst (AimsAt s u t x) h is

  pub aims_one : Ok (record { kind = f; field = p; unique = u }) ≡ entry_aimed u t x s
  aims_one = sym aims_both.0

  pub aims_within : AimWithin (length s) (Ok (record { kind = f; field = p; unique = u }))
  aims_within = aims_both.1

pub ruleset aims_laws = (aims_one, aims_within)

-- ---- what is stored keeps what was looked up
within_as : (m n : ℕ) (t : Target) → m ≡ n → TargetWithin m t → TargetWithin n t
within_as m n t e w = subst (λ (l : ℕ). TargetWithin l t) e w

module _ (unique : ℕ) (x : Lookup) where
  abbrev Kept : List ℕ → Type 0
  Kept s = Passes s unique × Knows s x

  kept_stored : (s : List ℕ) (g : Globals) (u m : ℕ) (f : Field) (p b : ℕ) → checked_of s u ≡ Right g → g.unique ≡ unique → Stored s u m f p b → Knows s x → Kept (stored_in s f p b)
  kept_stored s g u m f p b ok e k w = (
    record { lent = u; globals = g; checked = check_stays k ∙ ok; strings = e },
    record {
      few = w.few;
      aims = λ i l f' p' h q t. aim_stays k q t (sheet_in (key_at x.keys i)) (row_in (key_at x.keys i)) (column_in (key_at x.keys i)) ∙ w.aims i l f' p' h q t;
      within = λ i l. within_as (length s) (length (stored_in s f p b)) (slot x.found i) (sym (length-sets s p (bytes_of (width_of f) b))) (w.within i l);
    },
  )

  module _ (s : List ℕ) (t : ℕ) (e : Entry) (passes : Passes s unique) (w : Knows s x) where
    by_correction : (c : Correction) → ((f : Field) (p b : ℕ) → c ≡ writes f p b → Stored s passes.lent e.sheet f p b) → Kept (stream_after s c)
    by_correction (refuses m o) k = (passes, w)
    by_correction (writes f p b) k = kept_stored s passes.globals passes.lent e.sheet f p b passes.checked passes.strings (k f p b refl) w

    module _ (j : List ℕ) (count i at : ℕ) (formed : Formed j count) (l : i < count) (a : at ≡ 16 + i * 28) (x-is : entry_in j at ≡ e) where
      well : Well e
      well = subst Well ((λ z. entry_in j (sym a z)) ∙ x-is) (formed.each i l)

      step_kept : (back : Bool) → Kept (stream_after s (step_in back unique t e s))
      step_kept back = by_correction (step_in back unique t e s) (go back)
        where
          go : (b : Bool) (f : Field) (p n : ℕ) → step_in b unique t e s ≡ writes f p n → Stored s passes.lent e.sheet f p n
          go b f p n h = stores b (ap (λ (q : ℕ). step_in b q t e s) passes.strings ∙ h)
            where
              both : (make_of passes.globals.unique t e s ≡ writes f p n → Stored s passes.lent e.sheet f p n) × (undo_of passes.globals.unique t e s ≡ writes f p n → Stored s passes.lent e.sheet f p n)
              both = entries_store s passes.lent t passes.globals passes.checked e (subst Small x-is (entries_small j at formed.bytes)) well f p n

              stores : (b : Bool) → step_in b passes.globals.unique t e s ≡ writes f p n → Stored s passes.lent e.sheet f p n
              stores true = both.1
              stores false = both.0

-- ---- a run
pub passes_short : (s : List ℕ) (unique : ℕ) → Passes s unique → length s ≤ 16777216
passes_short s unique p = short s p.lent p.globals refl p.checked

pub record Running (back : Bool) (unique t : ℕ) (j : List ℕ) (count : ℕ) (s₀ s : List ℕ) (x : Lookup) (past : ℕ) : Type 0 where
  pub within : past ≤ count
  pub rest : runs_by back unique t j count s₀ ≡ rest_of back unique t j count past s
  pub passes : Passes s unique
  pub knows : Knows s x

pub running_start : (back : Bool) (unique t : ℕ) (j : List ℕ) (count : ℕ) (s : List ℕ) (x : Lookup) → Passes s unique → x.count ≡ 0 → Running back unique t j count s s x 0
running_start back unique t j count s x passes none = record {
  within = omega arith;
  rest = rest_start back unique t j count s;
  passes = passes;
  knows = knows_none s x none;
}

module _ (back : Bool) (unique t : ℕ) (j : List ℕ) (count : ℕ) (s₀ s : List ℕ) (x : Lookup) (past : ℕ) (inv : Running back unique t j count s₀ s x past) where
  module _ (end : count ≤ past) where
    pub running_all : answer.All count ≡ answer_ran count (runs_by back unique t j count s₀)
    running_all = ap (answer_ran count) (sym (run_end back unique t j count s₀ s past inv.rest end))

    pub running_final : s ≡ stream_ran (runs_by back unique t j count s₀)
    running_final = ap stream_ran (sym (run_end back unique t j count s₀ s past inv.rest end))

  module _ (more : past < count) {i at : ℕ} (i-is : i ≡ turn_of back count past) (at_is : at ≡ entry_at i)
      {d : Result (Unit {0}) ℕ} (d-is : d ≡ done_of (step_in back unique t (entry_in j at) s)) {r : List ℕ} (r-is : r ≡ stream_after s (step_in back unique t (entry_in j at) s)) where
    pub running_stop : (m : ℕ) → d ≡ Err m → answer.Stopped m i ≡ answer_ran count (runs_by back unique t j count s₀)
    running_stop m h = ap (answer_ran count) (sym (run_stopped back unique t j count s₀ s past inv.rest more i-is at_is d-is r-is m h))

    pub running_left : (m : ℕ) → d ≡ Err m → r ≡ stream_ran (runs_by back unique t j count s₀)
    running_left m h = ap stream_ran (sym (run_stopped back unique t j count s₀ s past inv.rest more i-is at_is d-is r-is m h))

    pub running_again : d ≡ Ok tt → Formed j count → i < count → (y : Lookup) → Knows s y → Running back unique t j count s₀ r y (past + 1)
    running_again h formed l y knows =
        let k = step_kept unique y s t (entry_in j at) inv.passes knows j count i at formed l at_is refl back in
        record {
          within = omega arith;
          rest = run_on back unique t j count s₀ s past inv.rest more i-is at_is d-is r-is h;
          passes = subst (λ (y : List ℕ). Passes y unique) (sym r-is) k.0;
          knows = subst (λ (z : List ℕ). Knows z y) (sym r-is) k.1;
        }

pub entry_room : (count len : ℕ) {i at : ℕ} → at ≡ entry_at i → i < count → 16 + count * 28 ≤ len → at + 28 ≤ len
entry_room count len e l h = omega arith

-- ---- the journal and the stream at first
fit_well : (j : List ℕ) (e : ℕ) → fits_at j e ≡ true → Well (entry_in j e)
unfolding fits_at entry_in
fit_well j e h = h

entry_wells : (j : List ℕ) (n e : ℕ) → entries_fit j e n ≡ true → (i : ℕ) → i < n → Well (entry_in j (e + i * 28))
unfolding entries_fit pick
entry_wells j zero e h i l = absurd (omega arith)
entry_wells j (suc n) e h i l = go (fits_at j e) refl h (λ k. entry_wells j n (e + 28) k) i l
  where
    go : (b : Bool) → fits_at j e ≡ b → pick b (entries_fit j (e + 28) n) false ≡ true → (entries_fit j (e + 28) n ≡ true → (i : ℕ) → i < n → Well (entry_in j (e + 28 + i * 28))) → (i : ℕ) → i < suc n → Well (entry_in j (e + i * 28))
    go true q k r zero m = let z : e ≡ e + 0 * 28 = omega arith in subst (λ (y : ℕ). Well (entry_in j y)) z (fit_well j e q)
    go true q k r (suc i) m = let z : e + 28 + i * 28 ≡ e + suc i * 28 = omega arith in subst (λ (y : ℕ). Well (entry_in j y)) z (r k i (omega arith))
    go false q k r i m = never (cc)

all_well : (j : List ℕ) (len unique : ℕ) → journal_fits j len unique ≡ true → entries_fit j 16 (count_in j) ≡ true
unfolding journal_fits
all_well j len unique h =
    pick_by Goal (ltb (length j) 16) (λ _ z. never (cc)) (λ _.
    pick_by Goal (eqb (u32_at j 4) 16) (λ _.
    pick_by Goal (eqb (u32_at j 8) len) (λ _.
    pick_by Goal (eqb (u32_at j 12) unique) (λ _.
    pick_by Goal (ltb (length j) (entry_at (count_in j))) (λ _ z. never (cc)) (λ _ z. z)) (λ _ z. never (cc))) (λ _ z. never (cc))) (λ _ z. never (cc))) h
  where
    Goal : Bool → Type 0
    Goal b = b ≡ true → entries_fit j 16 (count_in j) ≡ true

pub formed_by : (j : List ℕ) (len unique : ℕ) {r : Bool} {n : ℕ} → r ≡ journal_fits j len unique → r ≡ true → Bytes j → n ≡ u32_at j 0 → Formed j n
formed_by j len unique is h bytes e = record { bytes = bytes; each = λ i l. entry_wells j (count_in j) 16 (all_well j len unique (sym is ∙ h)) i (let z : count_in j ≡ u32_at j 0 = refl in omega arith) }

pub passes_by : (s : List ℕ) (u : ℕ) {r : Checked} (g : Globals) → r ≡ checked_of s u → r ≡ Right g → Passes s g.unique
passes_by s u g is h = record { lent = u; globals = g; checked = sym is ∙ h; strings = refl }

pub some_long : (n : ℕ) → 16 ≤ n → 0 < n
some_long n h = omega arith
