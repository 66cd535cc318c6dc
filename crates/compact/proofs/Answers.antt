-- The answers, by the length of the new stream. Assumes nothing.
use Prim.Native.Nat.{ℕ, ◌≤◌, ◌<◌}
use mathlib.Core.Path.{◌≡◌, refl, sym, ap, ◌∙◌, subst}
use mathlib.Core.List.{List, ◌++◌}
use native.Mathlib.Omega.{arith}
use lib.ListN.{length, drop}
use lib.Dec.{ltb}
use borrow.Author.Tests.{ltb-true, ltb-false}
use Rattle.steps.proofs.Choice.{pick_by, pick_lt, pick_nlt}
use Rattle.globals.specs.declared.Globals.{Globals}
use Rattle.new_stream.specs.Entries.{entries_of}
use Rattle.new_stream.specs.Compact.{compact_with}
use Rattle.new_table.specs.NewTable.{new_table, compacted_of}
use Rattle.new_table.proofs.Claims.{new_table_lem}
use Rattle.copied_records.specs.Copied.{edited, copied_entry}
use Rattle.new_places.specs.Places.{sizes, LengthOf}
use Rattle.new_fields.specs.Edited.{table_change, Roomy}
use Rattle.new_fields.proofs.Whole.{all_good, compact_length}
use Rattle.std.specs.Prelude.{Result, Ok, Err}
use Rattle.refusal.specs.Refused.{refuse}
use Rattle.refusal.specs.declared.Refusal.{Refusal}
use Rattle.compact.specs.declared.plan.Plan.{Plan}
use Rattle.compact.specs.Compacted.{answer_to, buffer_to}
use Rattle.compact.specs.Parts.{tabled, Rewritten, Prepared, Measured}
use Rattle.compact.proofs.Made.{new_made}

-- ---- by the length of the new stream, n
module _ (t b : List ℕ) (n : ℕ) (is : n ≡ length t) where
  pub answer_large : 16777216 < n → refuse 1 0 ≡ answer_to t b
  unfolding answer_to
  answer_large h = pick_lt (refuse 1 0) _ _ 16777216 (length t) (omega arith) refl

  pub buffer_large : 16777216 < n → b ≡ buffer_to t b
  unfolding buffer_to
  buffer_large h = pick_lt b _ _ 16777216 (length t) (omega arith) refl

  module _ (fits : n ≤ 16777216) where
    pub answer_short : length b < n → refuse 12 0 ≡ answer_to t b
    unfolding answer_to
    answer_short h = pick_nlt (refuse 12 0) _ _ 16777216 (length t) (omega arith) (pick_lt (refuse 12 0) _ _ (length b) (length t) (omega arith) refl)

    pub buffer_short : length b < n → b ≡ buffer_to t b
    unfolding buffer_to
    buffer_short h = pick_nlt b _ _ 16777216 (length t) (omega arith) (pick_lt b _ _ (length b) (length t) (omega arith) refl)

    pub answer_written : n ≤ length b → Ok n ≡ answer_to t b
    unfolding answer_to
    answer_written h = pick_nlt (Ok n) _ _ 16777216 (length t) (omega arith) (pick_nlt (Ok n) _ _ (length b) (length t) (omega arith) (ap Ok is))

    pub buffer_written : (b' : List ℕ) → n ≤ length b → b' ≡ t ++ drop (length t) b → b' ≡ buffer_to t b
    unfolding buffer_to
    buffer_written b' h e = pick_nlt b' _ _ 16777216 (length t) (omega arith) (pick_nlt b' _ _ (length b) (length t) (omega arith) e)

-- ---- what is told by the answer
module _ (t b : List ℕ) where
  abbrev Told : Result ℕ Refusal → Type 0
  Told (Ok n) = (n ≡ length t) × (length t ≤ 16777216) × (length t ≤ length b)
  Told (Err e) = b ≡ buffer_to t b

  told : Told (answer_to t b)
  unfolding answer_to
  told =
      pick_by Told (ltb 16777216 (length t)) (λ e. buffer_large t b (length t) refl (ltb-true 16777216 (length t) e))
      (λ e. let low = ltb-false 16777216 (length t) e in pick_by Told (ltb (length b) (length t)) (λ d. buffer_short t b (length t) refl low (ltb-true (length b) (length t) d))
      (λ d. let room = ltb-false (length b) (length t) d in (refl, low, room)))

  pub told_ok : (n : ℕ) → Ok n ≡ answer_to t b → (n ≡ length t) × (length t ≤ 16777216) × (length t ≤ length b)
  told_ok n e = subst Told (sym e) told

  pub told_err : (x : Refusal) → Err x ≡ answer_to t b → b ≡ buffer_to t b
  told_err x e = subst Told (sym e) told

-- ---- by a plan
module _ (g : Globals) (t : Plan) (top : ℕ) (x : Prepared t.texts.stream.now g t top) where
  abbrev s : List ℕ
  s = t.texts.stream.now

  pub plan_high : top ≤ 4294967296
  plan_high = x.high

  module _ (o : List ℕ) {r : Result ℕ Refusal} (is : Measured s t.size (length o) r) where
    pub plan_answer : r ≡ answer_to (compacted_of s g) o
    plan_answer = is (new_table s g) o (sym x.size) refl

    pub plan_err : (e : Refusal) → r ≡ Err e → o ≡ buffer_to (compacted_of s g) o
    plan_err e h = told_err (compacted_of s g) o e (sym h ∙ plan_answer)

    module _ (n : ℕ) (h : r ≡ Ok n) where
      said : (n ≡ length (compacted_of s g)) × (length (compacted_of s g) ≤ 16777216) × (length (compacted_of s g) ≤ length o)
      said = told_ok (compacted_of s g) o n (sym h ∙ plan_answer)

      pub plan_value : Ok n ≡ answer_to (compacted_of s g) o
      plan_value = sym h ∙ plan_answer

      pub plan_roomy : Roomy s t.size (length o)
      plan_roomy = record {
        short = t.texts.short;
        table = x.small;
        good = all_good s (new_table s g) x.passed.lent g x.passed.few x.passed.ok (new_table_lem s x.passed.lent g x.passed.bytes x.passed.ok) said.1;
        room = let a = said in let b = compact_length s (new_table s g) in let c = ap (λ (k : ℕ). sizes k (entries_of s)) x.size in omega arith;
      }

      pub plan_made : (o' : List ℕ) → Rewritten s t.size top (tabled t o) o' → o' ≡ buffer_to (compacted_of s g) o
      unfolding tabled
      plan_made o' w =
          buffer_written (compacted_of s g) o (length (compacted_of s g)) refl said.1 o' said.2
          (new_made s (new_table s g) o (tabled t o) o' top
          record { good = plan_roomy.good; room = said.2 }
          (new_some) x.below
          (λ i. edited (table_change (x.table i)) (x.size i) (entries_of s) (edited (copied_entry s) (x.size i) (entries_of s) o 0) 0)
          (subst (λ (k : ℕ). Rewritten s k top (tabled t o) o') x.size w))
        where
          new_some : 4 ≤ length (new_table s g)
          new_some = ((new_table_lem s x.passed.lent g x.passed.bytes x.passed.ok).table x.some).some

pub ruleset answer_laws = (answer_large, buffer_large, answer_short, buffer_short, answer_written)

-- ---- by the length that was found
module _ (s : List ℕ) (n m k : ℕ) (is : LengthOf s n k) where
  pub measured_large : 16777216 < k → Measured s n m (refuse 1 0)
  measured_large h T b e f = answer_large (compact_with s T) b k (is T e) h

  pub measured_short : k ≤ 16777216 → m < k → Measured s n m (refuse 12 0)
  measured_short l h T b e f = answer_short (compact_with s T) b k (is T e) l (omega arith)

  pub measured_written : k ≤ 16777216 → k ≤ m → Measured s n m (Ok k)
  measured_written l h T b e f = answer_written (compact_with s T) b k (is T e) l (omega arith)

pub ruleset finish_laws = (plan_answer, plan_err, plan_value, plan_roomy, plan_made, plan_high)
