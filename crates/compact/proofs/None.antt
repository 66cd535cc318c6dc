-- A stream without a string table. Assumes nothing.
use Prim.Native.Nat.{ℕ, ◌≤◌}
use mathlib.Core.Path.{◌≡◌, refl, sym, ap, ◌∙◌, subst}
use mathlib.Core.List.{List, [], ◌++◌}
use native.Mathlib.Omega.{arith}
use lib.ListN.{length, drop}
use Rattle.steps.proofs.Choice.{pick_eq}
use Rattle.globals.specs.declared.Globals.{Globals}
use Rattle.record_chain.proofs.Sheets.{passing}
use Rattle.new_stream.specs.Entries.{entries_of}
use Rattle.new_stream.specs.Compact.{compact_with}
use Rattle.new_table.specs.NewTable.{new_table, compacted_of}
use Rattle.new_table.proofs.Claims.{new_table_lem}
use Rattle.new_places.specs.Places.{sizes, place_for}
use Rattle.copied_records.specs.Copied.{edited, copied_entry}
use Rattle.new_fields.specs.Edited.{sheet_change, Roomy}
use Rattle.new_fields.proofs.Whole.{all_good, compact_length}
use Rattle.std.specs.Prelude.{Result, Ok, Err}
use Rattle.refusal.specs.declared.Refusal.{Refusal}
use Rattle.compact.specs.Compacted.{answer_to, buffer_to}
use Rattle.compact.specs.Parts.{Untabled, Measured}
use Rattle.compact.proofs.Made.{none_made}
use Rattle.compact.proofs.Answers.{buffer_written, told_ok, told_err}

module _ (s : List ℕ) (g : Globals) (x : Untabled s g) where
  no_table : new_table s g ≡ []
  unfolding new_table
  no_table = sym (pick_eq [] _ _ g.table 0 x.no_table refl)

  stream_is : compacted_of s g ≡ compact_with s []
  stream_is = ap (compact_with s) no_table

  pub none_short : length s ≤ 16777216
  none_short = (passing s x.passed.lent g x.passed.ok).short

  module _ (o : List ℕ) {r : Result ℕ Refusal} (is : Measured s 0 (length o) r) where
    none_told : r ≡ answer_to (compact_with s []) o
    none_told = is [] o refl refl

    pub none_answer : r ≡ answer_to (compacted_of s g) o
    none_answer = none_told ∙ ap (λ (t : List ℕ). answer_to t o) (sym stream_is)

    pub none_err : (e : Refusal) → r ≡ Err e → o ≡ buffer_to (compacted_of s g) o
    none_err e h = told_err (compacted_of s g) o e (sym h ∙ none_answer)

    module _ (n : ℕ) (h : r ≡ Ok n) where
      said : (n ≡ length (compacted_of s g)) × (length (compacted_of s g) ≤ 16777216) × (length (compacted_of s g) ≤ length o)
      said = told_ok (compacted_of s g) o n (sym h ∙ none_answer)

      room : length (compact_with s []) ≤ length o
      room = let a = said in let b = ap length stream_is in omega arith

      pub none_value : Ok n ≡ answer_to (compacted_of s g) o
      none_value = sym h ∙ none_answer

      none_roomy : Roomy s 0 (length o)
      none_roomy = record {
        short = none_short;
        table = omega arith;
        good = all_good s (new_table s g) x.passed.lent g x.passed.few x.passed.ok (new_table_lem s x.passed.lent g x.passed.bytes x.passed.ok) said.1;
        room = let a = room in let b = compact_length s [] in omega arith;
      }

      pub none_sizes : sizes 0 (entries_of s) ≤ length o
      none_sizes = none_roomy.room

      pub none_roomy_2 : (o₁ : List ℕ) → length o₁ ≡ length o → Roomy s 0 (length o₁)
      none_roomy_2 o₁ e = subst (Roomy s 0) (sym e) none_roomy

      pub none_buffer : (o₁ o₂ : List ℕ) → o₁ ≡ edited (copied_entry s) 0 (entries_of s) o 0 → o₂ ≡ edited (sheet_change s (place_for 0 (entries_of s))) 0 (entries_of s) o₁ 0 → o₂ ≡ buffer_to (compacted_of s g) o
      none_buffer o₁ o₂ e f =
          buffer_written (compacted_of s g) o (length (compacted_of s g)) refl said.1 o₂ said.2
          (none_made s o o₁ o₂ x.passed.bytes record { good = none_roomy.good; room = room } e f
          ∙ ap (λ (t : List ℕ). t ++ drop (length t) o) (sym stream_is))

pub ruleset without_laws = (none_short, none_answer, none_err, none_value, none_sizes, none_roomy_2, none_buffer)
