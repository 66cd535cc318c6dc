-- The segments of the string table after its SST are CONTINUEs, one right after the other. Assumes nothing.
use Prim.Native.Nat.{ℕ}
use mathlib.Core.Path.{◌≡◌, subst}
use mathlib.Core.List.{List}
use Rattle.std.specs.Prelude.{Result, Ok, Err}
use Rattle.refusal.specs.declared.Refusal.{Refusal}
use Rattle.record.specs.declared.Header.TheVariants.{Record}
use Rattle.record.specs.Record.{header_at}
use Rattle.segments.specs.declared.Cursor.{Cursor}
use Rattle.segments.specs.Segments.{Got, got, refused}
use Rattle.strings.specs.declared.Table.{Table}
use Rattle.strings.specs.Table.{first, table_of, answer_of}
use Rattle.record_chain.proofs.Table.{Runs, runs_table}
use Rattle.new_stream.specs.Claims.{Continued, Row}

module _ (s : List ℕ) where
  continue : (x z e : ℕ) → header_at s x ≡ Record 0x003C z e → Continued s x e
  continue x z e h = record { size = z; is = h }

  abbrev Ends : ℕ → Result Table Refusal → Type 0
  Ends e (Ok t) = Row s e t.end
  Ends e (Err r) = Unit {0}

  ends_answer : (p e : ℕ) (x : Got (List Cursor)) → Runs s (Continued s) continue (first p e) x → Ends e (answer_of x)
  ends_answer p e (got l c) r = r
  ends_answer p e (refused n o) r = tt

  -- the table's end is reached from the end of its SST over CONTINUEs
  pub table_row : (p e n o : ℕ) → answer_of (table_of s p e) ≡ Ok (record { strings = n; end = o }) → Row s e o
  table_row p e n o h = subst (Ends e) h (ends_answer p e (table_of s p e) (runs_table s (Continued s) continue p e))
