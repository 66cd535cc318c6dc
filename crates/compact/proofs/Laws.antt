-- The functions' laws. Assumes nothing.
use Prim.Native.Nat.{ℕ, ◌+◌, ◌≤◌}
use mathlib.Core.Path.{◌≡◌, refl, sym, ap, ◌∙◌, subst}
use mathlib.Core.List.{List}
use native.Mathlib.Omega.{arith}
use lib.ListN.{length}
use lib.Seq.{length-sets}
use Rattle.segments.specs.Parts.{stored}
use Rattle.table_texts.specs.Written.{table_size}
use Rattle.table_writer.specs.Writing.{with_table}
use Rattle.new_stream.specs.Entries.{entries_of}
use Rattle.new_stream.specs.declared.Fate.{Fate}
use Rattle.new_stream.specs.declared.Fate.TheVariants.{Stays, Goes, Table, Text, Sheet}
use Rattle.new_stream.specs.declared.Entry.{Entry}
use Rattle.new_places.specs.Places.{place_for}
use Rattle.copied_records.specs.Copied.{edited, copied_entry}
use Rattle.new_fields.specs.Edited.{table_change, sheet_change, Good, Roomy}
use Rattle.copied_records.proofs.Editing.{Keeps, Editing}
use Rattle.new_fields.proofs.Laws.{roomy_start}
use Rattle.table_chunks.specs.Chosen.{used_of}
use Rattle.new_fields.specs.Runs.{Reindexed}
use Rattle.compact.specs.declared.plan.Plan.{Plan}
use Rattle.compact.specs.Parts.{bytes_for, tabled, Rewritten}

-- ---- one record
table_keeps : (T : List ℕ) → Keeps (table_change T)
table_keeps T p z Stays o q = refl
table_keeps T p z Goes o q = refl
table_keeps T p z Table o q = length-sets o q T
table_keeps T p z Text o q = refl
table_keeps T p z Sheet o q = refl

pub entry_table : (t : Plan) (p z q : ℕ) (o : List ℕ) (x : Fate) (o' : List ℕ) → x ≡ Table → o' ≡ with_table o q t.total (used_of 0 t.texts) → o' ≡ table_change (bytes_for t) p z x o q
unfolding with_table stored
entry_table t p z q o x o' e h = h ∙ ap (λ (y : Fate). table_change (bytes_for t) p z y o q) (sym e)

pub entry_room : (t : Plan) (x : Fate) (q m : ℕ) → (x ≡ Table → q + t.size ≤ m) → x ≡ Table → q + table_size (used_of 0 t.texts) ≤ m
entry_room t x q m h e = let a = h e in let b = t.sized in omega arith

pub ruleset entry_laws = (entry_table, entry_room)

-- ---- the walk
pub tables_start : (t : Plan) (l : List Entry) (o : List ℕ) → l ≡ entries_of t.texts.stream.now → Roomy t.texts.stream.now t.size (length o) → Editing (Good t.texts.stream.now) (table_change (bytes_for t)) t.size (entries_of t.texts.stream.now) o l 0 o
tables_start t l o i h = roomy_start t.texts.stream.now (table_change (bytes_for t)) t.size l o i (table_keeps (bytes_for t)) h

-- ---- one after the other
pub room_same : (s : List ℕ) (n : ℕ) (o o' : List ℕ) → length o' ≡ length o → Roomy s n (length o) → Roomy s n (length o')
room_same s n o o' e h = subst (Roomy s n) (sym e) h

pub tabled_by : (t : Plan) (o o₁ o₂ : List ℕ) → o₁ ≡ edited (copied_entry t.texts.stream.now) t.size (entries_of t.texts.stream.now) o 0 → o₂ ≡ edited (table_change (bytes_for t)) t.size (entries_of t.texts.stream.now) o₁ 0 → o₂ ≡ tabled t o
unfolding tabled
tabled_by t o o₁ o₂ e f = f ∙ ap (λ (y : List ℕ). edited (table_change (bytes_for t)) t.size (entries_of t.texts.stream.now) y 0) e

pub rewritten_by : (s : List ℕ) (n top : ℕ) (o o₁ o₂ : List ℕ) → Reindexed s n top o o₁ → o₂ ≡ edited (sheet_change s (place_for n (entries_of s))) n (entries_of s) o₁ 0 → Rewritten s n top o o₂
rewritten_by s n top o o₁ o₂ r e = record { middle = o₁; runs = r; is = e }

pub rewritten_after : (s : List ℕ) (t : Plan) (n top : ℕ) (o o₁ o₂ : List ℕ) → o₁ ≡ tabled t o → Rewritten s n top o₁ o₂ → Rewritten s n top (tabled t o) o₂
rewritten_after s t n top o o₁ o₂ e r = subst (λ (y : List ℕ). Rewritten s n top y o₂) e r

pub ruleset write_laws = (room_same, tabled_by, rewritten_by, rewritten_after)
