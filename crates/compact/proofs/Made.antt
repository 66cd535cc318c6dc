-- What is written is the new stream, and the bytes past it stay. Assumes nothing.
use Prim.Native.Nat.{ℕ, ◌+◌, ◌≤◌, ◌<◌}
use mathlib.Core.Path.{◌≡◌, refl, sym, ap, ap₂, ◌∙◌, subst}
use mathlib.Core.List.{List, [], ◌∷◌, ◌++◌, map}
use mathlib.Core.Logic.{◌⊎◌, inl, inr}
use native.Mathlib.Omega.{arith}
use lib.ListN.{length, drop}
use Rattle.steps.proofs.Choice.{pick_ne}
use Rattle.byte_numbers.specs.Bytes.{u16_at, u32_at, bytes_at}
use Rattle.reading.specs.Claims.{Every}
use Rattle.segments.specs.declared.Cursor.{Cursor}
use Rattle.segments.specs.Segments.{Got, got, list_of}
use Rattle.segments.specs.Parts.{Inside, Passes}
use Rattle.strings.specs.Table.{strings, first, table_of, places_of}
use Rattle.strings.proofs.Local.{right}
use Rattle.strings.proofs.Laws.{strings_count}
use Rattle.globals.specs.declared.Globals.{Globals}
use Rattle.globals.proofs.Table.{Stands, table_told}
use Rattle.workbook.specs.Check.{Right, checked_of}
use Rattle.record_chain.proofs.Chain.{every_map}
use Rattle.record_chain.proofs.Sheets.{passing}
use Rattle.table_texts.specs.Texts.{text_at, the_text, texts_of, kept}
use Rattle.table_texts.specs.Written.{table_bytes, table_size}
use Rattle.table_texts.proofs.Size.{table_size_lem}
use Rattle.new_stream.specs.declared.Fate.{Fate}
use Rattle.new_stream.specs.declared.Fate.TheVariants as fate
use Rattle.new_stream.specs.declared.Entry.{Entry}
use Rattle.new_stream.specs.Entries.{size_for, entries_of}
use Rattle.new_stream.specs.Compact.{place_in, texts_in, used_below, compact_with}
use Rattle.new_table.specs.NewTable.{Bytes, marks_from, new_texts, new_table}
use Rattle.new_table.proofs.Claims.{new_count}
use Rattle.table_writer.specs.Writing.{texts_from}
use Rattle.new_places.specs.Places.{sizes, place_for}
use Rattle.copied_records.specs.Copied.{edited, copied_entry}
use Rattle.new_fields.specs.Edited.{table_change, sheet_change}
use Rattle.new_fields.proofs.Places.{place_same}
use Rattle.new_fields.proofs.Whole.{text_to, Stage, stage_copied, stage_table, stage_none, stage_sheets, stage_done, told_below, told_stays, compact_length, Ready}
use Rattle.table_chunks.specs.Chosen.{chosen}
use Rattle.new_fields.proofs.Indices.{reindexed_stage}
use Rattle.compact.specs.Parts.{Rewritten}

-- ---- positions told by the table's size
sheets_are : (s T o : List ℕ) → edited (sheet_change s (place_for (length T) (entries_of s))) (length T) (entries_of s) o 0 ≡ edited (sheet_change s (place_in T (entries_of s))) (length T) (entries_of s) o 0
sheets_are s T o = λ i. edited (sheet_change s (λ p. sym (place_same T (entries_of s) p) i)) (length T) (entries_of s) o 0

-- ---- with a table
pub new_made : (s T o o₁ o' : List ℕ) (top : ℕ) → Ready s T o → 4 ≤ length T → Every (λ (x : Entry). x.fate ≡ fate.Text → u32_at s (x.at + 10) < top) (entries_of s)
    → o₁ ≡ edited (table_change T) (length T) (entries_of s) (edited (copied_entry s) (length T) (entries_of s) o 0) 0 → Rewritten s (length T) top o₁ o' → o' ≡ compact_with s T ++ drop (length (compact_with s T)) o
new_made s T o o₁ o' top r some below first w =
    let n = compact_length s T in
    let post = drop (sizes (length T) (entries_of s)) o in
    let c = edited (copied_entry s) (length T) (entries_of s) o 0 in
    let a = stage_copied s T o r.good (let b = r.room in omega arith) in
    let b = stage_table s T post c a in
    let z : Stage s T (λ (y : List ℕ). y ≡ T) (text_to s T 0) (bytes_at s) post (edited (table_change T) (length T) (entries_of s) c 0) = stage_none s T post _ b in
    let y : Stage s T (λ (y : List ℕ). y ≡ T) (text_to s T 0) (bytes_at s) post o₁ = subst (Stage s T (λ (y : List ℕ). y ≡ T) (text_to s T 0) (bytes_at s) post) (sym first) z in
    let to = w.runs.to in
    let d = reindexed_stage s T post o₁ w.middle top some y w.runs in
    let e = stage_sheets s T (text_to s T to) post w.middle d in
    let up : Every (λ (x : Entry). x.fate ≡ fate.Text → u32_at s (x.at + 10) < w.runs.to) (entries_of s) =
    every_map (λ (x : Entry). x.fate ≡ fate.Text → u32_at s (x.at + 10) < top) (λ (x : Entry). x.fate ≡ fate.Text → u32_at s (x.at + 10) < w.runs.to) (λ x h i. let l = h i in let m = w.runs.past in omega arith) (entries_of s) below in
    w.is ∙ sheets_are s T w.middle
    ∙ stage_done s T (text_to s T to) post _ e (told_below s T to (entries_of s) up)
    ∙ ap (λ (k : ℕ). compact_with s T ++ drop k o) (sym n)

-- ---- without one
table_none : (n : ℕ) (l : List Entry) (o : List ℕ) (q : ℕ) → edited (table_change []) n l o q ≡ o
unfolding edited
table_none n [] o q = refl
table_none n (x ∷ l) o q = ap (λ (y : List ℕ). edited (table_change []) n l y (q + size_for n x.size x.fate)) (one x.fate) ∙ table_none n l o (q + size_for n x.size x.fate)
  where
    one : (y : Fate) → table_change [] x.at x.size y o q ≡ o
    one fate.Stays = refl
    one fate.Goes = refl
    one fate.Table = refl
    one fate.Text = refl
    one fate.Sheet = refl

pub none_made : (s o o₁ o' : List ℕ) → Bytes s → Ready s [] o → o₁ ≡ edited (copied_entry s) 0 (entries_of s) o 0 → o' ≡ edited (sheet_change s (place_for 0 (entries_of s))) 0 (entries_of s) o₁ 0 → o' ≡ compact_with s [] ++ drop (length (compact_with s [])) o
none_made s o o₁ o' bytes r e f =
    let n = compact_length s [] in
    let post = drop (sizes 0 (entries_of s)) o in
    let c = edited (copied_entry s) 0 (entries_of s) o 0 in
    let a = stage_copied s [] o r.good (let b = r.room in omega arith) in
    let b = stage_table s [] post c a in
    let z : Stage s [] (λ (y : List ℕ). y ≡ []) (bytes_at s) (bytes_at s) post o₁ = subst (Stage s [] (λ (y : List ℕ). y ≡ []) (bytes_at s) (bytes_at s) post) (table_none 0 (entries_of s) c 0 ∙ sym e) b in
    let d = stage_sheets s [] (bytes_at s) post o₁ z in
    f ∙ sheets_are s [] o₁ ∙ stage_done s [] (bytes_at s) post _ d (told_stays s [] bytes refl (entries_of s) r.good) ∙ ap (λ (k : ℕ). compact_with s [] ++ drop k o) (sym n)

-- ---- the table of a stream that passes
table_some : (s : List ℕ) (g : Globals) → (g.table ≡ 0 → ⊥) → new_table s g ≡ table_bytes (length (texts_in s (entries_of s))) (new_texts s g)
unfolding new_table
table_some s g n = sym (pick_ne (table_bytes (length (texts_in s (entries_of s))) (new_texts s g)) _ _ g.table 0 n refl)

module _ (s : List ℕ) (u : ℕ) (g : Globals) (bytes : Bytes s) (ok : checked_of s u ≡ Right g) (some : g.table ≡ 0 → ⊥) where
  abbrev end : ℕ
  end = g.table + 4 + u16_at s (g.table + 2)

  stands_by : ((g.table ≡ 0) × (g.unique ≡ u)) ⊎ Stands s g.table g.unique → Stands s g.table g.unique
  stands_by (inl o) = absurd (some o.0)
  stands_by (inr o) = o

  pub stands : Stands s g.table g.unique
  stands = stands_by (table_told s u g (passing s u g ok).globals)

  pub table_low : g.table + 4 + u16_at s (g.table + 2) ≤ length s
  table_low = stands.within

  places_are : table_of s g.table end ≡ got (places_of s g.table end) stands.table.after
  places_are = stands.table.is

  -- nothing on the way through its strings is refused
  read_is : strings s (u32_at s (g.table + 8)) (first g.table end) ≡ got (places_of s g.table end) stands.table.after
  read_is = (right s g.table end (places_of s g.table end) stands.table.after places_are).read

  texts_are : texts_from s (u32_at s (g.table + 8)) (first g.table end) ≡ texts_of s g.table end
  unfolding texts_from
  texts_are = ap (λ (x : Got (List Cursor)). map (λ (d : Cursor). the_text (text_at s d)) (list_of x)) (read_is ∙ sym places_are)

  pub unique_is : u32_at s (g.table + 8) ≡ g.unique
  unique_is = sym (strings_count s (u32_at s (g.table + 8)) (first g.table end) (places_of s g.table end) stands.table.after read_is) ∙ stands.count

  pub old_passes : Passes (strings s g.unique (first g.table (g.table + 4 + u16_at s (g.table + 2))))
  old_passes = subst (λ (n : ℕ). Passes (strings s n (first g.table end))) unique_is (subst Passes (sym read_is) tt)

  pub old_inside : Inside s (first g.table (g.table + 4 + u16_at s (g.table + 2)))
  old_inside =
      let l = (right s g.table end (places_of s g.table end) stands.table.after places_are).long in
      let w = stands.within in
      (omega arith, omega arith)

  chosen_are : chosen s 0 g.unique (first g.table end) ≡ new_texts s g
  chosen_are =
      ap (kept (marks_from (texts_in s (entries_of s)) 0 g.unique))
      (ap (λ (n : ℕ). texts_from s n (first g.table end)) (sym unique_is) ∙ texts_are)

  -- the new table
  pub bytes_are : (n : ℕ) → n ≡ length (texts_in s (entries_of s)) → table_bytes n (chosen s 0 g.unique (first g.table (g.table + 4 + u16_at s (g.table + 2)))) ≡ new_table s g
  bytes_are n e = ap₂ table_bytes e chosen_are ∙ sym (table_some s g some)

  pub size_are : table_size (chosen s 0 g.unique (first g.table (g.table + 4 + u16_at s (g.table + 2)))) ≡ length (new_table s g)
  size_are = ap table_size chosen_are ∙ sym (table_size_lem (length (texts_in s (entries_of s))) (new_texts s g)) ∙ ap length (sym (table_some s g some))

  pub count_are : (n : ℕ) → n ≡ used_below (texts_in s (entries_of s)) g.unique → n ≡ length (chosen s 0 g.unique (first g.table (g.table + 4 + u16_at s (g.table + 2))))
  count_are n e = e ∙ sym (new_count s u g bytes ok some) ∙ ap length (sym chosen_are)
