-- The claims. Assumes nothing.
use Prim.Native.Nat.{ℕ, ◌+◌, ◌^◌, ◌≤◌, ◌<◌}
use mathlib.Core.Path.{◌≡◌, refl, sym, ap, ap₂, ◌∙◌, subst}
use mathlib.Core.List.{List, []}
use mathlib.Core.Bool.{Bool, true, false}
use mathlib.Core.Logic.{◌⊎◌, inl, inr}
use native.Mathlib.Omega.{arith}
use lib.ListN.{length, length-map}
use lib.Dec.{eqb}
use borrow.Author.Tests.{eqb-true, eqb-false}
use Rattle.steps.proofs.Choice.{pick_eq, pick_ne}
use Rattle.steps.specs.Items.{nth}
use Rattle.byte_numbers.specs.Bytes.{u16_at, u32_at}
use Rattle.record.specs.declared.Header.TheVariants.{Record}
use Rattle.record.specs.Record.{header_at}
use Rattle.record.proofs.Laws.{whole}
use Rattle.segments.specs.declared.Cursor.{Cursor}
use Rattle.segments.specs.Segments.{Got, got, refused, list_of}
use Rattle.strings.specs.Table.{table_of, places_of, strings_of, first}
use Rattle.strings.proofs.Local.{right}
use Rattle.strings.proofs.Laws.{strings_count}
use Rattle.value.specs.declared.CellValue.TheVariants as value
use Rattle.cell.specs.declared.Cell.{Cell}
use Rattle.globals.specs.declared.Globals.{Globals}
use Rattle.globals.proofs.Table.{Stands, table_told}
use Rattle.workbook.specs.Check.{Right, checked_of, on_checked}
use Rattle.reading.specs.Reading.{strings_at, listed_of, reading_of}
use Rattle.record_chain.specs.Chain.{Every}
use Rattle.record_chain.proofs.Sheets.{passing}
use Rattle.table_texts.specs.Texts.{text_at, the_text, texts_of, AllHold}
use Rattle.table_texts.specs.Written.{sst_body, table_bytes, table_size}
use Rattle.table_texts.proofs.Held.{num_below, texts_hold, kept_hold, kept_few}
use Rattle.table_texts.proofs.Table.{sst_here, read, to_end, table_passes, texts_same, units_same, map_units}
use Rattle.table_texts.proofs.Size.{table_size_lem}
use Rattle.new_stream.specs.Entries.{entries_of}
use Rattle.new_stream.specs.Compact.{texts_in, uses, compact_with}
use Rattle.new_stream.specs.Claims.{Standing, TableAt, IsTable, used_of, TableOf, place_of, Compacted}
use Rattle.new_stream.proofs.Check.{compact_passes}
use Rattle.new_stream.proofs.Check as check
use Rattle.new_stream.proofs.Twice.{counts_again, compact_twice}
use Rattle.new_reading.specs.Retexted.{TextsOf, used_texts, index_of}
use Rattle.new_reading.proofs.Reading.{sheets_retexted}
use Rattle.new_reading.proofs.Texts.{cells_named}
use Rattle.new_table.specs.NewTable.{Bytes, marks_from, old_texts, new_texts, new_table, compacted_of, compact_of}
use Rattle.new_table.specs.Claims.{Given, NewIs, NewPasses, NewTexts, NewSheets, NewNamed, NewTwice}
use Rattle.new_table.proofs.Marks.{kept_all_count, kept_units, kept_every, units_of, texts_few}

-- a table has a u32 of strings
places_few : (s : List ℕ) (p e : ℕ) → Bytes s → length (places_of s p e) < 256 ^ 4
places_few s p e bytes = by (table_of s p e) refl
  where
    by : (x : Got (List Cursor)) → table_of s p e ≡ x → length (list_of x) < 256 ^ 4
    by (got l c) h =
        let a = strings_count s (u32_at s (p + 8)) (first p e) l c (right s p e l c h).read in
        let b = num_below s bytes 4 4 (p + 8) (omega arith) in
        omega arith
    by (refused n o) h = omega arith

table_none : (s : List ℕ) (g : Globals) → g.table ≡ 0 → new_table s g ≡ []
unfolding new_table
table_none s g n = sym (pick_eq [] _ _ g.table 0 n refl)

table_some : (s : List ℕ) (g : Globals) → (g.table ≡ 0 → ⊥) → new_table s g ≡ table_bytes (length (texts_in s (entries_of s))) (new_texts s g)
unfolding new_table
table_some s g n = sym (pick_ne (table_bytes (length (texts_in s (entries_of s))) (new_texts s g)) _ _ g.table 0 n refl)

-- ---- a stream that passes and has a table
module _ (s : List ℕ) (u : ℕ) (g : Globals) (bytes : Bytes s) (ok : checked_of s u ≡ Right g) (some : g.table ≡ 0 → ⊥) where
  abbrev l : List ℕ
  l = texts_in s (entries_of s)

  abbrev total : ℕ
  total = length l

  abbrev end : ℕ
  end = g.table + 4 + u16_at s (g.table + 2)

  stands_by : ((g.table ≡ 0) × (g.unique ≡ u)) ⊎ Stands s g.table g.unique → Stands s g.table g.unique
  stands_by (inl o) = absurd (some o.0)
  stands_by (inr o) = o

  stands : Stands s g.table g.unique
  stands = stands_by (table_told s u g (passing s u g ok).globals)

  texts_count : length (old_texts s g) ≡ g.unique
  texts_count = length-map (places_of s g.table end) (λ (d : Cursor). the_text (text_at s d)) ∙ stands.count

  pub new_count : length (new_texts s g) ≡ used_of s g
  new_count = kept_all_count l g.unique (old_texts s g) texts_count

  low : total < 256 ^ 4
  low = let a = texts_few s in let b = (passing s u g ok).short in omega arith

  few : length (new_texts s g) < 256 ^ 4
  few =
      let a = kept_few (marks_from l 0 g.unique) (old_texts s g) in
      let b = texts_count in
      let c = places_few s g.table end bytes in
      let d = stands.count in
      omega arith

  hold : AllHold (new_texts s g)
  hold = kept_hold (marks_from l 0 g.unique) (old_texts s g) (texts_hold s bytes (places_of s g.table end))

  abbrev T : List ℕ
  T = table_bytes total (new_texts s g)

  module _ (t : List ℕ) (q : ℕ) (st : Standing t T q) where
    body_is : u16_at t (q + 2) ≡ length (sst_body total (new_texts s g))
    body_is = let h = whole t q 0x00fc (length (sst_body total (new_texts s g))) (q + 4 + length (sst_body total (new_texts s g))) (sst_here t q total (new_texts s g) st.rest low few hold st.is) in omega arith

    stands_at : TableAt t q (length T) (used_of s g)
    stands_at =
        let r = read t q total (new_texts s g) st.rest low few hold st.is in
        record {
          body = length (sst_body total (new_texts s g));
          header = sst_here t q total (new_texts s g) st.rest low few hold st.is;
          places = r.places;
          cursor = r.to;
          reads = table_passes t q total (new_texts s g) st.rest low few hold st.is st.free;
          count = strings_count t (length (new_texts s g)) (first q (q + 4 + length (sst_body total (new_texts s g)))) r.places r.to r.is ∙ new_count;
          end = to_end t q total (new_texts s g) st.rest low few hold st.is;
        }

    units_are : strings_of t q (q + 4 + u16_at t (q + 2)) ≡ units_of (new_texts s g)
    units_are = ap (λ (n : ℕ). strings_of t q (q + 4 + n)) body_is ∙ units_same t q total (new_texts s g) st.rest low few hold st.is st.free

    texts_are : texts_of t q (q + 4 + u16_at t (q + 2)) ≡ new_texts s g
    texts_are = ap (λ (n : ℕ). texts_of t q (q + 4 + n)) body_is ∙ texts_same t q total (new_texts s g) st.rest low few hold st.is st.free

  size_some : 4 ≤ table_size (new_texts s g)
  unfolding table_size
  size_some = omega arith

  is_table : IsTable T (used_of s g)
  is_table = record {
    some = let a = table_size_lem total (new_texts s g) in let b = size_some in omega arith;
    few = let a = new_count in let b = few in omega arith;
    stands = stands_at;
  }

  old_strings : strings_at s g.table ≡ units_of (old_texts s g)
  unfolding strings_at
  old_strings = sym (pick_ne (strings_of s g.table end) _ _ g.table 0 some refl) ∙ map_units s (places_of s g.table end)

  texts_of_lem : TextsOf s T g
  texts_of_lem n t q st = units_are t q st ∙ kept_units l 0 g.unique (old_texts s g) texts_count ∙ ap (used_texts l 0) (sym old_strings)

-- ---- the hypotheses of the two halves hold of the new table
module _ (s : List ℕ) (u : ℕ) (g : Globals) (bytes : Bytes s) (ok : checked_of s u ≡ Right g) where
  pub new_table_lem : TableOf s (new_table s g) g
  new_table_lem = record {
    table = λ n. subst (λ (x : List ℕ). IsTable x (used_of s g)) (sym (table_some s g n)) (is_table s u g bytes ok n);
    nothing = table_none s g;
  }

  pub new_texts_of : TextsOf s (new_table s g) g
  new_texts_of n = subst (λ (x : List ℕ). TextsOf s x g) (sym (table_some s g n)) (texts_of_lem s u g bytes ok n) n

-- ---- the claims
pub new_is : NewIs
unfolding compact_of
new_is s u g ok = ap (on_checked {A = List ℕ} (λ _ _. []) (compacted_of s)) ok

not_long : (s : List ℕ) (u : ℕ) (g : Globals) → Given s u g → length (compacted_of s g) ≤ 16777216
not_long s u g h = subst (λ (x : List ℕ). length x ≤ 16777216) (new_is s u g h.ok) h.short

pub new_passes : NewPasses
new_passes s u g h = compact_passes s (new_table s g) u g h.few h.ok (new_table_lem s u g h.bytes h.ok) (not_long s u g h)

pub new_sheets : NewSheets
new_sheets s u g h =
    ap (λ (x : List ℕ). (reading_of x u).sheets) (new_is s u g h.ok)
    ∙ sheets_retexted s (new_table s g) u g h.few h.ok (new_table_lem s u g h.bytes h.ok) (not_long s u g h)

pub new_named : NewNamed
new_named s u g h n x i =
    subst (λ (t : List ℕ). Every (λ (c : Cell). (j : ℕ) → c.value ≡ value.Text j → nth (reading_of t u).strings (index_of s (new_table s g) j) (λ y. y) [] ≡ nth (reading_of s u).strings j (λ y. y) []) (listed_of s x))
    (sym (new_is s u g h.ok))
    (cells_named s (new_table s g) u g h.few h.ok (new_table_lem s u g h.bytes h.ok) (new_texts_of s u g h.bytes h.ok) (not_long s u g h) n x i)

module _ (s : List ℕ) (u : ℕ) (g : Globals) (h : Given s u g) (new : Compacted s (new_table s g) u g) where
  abbrev t : List ℕ
  t = compacted_of s g

  abbrev g' : Globals
  g' = new.globals

  abbrev tab : TableOf s (new_table s g) g
  tab = new_table_lem s u g h.bytes h.ok

  counts : (length (texts_in t (entries_of t)) ≡ length (texts_in s (entries_of s))) × ((g.table ≡ 0 → ⊥) → (i : ℕ) → i < used_of s g → uses (texts_in t (entries_of t)) i ≡ true)
  counts = counts_again s (new_table s g) u g h.few h.ok tab (not_long s u g h)

  module _ (some : g.table ≡ 0 → ⊥) where
    standing : Standing t (table_bytes (length (texts_in s (entries_of s))) (new_texts s g)) g'.table
    standing = subst (Standing t (table_bytes (length (texts_in s (entries_of s))) (new_texts s g))) (sym (new.table some).0) (subst (λ (x : List ℕ). Standing t x (place_of s (new_table s g) g.table)) (table_some s g some) (new.stands some))

    texts_again : old_texts t g' ≡ new_texts s g
    texts_again = texts_are s u g h.bytes h.ok some t g'.table standing

    -- all strings of the new table are used
    kept_again : new_texts t g' ≡ new_texts s g
    kept_again =
        kept_every (texts_in t (entries_of t)) 0 g'.unique (old_texts t g')
        (ap length texts_again ∙ new_count s u g h.bytes h.ok some ∙ sym (new.table some).1)
        (λ j a b. counts.1 some j (let c = (new.table some).1 in omega arith))
        ∙ texts_again

    -- the table is not the first record
    later : g'.table ≡ 0 → ⊥
    later z =
        let f = (check.first t u g' (passing t u g' new.passes).globals).header in
        let x = stands_at s u g h.bytes h.ok some t g'.table standing in
        let b : header_at t 0 ≡ Record 0x00FC x.body (g'.table + 4 + x.body) = ap (header_at t) (sym z) ∙ x.header in
        let c : ◌≡◌ {A = ℕ} 0x0809 0x00FC = cc in
        omega arith

  table_by : (b : Bool) → eqb g.table 0 ≡ b → new_table t g' ≡ new_table s g
  table_by true e = let n = eqb-true g.table 0 e in table_none t g' (new.no_table n).0 ∙ sym (table_none s g n)
  table_by false e = let n = eqb-false g.table 0 e in table_some t g' (later n) ∙ ap₂ table_bytes counts.0 (kept_again n) ∙ sym (table_some s g n)

  table_again : new_table t g' ≡ new_table s g
  table_again = table_by (eqb g.table 0) refl

  -- the new stream's table is the same
  again : compacted_of t g' ≡ t
  again = ap (compact_with t) table_again ∙ compact_twice s (new_table s g) u g h.few h.ok tab (not_long s u g h)

pub new_texts_lem : NewTexts
new_texts_lem s u g h new some = ap (λ (x : List ℕ). old_texts x new.globals) (new_is s u g h.ok) ∙ texts_again s u g h new some

pub new_twice : NewTwice
new_twice s u g h =
    let new = new_passes s u g h in
    let is = new_is s u g h.ok in
    ap (λ (x : List ℕ). compact_of x u) is ∙ new_is (compacted_of s g) u new.globals new.passes ∙ again s u g h new ∙ sym is
