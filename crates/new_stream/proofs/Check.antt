-- The new stream passes the check. Assumes nothing.
use Prim.Native.Nat.{ℕ, ◌^◌, ◌≤◌, ◌<◌}
use mathlib.Core.Path.{◌≡◌, refl, sym, ap, ap₂, ◌∙◌}
use mathlib.Core.List.{List, map}
use mathlib.Core.Bool.{Bool, true, false}
use mathlib.Core.Logic.{◌⊎◌, inl, inr}
use native.Mathlib.Omega.{arith}
use lib.ListN.{length, drop}
use lib.Dec.{eqb}
use borrow.Author.Tests.{eqb-true, eqb-false}
use Rattle.std.specs.Prelude.{None, Result, Ok}
use Rattle.refusal.specs.declared.Refusal.{Refusal}
use Rattle.steps.specs.Choice.{pick}
use Rattle.steps.proofs.Choice.{never, pick_by, pick_eq, pick_true}
use Rattle.byte_numbers.specs.Bytes.{u16_at}
use Rattle.byte_numbers.proofs.Laws.{Same}
use Rattle.record.specs.declared.Header.{Header}
use Rattle.record.specs.declared.Header.TheVariants.{Record, Cut, End}
use Rattle.record.specs.Record.{header_at}
use Rattle.record.proofs.Laws.{whole}
use Rattle.sheet_agreement.specs.Agreement.{Sheet, starts, agreement_of}
use Rattle.globals.specs.declared.Globals.{Globals}
use Rattle.globals.specs.Globals.{records_from, opened, is_globals_bof, on_first, globals_of}
use Rattle.globals.specs.Sheets.{sheets_of}
use Rattle.globals.proofs.Table.{Stands, table_told}
use Rattle.top_level.specs.TopLevel.{bofs_from}
use Rattle.workbook.specs.Check.{Right, checked_of}
use Rattle.record_chain.specs.Tops.{Passing}
use Rattle.record_chain.proofs.Chain.{every_map}
use Rattle.record_chain.proofs.Sheets.{passing, passes}
use Rattle.moved_records.proofs.Moved.{num_moved, header_moved}
use Rattle.new_stream.specs.declared.Entry.{Entry}
use Rattle.new_stream.specs.Entries.{start, entries_of}
use Rattle.new_stream.specs.Compact.{place_in, texts_in, uses, index_in, compact_with}
use Rattle.new_stream.specs.Parts.{Given, View, BofViewed, given_of, Made}
use Rattle.new_stream.proofs.Echoed.{Echoes}
use Rattle.new_stream.specs.Claims.{Standing, used_of, TableOf, place_of, sheet_moved, Compacted, CompactPasses}
use Rattle.new_stream.proofs.Fates.{after_at, after_bof, after_opens}
use Rattle.new_stream.proofs.Records.{opened_at, bof_next, bof_same, bof_header}
use Rattle.new_stream.proofs.Echo.{echo_bof}
use Rattle.new_stream.proofs.Globals.{Tracks, Lands, globals_land}
use Rattle.new_stream.proofs.Tops.{TopsMoved, tops_moved}
use Rattle.new_stream.proofs.Agreement.{every_starts, agreement_moved, agreement_each}
use Rattle.new_stream.proofs.Places.{entries_lie, place_within, used_below_lem, index_none, index_some}

-- ---- the globals' BOF
pub record First (s : List ℕ) (u : ℕ) (g : Globals) : Type 0 where
  pub header : header_at s 0 ≡ Record 0x0809 16 20
  pub version : u16_at s 4 ≡ 0x0600
  pub kind : u16_at s 6 ≡ 0x0005
  pub ends : records_from s (opened u) ≡ Ok g

module _ (s : List ℕ) (u : ℕ) (g : Globals) where
  bof_is : (t z : ℕ) → is_globals_bof s t z ≡ true → (t ≡ 0x0809) × (z ≡ 16) × (u16_at s 4 ≡ 0x0600) × (u16_at s 6 ≡ 0x0005)
  unfolding is_globals_bof pick
  bof_is t z h = by (eqb t 0x0809) (eqb z 16) (eqb (u16_at s 4) 0x0600) (eqb (u16_at s 6) 0x0005) refl refl refl refl h
    where
      by : (a b c d : Bool) → eqb t 0x0809 ≡ a → eqb z 16 ≡ b → eqb (u16_at s 4) 0x0600 ≡ c → eqb (u16_at s 6) 0x0005 ≡ d → pick a (pick b (pick c (pick d true false) false) false) false ≡ true
          → (t ≡ 0x0809) × (z ≡ 16) × (u16_at s 4 ≡ 0x0600) × (u16_at s 6 ≡ 0x0005)
      by true true true true i j k l e = (eqb-true t 0x0809 i, eqb-true z 16 j, eqb-true (u16_at s 4) 0x0600 k, eqb-true (u16_at s 6) 0x0005 l)
      by true true true false i j k l e = never (cc)
      by true true false d i j k l e = never (cc)
      by true false c d i j k l e = never (cc)
      by false b c d i j k l e = never (cc)

  first_by : (x : Header) → header_at s 0 ≡ x → on_first s u x ≡ Ok g → First s u g
  first_by (Record t z e) h i =
      pick_by (λ (a : Result Globals Refusal). a ≡ Ok g → First s u g) (is_globals_bof s t z)
      (λ b j.
      let f = bof_is t z b in
      let w = whole s 0 t z e h in
      let e-is : e ≡ 20 = let z-is = f.1 in omega arith in
      let t-is = f.0 in
      let z-is = f.1 in
      record { header = h ∙ (λ m. Record (t-is m) (z-is m) (e-is m)); version = f.2; kind = f.3; ends = j })
      (λ _ j. never (cc)) i
  first_by Cut h i = never (cc)
  first_by End h i = never (cc)

  pub first : globals_of s u ≡ Ok g → First s u g
  unfolding globals_of
  first h = first_by (header_at s 0) refl h

  pub firsts : First s u g → globals_of s u ≡ Ok g
  unfolding globals_of is_globals_bof
  firsts f = ap (on_first s u) f.header ∙ sym (pick_true (Ok g) _ _ _ (sym (pick_eq true _ _ 0x0809 0x0809 refl (pick_eq true _ _ 16 16 refl (pick_eq true _ _ (u16_at s 4) 0x0600 f.version (pick_eq true _ _ (u16_at s 6) 0x0005 f.kind refl))))) (sym f.ends))

-- ---- the new stream
module _ (s T : List ℕ) (u : ℕ) (g : Globals) (few : u ≤ 256 ^ 4) (ok : checked_of s u ≡ Right g) (tab : TableOf s T g) (short : length (compact_with s T) ≤ 16777216) where
  abbrev l : List Entry
  l = entries_of s

  abbrev t : List ℕ
  t = compact_with s T

  abbrev m : Given
  m = given_of s T

  old : Passing s u g
  old = passing s u g ok

  f : First s u g
  f = first s u g old.globals

  view₀ : View m start 0
  unfolding compact_with
  view₀ = record { within = omega arith; view = refl; counts = λ p _. omega arith; bytes = λ p _. omega arith; used = λ i h. h }

  placed : (p : ℕ) → place_in T l p < 256 ^ 4
  unfolding compact_with
  placed p = let w = place_within s T (index_in s T l) (place_in T l) l (entries_lie s start) p in let c : length (compact_with s T) ≤ 16777216 = short in omega arith

  bof_same₀ : Same (drop 0 s) (drop 0 t) 0 20
  bof_same₀ = bof_same m start 0 view₀ f.header

  tracks : Tracks m (used_of s g) g tab.table placed (opened u) (opened u) (opened_at m start)
  unfolding opened
  tracks = record {
    at = after_at s start 0x0809 20;
    level = after_bof s start 0x0809 20 refl;
    kind = after_opens s start 0x0809 20 refl ∙ f.kind;
    orphan = λ _. refl;
    view = bof_next m start 0 view₀ f.header;
    low = omega arith;
    told = ((λ _. (refl, refl)), (λ n. absurd (n refl)));
  }

  lands : Lands m (used_of s g) g tab.table placed (opened u) (opened u) (opened_at m start)
  lands = globals_land m (used_of s g) g tab.table placed (opened u) (opened u) (opened_at m start) tracks f.ends

  abbrev g' : Globals
  g' = lands.end

  first' : First t u g'
  first' = record {
    header = header_moved s t 0 0 0x0809 16 20 f.header (λ k a b. bof_same₀ k a (omega arith)) (let n = (bof_next m start 0 view₀ f.header).within in omega arith);
    version = sym (num_moved s t 0 0 2 4 20 bof_same₀ (omega arith)) ∙ f.version;
    kind = sym (num_moved s t 0 0 2 6 20 bof_same₀ (omega arith)) ∙ f.kind;
    ends = lands.ends;
  }

  abbrev Fresh : Type 0
  Fresh = (i : ℕ) → uses (texts_in s l) i ≡ true → i < g.unique → index_in s T l i < g'.unique

  old_unique : g.table ≡ 0 → ((g.table ≡ 0) × (g.unique ≡ u)) ⊎ Stands s g.table g.unique → g.unique ≡ u
  old_unique n (inl o) = o.1
  old_unique n (inr o) = let p = o.later in absurd (omega arith)

  fresh_by : (b : Bool) → eqb g.table 0 ≡ b → Fresh × (g'.unique ≤ 256 ^ 4)
  fresh_by true e =
      let n = eqb-true g.table 0 e in
      let a : g'.unique ≡ g.unique = (lands.told.0 n).1 in
      ((λ i h b. let c = index_none s T l i (tab.nothing n) in omega arith), let o = old_unique n (table_told s u g old.globals) in omega arith)
  fresh_by false e =
      let n = eqb-false g.table 0 e in
      let a : g'.unique ≡ used_of s g = (lands.told.1 n).1 in
      let c = (tab.table n).few in
      ((λ i h b. let d = index_some s T l i (tab.table n).some in let k = used_below_lem (texts_in s l) i g.unique h b in omega arith), omega arith)

  fresh : Fresh × (g'.unique ≤ 256 ^ 4)
  fresh = fresh_by (eqb g.table 0) refl

  tops : TopsMoved m g.unique g'.unique fresh.0 fresh.1 g.at 0x0005 g'.at
  tops = tops_moved m g.unique g'.unique fresh.0 fresh.1 g.at 0x0005 g'.at lands.view old.tops

  sheets_are : sheets_of t ≡ map (sheet_moved s T) (sheets_of s)
  unfolding opened
  sheets_are = lands.sheets

  agree : agreement_of (sheets_of t) (bofs_from t g'.unique g'.at) ≡ None
  agree = ap₂ agreement_of sheets_are tops.bofs ∙ agreement_moved m (λ p. refl) (sheets_of s) (bofs_from s g.unique g.at) tops.apart old.agree

  found : (g.table ≡ 0 → ⊥) → Standing t T (place_of s T g.table)
  unfolding opened
  found n = lands.found refl n

  pub compacted : Compacted s T u g
  compacted = record {
    globals = g';
    passes = passes t u g' (record { short = short; globals = firsts t u g' first'; tops = tops.passed; agree = agree });
    no_table = lands.told.0;
    table = lands.told.1;
    stands = λ n. found n;
    sheets = sheets_are;
  }

  pub echoed : Echoes m 0 (entries_of s) (entries_of t)
  unfolding opened
  echoed = echo_bof m start 0 view₀ f.header (bof_header m start 0 view₀ f.header) (lands.echo tops.echo) start record { at = refl; level = refl; kind = refl; gone = λ e. e }

  pub made : Made s T g compacted.globals.unique
  unfolding opened compacted
  made = record {
    fresh = fresh.0;
    small = fresh.1;
    views = every_map (λ (x : Sheet). starts (bofs_from s g.unique g.at) x.position x.kind ≡ true) (λ (x : Sheet). BofViewed m x.position)
        (λ x h. every_starts m (λ p. refl) (BofViewed m) (bofs_from s g.unique g.at) x.position x.kind tops.views h)
        (sheets_of s) (agreement_each m (λ p. refl) (sheets_of s) (bofs_from s g.unique g.at) old.agree);
    bounds = lands.bounds;
  }

pub compact_passes : CompactPasses
compact_passes s T u g few ok tab short = compacted s T u g few ok tab short
