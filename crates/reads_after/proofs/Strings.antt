-- The shared strings of a corrected stream: the string table lies in the globals, before the record with the value field. Assumes nothing.
use Prim.Native.Nat.{ℕ, ◌+◌, ◌≤◌}
use mathlib.Core.Path.{◌≡◌, refl, sym, ap, ◌∙◌, subst}
use mathlib.Core.List.{List, []}
use mathlib.Core.Logic.{◌⊎◌, inl, inr}
use native.Mathlib.Omega.{arith}
use lib.ListN.{length}
use lib.Dec.{eqb}
use borrow.Author.Tests.{eqb-true}
use Rattle.steps.specs.Choice.{pick}
use Rattle.steps.proofs.Choice.{never, pick_any, pick_by, pick_eq}
use Rattle.steps.specs.Walk.{more, stop}
use Rattle.steps.proofs.Walk.{run_keeps}
use Rattle.byte_numbers.specs.Bytes.{u16_at}
use Rattle.byte_numbers.proofs.Laws.{Same, num_same}
use Rattle.record.specs.declared.Header.{Header}
use Rattle.record.specs.declared.Header.TheVariants.{Record, Cut, End}
use Rattle.record.specs.Record.{header_at}
use Rattle.record.proofs.Laws.{whole}
use Rattle.segments.specs.declared.Cursor.{Cursor}
use Rattle.segments.specs.Segments.{Got, got, refused}
use Rattle.segments.proofs.Local.{continues_kept}
use Rattle.strings.specs.Table.{table_of, answer_of, strings_of}
use Rattle.strings.proofs.Local.{strings_same}
use Rattle.globals.specs.declared.Globals.{Globals}
use Rattle.globals.specs.declared.Step.{Step}
use Rattle.globals.specs.declared.Step.TheVariants.{More, Close}
use Rattle.std.specs.Prelude.{Result, Ok, Err}
use Rattle.refusal.specs.declared.Refusal.{Refusal}
use Rattle.refusal.specs.Refused.{refuse}
use Rattle.globals.specs.Globals.{past, past_table, boundsheet_record, on_table, sst_record, bof_record, eof_record, continue_record, record_in, on_header, step_of, turn, records_from, opened, is_globals_bof, on_first, globals_of}
use Rattle.globals.proofs.Laws.{go, left, falls}
use Rattle.reading.specs.Reading.{strings_at}
use Rattle.record_chain.proofs.Chain.{reach_ahead}
use Rattle.record_chain.proofs.Table.{table_reach}

-- the string table whose SST is at p: it is whole, and ends at or before `to`
pub record Table (s : List ℕ) (p to : ℕ) : Type 0 where
  pub size : ℕ
  pub end : ℕ
  pub places : List Cursor
  pub last : Cursor
  pub header : header_at s p ≡ Record 0x00FC size end
  pub is : table_of s p end ≡ got places last
  pub ends : last.end ≤ to

abbrev pub Tabled : List ℕ → Globals → Type 0
Tabled s v = (v.table ≡ 0) ⊎ Table s v.table v.at

later : (s : List ℕ) (p to up : ℕ) → to ≤ up → (p ≡ 0) ⊎ Table s p to → (p ≡ 0) ⊎ Table s p up
later s p to up l (inl h) = inl h
later s p to up l (inr h) = inr (record { size = h.size; end = h.end; places = h.places; last = h.last; header = h.header; is = h.is; ends = let i = h.ends in omega arith })

abbrev Holds : List ℕ → Result Step Refusal → Type 0
Holds s (Ok (More w)) = Tabled s w
Holds s (Ok (Close w)) = Tabled s w
Holds s (Err r) = Unit {0}

module _ (s : List ℕ) (v : Globals) (h : Tabled s v) (t z e : ℕ) (is : header_at s v.at ≡ Record t z e) where
  kept : Tabled s v → (v.table ≡ 0) ⊎ Table s v.table e
  kept i = let w = whole s v.at t z e is in later s v.table v.at e (omega arith) i

  holds_got : t ≡ 0x00FC → (x : Got (List Cursor)) → table_of s v.at e ≡ x → Holds s (on_table v (answer_of x))
  unfolding past_table
  holds_got q (got l c) i = inr (record { size = z; end = e; places = l; last = c; header = is ∙ ap (λ (n : ℕ). Record n z e) q; is = i; ends = omega arith })
  holds_got q (refused n o) i = tt

  holds_record : Holds s (record_in s v t z e)
  unfolding record_in boundsheet_record sst_record bof_record eof_record continue_record past
  holds_record =
      pick_any (Holds s) _ (pick_any (Holds s) _ (kept h) tt)
      (pick_by (Holds s) (eqb t 0x00FC) (λ q. pick_any (Holds s) _ (holds_got (eqb-true t 0x00FC q) (table_of s v.at e) refl) tt)
      (λ _. pick_any (Holds s) _ tt
      (pick_any (Holds s) _ (pick_any (Holds s) _ tt tt)
      (pick_any (Holds s) _ (pick_any (Holds s) _ (kept h) tt)
      (pick_any (Holds s) _ (pick_any (Holds s) _ tt (kept h))
      (kept h))))))

holds_header : (s : List ℕ) (v : Globals) → Tabled s v → (x : Header) → header_at s v.at ≡ x → Holds s (on_header s v x)
holds_header s v h (Record t z e) i = holds_record s v h t z e i
holds_header s v h Cut i = tt
holds_header s v h End i = tt

holds : (s : List ℕ) (v : Globals) → Tabled s v → Holds s (step_of s v)
unfolding step_of
holds s v h = holds_header s v h (header_at s v.at) refl

module _ (s : List ℕ) (w : Globals) where
  holds_more : (x : Result Step Refusal) → Holds s x → turn x ≡ more w → Tabled s w
  holds_more (Ok (More y)) h e = let i : ◌≡◌ {A = Globals} y w = cc in subst (Tabled s) i h
  holds_more (Ok (Close y)) h e = never (cc)
  holds_more (Err r) h e = never (cc)

  holds_stop : (x : Result Step Refusal) → Holds s x → turn x ≡ stop (Ok w) → Tabled s w
  holds_stop (Ok (More y)) h e = never (cc)
  holds_stop (Ok (Close y)) h e = let i : ◌≡◌ {A = Globals} y w = cc in subst (Tabled s) i h
  holds_stop (Err r) h e = never (cc)

records_tabled : (s : List ℕ) (v w : Globals) → Tabled s v → records_from s v ≡ Ok w → Tabled s w
unfolding records_from
records_tabled s v w h e =
    run_keeps (go s) (refuse 4 (length s)) (left s) (falls s) (Tabled s) (λ a. a ≡ Ok w → Tabled s w)
    (λ u x i j. holds_more s x (step_of s u) (holds s u i) j)
    (λ u a i j l. holds_stop s w (step_of s u) (holds s u i) (j ∙ ap stop l))
    v h e

-- the string table of a stream whose globals hold g
pub globals_tabled : (s : List ℕ) (u : ℕ) (g : Globals) → globals_of s u ≡ Ok g → Tabled s g
unfolding globals_of opened
globals_tabled s u g h = by (header_at s 0) h
  where
    by : (x : Header) → on_first s u x ≡ Ok g → Tabled s g
    by (Record t z e) i =
        pick_by (λ (a : Result Globals Refusal). a ≡ Ok g → Tabled s g) (is_globals_bof s t z)
        (λ _ j. records_tabled s (opened u) g (inl refl) j)
        (λ _ j. never (cc)) i
    by Cut i = never (cc)
    by End i = never (cc)

-- ---- two streams of one length with the same bytes up to two past the globals
module _ (s s' : List ℕ) (len : length s ≡ length s') (to : ℕ) (same : Same s s' 0 (to + 2)) where
  table_kept : (p : ℕ) → Table s p to → strings_at s' p ≡ strings_at s p
  unfolding strings_at
  table_kept p t =
      let w = whole s p 0x00FC t.size t.end t.header in
      let l = t.ends in
      let m = reach_ahead s (table_reach s p t.end (record { strings = length t.places; end = t.last.end }) (ap answer_of t.is)) in
      let size : u16_at s (p + 2) ≡ u16_at s' (p + 2) = num_same s s' 2 (p + 2) (λ k i j. same k (omega arith) (omega arith)) in
      let end : p + 4 + u16_at s (p + 2) ≡ t.end = omega arith in
      let is : table_of s p (p + 4 + u16_at s (p + 2)) ≡ got t.places t.last = ap (table_of s p) end ∙ t.is in
      ap (λ (n : ℕ). pick (eqb p 0) [] (strings_of s' p (p + 4 + n))) (sym size)
      ∙ ap (λ (x : List (List ℕ)). pick (eqb p 0) [] x)
      (sym (strings_same s s' len p (p + 4 + u16_at s (p + 2)) (omega arith) t.places t.last is (λ k i j. same k (omega arith) (omega arith))
      (continues_kept s s' 0 (to + 2) same len t.last.end (omega arith) (omega arith))))

  pub strings_kept : (g : Globals) → g.at ≡ to → Tabled s g → strings_at s' g.table ≡ strings_at s g.table
  unfolding strings_at
  strings_kept g q (inl h) = sym (pick_eq _ [] _ g.table 0 h refl) ∙ pick_eq _ [] _ g.table 0 h refl
  strings_kept g q (inr h) = table_kept g.table (subst (Table s g.table) q h)
