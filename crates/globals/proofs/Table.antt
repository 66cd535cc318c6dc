-- Where the walk of the globals finds the string table: nowhere, or at an SST whose table is right. Assumes nothing.
use Prim.Native.Nat.{ℕ, ◌+◌, ◌≤◌, ◌<◌}
use mathlib.Core.Path.{◌≡◌, refl, ap, ◌∙◌, subst}
use mathlib.Core.List.{List}
use mathlib.Core.Logic.{◌⊎◌, inl, inr}
use native.Mathlib.Omega.{arith}
use lib.ListN.{length}
use Rattle.std.specs.Prelude.{Result, Ok, Err}
use Rattle.steps.specs.Walk.{more, stop}
use Rattle.steps.proofs.Walk.{run_keeps}
use borrow.Author.Tests.{eqb-true}
use Rattle.steps.proofs.Choice.{never, pick_any, pick_by}
use Rattle.byte_numbers.specs.Bytes.{u16_at}
use Rattle.refusal.specs.declared.Refusal.{Refusal}
use Rattle.refusal.specs.Refused.{refuse}
use Rattle.record.specs.declared.Header.{Header}
use Rattle.record.specs.declared.Header.TheVariants.{Record, Cut, End}
use Rattle.record.specs.Record.{header_at}
use Rattle.record.proofs.Laws.{whole}
use Rattle.strings.specs.declared.Table.{Table}
use Rattle.strings.specs.Table.{table_of, places_of, answer_of}
use Rattle.strings.proofs.Laws.{Accepted, accepted, checked_count}
use Rattle.globals.specs.declared.Globals.{Globals}
use Rattle.globals.specs.declared.Step.{Step}
use Rattle.globals.specs.declared.Step.TheVariants.{More, Close}
use Rattle.globals.specs.Globals.{past, past_table, boundsheet_record, on_table, sst_record, bof_record, eof_record, continue_record, record_in, on_header, step_of, turn, records_from, opened, on_first, globals_of}
use Rattle.globals.proofs.Laws.{go, left, falls}

-- an SST stands at p, whole, and its table has n strings
pub record Stands (s : List ℕ) (p n : ℕ) : Type 0 where
  pub later : 0 < p
  pub within : p + 4 + u16_at s (p + 2) ≤ length s
  pub sst : header_at s p ≡ Record 0x00FC (u16_at s (p + 2)) (p + 4 + u16_at s (p + 2))
  pub table : Accepted s p (p + 4 + u16_at s (p + 2))
  pub count : length (places_of s p (p + 4 + u16_at s (p + 2))) ≡ n

-- u is the unique count where there is no SST
abbrev pub TableTold : List ℕ → ℕ → Globals → Type 0
TableTold s u g = ((g.table ≡ 0) × (g.unique ≡ u)) ⊎ Stands s g.table g.unique

module _ (s : List ℕ) (u : ℕ) where
  abbrev ToldBy : Result Step Refusal → Type 0
  ToldBy (Ok (More w)) = TableTold s u w
  ToldBy (Ok (Close w)) = TableTold s u w
  ToldBy (Err r) = Unit {0}

  module _ (v : Globals) (later : 0 < v.at) (told : TableTold s u v) where
    told_table : (t z e : ℕ) → header_at s v.at ≡ Record t z e → t ≡ 0x00FC → (x : Result Table Refusal) → x ≡ answer_of (table_of s v.at e) → ToldBy (on_table v x)
    unfolding past_table
    told_table t z e q k (Ok x) h =
        let w = whole s v.at t z e q in
        let a = accepted s v.at e x h in
        let c = checked_count s v.at e x h in
        let i : e ≡ v.at + 4 + u16_at s (v.at + 2) = omega arith in
        let j : z ≡ u16_at s (v.at + 2) = w.size in
        inr (record {
          later = later;
          within = omega arith;
          sst = q ∙ (λ l. Record (k l) (j l) (i l));
          table = subst (Accepted s v.at) i a;
          count = subst (λ (k : ℕ). length (places_of s v.at k) ≡ x.strings) i c;
        })
    told_table t z e q k (Err r) h = tt

    told_record : (t z e : ℕ) → header_at s v.at ≡ Record t z e → ToldBy (record_in s v t z e)
    unfolding record_in boundsheet_record sst_record bof_record eof_record continue_record past
    told_record t z e q =
        pick_any ToldBy _ (pick_any ToldBy _ told tt)
        (pick_by ToldBy _ (λ k. pick_any ToldBy _ (told_table t z e q (eqb-true t 0x00FC k) (answer_of (table_of s v.at e)) refl) tt) (λ _.
        (pick_any ToldBy _ tt
        (pick_any ToldBy _ (pick_any ToldBy _ tt tt)
        (pick_any ToldBy _ (pick_any ToldBy _ told tt)
        (pick_any ToldBy _ (pick_any ToldBy _ tt told)
        told))))))

    told_header : (h : Header) → header_at s v.at ≡ h → ToldBy (on_header s v h)
    told_header (Record t z e) h = told_record t z e h
    told_header Cut h = tt
    told_header End h = tt

    told_step : ToldBy (step_of s v)
    unfolding step_of
    told_step = told_header (header_at s v.at) refl

  told_more : (x : Result Step Refusal) → ToldBy x → (w : Globals) → turn x ≡ more w → TableTold s u w
  told_more (Ok (More v)) h w e = let j : v ≡ w = cc in subst (TableTold s u) j h
  told_more (Ok (Close v)) h w e = never (cc)
  told_more (Err r) h w e = never (cc)

  told_close : (x : Result Step Refusal) → ToldBy x → (w : Globals) → turn x ≡ stop (Ok w) → TableTold s u w
  told_close (Ok (More v)) h w e = never (cc)
  told_close (Ok (Close v)) h w e = let j : v ≡ w = cc in subst (TableTold s u) j h
  told_close (Err r) h w e = never (cc)

  told_records : (v : Globals) → 0 < v.at → TableTold s u v → (w : Globals) → records_from s v ≡ Ok w → TableTold s u w
  unfolding records_from
  told_records v l t w h =
      run_keeps (go s) (refuse 4 (length s)) (left s) (falls s) (λ x. (0 < x.at) × TableTold s u x) (λ a. a ≡ Ok w → TableTold s u w)
      (λ x y i j. (let g = falls s x y j in omega arith, told_more (step_of s x) (told_step x i.0 i.1) y j))
      (λ x a i j k. told_close (step_of s x) (told_step x i.0 i.1) w (j ∙ ap stop k))
      v (l, t) h

  told_first : (x : Header) (g : Globals) → on_first s u x ≡ Ok g → TableTold s u g
  unfolding opened
  told_first (Record t z e) g h =
      pick_any (λ (y : Result Globals Refusal). y ≡ Ok g → TableTold s u g) _
      (told_records (opened u) (omega arith) (inl (refl, refl)) g)
      (λ i. never (cc)) h
  told_first Cut g h = never (cc)
  told_first End g h = never (cc)

  pub table_told : (g : Globals) → globals_of s u ≡ Ok g → TableTold s u g
  unfolding globals_of
  table_told g h = told_first (header_at s 0) g h
