-- The places of the strings after a granted correction. Assumes nothing.
use Prim.Native.Nat.{ℕ, zero, suc, ◌+◌, ◌≤◌}
use mathlib.Core.Path.{◌≡◌, refl, sym, ap, ◌∙◌, subst, subst⁻¹}
use mathlib.Core.List.{List}
use mathlib.Core.Logic.{◌⊎◌, inl, inr}
use native.Mathlib.Omega.{arith}
use lib.ListN.{length}
use Rattle.byte_numbers.specs.Bytes.{u16_at}
use Rattle.byte_numbers.proofs.Laws.{Same, num_same}
use Rattle.record.proofs.Laws.{whole}
use Rattle.segments.specs.declared.Cursor.{Cursor}
use Rattle.segments.specs.Segments.{Got, got, list_of}
use Rattle.segments.proofs.Local.{continues_kept}
use Rattle.steps.specs.Items.{nth}
use Rattle.std.specs.Prelude.{Ok}
use Rattle.refusal.specs.Refused.{refuse}
use Rattle.strings.specs.Table.{table_of, answer_of, places_of, fetched_of, buffer_of}
use Rattle.strings.proofs.Local.{table_same}
use Rattle.value.specs.declared.Field.{Field}
use Rattle.new_value.specs.declared.NewValue.{NewValue}
use Rattle.new_value.specs.Change.{Held}
use Rattle.globals.specs.declared.Globals.{Globals}
use Rattle.workbook.specs.Check.{Right, checked_of, on_checked}
use Rattle.reading.specs.Reading.{strings_at}
use Rattle.correction.specs.Correction.{correction_of, writes, stream_after}
use Rattle.fetch.specs.Fetch.{answer_in, buffer_in}
use Rattle.record_chain.proofs.Chain.{reach_ahead}
use Rattle.record_chain.proofs.Sheets.{passing}
use Rattle.record_chain.proofs.Table.{table_reach}
use Rattle.passes_after.specs.Granted.{Granted}
use Rattle.passes_after.proofs.Granted.{granted}
use Rattle.passes_after.proofs.Upheld.{upheld}
use Rattle.reads_after.proofs.Fields.{inside, same_before}
use Rattle.reads_after.proofs.Found.{reach_found, corrected}
use Rattle.reads_after.proofs.Strings.{Table, Tabled, globals_tabled, strings_kept}
use Rattle.string_places.specs.Places.{places_at, filled_of, fill_of, table_after, through_of, buffer_through}
use Rattle.string_places.specs.Places as places
use Rattle.string_places.proofs.Filling.{places_none, places_some}
use Rattle.string_places.proofs.Claims.{given, through_filled, buffer_filled}
use Rattle.claims.specs.Tables.{SameTable, Outlives}
use Rattle.claims.proofs.Demand3.{made, one}

-- ---- two streams of one length with the same bytes up to two past the globals
module _ (s s' : List ℕ) (len : length s ≡ length s') (to : ℕ) (same : Same s s' 0 (to + 2)) where
  table_kept : (p : ℕ) → 1 ≤ p → Table s p to → places_at s' p ≡ places_at s p
  table_kept p later t =
      let w = whole s p 0x00FC t.size t.end t.header in
      let l = t.ends in
      let m = reach_ahead s (table_reach s p t.end (record { strings = length t.places; end = t.last.end }) (ap answer_of t.is)) in
      let size : u16_at s (p + 2) ≡ u16_at s' (p + 2) = num_same s s' 2 (p + 2) (λ k i j. same k (omega arith) (omega arith)) in
      let end : p + 4 + u16_at s (p + 2) ≡ t.end = omega arith in
      let is : table_of s p (p + 4 + u16_at s (p + 2)) ≡ got t.places t.last = ap (table_of s p) end ∙ t.is in
      places_some s' p (omega arith)
      ∙ ap (λ (n : ℕ). places_of s' p (p + 4 + n)) (sym size)
      ∙ ap (λ (x : Got (List Cursor)). list_of x)
      (table_same s s' len p (p + 4 + u16_at s (p + 2)) (omega arith) t.places t.last is (λ k i j. same k (omega arith) (omega arith))
      (continues_kept s s' 0 (to + 2) same len t.last.end (omega arith) (omega arith)) ∙ sym is)
      ∙ sym (places_some s p (omega arith))

  positive : (p : ℕ) → (p ≡ 0) ⊎ (1 ≤ p)
  positive zero = inl refl
  positive (suc p) = inr (omega arith)

  places_kept : (g : Globals) → g.at ≡ to → Tabled s g → places_at s' g.table ≡ places_at s g.table
  places_kept g q (inl h) = places_none s' g.table h ∙ sym (places_none s g.table h)
  places_kept g q (inr h) = by (positive g.table)
    where
      by : (g.table ≡ 0) ⊎ (1 ≤ g.table) → places_at s' g.table ≡ places_at s g.table
      by (inl z) = places_none s' g.table z ∙ sym (places_none s g.table z)
      by (inr l) = table_kept g.table l (subst (Table s g.table) q h)

-- ---- a granted correction
module _ (s : List ℕ) (lent sheets n row column : ℕ) (v : NewValue) (f : Field) (p b : ℕ) (held : Held v) (h : correction_of s lent sheets n row column v ≡ writes f p b) where
  abbrev s' : List ℕ
  s' = stream_after s (writes f p b)

  r : Granted s lent n row column v f p b
  r = granted s lent sheets n row column v f p b h

  abbrev g : Globals
  g = r.globals

  len : length s ≡ length s'
  len = (corrected r held).size

  tabled : Tabled s g
  tabled = globals_tabled s lent g (passing s lent g r.passes).globals

  same : Same s s' 0 (g.at + 2)
  same = let c = corrected r held in let l = reach_ahead s (reach_found r) in let k = inside c in same_before c 0 (g.at + 2) (omega arith)

  places_same : places_at s' g.table ≡ places_at s g.table
  places_same = places_kept s s' len g.at same g refl tabled

  strings_same : strings_at s' g.table ≡ strings_at s g.table
  strings_same = strings_kept s s' len g.at same g refl tabled

  passes' : checked_of s' lent ≡ Right g
  passes' = upheld s lent sheets n row column v f p b held h ∙ r.passes

  both_passed : {X : Type 0} (down : ℕ → ℕ → X) (f : List ℕ → Globals → X) → f s' g ≡ f s g → on_checked down (f s') (checked_of s' lent) ≡ on_checked down (f s) (checked_of s lent)
  both_passed down f e = ap (on_checked down (f s')) passes' ∙ e ∙ ap (on_checked down (f s)) (sym r.passes)

  module _ (t : List ℕ) where
    fill_same : fill_of s' lent t ≡ fill_of s lent t
    unfolding fill_of
    fill_same = both_passed refuse (λ a x. filled_of (length t) (places_at a x.table)) (ap (filled_of (length t)) places_same)

    after_same : table_after s' lent t ≡ table_after s lent t
    unfolding table_after
    after_same = both_passed (λ _ _. t) (λ a x. places.table_of t (places_at a x.table)) (ap (places.table_of t) places_same)

    module _ (k : ℕ) (e : fill_of s lent t ≡ Ok k) (i : ℕ) (c : List ℕ) where
      e' : fill_of s' lent t ≡ Ok k
      e' = fill_same ∙ e

      right_one : (x : Globals) (a : List ℕ) → checked_of a lent ≡ Right x → checked_of a lent ≡ Right g → x ≡ g
      right_one x a y z = cc

      globals_one : (given s t lent k e i c).globals ≡ g
      globals_one = right_one (given s t lent k e i c).globals s (given s t lent k e i c).passes r.passes

      globals_one' : (given s' t lent k e' i c).globals ≡ g
      globals_one' = right_one (given s' t lent k e' i c).globals s' (given s' t lent k e' i c).passes passes'

      by_both : {X : Type 0} (f : List ℕ → List ℕ → X) (a : List ℕ → Globals → X) → f s' (table_after s' lent t) ≡ a s' (given s' t lent k e' i c).globals → f s (table_after s lent t) ≡ a s (given s t lent k e i c).globals
          → a s' g ≡ a s g → f s' (table_after s lent t) ≡ f s (table_after s lent t)
      by_both f a p q l = ap (f s') (sym after_same) ∙ p ∙ ap (a s') globals_one' ∙ l ∙ ap (a s) (sym globals_one) ∙ sym q

      through_same : through_of s' (table_after s lent t) i c ≡ through_of s (table_after s lent t) i c
      through_same =
          by_both (λ a x. through_of a x i c) (λ a. answer_in a i c) (through_filled s' t lent k e' i c) (through_filled s t lent k e i c)
          (ap (λ (x : List (List ℕ)). nth x i (fetched_of (length c)) (refuse 11 0)) strings_same)

      buffer_same : buffer_through s' (table_after s lent t) i c ≡ buffer_through s (table_after s lent t) i c
      buffer_same =
          by_both (λ a x. buffer_through a x i c) (λ a. buffer_in a i c) (buffer_filled s' t lent k e' i c) (buffer_filled s t lent k e i c)
          (ap (λ (x : List (List ℕ)). nth x i (buffer_of c) c) strings_same)

-- the stream after a granted correction
pub same_table : SameTable
same_table s lent sheets n row column v t h =
    let m = made h in
    one m (λ a. subst⁻¹ (λ (x : List ℕ). (fill_of x lent a ≡ fill_of s lent a) × (table_after x lent a ≡ table_after s lent a)) m.after
    (fill_same s lent sheets n row column v m.kind m.place m.number h.held m.is a, after_same s lent sheets n row column v m.kind m.place m.number h.held m.is a))

pub outlives : Outlives
outlives s lent sheets n row column v t h =
    let m = made h in
    one m (λ a k e i b. subst⁻¹ (λ (x : List ℕ). (through_of x (table_after s lent a) i b ≡ through_of s (table_after s lent a) i b) × (buffer_through x (table_after s lent a) i b ≡ buffer_through s (table_after s lent a) i b)) m.after
    (through_same s lent sheets n row column v m.kind m.place m.number h.held m.is a k e i b, buffer_same s lent sheets n row column v m.kind m.place m.number h.held m.is a k e i b))
