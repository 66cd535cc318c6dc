-- A record of the old stream, at a spot that the new stream shows at q: what stands there, and what comes after it. Assumes nothing.
use Prim.Native.Nat.{ℕ, ◌+◌, ◌-◌, ◌^◌, ◌≤◌, ◌<◌}
use mathlib.Core.Path.{◌≡◌, refl, sym, ap, ◌∙◌, subst}
use mathlib.Core.List.{List, ◌∷◌, ◌++◌}
use mathlib.Core.Bool.{Bool, true, false}
use mathlib.Core.Logic.{◌⊎◌, inl}
use native.Mathlib.Omega.{arith}
use lib.ListN.{length, get_or, drop}
use lib.Dec.{eqb}
use borrow.Author.Tests.{eqb-true, eqb-false, eq-eqb, ne_eqb}
use Rattle.steps.proofs.Choice.{never, pick_nlt}
use Rattle.segments.specs.Segments.{continues}
use Rattle.byte_numbers.specs.Bytes.{u16_at, u32_at}
use Rattle.byte_numbers.proofs.Laws.{Same}
use Rattle.record.specs.declared.Header.TheVariants.{Record}
use Rattle.record.specs.Record.{header_at}
use Rattle.record.proofs.Laws.{Whole, whole}
use Rattle.moved_records.proofs.Views.{num_drop}
use Rattle.moved_records.proofs.Moved.{header_moved}
use Rattle.new_stream.specs.declared.Spot.{Spot}
use Rattle.new_stream.specs.declared.Fate.{Fate}
use Rattle.new_stream.specs.declared.Fate.TheVariants.{Stays, Goes, Table, Text, Sheet}
use Rattle.new_stream.specs.Entries.{fate_of, spot_after, entries_from}
use Rattle.new_stream.specs.Compact.{written}
use Rattle.new_stream.specs.Parts.{Given, View, Ahead}
use Rattle.new_stream.proofs.Entries.{entries_record, entries_bof}
use Rattle.new_stream.proofs.Written.{view_split, view_next, stays_same, text_same, sheet_same, sheet_number}
use Rattle.new_stream.proofs.Fates.{after_at, marks_stay}

abbrev pub spot : ℕ → ℕ → ℕ → Spot
spot at level kind = record { at = at; level = level; kind = kind; gone = false }

-- an equation of spots from those of their parts
pub spot_is : (w : Spot) (at level kind : ℕ) → w.at ≡ at → w.level ≡ level → w.kind ≡ kind → w.gone ≡ false → w ≡ spot at level kind
spot_is w at level kind a b c d = λ i. record { at = a i; level = b i; kind = c i; gone = d i }

-- ---- no CONTINUE stands where another record does
pub continues_not : (s : List ℕ) (p t z e : ℕ) → header_at s p ≡ Record t z e → (t ≡ 0x003C → ⊥) → continues s p ≡ false
unfolding continues
continues_not s p t z e h n =
    let w = whole s p t z e h in
    sym (pick_nlt false _ _ (length s - p) 4 (omega arith) (sym (ne_eqb (u16_at s p) 0x003C (λ i. n (w.kind ∙ i)))))

continues_is : (s : List ℕ) (p z e : ℕ) → header_at s p ≡ Record 0x003C z e → continues s p ≡ true
unfolding continues
continues_is s p z e h = let w = whole s p 0x003C z e h in sym (pick_nlt true _ _ (length s - p) 4 (omega arith) (sym (eq-eqb (u16_at s p) 0x003C (sym w.kind))))

-- ---- a record
module _ (m : Given) (w : Spot) (q ty z e : ℕ) (inside : w.level ≡ 0 → ⊥) (v : View m w q) (h : header_at m.s w.at ≡ Record ty z e) where
  abbrev s : List ℕ
  s = m.s

  abbrev t : List ℕ
  t = m.t

  is : Whole s w.at ty z e
  is = whole s w.at ty z e h

  pub fits : w.at + (4 + z) ≤ length s
  fits = let i = is in omega arith

  pub later : Ahead w (spot_after s w ty e) (4 + z)
  later = let i = is in let a = after_at s w ty e in (omega arith, omega arith)

  abbrev next : Spot
  next = spot_after s w ty e

  pub entries_by : (f : Fate) → fate_of w ty ≡ f → entries_from s w ≡ record { at = w.at; size = 4 + z; fate = f } ∷ entries_from s next
  entries_by f i = entries_record s w ty z e h inside ∙ ap (λ (f : Fate). record { at = w.at; size = 4 + z; fate = f } ∷ entries_from s next) i

  -- it is gone: the new stream shows what comes after it at the same place
  pub gone_next : fate_of w ty ≡ Goes → View m next q
  gone_next i = subst (View m next) (omega arith) (view_next m w next q (4 + z) Goes v (entries_by Goes i) fits later)

  -- it stays
  module _ (i : fate_of w ty ≡ Stays) where
    pub kept_next : View m next (q + (4 + z))
    kept_next = view_next m w next q (4 + z) Stays v (entries_by Stays i) fits later

    pub kept_same : Same (drop w.at s) (drop q t) 0 (4 + z)
    kept_same = stays_same m w next q (4 + z) v fits later (entries_by Stays i)

    pub kept_header : header_at t q ≡ Record ty z (q + (4 + z))
    kept_header =
        let n = kept_next.within in
        let end : q + 4 + z ≡ q + (4 + z) = omega arith in
        header_moved s t w.at q ty z e h (λ k a b. kept_same k a (omega arith)) (omega arith) ∙ ap (Record ty z) end

    -- and is no CONTINUE there, if it is none in the old stream
    pub kept_free : (ty ≡ 0x003C → w.gone ≡ false) → (w.gone ≡ false → continues s w.at ≡ false) → continues t q ≡ false
    kept_free whole-orphan none = by (eqb ty 0x003C) refl
      where
        by : (b : Bool) → eqb ty 0x003C ≡ b → continues t q ≡ false
        by true c =
            let x = eqb-true ty 0x003C c in
            let y : continues s w.at ≡ true = continues_is s w.at z e (h ∙ ap (λ (n : ℕ). Record n z e) x) in
            let n = none (whole-orphan x) in
            never (cc)
        by false c = continues_not t q ty z (q + (4 + z)) kept_header (eqb-false ty 0x003C c)

  -- it gets a new index
  module _ (i : fate_of w ty ≡ Text) where
    pub text_next : View m next (q + (4 + z))
    text_next = view_next m w next q (4 + z) Text v (entries_by Text i) fits later

    pub text_header : header_at t q ≡ Record ty z (q + (4 + z))
    text_header =
        let n = text_next.within in
        let end : q + 4 + z ≡ q + (4 + z) = omega arith in
        header_moved s t w.at q ty z e h (λ k a b. text_same m w next q (4 + z) v fits later (entries_by Text i) k (omega arith) (inl (omega arith))) (omega arith) ∙ ap (Record ty z) end

  -- it gets a new position
  module _ (i : fate_of w ty ≡ Sheet) where
    pub bound_next : View m next (q + (4 + z))
    bound_next = view_next m w next q (4 + z) Sheet v (entries_by Sheet i) fits later

    pub bound_same : (k : ℕ) → k < 4 + z → (k < 4) ⊎ (8 ≤ k) → get_or (drop w.at s) k 0 ≡ get_or (drop q t) k 0
    bound_same = sheet_same m w next q (4 + z) v fits later (entries_by Sheet i)

    pub bound_header : header_at t q ≡ Record ty z (q + (4 + z))
    bound_header =
        let n = bound_next.within in
        let end : q + 4 + z ≡ q + (4 + z) = omega arith in
        header_moved s t w.at q ty z e h (λ k a b. bound_same k (omega arith) (inl b)) (omega arith) ∙ ap (Record ty z) end

    pub bound_number : 4 ≤ z → m.place (u32_at s (w.at + 4)) < 256 ^ 4 → u32_at t (q + 4) ≡ m.place (u32_at s (w.at + 4))
    bound_number l small = sym (num_drop t q 4 4) ∙ sheet_number m w next q (4 + z) v fits later (entries_by Sheet i) (omega arith) small

  -- the new table stands in its place
  module _ (i : fate_of w ty ≡ Table) where
    pub table_next : View m next (q + length m.T)
    table_next = view_next m w next q (4 + z) Table v (entries_by Table i) fits later

    pub table_split : drop q t ≡ m.T ++ written s m.T m.index m.place (entries_from s next)
    table_split = view_split m w next q (4 + z) Table v (entries_by Table i) fits later

-- ---- a BOF, at the top level or inside
abbrev pub opened_at : Given → Spot → Spot
opened_at m w = spot_after m.s w 0x0809 (w.at + 20)

bof_entries : (m : Given) (w : Spot) → header_at m.s w.at ≡ Record 0x0809 16 (w.at + 20) → entries_from m.s w ≡ record { at = w.at; size = 20; fate = Stays } ∷ entries_from m.s (opened_at m w)
bof_entries m w h = by (eqb w.level 0) refl ∙ ap (λ (f : Fate). record { at = w.at; size = 20; fate = f } ∷ entries_from m.s (opened_at m w)) (marks_stay w 0x0809 (inl refl))
  where
    by : (b : Bool) → eqb w.level 0 ≡ b → entries_from m.s w ≡ record { at = w.at; size = 20; fate = fate_of w 0x0809 } ∷ entries_from m.s (opened_at m w)
    by true i = entries_bof m.s w 0x0809 16 (w.at + 20) h (eqb-true w.level 0 i) refl
    by false i = entries_record m.s w 0x0809 16 (w.at + 20) h (eqb-false w.level 0 i)

module _ (m : Given) (w : Spot) (q : ℕ) (v : View m w q) (h : header_at m.s w.at ≡ Record 0x0809 16 (w.at + 20)) where
  bof_fits : w.at + 20 ≤ length m.s
  bof_fits = (whole m.s w.at 0x0809 16 (w.at + 20) h).within

  bof_later : Ahead w (opened_at m w) 20
  bof_later = let a = after_at m.s w 0x0809 (w.at + 20) in (omega arith, omega arith)

  pub bof_next : View m (opened_at m w) (q + 20)
  bof_next = view_next m w (opened_at m w) q 20 Stays v (bof_entries m w h) bof_fits bof_later

  pub bof_same : Same (drop w.at m.s) (drop q m.t) 0 20
  bof_same = stays_same m w (opened_at m w) q 20 v bof_fits bof_later (bof_entries m w h)

  pub bof_header : header_at m.t q ≡ Record 0x0809 16 (q + 20)
  bof_header =
      let n = bof_next.within in
      header_moved m.s m.t w.at q 0x0809 16 (w.at + 20) h (λ j a b. bof_same j a (omega arith)) (omega arith)
      ∙ ap (Record 0x0809 16) (let e : q + 4 + 16 ≡ q + 20 = omega arith in e)
