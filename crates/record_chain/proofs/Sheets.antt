-- The sheets of a stream that passes. Assumes nothing.
use Prim.Native.Nat.{ℕ, zero, suc, ◌-◌, ◌≤◌, ◌<◌}
use mathlib.Core.Path.{◌≡◌, refl, sym, ap, ◌∙◌, subst}
use mathlib.Core.List.{List, [], ◌∷◌}
use mathlib.Core.Bool.{Bool, true, false, not}
use mathlib.Core.Logic.{◌⊎◌, inl, inr}
use native.Mathlib.Omega.{arith}
use lib.ListN.{length}
use lib.Dec.{ltb, eqb}
use borrow.Author.Tests.{ltb-true, ltb-false, eqb-true, eq-eqb, not-true}
use Rattle.steps.proofs.Bools.{and_left, and_right, or_left, or_right}
use Rattle.steps.proofs.Choice.{never, pick_any, pick_by, pick_nlt}
use Rattle.record.specs.declared.Header.{Header}
use Rattle.record.specs.declared.Header.TheVariants.{Record, Cut, End}
use Rattle.record.specs.Record.{header_at}
use Rattle.std.specs.Prelude.{Option, None, Some, Result, Ok, Err}
use Rattle.refusal.specs.declared.Refusal.{Refusal}
use Rattle.sheet_agreement.specs.Agreement.{Sheet, Bof, starts, named, right, judged, claimed, agreement_of}
use Rattle.globals.specs.declared.Globals.{Globals}
use Rattle.globals.specs.declared.Bound.{Bound}
use Rattle.globals.specs.Globals.{globals_of}
use Rattle.globals.specs.Sheets.{sheet_at, on_bound, bound_at, sheet_item, sheets_from, sheets_of}
use Rattle.top_level.specs.TopLevel.{tops_from, bofs_from}
use Rattle.workbook.specs.Check.{Checked, Right, agreed, on_walked, on_globals, checked_of}
use Rattle.record_chain.specs.Chain.{here, on, Reach, Every, Nth, first, next}
use Rattle.record_chain.specs.Tops.{Passing, SheetsStand, SheetsApart}
use Rattle.record_chain.proofs.Chain.{chain_trans, over, every_nth, Keeps, collect_every}
use Rattle.record_chain.proofs.Tops.{bof_stands, tops_apart}

-- ---- a stream that passes
module _ (s : List ℕ) (u : ℕ) (g : Globals) where
  agree_by : (h : Globals) (a : Option ℕ) → agreed h a ≡ Right g → (h ≡ g) × (a ≡ None)
  agree_by h None e = (cc, refl)
  agree_by h (Some o) e = never (cc)

  walked_by : (h : Globals) (w : Result (Unit {0}) Refusal) → on_walked s h w ≡ Right g → (h ≡ g) × (w ≡ Ok tt) × (agreement_of (sheets_of s) (bofs_from s h.unique h.at) ≡ None)
  walked_by h (Ok t) e = let a = agree_by h (agreement_of (sheets_of s) (bofs_from s h.unique h.at)) e in (a.0, refl, a.1)
  walked_by h (Err r) e = never (cc)

  globals_by : length s ≤ 16777216 → (a : Result Globals Refusal) → globals_of s u ≡ a → on_globals s a ≡ Right g → Passing s u g
  globals_by l (Ok h) i e =
      let w = walked_by h (tops_from s h.unique h.at) e in
      subst (Passing s u) w.0 (record { short = l; globals = i; tops = w.1; agree = w.2 })
  globals_by l (Err r) i e = never (cc)

  pub passing : checked_of s u ≡ Right g → Passing s u g
  unfolding checked_of
  passing h =
      pick_by (λ (x : Checked). x ≡ Right g → Passing s u g) (ltb 16777216 (length s))
      (λ _ i. never (cc))
      (λ i j. globals_by (ltb-false 16777216 (length s) i) (globals_of s u) refl j) h

  pub passes : Passing s u g → checked_of s u ≡ Right g
  unfolding checked_of
  passes p =
      sym (pick_nlt (Right g) _ _ _ _ p.short (sym
      (ap (on_globals s) p.globals ∙ ap (on_walked s g) p.tops ∙ ap (agreed g) p.agree)))

-- ---- the sheet list and the substreams agree
-- each sheet is at a BOF of its kind, and no other sheet names that
abbrev pub Apart : List Sheet → Type 0
Apart [] = Unit {0}
Apart (x ∷ l) = Every (λ y. x.position ≡ y.position → ⊥) l × Apart l

module _ (bofs : List Bof) where
  abbrev At : Sheet → Type 0
  At x = starts bofs x.position x.kind ≡ true

  abbrev Free : List Sheet → Sheet → Type 0
  Free earlier x = named earlier x.position ≡ false

  free_first : (x : Sheet) (earlier l : List Sheet) → Every (Free (x ∷ earlier)) l → Every (λ y. x.position ≡ y.position → ⊥) l
  unfolding named
  free_first x earlier [] f = tt
  free_first x earlier (y ∷ l) f = (
    (λ e. let t : named (x ∷ earlier) y.position ≡ true = or_left (eqb x.position y.position) (named earlier y.position) (eq-eqb _ _ e) in let i = f.0 in never (cc)),
    free_first x earlier l f.1,
  )

  free_rest : (x : Sheet) (earlier l : List Sheet) → Every (Free (x ∷ earlier)) l → Every (Free earlier) l
  unfolding named
  free_rest x earlier [] f = tt
  free_rest x earlier (y ∷ l) f = (by (named earlier y.position) refl, free_rest x earlier l f.1)
    where
      by : (b : Bool) → named earlier y.position ≡ b → b ≡ false
      by true e = sym (or_right (eqb x.position y.position) (named earlier y.position) e) ∙ f.0
      by false e = refl

  agreeing : (v : Option ℕ) (earlier l : List Sheet) → judged bofs earlier l v ≡ None → Every At l × Every (Free earlier) l × Apart l
  unfolding judged
  agreeing v earlier [] h = (tt, tt, tt)
  agreeing v earlier (x ∷ l) h =
      pick_by (λ (a : Option ℕ). a ≡ None → Every At (x ∷ l) × Every (Free earlier) (x ∷ l) × Apart (x ∷ l)) (right bofs earlier x)
      (λ r i.
      let rest = agreeing v (x ∷ earlier) l i in
      let a = and_left (starts bofs x.position x.kind) (not (named earlier x.position)) r in
      let b = not-true (named earlier x.position) (and_right (starts bofs x.position x.kind) (not (named earlier x.position)) r) in
      ((a, rest.0), (b, free_rest x earlier l rest.1), (free_first x earlier l rest.1, rest.2)))
      (λ _ i. never (cc)) h

  agreement : (sheets : List Sheet) → agreement_of sheets bofs ≡ None → Every At sheets × Every (Free []) sheets × Apart sheets
  unfolding agreement_of
  agreement sheets h = agreeing (claimed sheets bofs) [] sheets h

-- two sheets of a list name different positions
pub apart_nth : (l : List Sheet) (m n : ℕ) (x y : Sheet) → Apart l → Nth l m x → Nth l n y → (m ≡ n → ⊥) → x.position ≡ y.position → ⊥
apart_nth (z ∷ l) zero zero x y a first first d = λ e. d refl
apart_nth (z ∷ l) zero (suc n) x y a first (next j) d = every_nth (λ y. x.position ≡ y.position → ⊥) a.0 j
apart_nth (z ∷ l) (suc m) zero x y a (next i) first d = λ e. every_nth (λ y. z.position ≡ y.position → ⊥) a.0 i (sym e)
apart_nth (z ∷ l) (suc m) (suc n) x y a (next i) (next j) d = apart_nth l m n x y a.1 i j (λ e. d (ap suc e))
apart_nth [] m n x y a x6 _ d = elim x6 [ ]

pub sheets_stand : SheetsStand
sheets_stand s u g h n x i =
    let p = passing s u g h in
    bof_stands s g.unique g.at x.position x.kind (every_nth (At (bofs_from s g.unique g.at)) (agreement (bofs_from s g.unique g.at) (sheets_of s) p.agree).0 i)

pub sheets_apart : SheetsApart
sheets_apart s u g h m n x y i j d a b =
    let p = passing s u g h in
    let other = apart_nth (sheets_of s) m n x y (agreement (bofs_from s g.unique g.at) (sheets_of s) p.agree).2 i j d in
    by other (ltb x.position y.position) refl
  where
    by : (x.position ≡ y.position → ⊥) → (t : Bool) → ltb x.position y.position ≡ t → (a.end ≤ y.position) ⊎ (b.end ≤ x.position)
    by o true e = inl (tops_apart s g.unique a.tops b.tops a.whole (ltb-true _ _ e))
    by o false e = let l = ltb-false x.position y.position e in inr (tops_apart s g.unique b.tops a.tops b.whole (less x.position y.position l o))
      where
        less : (m n : ℕ) → n ≤ m → (m ≡ n → ⊥) → n < m
        less m n l o = omega arith

-- ---- a sheet's BOUNDSHEET is a whole record, which is reached from where the list begins
pub record Bounded (s : List ℕ) (from : ℕ) (x : Sheet) : Type 0 where
  pub size : ℕ
  pub end : ℕ
  pub reached : Reach s from x.header
  pub header : header_at s x.header ≡ Record 0x0085 size end
  pub long : 8 ≤ size

module _ (s : List ℕ) (from : ℕ) where
  abbrev K : Bound → Type 0
  K b = Keeps (Reach s from) (Bounded s from) (sheet_item b)

  bounded_by : (p : ℕ) → Reach s from p → (h : Header) → header_at s p ≡ h → Keeps (Reach s from) (Bounded s from) (sheet_item (on_bound s p h))
  unfolding sheet_at
  bounded_by p q (Record t z e) h =
      let r = chain_trans q (on (over s h) here) in
      pick_by K (eqb t 0x0085)
      (λ i. pick_by K (ltb z 8) (λ _. tt) (λ j. (record { size = z; end = e; reached = q; header = h ∙ ap (λ (n : ℕ). Record n z e) (eqb-true t 0x0085 i); long = ltb-false z 8 j }, r)))
      (λ _. pick_any K _ tt r)
  bounded_by p q Cut h = tt
  bounded_by p q End h = tt

  pub sheets_bounded : Every (Bounded s from) (sheets_from s from)
  unfolding sheets_from bound_at
  sheets_bounded = collect_every (λ p. sheet_item (bound_at s p)) (Reach s from) (Bounded s from) (λ p q. bounded_by p q (header_at s p) refl) (λ p. length s - p) from here
