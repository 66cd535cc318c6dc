-- The list of the sheets, one record at a time. Assumes nothing.
use Prim.Native.Nat.{ℕ, zero, suc, ◌+◌, ◌-◌, ◌≤◌, ◌<◌}
use mathlib.Core.Path.{◌≡◌, refl, sym, ap, ◌∙◌, subst}
use mathlib.Core.List.{List, [], ◌∷◌}
use native.Mathlib.Omega.{arith}
use lib.ListN.{length}
use borrow.Author.Tests.{ltb-false}
use Rattle.std.specs.Prelude.{Option, None, Some}
use Rattle.steps.proofs.Choice.{never, pick_any, pick_by}
use Rattle.steps.specs.Walk.{Next, more, stop, next}
use Rattle.steps.proofs.Walk.{run_more, run_stop}
use Rattle.steps.specs.Items.{onto}
use Rattle.steps.proofs.Items.{Nearer, collect_step}
use Rattle.record.specs.declared.Header.{Header}
use Rattle.record.specs.declared.Header.TheVariants.{Record, Cut, End}
use Rattle.record.specs.Record.{header_at}
use Rattle.record.proofs.Laws.{Whole, whole}
use Rattle.sheet_agreement.specs.Agreement.{Sheet}
use Rattle.globals.specs.declared.Boundsheet.{Boundsheet}
use Rattle.globals.specs.declared.Bound.{Bound}
use Rattle.globals.specs.declared.Bound.TheVariants as bound
use Rattle.globals.specs.Sheets.{sheet_at, on_bound, bound_at, declared, sheet_item, sheets_from, on_sought, next_sheet_of}

-- the record lies ahead, within the stream
abbrev pub Next-bound : List ℕ → ℕ → Bound → Type 0
Next-bound s p (bound.Sheet b) = (p < b.next) × (b.next ≤ length s) × (b.header + 12 ≤ length s)
Next-bound s p (bound.Other n) = (p < n) × (n ≤ length s)
Next-bound s p bound.Done = Unit {0}

bound_by : (s : List ℕ) (p : ℕ) (x : Header) → header_at s p ≡ x → Next-bound s p (on_bound s p x)
unfolding sheet_at
bound_by s p (Record k z e) h =
    let w : Whole s p k z e = whole s p k z e h in
    pick_any (Next-bound s p) _ (pick_by (Next-bound s p) _ (λ _. tt) (λ i. let j = ltb-false z 8 i in omega arith)) (pick_any (Next-bound s p) _ tt (omega arith))
bound_by s p Cut h = tt
bound_by s p End h = tt

pub next_bound : (s : List ℕ) (p : ℕ) → Next-bound s p (bound_at s p)
unfolding bound_at
next_bound s p = bound_by s p (header_at s p) refl

pub sheet_near : (s : List ℕ) (p : ℕ) (x : Bound) → Next-bound s p x → Nearer (λ p. length s - p) p (sheet_item x)
sheet_near s p (bound.Sheet b) w = omega arith
sheet_near s p (bound.Other n) w = omega arith
sheet_near s p bound.Done w = tt

module _ (s : List ℕ) (p : ℕ) (r : Bound) (is : r ≡ bound_at s p) where
  sheets_by : (x : Bound) → r ≡ x → sheets_from s p ≡ onto (sheet_item x) (λ t. sheets_from s t)
  unfolding sheets_from
  sheets_by x h = collect_step (λ p. sheet_item (bound_at s p)) (λ p. length s - p) (λ p. sheet_near s p (bound_at s p) (next_bound s p)) p ∙ ap (λ (y : Bound). onto (sheet_item y) (λ t. sheets_from s t)) (sym is ∙ h)

  pub sheets_done : r ≡ bound.Done → sheets_from s p ≡ []
  sheets_done h = sheets_by _ h

  pub sheets_skip : (n : ℕ) → r ≡ bound.Other n → sheets_from s p ≡ sheets_from s n
  sheets_skip n h = sheets_by _ h

  pub skip_less : (n : ℕ) → r ≡ bound.Other n → length s - n < length s - p
  skip_less n h = let w : Next-bound s p (bound.Other n) = subst (Next-bound s p) (sym is ∙ h) (next_bound s p) in omega arith

  module _ (b : Boundsheet) (h : r ≡ bound.Sheet b) where
    sheet_ahead : Next-bound s p (bound.Sheet b)
    sheet_ahead = subst (Next-bound s p) (sym is ∙ h) (next_bound s p)

    pub sheets_more : sheets_from s p ≡ declared b ∷ sheets_from s b.next
    sheets_more = sheets_by _ h

    pub sheets_less : length s - b.next < length s - p
    sheets_less = let w = sheet_ahead in omega arith

    -- its 8 bytes of fields lie within the stream
    pub sheet_room : b.header + 12 ≤ length s
    sheet_room = let w = sheet_ahead in omega arith

-- ---- the next sheet
module _ (s : List ℕ) where
  abbrev seek : ℕ → Next ℕ (Option Boundsheet)
  seek p = on_sought (bound_at s p)

  seek_by : (p n : ℕ) (x : Bound) → x ≡ bound_at s p → on_sought x ≡ more n → length s - n < length s - p
  seek_by p n (bound.Sheet b) i e = never (cc)
  seek_by p n (bound.Other m) i e = let j : m ≡ n = cc in let l = skip_less s p (bound.Other m) i m refl in omega arith
  seek_by p n bound.Done i e = never (cc)

  seek_falls : (p n : ℕ) → seek p ≡ more n → length s - n < length s - p
  seek_falls p n h = seek_by p n (bound_at s p) refl h

  pub sought_step : (p : ℕ) → next_sheet_of s p ≡ next (on_sought (bound_at s p)) (λ n. next_sheet_of s n)
  unfolding next_sheet_of
  sought_step p = by (seek p) refl
    where
      by : (x : Next ℕ (Option Boundsheet)) → seek p ≡ x → next_sheet_of s p ≡ next x (λ n. next_sheet_of s n)
      by (more n) h = run_more seek None (λ p. length s - p) seek_falls h
      by (stop a) h = run_stop seek None (λ p. length s - p) seek_falls h

  -- what the next sheet is to the list
  abbrev Told : ℕ → Option Boundsheet → Type 0
  Told p None = sheets_from s p ≡ []
  Told p (Some b) = (sheets_from s p ≡ declared b ∷ sheets_from s b.next) × (p < b.next) × (b.next ≤ length s) × (b.header + 12 ≤ length s)

  told_by : (p : ℕ) → ((n : ℕ) → length s - n < length s - p → Told n (next_sheet_of s n)) → (x : Bound) → bound_at s p ≡ x → Told p (next_sheet_of s p)
  told_by p ih bound.Done i = rw (sought_step p, i) (sheets_done s p _ refl i)
  told_by p ih (bound.Sheet b) i =
      let w = sheet_ahead s p _ refl b i in
      rw (sought_step p, i) (sheets_more s p _ refl b i, w.0, w.1, w.2)
  told_by p ih (bound.Other n) i = rw (sought_step p, i) (later (next_sheet_of s n) (ih n (skip_less s p _ refl n i)))
    where
      w : Next-bound s p (bound.Other n)
      w = subst (Next-bound s p) i (next_bound s p)

      later : (y : Option Boundsheet) → Told n y → Told p y
      later None t = sheets_skip s p _ refl n i ∙ t
      later (Some b) t = (sheets_skip s p _ refl n i ∙ t.0, omega (arith, t.1, w.0), t.2, t.3)

  told_in : (n p : ℕ) → length s - p < n → Told p (next_sheet_of s p)
  told_in zero p l = absurd (omega arith)
  told_in (suc n) p l = told_by p (λ m less. told_in n m (omega arith)) (bound_at s p) refl

  -- what a call of `next_sheet` gave, r
  module _ (p : ℕ) (r : Option Boundsheet) (is : r ≡ next_sheet_of s p) where
    told : (x : Option Boundsheet) → r ≡ x → Told p x
    told x h = subst (Told p) (sym is ∙ h) (told_in (suc (length s - p)) p (omega arith))

    pub sheets_none : r ≡ None → sheets_from s p ≡ []
    sheets_none h = told None h

    module _ (b : Boundsheet) (h : r ≡ Some b) where
      pub sheets_some : sheets_from s p ≡ declared b ∷ sheets_from s b.next
      sheets_some = (told (Some b) h).0

      pub some_less : length s - b.next < length s - p
      some_less = let t = told (Some b) h in omega arith

      pub some_ahead : (p < b.next) × (b.next ≤ length s)
      some_ahead = let t = told (Some b) h in (t.1, t.2)

      -- its 8 bytes of fields lie within the stream
      pub some_room : b.header + 12 ≤ length s
      some_room = (told (Some b) h).3

-- ---- all of them: there are no more than bytes, and the 8 bytes of the fields of each lie within the stream
abbrev pub Roomy : List ℕ → List Sheet → Type 0
Roomy s [] = Unit {0}
Roomy s (x ∷ l) = (x.header + 12 ≤ length s) × Roomy s l

module _ (s : List ℕ) where
  abbrev Fits : ℕ → List Sheet → Type 0
  Fits p l = (length l ≤ length s - p) × Roomy s l

  fits_by : (p : ℕ) → ((n : ℕ) → length s - n < length s - p → Fits n (sheets_from s n)) → (x : Bound) → bound_at s p ≡ x → Fits p (sheets_from s p)
  fits_by p ih bound.Done i = rw (sheets_done s p _ refl i) (omega arith, tt)
  fits_by p ih (bound.Other n) i =
      let l = skip_less s p _ refl n i in
      let f = ih n l in
      rw (sheets_skip s p _ refl n i) (omega arith, f.1)
  fits_by p ih (bound.Sheet b) i =
      let l = sheets_less s p _ refl b i in
      let f = ih b.next l in
      rw (sheets_more s p _ refl b i) (omega arith, (sheet_room s p _ refl b i, f.1))

  fits_in : (n p : ℕ) → length s - p < n → Fits p (sheets_from s p)
  fits_in zero p l = absurd (omega arith)
  fits_in (suc n) p l = fits_by p (λ m less. fits_in n m (omega arith)) (bound_at s p) refl

  pub sheets_few : (p : ℕ) → length (sheets_from s p) ≤ length s - p
  sheets_few p = (fits_in (suc (length s - p)) p (omega arith)).0

  pub sheets_roomy : (p : ℕ) → Roomy s (sheets_from s p)
  sheets_roomy p = (fits_in (suc (length s - p)) p (omega arith)).1

pub ruleset seek_laws = (sought_step, skip_less)
