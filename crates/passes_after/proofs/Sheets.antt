-- Two streams that agree at each place where the list of sheets comes list the same sheets. Assumes nothing.
use Prim.Native.Nat.{ℕ, ◌+◌, ◌-◌, ◌≤◌}
use mathlib.Core.Path.{◌≡◌, refl, ap, ap₂, ◌∙◌}
use mathlib.Core.List.{List}
use native.Mathlib.Omega.{arith}
use lib.ListN.{length}
use borrow.Author.Tests.{eqb-true, ltb-false}
use Rattle.steps.proofs.Choice.{pick_any, pick_same}
use Rattle.byte_numbers.proofs.Laws.{Same, num_same}
use Rattle.record.specs.declared.Header.{Header}
use Rattle.record.specs.declared.Header.TheVariants.{Record, Cut, End}
use Rattle.record.specs.Record.{header_at}
use Rattle.record.proofs.Laws.{whole, header_same}
use Rattle.sheet_agreement.specs.Agreement.{Sheet}
use Rattle.globals.specs.declared.Boundsheet.{Boundsheet}
use Rattle.globals.specs.declared.Bound.{Bound}
use Rattle.globals.specs.declared.Bound.TheVariants as bound
use Rattle.globals.specs.Sheets.{type_kind, sheet_at, on_bound, bound_at, sheet_item, sheets_from}
use Rattle.record_chain.specs.Chain.{Over}
use Rattle.record_chain.proofs.Chain.{over, Keeps, collect_agree}

module _ (s s' : List ℕ) (len : length s ≡ length s') (P : ℕ → Type 0) (keep : (x e : ℕ) → P x → Over s x e → P e) (head : (x : ℕ) → P x → Same s s' x (x + 4))
    (bounds : (x z e : ℕ) → P x → header_at s x ≡ Record 0x0085 z e → Same s s' x e) where
  sheet_same : (x t z e : ℕ) → P x → header_at s x ≡ Record t z e → t ≡ 0x0085 → 8 ≤ z → sheet_at s x e ≡ sheet_at s' x e
  unfolding sheet_at
  sheet_same x t z e p h i l =
      let w = whole s x t z e h in
      let b = bounds x z e p (h ∙ ap (λ (n : ℕ). Record n z e) i) in
      ap₂ {A = ℕ} {B = ℕ} {C = Boundsheet} (λ m n. record { header = x; position = m; kind = type_kind n; next = e }) (num_same s s' 4 (x + 4) (λ j a c. b j (omega arith) (omega arith))) (b (x + 9) (omega arith) (omega arith))

  bound_by : (x : ℕ) → P x → (h : Header) → header_at s x ≡ h → on_bound s x h ≡ on_bound s' x h
  bound_by x p (Record t z e) h =
      pick_same _ _ _ _ _
      (λ i. pick_same _ _ _ _ _ (λ _. refl) (λ j. ap bound.Sheet (sheet_same x t z e p h (eqb-true t 0x0085 i) (ltb-false z 8 j))))
      (λ _. refl)
  bound_by x p Cut h = refl
  bound_by x p End h = refl

  bound_same : (x : ℕ) → P x → bound_at s x ≡ bound_at s' x
  unfolding bound_at
  bound_same x p = bound_by x p (header_at s x) refl ∙ ap (on_bound s' x) (header_same s s' len x (head x p))

  abbrev On : Bound → Type 0
  On b = Keeps P (λ (x : Sheet). Unit {0}) (sheet_item b)

  bound_on : (x : ℕ) → P x → (h : Header) → header_at s x ≡ h → On (on_bound s x h)
  unfolding sheet_at
  bound_on x p (Record t z e) h =
      let q = keep x e p (over s h) in
      pick_any On _ (pick_any On _ tt (tt, q)) (pick_any On _ tt q)
  bound_on x p Cut h = tt
  bound_on x p End h = tt

  pub sheets_same : (x : ℕ) → P x → sheets_from s x ≡ sheets_from s' x
  unfolding sheets_from bound_at
  sheets_same x p =
      collect_agree (λ x. sheet_item (bound_at s x)) (λ x. sheet_item (bound_at s' x)) P
      (λ x p. ap sheet_item (bound_same x p)) (λ x p. bound_on x p (header_at s x) refl)
      (λ x. length s - x) (λ x. length s' - x) x (ap (λ (n : ℕ). n - x) len) p
