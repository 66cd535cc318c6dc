-- The top-level substreams, one after the other, and the list of their BOFs. Assumes nothing.
use Prim.Native.Nat.{ℕ, ◌+◌, ◌-◌, ◌≤◌, ◌<◌}
use mathlib.Core.Path.{◌≡◌, refl, ap, ◌∙◌, subst}
use mathlib.Core.List.{List, [], ◌∷◌}
use mathlib.Core.Bool.{true, ◌&&◌}
use mathlib.Core.Logic.{⊎_elim}
use native.Mathlib.Omega.{arith}
use lib.ListN.{length}
use lib.Dec.{eqb}
use borrow.Author.Tests.{eqb-true}
use Rattle.steps.proofs.Bools.{and_left, and_right, or_cases}
use Rattle.steps.proofs.Choice.{never, pick_any, pick_by}
use Rattle.record.specs.declared.Header.{Header}
use Rattle.record.specs.declared.Header.TheVariants.{Record, Cut, End}
use Rattle.record.specs.Record.{header_at}
use Rattle.record.proofs.Laws.{whole}
use Rattle.std.specs.Prelude.{Option, None, Some, Result, Ok, Err}
use Rattle.refusal.specs.declared.Refusal.{Refusal}
use Rattle.substream.specs.Substream.{kind_at, substream_in}
use Rattle.substream.proofs.Laws.{onward}
use Rattle.sheet_agreement.specs.declared.SheetKind.{SheetKind}
use Rattle.sheet_agreement.specs.Agreement.{same_kind, Bof, starts}
use Rattle.sheet_agreement.proofs.Laws.{same_kind-true}
use Rattle.top_level.specs.TopLevel.{on_top, top_of, on_ended, on_open, bof_at, bof_item, bofs_from}
use Rattle.record_chain.specs.Chain.{here, on, Reach, Every}
use Rattle.record_chain.specs.Tops.{Substream, Tops, Stands, BofsStand}
use Rattle.record_chain.proofs.Chain.{chain_trans, chain_by, chain_ahead, chain_between, chain_past, over, Keeps, collect_every}
use Rattle.record_chain.proofs.Walks.{substream_reach}

-- ---- what stands where a substream opens: a whole BOF
pub record Opening (s : List ℕ) (x k : ℕ) : Type 0 where
  pub header : header_at s x ≡ Record 0x0809 16 (x + 20)
  pub kind : kind_at s x ≡ k

abbrev Opens : List ℕ → ℕ → Result (Option ℕ) Refusal → Type 0
Opens s x (Ok (Some k)) = Opening s x k
Opens s x (Ok None) = Unit {0}
Opens s x (Err r) = Unit {0}

opens_header : (s : List ℕ) (x : ℕ) (h : Header) → header_at s x ≡ h → Opens s x (on_top s x h)
opens_header s x (Record t z e) h =
    pick_by (Opens s x) (eqb t 0x0809)
    (λ i. pick_by (Opens s x) (eqb z 16)
    (λ j.
    let w = whole s x t z e h in
    let t-is = eqb-true t 0x0809 i in
    let z-is = eqb-true z 16 j in
    let e-is : e ≡ x + 20 = omega arith in
    pick_any (Opens s x) _ tt (record { header = h ∙ (λ m. Record (t-is m) (z-is m) (e-is m)); kind = refl }))
    (λ _. tt))
    (λ _. tt)
opens_header s x Cut h = tt
opens_header s x End h = tt

pub opening : (s : List ℕ) (x k : ℕ) → top_of s x ≡ Ok (Some k) → Opening s x k
unfolding top_of
opening s x k h = subst (Opens s x) h (pick_any (Opens s x) _ tt (opens_header s x (header_at s x) refl))

-- ---- a top-level substream
module _ (s : List ℕ) (u : ℕ) where
  pub substream_ahead : (x e : ℕ) → Substream s u x e → x < e
  substream_ahead x e h = let i = onward 4 s u h.kind x e h.ends in omega arith

  pub substream_one : (x e f : ℕ) → Substream s u x e → Substream s u x f → e ≡ f
  substream_one x e f h i =
      let p = h.opens in
      let q = i.opens in
      let k : h.kind ≡ i.kind = cc in
      let a = h.ends in
      let b : substream_in 4 s u h.kind x ≡ Ok f = ap (λ (j : ℕ). substream_in 4 s u j x) k ∙ i.ends in
      cc

  pub tops_reach_one : (x e : ℕ) → Substream s u x e → Reach s x e
  tops_reach_one x e h = on (over s (opening s x h.kind h.opens).header) (substream_reach 4 s u h.kind x e h.ends)

  -- they are whole records, one after the other
  pub tops_reach : {x y : ℕ} → Tops s u x y → Reach s x y
  tops_reach q = chain_by tops_reach_one q

  -- of two that are reached from one place, the earlier ends before the later starts
  pub tops_apart : {x p q e : ℕ} → Tops s u x p → Tops s u x q → Substream s u p e → p < q → e ≤ q
  tops_apart {x} {p} {q} {e} i j h l =
      chain_ahead substream_ahead substream_one (chain_past substream_ahead substream_one (chain_between substream_ahead substream_one i j (omega arith)) h l)

-- ---- the list of BOFs
module _ (s : List ℕ) (u from : ℕ) where
  abbrev Named : Bof → Type 0
  Named b = Stands s u from b.start b.kind

  named_ended : (x k : ℕ) → Tops s u from x → top_of s x ≡ Ok (Some k) → (a : Result ℕ Refusal) → substream_in 4 s u k x ≡ a → Keeps (Tops s u from) Named (bof_item x (on_ended k a))
  named_ended x k q o (Ok e) h =
      let w : Substream s u x e = record { kind = k; opens = o; ends = h } in
      (record { end = e; tops = q; whole = w; number = refl }, chain_trans q (on w here))
  named_ended x k q o (Err r) h = tt

  named_open : (x : ℕ) → Tops s u from x → (t : Result (Option ℕ) Refusal) → top_of s x ≡ t → Keeps (Tops s u from) Named (bof_item x (on_open s u x t))
  named_open x q (Ok (Some k)) h = named_ended x k q h (substream_in 4 s u k x) refl
  named_open x q (Ok None) h = tt
  named_open x q (Err r) h = tt

  bofs_named : Every Named (bofs_from s u from)
  unfolding bofs_from bof_at
  bofs_named = collect_every (λ x. bof_item x (bof_at s u x)) (Tops s u from) Named (λ x q. named_open x q (top_of s x) refl) (λ x. length s - x) from here

  starts_named : (l : List Bof) (p : ℕ) (k : SheetKind) → Every Named l → starts l p k ≡ true → Stands s u from p k
  unfolding starts
  starts_named [] p k e h = never (cc)
  starts_named (b ∷ l) p k e h =
      ⊎_elim
      (λ i.
      let a = eqb-true b.start p (and_left (eqb b.start p) (same_kind b.kind k) i) in
      let c = same_kind-true b.kind k (and_right (eqb b.start p) (same_kind b.kind k) i) in
      subst (λ (j : SheetKind). Stands s u from p j) c (subst (λ (j : ℕ). Stands s u from j b.kind) a e.0))
      (λ i. starts_named l p k e.1 i)
      (or_cases (eqb b.start p && same_kind b.kind k) (starts l p k) h)

pub bof_stands : BofsStand
bof_stands s u from p j h = starts_named s u from (bofs_from s u from) p j (bofs_named s u from) h
