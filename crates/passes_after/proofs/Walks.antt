-- Two streams that agree at each place where a walk comes: the walks of the substreams end alike. Assumes nothing.
use Prim.Native.Nat.{ℕ, zero, suc, ◌+◌, ◌-◌, ◌*◌, ◌≤◌}
use mathlib.Core.Path.{◌≡◌, refl, sym, ap, ◌∙◌, subst}
use mathlib.Core.List.{List}
use mathlib.Core.Bool.{Bool, true, false}
use native.Mathlib.Omega.{arith}
use lib.ListN.{length, drop, drop_of_length-le}
use lib.Dec.{leb, eqb}
use borrow.Author.Tests.{leb-true}
use Rattle.steps.specs.Choice.{pick}
use Rattle.steps.proofs.Choice.{never, pick_any, pick_by, pick_true, pick_false, pick_eq}
use Rattle.steps.specs.Walk.{more, stop, run}
use Rattle.steps.proofs.Walk.{run_agree, run_more, run_stop}
use Rattle.byte_numbers.specs.Bytes.{byte_at, num_at}
use Rattle.byte_numbers.proofs.Laws.{num_same}
use Rattle.record.specs.declared.Header.{Header}
use Rattle.record.specs.declared.Header.TheVariants.{Record, Cut, End}
use Rattle.record.specs.Record.{header_at}
use Rattle.record.proofs.Laws.{whole, header_same}
use Rattle.substream.specs.declared.Here.{Here}
use Rattle.substream.specs.declared.Step.{Step}
use Rattle.substream.specs.declared.Step.TheVariants.{More, Open, Close}
use Rattle.std.specs.Prelude.{Option, None, Some, Result, Ok, Err}
use Rattle.refusal.specs.declared.Refusal.{Refusal}
use Rattle.refusal.specs.Refused.{refuse}
use Rattle.substream.specs.Substream.{past_parent, version_at, kind_at, step_of, back, turn, records_from, substream_in}
use Rattle.substream.proofs.Laws.{Inner, Onward, go, left, from_more, from_stop, onward}
use Rattle.sheet_agreement.specs.declared.SheetKind.TheVariants.{Other}
use Rattle.sheet_agreement.specs.Agreement.{same_kind, Bof}
use Rattle.top_level.specs.declared.Found.{Found}
use Rattle.top_level.specs.TopLevel as tops
use Rattle.top_level.proofs.Bofs as tops_laws
use Rattle.record_chain.specs.Chain.{Over, Reach}
use Rattle.record_chain.specs.Tops.{Substream}
use Rattle.record_chain.proofs.Chain.{chain_keeps, over, Keeps, collect_agree}
use Rattle.record_chain.proofs.Walks.{step_leads, reach_more, substream_reach}
use Rattle.record_chain.proofs.Tops.{opening, tops_reach_one}
use Rattle.passes_after.specs.Local.{Moves, Agreeing, SubstreamLocal, TopsLocal}
use Rattle.passes_after.proofs.Zeros.{zeros_from}

-- ---- the walk of the top level ends where only zeros are left, or nothing
abbrev NotEnd : Header → Type 0
NotEnd (Record t z e) = Unit {0}
NotEnd Cut = Unit {0}
NotEnd End = ⊥

abbrev NotDone : Result (Option ℕ) Refusal → Type 0
NotDone (Ok (Some k)) = Unit {0}
NotDone (Ok None) = ⊥
NotDone (Err r) = Unit {0}

module _ (s : List ℕ) (x : ℕ) where
  pub end_is : header_at s x ≡ End → length s ≤ x
  unfolding header_at
  end_is h =
      pick_by (λ (y : Header). y ≡ End → length s ≤ x) (leb (length s) x) (λ t _. leb-true (length s) x t)
      (λ _ i. absurd (subst NotEnd i (pick_any NotEnd _ tt (pick_any NotEnd _ tt (pick_any NotEnd _ tt tt))))) h

  done_by : (h : Header) → header_at s x ≡ h → tops.on_top s x h ≡ Ok None → tops.all_zero (drop x s) ≡ true
  unfolding tops.all_zero
  done_by (Record t z e) h i = absurd (subst NotDone i (pick_any NotDone _ (pick_any NotDone _ (pick_any NotDone _ tt tt) tt) tt))
  done_by Cut h i = absurd (subst NotDone i tt)
  done_by End h i = ap tops.all_zero (drop_of_length-le s (end_is h))

  pub done_zeros : tops.top_of s x ≡ Ok None → tops.all_zero (drop x s) ≡ true
  unfolding tops.top_of
  done_zeros h =
      pick_by (λ (y : Result (Option ℕ) Refusal). y ≡ Ok None → tops.all_zero (drop x s) ≡ true) (tops.all_zero (drop x s))
      (λ t _. t) (λ _ i. done_by (header_at s x) refl i) h

module _ (s s' : List ℕ) (u : ℕ) (P : ℕ → Type 0) (same : Agreeing s s' u P) where
  pub keeps_reach : {x y : ℕ} → Reach s x y → P x → P y
  keeps_reach q p = chain_keeps P same.keep q p

  -- ---- a substream
  -- where a walk of s ends, that of s' ends there
  abbrev Ends : Inner → Inner → Type 0
  Ends inner inner' = (b e : ℕ) → P b → Over s b (b + 20) → inner b ≡ Ok e → inner' b ≡ Ok e

  module _ (inner inner' : Inner) (on : Onward inner s) (reach : (b e : ℕ) → inner b ≡ Ok e → Reach s (b + 20) e) (inside : Ends inner inner') (k e : ℕ) where
    -- the walk from v ends at e
    abbrev Ending : Here → Type 0
    Ending v = P v.at × (records_from inner s k u v ≡ Ok e)

    never_stops : (v : Here) (r : Refusal) → records_from inner s k u v ≡ Ok e → go inner s k u v ≡ stop (Err r) → ⊥
    never_stops v r h i = let f = from_stop inner s on k u v (Err r) i in never (cc)

    back_same : (v : Here) → Ending v → step_of s k u v ≡ Ok (Open v.at) → Over s v.at (v.at + 20) → (a : Result ℕ Refusal) → inner v.at ≡ a → inner v.at ≡ inner' v.at
    back_same v p o w (Ok f) i = i ∙ sym (inside v.at f p.0 w i)
    back_same v p o w (Err r) i = absurd (never_stops v r p.1 (ap (turn inner) o ∙ ap back i))

    turn_same : (v : Here) → Ending v → (x : Result Step Refusal) → step_of s k u v ≡ x → turn inner x ≡ turn inner' (step_of s' k u v)
    turn_same v p (Ok (More w)) i = ap (turn inner') (sym i ∙ same.step k v p.0 (subst Moves (sym i) tt))
    turn_same v p (Ok (Open b)) i =
        let l = step_leads s k u v (Ok (Open b)) i in
        let j : step_of s k u v ≡ Ok (Open v.at) = i ∙ ap (λ (c : ℕ). Ok (Open c)) l.0 in
        ap (λ (c : ℕ). back (inner c)) l.0 ∙ ap back (back_same v p j l.1 (inner v.at) refl)
        ∙ ap (turn inner') (sym j ∙ same.step k v p.0 (subst Moves (sym i) tt))
    turn_same v p (Ok (Close f)) i = ap (turn inner') (sym i ∙ same.step k v p.0 (subst Moves (sym i) tt))
    turn_same v p (Err r) i = absurd (never_stops v r p.1 (ap (turn inner) i))

    from_same : (v : Here) → Ending v → records_from inner' s' k u v ≡ Ok e
    unfolding records_from
    from_same v p =
        sym (run_agree (go inner s k u) (go inner' s' k u) (refuse 4 (length s)) Ending
        (λ v p. turn_same v p (step_of s k u v) refl)
        (λ v w p h. (keeps_reach (reach_more inner s on reach k u v w (step_of s k u v) (step_leads s k u v _ refl) h) p.0, sym (from_more inner s on k u v w h) ∙ p.1))
        (left s) (left s') v (ap (λ (n : ℕ). n - v.at) same.len) p
        ∙ ap (λ (n : ℕ). run (go inner' s' k u) (refuse 4 n) (left s') v) same.len)
        ∙ p.1

  version_same : (b : ℕ) → P b → version_at s b ≡ version_at s' b
  version_same b p = num_same s s' 2 (b + 4) (λ j i l. same.head b p j (omega arith) (omega arith))

  substream_same : (d k b e : ℕ) → P b → Over s b (b + 20) → substream_in d s u k b ≡ Ok e → substream_in d s' u k b ≡ Ok e
  unfolding substream_in
  substream_same zero k b e p o h = never (cc)
  substream_same (suc d) k b e p o h =
      pick_by (λ (a : Result ℕ Refusal). a ≡ Ok e → pick (eqb (version_at s' b) 0x0600) (records_from (substream_in d s' u 0x0020) s' k u (past_parent (b + 20))) (refuse 6 b) ≡ Ok e) (eqb (version_at s b) 0x0600)
      (λ t i.
      sym (pick_true (Ok e) _ _ _ (ap (λ (n : ℕ). eqb n 0x0600) (sym (version_same b p)) ∙ t)
      (sym (from_same (substream_in d s u 0x0020) (substream_in d s' u 0x0020) (onward d s u 0x0020) (λ c f j. substream_reach d s u 0x0020 c f j)
      (λ c f q w j. substream_same d 0x0020 c f q w j) k e (past_parent (b + 20)) (same.keep b (b + 20) p o, i)))))
      (λ _ i. never (cc)) h

  -- ---- the top level
  header_at_lem : (x : ℕ) → P x → header_at s x ≡ header_at s' x
  header_at_lem x p = header_same s s' same.len x (λ j i l. same.head x p j i (omega arith))

  -- a BOF's first byte is no zero
  bof_not_zero : (x : ℕ) → P x → header_at s x ≡ Record 0x0809 16 (x + 20) → (b : Bool) → tops.all_zero (drop x s') ≡ b → b ≡ false
  unfolding num_at
  bof_not_zero x p h true i =
      let w = whole s x 0x0809 16 (x + 20) h in
      let a : byte_at s' x ≡ 0 = zeros_from s' x i x (omega arith) in
      let c : byte_at s x ≡ byte_at s' x = same.head x p x (omega arith) (omega arith) in
      let y : 0x0809 ≡ byte_at s x + 256 * (byte_at s (x + 1) + 256 * 0) = w.kind in
      absurd (omega arith)
  bof_not_zero x p h false i = refl

  open_same : (x k : ℕ) → P x → tops.top_of s x ≡ Ok (Some k) → tops.top_of s' x ≡ Ok (Some k)
  unfolding tops.top_of
  open_same x k p h =
      let o = opening s x k h in
      let some = (tops_laws.opens s x (Ok (Some k)) (sym h)).1 in
      let kind : kind_at s' x ≡ k = sym (num_same s s' 2 (x + 6) (λ j i l. same.head x p j (omega arith) (omega arith))) ∙ o.kind in
      sym (pick_false (Ok (Some k)) (Ok None) _ _ (bof_not_zero x p o.header (tops.all_zero (drop x s')) refl)
      (sym (ap (tops.on_top s' x) (sym (header_at_lem x p) ∙ o.header) ∙ opens kind some)))
    where
      opens : kind_at s' x ≡ k → same_kind (tops.bof_kind k) Other ≡ false → tops.on_top s' x (Record 0x0809 16 (x + 20)) ≡ Ok (Some k)
      opens i some =
          sym (pick_eq (Ok (Some k)) _ _ 0x0809 0x0809 refl (pick_eq (Ok (Some k)) _ _ 16 16 refl (pick_false (Ok (Some k)) _ _ _ (ap (λ (n : ℕ). same_kind (tops.bof_kind n) Other) i ∙ some) (ap (λ (n : ℕ). Ok (Some n)) (sym i)))))

  done_same : (x : ℕ) → P x → tops.top_of s x ≡ Ok None → tops.top_of s' x ≡ Ok None
  unfolding tops.top_of
  done_same x p h = sym (pick_true (Ok None) (Ok None) _ _ (same.zeros x p (done_zeros s x h)) refl)

  -- the walk from x passes
  abbrev Passes : ℕ → Type 0
  Passes x = P x × (tops.tops_from s u x ≡ Ok tt)

  refused_not : (x : ℕ) (r : Refusal) → tops.tops_from s u x ≡ Ok tt → tops_laws.go s u x ≡ stop (Err r) → ⊥
  unfolding tops.tops_from
  refused_not x r h i =
      let f = run_stop (tops_laws.go s u) (refuse 4 (length s)) (λ x. length s - x) (tops_laws.falls s u) i in
      never (cc)

  ended_same : (x k : ℕ) → Passes x → tops.top_of s x ≡ Ok (Some k) → (a : Result ℕ Refusal) → substream_in 4 s u k x ≡ a → substream_in 4 s u k x ≡ substream_in 4 s' u k x
  ended_same x k p h (Ok e) i = i ∙ sym (substream_same 4 k x e p.0 (over s (opening s x k h).header) i)
  ended_same x k p h (Err r) i = absurd (refused_not x r p.1 (ap (tops.turn s u x) h ∙ ap tops.back i))

  top_same : (x : ℕ) → Passes x → (t : Result (Option ℕ) Refusal) → tops.top_of s x ≡ t → tops.turn s u x t ≡ tops.turn s' u x (tops.top_of s' x)
  top_same x p (Ok (Some k)) h = ap tops.back (ended_same x k p h (substream_in 4 s u k x) refl) ∙ ap (tops.turn s' u x) (sym (open_same x k p.0 h))
  top_same x p (Ok None) h = ap (tops.turn s' u x) (sym (done_same x p.0 h))
  top_same x p (Err r) h = absurd (refused_not x r p.1 (ap (tops.turn s u x) h))

  -- a step over a substream
  over_ended : (x e k : ℕ) → tops.top_of s x ≡ Ok (Some k) → (a : Result ℕ Refusal) → substream_in 4 s u k x ≡ a → tops.back a ≡ more e → Substream s u x e
  over_ended x e k h (Ok f) i j = let q : f ≡ e = cc in record { kind = k; opens = h; ends = i ∙ ap Ok q }
  over_ended x e k h (Err r) i j = never (cc)

  over_top : (x e : ℕ) (t : Result (Option ℕ) Refusal) → tops.top_of s x ≡ t → tops.turn s u x t ≡ more e → Substream s u x e
  over_top x e (Ok (Some k)) h i = over_ended x e k h (substream_in 4 s u k x) refl i
  over_top x e (Ok None) h i = never (cc)
  over_top x e (Err r) h i = never (cc)

  passes_on : (x e : ℕ) → Passes x → tops_laws.go s u x ≡ more e → Passes e
  unfolding tops.tops_from
  passes_on x e p h = (
    keeps_reach (tops_reach_one s u x e (over_top x e (tops.top_of s x) refl h)) p.0,
    sym (run_more (tops_laws.go s u) (refuse 4 (length s)) (λ x. length s - x) (tops_laws.falls s u) h) ∙ p.1,
  )

  tops_same : (x : ℕ) → P x → tops.tops_from s u x ≡ Ok tt → tops.tops_from s' u x ≡ Ok tt
  unfolding tops.tops_from
  tops_same x p h =
      sym (run_agree (tops_laws.go s u) (tops_laws.go s' u) (refuse 4 (length s)) Passes (λ x p. top_same x p (tops.top_of s x) refl) (λ x e p h. passes_on x e p h)
      (λ x. length s - x) (λ x. length s' - x) x (ap (λ (n : ℕ). n - x) same.len) (p, h)
      ∙ ap (λ (n : ℕ). run (tops_laws.go s' u) (refuse 4 n) (λ x. length s' - x) x) same.len)
      ∙ h

  -- ---- the list of BOFs
  bof_same : (x : ℕ) → Passes x → (t : Result (Option ℕ) Refusal) → tops.top_of s x ≡ t → tops.on_open s u x t ≡ tops.on_open s' u x (tops.top_of s' x)
  bof_same x p (Ok (Some k)) h = ap (tops.on_ended k) (ended_same x k p h (substream_in 4 s u k x) refl) ∙ ap (tops.on_open s' u x) (sym (open_same x k p.0 h))
  bof_same x p (Ok None) h = ap (tops.on_open s' u x) (sym (done_same x p.0 h))
  bof_same x p (Err r) h = absurd (refused_not x r p.1 (ap (tops.turn s u x) h))

  abbrev On : ℕ → Option Found → Type 0
  On x y = Keeps Passes (λ (b : Bof). Unit {0}) (tops.bof_item x y)

  bof_ended : (x k : ℕ) → Passes x → tops.top_of s x ≡ Ok (Some k) → (a : Result ℕ Refusal) → substream_in 4 s u k x ≡ a → On x (tops.on_ended k a)
  bof_ended x k p h (Ok e) i = (tt, passes_on x e p (ap (tops.turn s u x) h ∙ ap tops.back i))
  bof_ended x k p h (Err r) i = tt

  bof_on : (x : ℕ) → Passes x → (t : Result (Option ℕ) Refusal) → tops.top_of s x ≡ t → On x (tops.on_open s u x t)
  bof_on x p (Ok (Some k)) h = bof_ended x k p h (substream_in 4 s u k x) refl
  bof_on x p (Ok None) h = tt
  bof_on x p (Err r) h = tt

  bofs_same : (x : ℕ) → P x → tops.tops_from s u x ≡ Ok tt → tops.bofs_from s u x ≡ tops.bofs_from s' u x
  unfolding tops.bofs_from tops.bof_at
  bofs_same x p h =
      collect_agree (λ x. tops.bof_item x (tops.bof_at s u x)) (λ x. tops.bof_item x (tops.bof_at s' u x)) Passes
      (λ x p. ap (tops.bof_item x) (bof_same x p (tops.top_of s x) refl))
      (λ x p. bof_on x p (tops.top_of s x) refl)
      (λ x. length s - x) (λ x. length s' - x) x (ap (λ (n : ℕ). n - x) same.len) (p, h)

pub substream_local : SubstreamLocal
substream_local = substream_same

pub tops_local : TopsLocal
tops_local s s' u P same x p h = (tops_same s s' u P same x p h, bofs_same s s' u P same x p h)
