-- The laws of the top-level walk and of the list of BOFs. Assumes nothing.
use Rattle.std.proofs.Common.{◌≡◌, ℕ, ◌+◌, ◌-◌, ◌≤◌, ◌<◌, Bool, false, List, [], ◌∷◌, Option, None, Some, Result, Ok, Err, length, eqb, refl, sym, ap, ◌∙◌, subst, arith}
use mathlib.Core.Path.{subst⁻¹}
use mathlib.Core.Bool.{true, ◌&&◌}
use Rattle.std.specs.List.{list_all}
use Rattle.steps.specs.Choice.{pick}
use borrow.Author.Tests.{eqb-true}
use Rattle.steps.proofs.Choice.{never, pick_any, pick_by}
use Rattle.steps.specs.Walk.{Next, more, stop, next}
use Rattle.steps.proofs.Walk.{run_more, run_stop}
use Rattle.steps.specs.Items.{onto}
use Rattle.steps.proofs.Items.{Nearer, collect_step}
use Rattle.refusal.specs.declared.Refusal.{Refusal}
use Rattle.refusal.specs.Refused.{refuse}
use Rattle.record.specs.declared.Header.{Header}
use Rattle.record.specs.declared.Header.TheVariants.{Record, Cut, End}
use Rattle.record.specs.Record.{header_at}
use Rattle.record.proofs.Laws.{Whole, whole}
use Rattle.substream.specs.Substream.{substream_in}
use Rattle.substream.proofs.Laws.{onward}
use Rattle.sheet_agreement.specs.declared.SheetKind.TheVariants.{Other}
use Rattle.sheet_agreement.specs.Agreement.{same_kind}
use Rattle.top_level.specs.declared.Found.{Found}
use Rattle.top_level.specs.TopLevel.{all_zero, bof_kind, on_top, top_of, back, turn, tops_from, on_ended, on_open, bof_at, bof_item, bofs_from}

-- ---- zeros
pub zeros_all : (xs : List ℕ) → list_all (λ x. eqb x 0) xs ≡ all_zero xs
unfolding all_zero pick
zeros_all [] = refl
zeros_all (x ∷ xs) = by (eqb x 0) (zeros_all xs)
  where
    by : (a : Bool) → list_all (λ x. eqb x 0) xs ≡ all_zero xs → a && list_all (λ x. eqb x 0) xs ≡ pick a (all_zero xs) false
    by true h = h
    by false h = refl

-- ---- a BOF that is opened is whole and of a kind that may stand there
abbrev pub Opens : List ℕ → ℕ → Result (Option ℕ) Refusal → Type 0
Opens s at (Ok (Some k)) = (at + 20 ≤ length s) × (same_kind (bof_kind k) Other ≡ false)
Opens s at (Ok None) = Unit {0}
Opens s at (Err r) = Unit {0}

opens_header : (s : List ℕ) (at : ℕ) (h : Header) → header_at s at ≡ h → Opens s at (on_top s at h)
opens_header s at (Record t z e) h =
    let w : Whole s at t z e = whole s at t z e h in
    pick_any (Opens s at) _
    (pick_by (Opens s at) _
    (λ i. let j = eqb-true z 16 i in pick_by (Opens s at) _ (λ _. tt) (λ f. (omega arith, f)))
    (λ _. tt))
    tt
opens_header s at Cut h = tt
opens_header s at End h = tt

pub opens : (s : List ℕ) (at : ℕ) (x : Result (Option ℕ) Refusal) → x ≡ top_of s at → Opens s at x
unfolding top_of
opens s at x e = subst⁻¹ (Opens s at) e (pick_any (Opens s at) _ tt (opens_header s at (header_at s at) refl))

pub room_open : (s : List ℕ) (at k : ℕ) → top_of s at ≡ Ok (Some k) → at + 20 ≤ length s
room_open s at k h = (opens s at (Ok (Some k)) (sym h)).0

-- ---- the walk
module _ (s : List ℕ) (u : ℕ) where
  abbrev pub go : ℕ → Next ℕ (Result (Unit {0}) Refusal)
  go at = turn s u at (top_of s at)

  falls_back : (at e k : ℕ) (a : Result ℕ Refusal) → substream_in 4 s u k at ≡ a → back a ≡ more e → (at + 24 ≤ e) × (e ≤ length s)
  falls_back at e k (Ok f) h i = let j : f ≡ e = cc in let g = onward 4 s u k at f h in omega arith
  falls_back at e k (Err r) h i = never (cc)

  pub falls_by : (at e : ℕ) (x : Result (Option ℕ) Refusal) → turn s u at x ≡ more e → (at + 24 ≤ e) × (e ≤ length s)
  falls_by at e (Ok (Some k)) h = falls_back at e k (substream_in 4 s u k at) refl h
  falls_by at e (Ok None) h = never (cc)
  falls_by at e (Err r) h = never (cc)

  pub falls : (at e : ℕ) → go at ≡ more e → length s - e < length s - at
  falls at e h = let g = falls_by at e (top_of s at) h in omega arith

  pub tops_step : (at : ℕ) → tops_from s u at ≡ next (turn s u at (top_of s at)) (λ e. tops_from s u e)
  unfolding tops_from
  tops_step at = by (go at) refl
    where
      by : (x : Next ℕ (Result (Unit {0}) Refusal)) → go at ≡ x → tops_from s u at ≡ next x (λ e. tops_from s u e)
      by (more e) h = run_more go (refuse 4 (length s)) (λ at. length s - at) falls h
      by (stop a) h = run_stop go (refuse 4 (length s)) (λ at. length s - at) falls h

-- ---- the list of BOFs
-- the next BOF is a substream away, 24 bytes at least
abbrev pub Apart : List ℕ → ℕ → Option Found → Type 0
Apart s at (Some f) = (at + 24 ≤ f.end) × (f.end ≤ length s)
Apart s at None = Unit {0}

apart_ended : (s : List ℕ) (u at k : ℕ) (a : Result ℕ Refusal) → substream_in 4 s u k at ≡ a → Apart s at (on_ended k a)
apart_ended s u at k (Ok e) h = let g = onward 4 s u k at e h in omega arith
apart_ended s u at k (Err r) h = tt

apart_by : (s : List ℕ) (u at : ℕ) (x : Result (Option ℕ) Refusal) → Apart s at (on_open s u at x)
apart_by s u at (Ok (Some k)) = apart_ended s u at k (substream_in 4 s u k at) refl
apart_by s u at (Ok None) = tt
apart_by s u at (Err r) = tt

pub apart : (s : List ℕ) (u at : ℕ) → Apart s at (bof_at s u at)
unfolding bof_at
apart s u at = apart_by s u at (top_of s at)

bof_near : (s : List ℕ) (at : ℕ) (x : Option Found) → Apart s at x → Nearer (λ at. length s - at) at (bof_item at x)
bof_near s at (Some f) i = omega arith
bof_near s at None i = tt

module _ (s : List ℕ) (u at : ℕ) (r : Option Found) (is : r ≡ bof_at s u at) where
  bofs_by : (x : Option Found) → r ≡ x → bofs_from s u at ≡ onto (bof_item at x) (λ e. bofs_from s u e)
  unfolding bofs_from
  bofs_by x h =
      collect_step (λ at. bof_item at (bof_at s u at)) (λ at. length s - at) (λ at. bof_near s at (bof_at s u at) (apart s u at)) at
      ∙ ap (λ (y : Option Found). onto (bof_item at y) (λ e. bofs_from s u e)) (sym is ∙ h)

  pub bofs_done : r ≡ None → bofs_from s u at ≡ []
  bofs_done h = bofs_by _ h

  module _ (f : Found) (h : r ≡ Some f) where
    pub bofs_more : bofs_from s u at ≡ record { start = at; kind = f.kind } ∷ bofs_from s u f.end
    bofs_more = bofs_by _ h

    pub bofs_next : Apart s at (Some f)
    bofs_next = subst (Apart s at) (sym is ∙ h) (apart s u at)

    pub bofs_less : length s - f.end < length s - at
    bofs_less = let i = bofs_next in omega arith
