-- The sheets followed beside the walk: what the place says that they were followed to. Assumes nothing.
use Rattle.std.proofs.Common.{◌≡◌, ℕ, ◌-◌, ◌<◌, ◌&&◌, List, [], ◌∷◌, Option, None, Some, Result, Ok, Err, length, eqb, refl, sym, ap, ◌∙◌, subst, arith}
use borrow.Author.Tests.{eqb-true}
use Rattle.steps.proofs.Bools.{and_left, and_right}
use Rattle.steps.proofs.Choice.{never, pick_by}
use Rattle.steps.specs.Walk.{Next, more, stop, next}
use Rattle.steps.proofs.Walk.{run_more, run_stop, run_keeps}
use Rattle.refusal.specs.declared.Refusal.{Refusal}
use Rattle.refusal.specs.Refused.{refuse}
use Rattle.substream.specs.Substream.{substream_in}
use Rattle.substream.proofs.Laws.{onward}
use Rattle.sheet_agreement.specs.declared.SheetKind.{SheetKind}
use Rattle.sheet_agreement.specs.Agreement.{same_kind, agreement_of}
use Rattle.sheet_agreement.proofs.Laws as list
use Rattle.globals.specs.declared.Boundsheet.{Boundsheet}
use Rattle.globals.specs.Sheets.{next_sheet_of, sheets_from, sheets_of}
use Rattle.globals.proofs.Sheets.{sheets_none, sheets_some}
use Rattle.top_level.specs.declared.Found.{Found}
use Rattle.top_level.specs.TopLevel.{top_of, bof_kind, tops_from, bof_at, bofs_from}
use Rattle.top_level.proofs.Bofs.{room_open, bofs_done, bofs_more, bofs_next, tops_step}
use Rattle.top_level.specs.Tops.{on_sheet, followed, Abreast, on_ended, on_top, tail_from, tail_of}

-- ---- the walk
module _ (s : List ℕ) (u : ℕ) where
  abbrev go : Abreast → Next Abreast (Result (Option ℕ) Refusal)
  go v = on_top s u v (top_of s v.at)

  go_back : (v w : Abreast) (k : ℕ) (a : Result ℕ Refusal) → substream_in 4 s u k v.at ≡ a → on_ended s v k a ≡ more w → length s - w.at < length s - v.at
  go_back v w k (Ok e) h i =
      let j : ◌≡◌ {A = Abreast} (record { at = e; sheets = followed s v.sheets v.at (bof_kind k) }) w = cc in
      let f : e ≡ w.at = ap (λ (x : Abreast). x.at) j in
      let g = onward 4 s u k v.at e h in
      omega arith
  go_back v w k (Err r) h i = never (cc)

  go_by : (v w : Abreast) (x : Result (Option ℕ) Refusal) → on_top s u v x ≡ more w → length s - w.at < length s - v.at
  go_by v w (Ok (Some k)) h = go_back v w k (substream_in 4 s u k v.at) refl h
  go_by v w (Ok None) h = never (cc)
  go_by v w (Err r) h = never (cc)

  go_falls : (v w : Abreast) → go v ≡ more w → length s - w.at < length s - v.at
  go_falls v w h = go_by v w (top_of s v.at) h

  pub tail_step : (v : Abreast) → tail_from s u v ≡ next (on_top s u v (top_of s v.at)) (λ w. tail_from s u w)
  unfolding tail_from
  tail_step v = by (go v) refl
    where
      by : (x : Next Abreast (Result (Option ℕ) Refusal)) → go v ≡ x → tail_from s u v ≡ next x (λ w. tail_from s u w)
      by (more w) h = run_more go (refuse 4 (length s)) (λ v. length s - v.at) go_falls h
      by (stop a) h = run_stop go (refuse 4 (length s)) (λ v. length s - v.at) go_falls h

  pub tail_less : (at e k : ℕ) → substream_in 4 s u k at ≡ Ok e → length s - e < length s - at
  tail_less at e k h = let g = onward 4 s u k at e h in omega arith

pub ruleset tail_laws = (room_open, tail_step, tail_less)

-- ---- a place that the sheets were followed to: the sheet before it names the BOF at `at` of kind k
record Named (s : List ℕ) (p : Option ℕ) (at : ℕ) (k : SheetKind) (n : ℕ) : Type 0 where
  from : ℕ
  stands : p ≡ Some from
  header : ℕ
  is : sheets_from s from ≡ record { header = header; position = at; kind = k } ∷ sheets_from s n

module _ (s : List ℕ) (at : ℕ) (k : SheetKind) (n : ℕ) where
  named_by : (p : ℕ) (x : Option Boundsheet) → x ≡ next_sheet_of s p → on_sheet at k x ≡ Some n → Named s (Some p) at k n
  named_by p None i h = never (cc)
  named_by p (Some b) i h =
      pick_by (λ (y : Option ℕ). y ≡ Some n → Named s (Some p) at k n) (eqb b.position at && same_kind b.kind k)
      (λ j e.
      let here = eqb-true b.position at (and_left (eqb b.position at) (same_kind b.kind k) j) in
      let kind = list.same_kind-true b.kind k (and_right (eqb b.position at) (same_kind b.kind k) j) in
      let next : b.next ≡ n = cc in
      record { from = p; stands = refl; header = b.header; is = sheets_some s p (Some b) i b refl ∙ (λ l. record { header = b.header; position = here l; kind = kind l } ∷ sheets_from s (next l)) })
      (λ _ e. never (cc)) h

  named_says : (p : Option ℕ) → followed s p at k ≡ Some n → Named s p at k n
  unfolding followed
  named_says None h = never (cc)
  named_says (Some p) h = named_by p (next_sheet_of s p) refl h

-- ---- what the walk says: a place, that the sheets before it named all BOFs in their order; so if none comes after it, the two lists agree
pub record Ends (s : List ℕ) (u from : ℕ) (sheets : Option ℕ) : Type 0 where
  pub agree : (p : ℕ) → sheets ≡ Some p → sheets_from s p ≡ [] → None ≡ agreement_of (sheets_of s) (bofs_from s u from)

abbrev pub Tailed : List ℕ → ℕ → ℕ → Result (Option ℕ) Refusal → Type 0
Tailed s u from (Ok sheets) = (Ok tt ≡ tops_from s u from) × Ends s u from sheets
Tailed s u from (Err r) = Err r ≡ tops_from s u from

abbrev Ordered : List ℕ → ℕ → ℕ → ℕ → ℕ → Type 0
Ordered s u from p at = list.Ordered (sheets_of s) (sheets_from s p) (bofs_from s u from) (bofs_from s u at) at

record Follows (s : List ℕ) (u from : ℕ) (v : Abreast) : Type 0 where
  same : tops_from s u from ≡ tops_from s u v.at
  ordered : (p : ℕ) → v.sheets ≡ Some p → Ordered s u from p v.at

module _ (s : List ℕ) (u from : ℕ) where
  follows_start : Follows s u from (record { at = from; sheets = Some 20 })
  follows_start = record {
    same = refl;
    ordered = λ p l. let i : 20 ≡ p = cc in subst (λ (x : ℕ). Ordered s u from x from) i (list.order_start (sheets_of s) (bofs_from s u from) from);
  }

  module _ (v : Abreast) (inv : Follows s u from v) where
    follows_ended : (k e : ℕ) → top_of s v.at ≡ Ok (Some k) → substream_in 4 s u k v.at ≡ Ok e → Follows s u from (record { at = e; sheets = followed s v.sheets v.at (bof_kind k) })
    unfolding bof_at
    follows_ended k e h i =
        let f : Found = record { kind = bof_kind k; end = e } in
        let here : Some f ≡ bof_at s u v.at = rw (h, i) refl in
        let far = bofs_next s u v.at (Some f) here f refl in
        record {
          same = inv.same ∙ tops_step s u v.at ∙ rw (h, i) refl;
          ordered =
              λ n l. (let x = named_says s v.at (bof_kind k) n v.sheets l in
              list.order_again (sheets_of s) (bofs_from s u from) (bofs_from s u e) v.at (bof_kind k) (sheets_from s n) x.header v.at (bof_kind k)
              (rw (x.is, bofs_more s u v.at (Some f) here f refl) at (inv.ordered x.from x.stands)) refl refl e (omega arith));
        }

    more_ended : (w : Abreast) (k : ℕ) → top_of s v.at ≡ Ok (Some k) → (a : Result ℕ Refusal) → substream_in 4 s u k v.at ≡ a → on_ended s v k a ≡ more w → Follows s u from w
    more_ended w k h (Ok e) i d = subst (Follows s u from) (let j : ◌≡◌ {A = Abreast} (record { at = e; sheets = followed s v.sheets v.at (bof_kind k) }) w = cc in j) (follows_ended k e h i)
    more_ended w k h (Err r) i d = never (cc)

    follows_more : (w : Abreast) (x : Result (Option ℕ) Refusal) → top_of s v.at ≡ x → on_top s u v x ≡ more w → Follows s u from w
    follows_more w (Ok (Some k)) h d = more_ended w k h (substream_in 4 s u k v.at) refl d
    follows_more w (Ok None) h d = never (cc)
    follows_more w (Err r) h d = never (cc)

    refused : (y : Result (Option ℕ) Refusal) (r : Refusal) → ◌≡◌ {A = Next Abreast (Result (Option ℕ) Refusal)} (stop (Err r)) (stop y) → Err r ≡ tops_from s u v.at → Tailed s u from y
    refused y r d h = subst (Tailed s u from) (let j : Err r ≡ y = cc in j) (h ∙ sym inv.same)

    ended_stop : (y : Result (Option ℕ) Refusal) (k : ℕ) → top_of s v.at ≡ Ok (Some k) → (a : Result ℕ Refusal) → substream_in 4 s u k v.at ≡ a → on_ended s v k a ≡ stop y → Tailed s u from y
    ended_stop y k h (Ok e) i d = never (cc)
    ended_stop y k h (Err r) i d = refused y r d (sym (tops_step s u v.at ∙ rw (h, i) refl))

    follows_stop : (y x : Result (Option ℕ) Refusal) → top_of s v.at ≡ x → on_top s u v x ≡ stop y → Tailed s u from y
    unfolding bof_at
    follows_stop y (Ok (Some k)) h d = ended_stop y k h (substream_in 4 s u k v.at) refl d
    follows_stop y (Ok None) h d =
        let here : None ≡ bof_at s u v.at = rw h refl in
        let ends : Ends s u from v.sheets = record { agree = λ p l n. list.order_done (sheets_of s) (bofs_from s u from) v.at (rw (n, bofs_done s u v.at None here refl) at (inv.ordered p l)) } in
        subst (Tailed s u from) (let j : Ok v.sheets ≡ y = cc in j) (sym (inv.same ∙ tops_step s u v.at ∙ rw h refl), ends)
    follows_stop y (Err r) h d = refused y r d (sym (tops_step s u v.at ∙ rw h refl))

  pub tail_says : Tailed s u from (tail_of s u from)
  unfolding tail_from
  tail_says =
      run_keeps (go s u) (refuse 4 (length s)) (λ v. length s - v.at) (go_falls s u) (Follows s u from) (Tailed s u from)
      (λ v w i e. follows_more v i w (top_of s v.at) refl e)
      (λ v y i e. follows_stop v i y (top_of s v.at) refl e)
      (record { at = from; sheets = Some 20 }) follows_start

  -- sheets that named the BOFs in their order
  pub settled_agree : (sheets : Option ℕ) (p : ℕ) → Ok sheets ≡ tail_of s u from → sheets ≡ Some p → next_sheet_of s p ≡ None → agreement_of (sheets_of s) (bofs_from s u from) ≡ None
  settled_agree sheets p e i h =
      let walked : Tailed s u from (Ok sheets) = subst (Tailed s u from) (sym e) tail_says in
      sym (walked.1.agree p i (sheets_none s p (next_sheet_of s p) refl h))
