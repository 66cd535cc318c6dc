-- What becomes of the records of a later substream, and what the walk makes of each. Assumes nothing.
use Prim.Native.Nat.{ℕ, ◌+◌, ◌-◌}
use mathlib.Core.Path.{◌≡◌, refl, sym, ap, ◌∙◌, subst}
use mathlib.Core.List.{List}
use mathlib.Core.Bool.{Bool, true, false}
use mathlib.Core.Logic.{◌⊎◌, inl, inr}
use native.Mathlib.Omega.{arith}
use lib.Dec.{eqb}
use borrow.Author.Tests.{eqb-true, eqb-false}
use Rattle.std.specs.Prelude.{Option, Some, None, Result, Ok, Err}
use Rattle.refusal.specs.declared.Refusal.{Refusal}
use Rattle.refusal.specs.Refused.{refuse}
use Rattle.steps.specs.Choice.{pick}
use Rattle.steps.proofs.Choice.{never, pick_any, pick_by, pick_eq, pick_ne, pick_false, pick_same}
use Rattle.cell.specs.declared.Shape.{Shape}
use Rattle.cell.specs.declared.Shape.TheVariants.{LABELSST, FORMULA, OTHER}
use Rattle.cell.specs.Cells.{shape_of, judged as judged_at, judge_of}
use Rattle.segments.specs.declared.Cursor.{Cursor}
use Rattle.segments.specs.Segments.{Got, got, refused}
use Rattle.text_result.specs.TextResult.{has_text, text_of}
use Rattle.reading.proofs.Texts.{has_formula}
use Rattle.substream.specs.declared.Here.{Here}
use Rattle.substream.specs.declared.Step.{Step}
use Rattle.substream.specs.declared.Step.TheVariants.{More, Open, Close}
use Rattle.substream.specs.Substream.{past, past_parent, kind_at, inner_bof, other_record, dimensions_record, on_text, passed_record, on_judged, record_in}
use Rattle.new_stream.specs.declared.Spot.{Spot}
use Rattle.new_stream.specs.declared.Fate.{Fate}
use Rattle.new_stream.specs.declared.Fate.TheVariants.{Stays, Goes, Table, Text, Sheet}
use Rattle.new_stream.specs.Entries.{in_globals, in_later, fate_of, parts, level_after, spot_after}

-- ---- after a record
module _ (s : List ℕ) (w : Spot) (t e : ℕ) where
  pub after_at : (spot_after s w t e).at ≡ e
  unfolding spot_after
  after_at = refl

  pub after_gone : (spot_after s w t e).gone ≡ parts (fate_of w t)
  unfolding spot_after
  after_gone = refl

  pub after_kind : (w.level ≡ 0 → ⊥) → (spot_after s w t e).kind ≡ w.kind
  unfolding spot_after
  after_kind n = sym (pick_ne w.kind _ _ w.level 0 n refl)

  pub after_opens : w.level ≡ 0 → (spot_after s w t e).kind ≡ kind_at s w.at
  unfolding spot_after
  after_opens n = sym (pick_eq (kind_at s w.at) _ _ w.level 0 n refl)

  pub after_plain : (t ≡ 0x0809 → ⊥) → (t ≡ 0x000A → ⊥) → (spot_after s w t e).level ≡ w.level
  unfolding spot_after level_after
  after_plain a b = sym (pick_ne w.level _ _ t 0x0809 a (pick_ne _ _ _ t 0x000A b refl))

  pub after_bof : t ≡ 0x0809 → (spot_after s w t e).level ≡ w.level + 1
  unfolding spot_after level_after
  after_bof a = sym (pick_eq (w.level + 1) _ _ t 0x0809 a refl)

  pub after_eof : t ≡ 0x000A → (spot_after s w t e).level ≡ w.level - 1
  unfolding spot_after level_after
  after_eof a = sym (pick_ne (w.level - 1) _ _ t 0x0809 (λ b. omega arith) (pick_eq _ _ _ t 0x000A a refl))

-- ---- of a record directly in a substream of kind k after the globals
abbrev pub Turns : Spot → ℕ → ℕ → Fate → Type 0
Turns w k t Stays = (t ≡ 0x003C → w.gone ≡ false) × (k ≡ 0x0010 → t ≡ 0x00FD → ⊥)
Turns w k t Goes = (t ≡ 0x003C) ⊎ (t ≡ 0x020B)
Turns w k t Table = ⊥
Turns w k t Text = (k ≡ 0x0010) × (t ≡ 0x00FD)
Turns w k t Sheet = ⊥

pub turns : (w : Spot) (k t : ℕ) → (w.level ≡ 1 → w.kind ≡ k) → ((w.level ≡ 1 → ⊥) → k ≡ 0x0020) → (k ≡ 0x0005 → ⊥) → Turns w k t (fate_of w t)
unfolding fate_of in_later
turns w k t top chart later =
    pick_by (Turns w k t) (eqb t 0x003C)
    (λ i. pick_by (Turns w k t) w.gone (λ _. inl (eqb-true t 0x003C i)) (λ g. ((λ _. g), (λ _ j. let h = eqb-true t 0x003C i in absurd (omega arith)))))
    (λ i. pick_by (Turns w k t) (eqb w.level 1)
    (λ l. let kind = top (eqb-true w.level 1 l) in pick_by (Turns w k t) (eqb w.kind 0x0005)
    (λ j. absurd (later (sym kind ∙ eqb-true w.kind 0x0005 j)))
    (λ _. pick_by (Turns w k t) (eqb t 0x020B) (λ j. inr (eqb-true t 0x020B j))
    (λ _. pick_by (Turns w k t) (eqb w.kind 0x0010)
    (λ j. pick_by (Turns w k t) (eqb t 0x00FD) (λ f. (sym kind ∙ eqb-true w.kind 0x0010 j, eqb-true t 0x00FD f)) (λ f. (plain i, (λ _ x. eqb-false t 0x00FD f x))))
    (λ j. (plain i, (λ x _. eqb-false w.kind 0x0010 j (kind ∙ x)))))))
    (λ l. let h = chart (eqb-false w.level 1 l) in (plain i, (λ x _. absurd (omega arith)))))
  where
    plain : eqb t 0x003C ≡ false → t ≡ 0x003C → w.gone ≡ false
    plain i j = absurd (eqb-false t 0x003C i j)

-- a LABELSST holds a cell
pub label_cell : shape_of 0x00FD ≡ OTHER → ⊥
unfolding shape_of pick
label_cell h = never (cc)

-- a BOF and an EOF stay
pub marks_stay : (w : Spot) (t : ℕ) → (t ≡ 0x0809) ⊎ (t ≡ 0x000A) → fate_of w t ≡ Stays
unfolding fate_of in_globals in_later pick
marks_stay w t (inl h) =
    rw h (pick_any (λ (f : Fate). f ≡ Stays) (eqb w.level 1) (pick_any (λ (f : Fate). f ≡ Stays) (eqb w.kind 0x0005) refl (pick_any (λ (f : Fate). f ≡ Stays) (eqb w.kind 0x0010) refl refl)) refl)
marks_stay w t (inr h) =
    rw h (pick_any (λ (f : Fate). f ≡ Stays) (eqb w.level 1) (pick_any (λ (f : Fate). f ≡ Stays) (eqb w.kind 0x0005) refl (pick_any (λ (f : Fate). f ≡ Stays) (eqb w.kind 0x0010) refl refl)) refl)

-- a record that holds no cell and is no INDEX stays in a worksheet, unless it is a CONTINUE of one that is gone
pub plain_stays : (w : Spot) (t : ℕ) → w.gone ≡ false → (w.level ≡ 1 → w.kind ≡ 0x0010) → shape_of t ≡ OTHER → (t ≡ 0x020B → ⊥) → fate_of w t ≡ Stays
unfolding fate_of in_later
plain_stays w t g worksheet other index =
    pick_by Kept (eqb t 0x003C) (λ _. sym (pick_false Stays _ _ w.gone g refl))
    (λ _. pick_by Kept (eqb w.level 1)
    (λ l. let k = worksheet (eqb-true w.level 1 l) in pick_by Kept (eqb w.kind 0x0005) (λ j. absurd (let i = eqb-true w.kind 0x0005 j in omega arith))
    (λ _. pick_by Kept (eqb t 0x020B) (λ j. absurd (index (eqb-true t 0x020B j)))
    (λ _. pick_any Kept (eqb w.kind 0x0010) (pick_by Kept (eqb t 0x00FD) (λ j. absurd (no_label (eqb-true t 0x00FD j))) (λ _. refl)) refl)))
    (λ _. refl))
  where
    Kept : Fate → Type 0
    Kept f = f ≡ Stays

    no_label : t ≡ 0x00FD → ⊥
    no_label i = label_cell (sym (ap shape_of i) ∙ other)

-- ---- a cell record of its kind is judged
abbrev Told : Result (Option ℕ) Refusal → Type 0
Told (Ok (Some n)) = Unit {0}
Told (Err r) = Unit {0}
Told (Ok None) = ⊥

judged_told : (s : List ℕ) (h : Shape) (p z u : ℕ) → Told (judged_at s h p z u)
unfolding judged_at
judged_told s h p z u = pick_any Told _ tt (pick_any Told _ tt (pick_any Told _ (pick_any Told _ tt tt) tt))

pub label_told : (s : List ℕ) (p z u : ℕ) → judge_of s LABELSST p z u ≡ (Ok None) → ⊥
unfolding judge_of pick
label_told s p z u h = subst Told h (judged_told s LABELSST p z u)

formula_told : (s : List ℕ) (p z u : ℕ) → judge_of s FORMULA p z u ≡ (Ok None) → ⊥
unfolding judge_of pick
formula_told s p z u h = subst Told h (judged_told s FORMULA p z u)

-- ---- what the walk makes of it
module _ (s : List ℕ) (k u : ℕ) (v : Here) (t z e : ℕ) where
  pub bof_step : t ≡ 0x0809 → record_in s k u v t z e ≡ inner_bof s k v.at z
  unfolding record_in other_record judge_of shape_of pick
  bof_step h = rw h (pick_any (λ (x : Result Step Refusal). x ≡ inner_bof s k v.at z) (eqb k 0x0010) refl refl)

  pub eof_step : t ≡ 0x000A → record_in s k u v t z e ≡ pick (eqb z 0) (Ok (Close e)) (refuse 6 v.at)
  unfolding record_in other_record judge_of shape_of pick
  eof_step h = rw h (pick_any (λ (x : Result Step Refusal). x ≡ pick (eqb z 0) (Ok (Close e)) (refuse 6 v.at)) (eqb k 0x0010) refl refl)

  pub continue_step : t ≡ 0x003C → record_in s k u v t z e ≡ pick v.orphan (refuse 7 v.at) (Ok (More (past e)))
  unfolding record_in other_record judge_of shape_of pick
  continue_step h = rw h (pick_any (λ (x : Result Step Refusal). x ≡ pick v.orphan (refuse 7 v.at) (Ok (More (past e)))) (eqb k 0x0010) refl refl)

  pub index_step : t ≡ 0x020B → record_in s k u v t z e ≡ Ok (More (past e))
  unfolding record_in other_record judge_of shape_of pick
  index_step h = rw h (pick_any (λ (x : Result Step Refusal). x ≡ Ok (More (past e))) (eqb k 0x0010) refl refl)

  pub label_step : k ≡ 0x0010 → t ≡ 0x00FD → record_in s k u v t z e ≡ on_judged s k v t z e (judge_of s LABELSST v.at z u)
  unfolding record_in shape_of pick
  label_step i h = rw (i, h) refl

  pub label_past : t ≡ 0x00FD → passed_record s v.at t e ≡ Ok (More (past_parent e))
  unfolding passed_record has_text pick
  label_past h = rw h refl

  pub formula_step : k ≡ 0x0010 → t ≡ 0x0006 → record_in s k u v t z e ≡ on_judged s k v t z e (judge_of s FORMULA v.at z u)
  unfolding record_in shape_of pick
  formula_step i h = rw (i, h) refl

  -- any other record is passed over, or refused; unless it is a FORMULA with a text result that is read
  abbrev pub Plain : Result Step Refusal → Type 0
  Plain (Ok (More y)) = y.at ≡ e
  Plain (Ok (Open b)) = ⊥
  Plain (Ok (Close f)) = ⊥
  Plain (Err r) = Unit {0}

  pub plain_step : (t ≡ 0x0809 → ⊥) → (t ≡ 0x000A → ⊥) → (k ≡ 0x0010 → has_text s t v.at ≡ false) → Plain (record_in s k u v t z e)
  unfolding record_in dimensions_record other_record passed_record
  plain_step a b c = pick_by Plain (eqb k 0x0010) (λ i. on_judged_lem (c (eqb-true k 0x0010 i)) (judge_of s (shape_of t) v.at z u)) (λ _. other)
    where
      other : Plain (other_record s k v t z e)
      other = pick_by Plain (eqb t 0x0809) (λ i. absurd (a (eqb-true t 0x0809 i))) (λ _. pick_by Plain (eqb t 0x000A) (λ i. absurd (b (eqb-true t 0x000A i))) (λ _. pick_any Plain _ (pick_any Plain _ tt refl) refl))

      on_judged_lem : has_text s t v.at ≡ false → (x : Result (Option ℕ) Refusal) → Plain (on_judged s k v t z e x)
      on_judged_lem n (Ok (Some m)) = pick_by Plain (has_text s t v.at) (λ i. never (cc)) (λ _. refl)
      on_judged_lem n (Err r) = tt
      on_judged_lem n (Ok None) = pick_any Plain _ (pick_any Plain _ refl tt) (pick_any Plain _ tt other)

  -- a FORMULA with a text result that is read: past that, or refused
  pub record PastText (y : Here) : Type 0 where
    pub units : List ℕ
    pub last : Cursor
    pub is : text_of s v.at e ≡ got units last
    pub past : y ≡ past last.end

  abbrev pub Grouped : Result Step Refusal → Type 0
  Grouped (Ok (More y)) = PastText y
  Grouped (Ok (Open b)) = ⊥
  Grouped (Ok (Close f)) = ⊥
  Grouped (Err r) = Unit {0}

  grouped_text : (x : Got (List ℕ)) → text_of s v.at e ≡ x → Grouped (on_text x)
  grouped_text (got us d) i = record { units = us; last = d; is = i; past = refl }
  grouped_text (refused n o) i = tt

  grouped_judged : has_text s t v.at ≡ true → (x : Result (Option ℕ) Refusal) → judge_of s FORMULA v.at z u ≡ x → Grouped (on_judged s k v t z e x)
  unfolding passed_record
  grouped_judged h (Ok (Some n)) i = pick_by Grouped (has_text s t v.at) (λ _. grouped_text (text_of s v.at e) refl) (λ j. never (cc))
  grouped_judged h (Err r) i = tt
  grouped_judged h (Ok None) i = absurd (formula_told s v.at z u i)

  pub group_step : k ≡ 0x0010 → has_text s t v.at ≡ true → Grouped (record_in s k u v t z e)
  group_step i h = subst Grouped (sym (formula_step i (has_formula s t v.at h))) (grouped_judged h (judge_of s FORMULA v.at z u) refl)

-- only a CONTINUE looks at what came before it
pub orphan_blind : (s : List ℕ) (k u at : ℕ) (o o' : Bool) (t z e : ℕ) → (t ≡ 0x003C → ⊥) → record_in s k u (record { at = at; orphan = o }) t z e ≡ record_in s k u (record { at = at; orphan = o' }) t z e
unfolding record_in other_record
orphan_blind s k u at o o' t z e n = pick_same (eqb k 0x0010) _ _ _ _ (λ _. on_judged_lem (judge_of s (shape_of t) at z u)) (λ _. other)
  where
    other : other_record s k (record { at = at; orphan = o }) t z e ≡ other_record s k (record { at = at; orphan = o' }) t z e
    other = pick_same (eqb t 0x0809) _ _ _ _ (λ _. refl) (λ _. pick_same (eqb t 0x000A) _ _ _ _ (λ _. refl) (λ _. pick_same (eqb t 0x003C) _ _ _ _ (λ i. absurd (n (eqb-true t 0x003C i))) (λ _. refl)))

    on_judged_lem : (x : Result (Option ℕ) Refusal) → on_judged s k (record { at = at; orphan = o }) t z e x ≡ on_judged s k (record { at = at; orphan = o' }) t z e x
    on_judged_lem (Ok (Some m)) = refl
    on_judged_lem (Err r) = refl
    on_judged_lem (Ok None) = pick_same (eqb t 0x0200) _ _ _ _ (λ _. refl) (λ _. pick_same (eqb t 0x0207) _ _ _ _ (λ _. refl) (λ _. other))
