-- A sheet list and BOFs that agree do so after each BOF has moved to a place of its own. Assumes nothing.
use Prim.Native.Nat.{ℕ}
use mathlib.Core.Path.{◌≡◌, refl, sym, ap, ◌∙◌, subst}
use mathlib.Core.List.{List, [], ◌∷◌, map}
use mathlib.Core.Bool.{Bool, true, false, not, ◌&&◌}
use mathlib.Core.Logic.{◌⊎◌, inl, inr, ⊎_elim}
use lib.Dec.{eqb}
use borrow.Author.Tests.{eqb-true, eq-eqb, not-true}
use Rattle.std.specs.Prelude.{Option, None}
use Rattle.steps.proofs.Choice.{never, pick_by, pick_true}
use Rattle.steps.proofs.Bools.{and_left, and_right, and_both, or_cases, or_left, or_right}
use Rattle.sheet_agreement.specs.declared.SheetKind.{SheetKind}
use Rattle.sheet_agreement.proofs.Laws.{same_kind-true, same_kind_self}
use Rattle.sheet_agreement.specs.Agreement.{same_kind, Sheet, Bof, starts, named, right, judged, claimed, agreement_of}
use Rattle.reading.specs.Claims.{Every}
use Rattle.new_stream.specs.Parts.{Given, moved_bof, moved_sheet, BofsApart}

module _ (m : Given) (written : (p : ℕ) → m.place p ≡ m.total p) where
  -- ---- BOFs
  starts_first : (b : Bof) (r : List Bof) (p : ℕ) (k : SheetKind) → b.start ≡ p → b.kind ≡ k → starts (b ∷ r) p k ≡ true
  unfolding starts
  starts_first b r p k i j = or_left (eqb b.start p && same_kind b.kind k) (starts r p k) (and_both (eqb b.start p) (same_kind b.kind k) (eq-eqb _ _ i) (ap (same_kind b.kind) (sym j) ∙ same_kind_self b.kind))

  starts_rest : (b : Bof) (r : List Bof) (p : ℕ) (k : SheetKind) → starts r p k ≡ true → starts (b ∷ r) p k ≡ true
  unfolding starts
  starts_rest b r p k h = or_right (eqb b.start p && same_kind b.kind k) (starts r p k) h

  starts_none : (p : ℕ) (k : SheetKind) → starts [] p k ≡ true → ⊥
  unfolding starts
  starts_none p k h = never (cc)

  starts_cases : (b : Bof) (r : List Bof) (p : ℕ) (k : SheetKind) → starts (b ∷ r) p k ≡ true → ((b.start ≡ p) × (b.kind ≡ k)) ⊎ (starts r p k ≡ true)
  unfolding starts
  starts_cases b r p k h = by (or_cases (eqb b.start p && same_kind b.kind k) (starts r p k) h)
    where
      by : (eqb b.start p && same_kind b.kind k ≡ true) ⊎ (starts r p k ≡ true) → ((b.start ≡ p) × (b.kind ≡ k)) ⊎ (starts r p k ≡ true)
      by (inl i) = inl (eqb-true b.start p (and_left (eqb b.start p) (same_kind b.kind k) i), same_kind-true b.kind k (and_right (eqb b.start p) (same_kind b.kind k) i))
      by (inr i) = inr i

  starts_moved : (bofs : List Bof) (p : ℕ) (k : SheetKind) → starts bofs p k ≡ true → starts (map (moved_bof m) bofs) (m.total p) k ≡ true
  starts_moved [] p k h = absurd (starts_none p k h)
  starts_moved (b ∷ r) p k h =
      ⊎_elim (λ (i : (b.start ≡ p) × (b.kind ≡ k)). starts_first (moved_bof m b) (map (moved_bof m) r) (m.total p) k (ap m.total i.0) i.1)
      (λ (i : starts r p k ≡ true). starts_rest (moved_bof m b) (map (moved_bof m) r) (m.total p) k (starts_moved r p k i)) (starts_cases b r p k h)

  -- what each BOF's place has
  pub every_starts : (Q : ℕ → Type 0) (bofs : List Bof) (p : ℕ) (k : SheetKind) → Every (λ (b : Bof). Q b.start) bofs → starts bofs p k ≡ true → Q p
  every_starts Q [] p k e h = absurd (starts_none p k h)
  every_starts Q (b ∷ r) p k e h =
      ⊎_elim (λ (i : (b.start ≡ p) × (b.kind ≡ k)). subst Q i.0 e.0) (λ (i : starts r p k ≡ true). every_starts Q r p k e.1 i) (starts_cases b r p k h)

  -- ---- two BOFs have two places
  starts_apart : (bofs : List Bof) (p p' : ℕ) (k k' : SheetKind) → BofsApart m bofs → starts bofs p k ≡ true → starts bofs p' k' ≡ true → m.total p ≡ m.total p' → p ≡ p'
  starts_apart [] p p' k k' a h i e = absurd (starts_none p k h)
  starts_apart (b ∷ r) p p' k k' a h i e = by (λ x y. starts_apart r p p' k k' a.1 x y e) (starts_cases b r p k h) (starts_cases b r p' k' i)
    where
      other : (x y : ℕ) (j : SheetKind) → b.start ≡ x → starts r y j ≡ true → m.total x ≡ m.total y → ⊥
      other x y j f g c = every_starts (λ (z : ℕ). m.total b.start ≡ m.total z → ⊥) r y j a.0 g (ap m.total f ∙ c)

      by : (starts r p k ≡ true → starts r p' k' ≡ true → p ≡ p') → ((b.start ≡ p) × (b.kind ≡ k)) ⊎ (starts r p k ≡ true) → ((b.start ≡ p') × (b.kind ≡ k')) ⊎ (starts r p' k' ≡ true) → p ≡ p'
      by f (inl x) (inl y) = sym x.0 ∙ y.0
      by f (inl x) (inr y) = absurd (other p p' k' x.0 y e)
      by f (inr x) (inl y) = absurd (other p' p k y.0 x (sym e))
      by f (inr x) (inr y) = f x y

  -- ---- sheets
  named_none : (p : ℕ) → named [] p ≡ true → ⊥
  unfolding named
  named_none p h = never (cc)

  named_first : (x : Sheet) (r : List Sheet) (p : ℕ) → x.position ≡ p → named (x ∷ r) p ≡ true
  unfolding named
  named_first x r p i = or_left (eqb x.position p) (named r p) (eq-eqb _ _ i)

  named_rest : (x : Sheet) (r : List Sheet) (p : ℕ) → named r p ≡ true → named (x ∷ r) p ≡ true
  unfolding named
  named_rest x r p h = or_right (eqb x.position p) (named r p) h

  named_cases : (x : Sheet) (r : List Sheet) (p : ℕ) → named (x ∷ r) p ≡ true → (x.position ≡ p) ⊎ (named r p ≡ true)
  unfolding named
  named_cases x r p h = by (or_cases (eqb x.position p) (named r p) h)
    where
      by : (eqb x.position p ≡ true) ⊎ (named r p ≡ true) → (x.position ≡ p) ⊎ (named r p ≡ true)
      by (inl i) = inl (eqb-true x.position p i)
      by (inr i) = inr i

  named_moved : (l : List Sheet) (p : ℕ) → named l p ≡ true → named (map (moved_sheet m) l) (m.total p) ≡ true
  named_moved [] p h = absurd (named_none p h)
  named_moved (x ∷ r) p h =
      ⊎_elim (λ (i : x.position ≡ p). named_first (moved_sheet m x) (map (moved_sheet m) r) (m.total p) (written x.position ∙ ap m.total i))
      (λ (i : named r p ≡ true). named_rest (moved_sheet m x) (map (moved_sheet m) r) (m.total p) (named_moved r p i)) (named_cases x r p h)

  module _ (bofs : List Bof) (apart : BofsApart m bofs) where
    abbrev At : Sheet → Type 0
    At x = starts bofs x.position x.kind ≡ true

    named_back : (l : List Sheet) (p : ℕ) (k : SheetKind) → Every At l → starts bofs p k ≡ true → named (map (moved_sheet m) l) (m.total p) ≡ true → named l p ≡ true
    named_back [] p k e h i = absurd (named_none (m.total p) i)
    named_back (x ∷ r) p k e h i =
        ⊎_elim (λ (j : m.place x.position ≡ m.total p). named_first x r p (starts_apart bofs x.position p x.kind k apart e.0 h (sym (written x.position) ∙ j)))
        (λ (j : named (map (moved_sheet m) r) (m.total p) ≡ true). named_rest x r p (named_back r p k e.1 h j)) (named_cases (moved_sheet m x) (map (moved_sheet m) r) (m.total p) i)

    free_moved : (earlier : List Sheet) (x : Sheet) → Every At earlier → At x → named earlier x.position ≡ false → (b : Bool) → named (map (moved_sheet m) earlier) (m.total x.position) ≡ b → not b ≡ true
    free_moved earlier x e a f true i = let j = named_back earlier x.position x.kind e a i in never (cc)
    free_moved earlier x e a f false i = refl

    right_moved : (earlier : List Sheet) (x : Sheet) → Every At earlier → right bofs earlier x ≡ true → right (map (moved_bof m) bofs) (map (moved_sheet m) earlier) (moved_sheet m x) ≡ true
    right_moved earlier x e h =
        let a = and_left (starts bofs x.position x.kind) (not (named earlier x.position)) h in
        let f = not-true (named earlier x.position) (and_right (starts bofs x.position x.kind) (not (named earlier x.position)) h) in
        rw (written x.position) (and_both (starts (map (moved_bof m) bofs) (m.total x.position) x.kind) (not (named (map (moved_sheet m) earlier) (m.total x.position)))
        (starts_moved bofs x.position x.kind a) (free_moved earlier x e a f (named (map (moved_sheet m) earlier) (m.total x.position)) refl))

    judged_moved : (v v' : Option ℕ) → (v ≡ None → v' ≡ None) → (earlier l : List Sheet) → Every At earlier → judged bofs earlier l v ≡ None
        → judged (map (moved_bof m) bofs) (map (moved_sheet m) earlier) (map (moved_sheet m) l) v' ≡ None
    unfolding judged
    judged_moved v v' f earlier [] e h = f h
    judged_moved v v' f earlier (x ∷ r) e h =
        pick_by (λ (a : Option ℕ). a ≡ None → judged (map (moved_bof m) bofs) (map (moved_sheet m) earlier) (map (moved_sheet m) (x ∷ r)) v' ≡ None) (right bofs earlier x)
        (λ i j. sym (pick_true None _ _ _ (right_moved earlier x e i)
        (sym (judged_moved v v' f (x ∷ earlier) r (and_left (starts bofs x.position x.kind) (not (named earlier x.position)) i, e) j))))
        (λ _ j. never (cc)) h

  -- each sheet is at a BOF
  judged_each : (bofs : List Bof) (v : Option ℕ) (earlier l : List Sheet) → judged bofs earlier l v ≡ None → Every (λ (x : Sheet). starts bofs x.position x.kind ≡ true) l
  unfolding judged
  judged_each bofs v earlier [] h = tt
  judged_each bofs v earlier (x ∷ r) h =
      pick_by (λ (a : Option ℕ). a ≡ None → Every (λ (x : Sheet). starts bofs x.position x.kind ≡ true) (x ∷ r)) (right bofs earlier x)
      (λ i j. (and_left (starts bofs x.position x.kind) (not (named earlier x.position)) i, judged_each bofs v (x ∷ earlier) r j))
      (λ _ j. never (cc)) h

  pub agreement_each : (sheets : List Sheet) (bofs : List Bof) → agreement_of sheets bofs ≡ None → Every (λ (x : Sheet). starts bofs x.position x.kind ≡ true) sheets
  unfolding agreement_of
  agreement_each sheets bofs h = judged_each bofs (claimed sheets bofs) [] sheets h

  claimed_moved : (sheets : List Sheet) (bofs : List Bof) → claimed sheets bofs ≡ None → claimed (map (moved_sheet m) sheets) (map (moved_bof m) bofs) ≡ None
  unfolding claimed
  claimed_moved sheets [] h = refl
  claimed_moved sheets (b ∷ r) h =
      pick_by (λ (a : Option ℕ). a ≡ None → claimed (map (moved_sheet m) sheets) (map (moved_bof m) (b ∷ r)) ≡ None) (named sheets b.start)
      (λ i j. sym (pick_true None _ _ _ (named_moved sheets b.start i) (sym (claimed_moved sheets r j))))
      (λ _ j. never (cc)) h

  pub agreement_moved : (sheets : List Sheet) (bofs : List Bof) → BofsApart m bofs → agreement_of sheets bofs ≡ None → agreement_of (map (moved_sheet m) sheets) (map (moved_bof m) bofs) ≡ None
  unfolding agreement_of
  agreement_moved sheets bofs apart h = judged_moved bofs apart (claimed sheets bofs) (claimed (map (moved_sheet m) sheets) (map (moved_bof m) bofs)) (claimed_moved sheets bofs) [] sheets tt h
