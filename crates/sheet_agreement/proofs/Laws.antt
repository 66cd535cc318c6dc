-- The laws of the slots, and what each pass keeps, over the two lists. Assumes nothing.
use Prim.Native.Nat.{ℕ, zero, suc, ◌+◌, ◌-◌, ◌*◌, ◌/◌, ◌%◌, ◌≤◌, ◌<◌}
use mathlib.Core.Path.{◌≡◌, refl, sym, ap, ◌∙◌}
use mathlib.Core.Bool.{Bool, true, false, ◌&&◌, ◌||◌, not}
use mathlib.Core.List.{List, [], ◌∷◌}
use mathlib.Core.Logic.{◌⊎◌, inl, inr, ⊎_elim}
use native.Mathlib.Omega.{arith}
use lib.ListN.{length, get_or, set, replicate, length-replicate}
use lib.Seq.{get_or-set_same, get_or-set_other}
use lib.Dec.{ltb, leb, eqb}
use borrow.Author.Tests.{eqb-true, eqb-false, ltb-true, ltb-false, leb-true, eq-eqb, ne_eqb, lt-ltb, le-leb, not-true, not-false}
use Rattle.steps.specs.Choice.{pick}
use Rattle.steps.proofs.Choice.{never, pick_any}
use Rattle.steps.proofs.Bools.{bool_ext, and_left, and_right, and_both, or_cases, or_left, or_right}
use Rattle.std.specs.Prelude.{Option, None, Some}
use Rattle.std.specs.Option.{option_or}
use Rattle.sheet_agreement.specs.declared.SheetKind.{SheetKind}
use Rattle.sheet_agreement.specs.declared.SheetKind.TheVariants.{Worksheet, Chart, Macro, Other}
use Rattle.sheet_agreement.specs.Agreement.{number_of, same_kind, Sheet, Bof, starts, named, right, judged, claimed, agreement_of}
use Rattle.sheet_agreement.specs.Slots.{inside, code_of, marks, Marked, Empty, Onward, judged_in, sooner, Passed}

-- a kind's number lies between an empty slot's and the next slot's
pub number_some : (k : SheetKind) → (0 < number_of k) × (number_of k < 8)
number_some Worksheet = omega arith
number_some Chart = omega arith
number_some Macro = omega arith
number_some Other = omega arith

pub same_kind-true : (k l : SheetKind) → same_kind k l ≡ true → k ≡ l
same_kind-true k l h = grind arith

pub same_kind_self : (k : SheetKind) → same_kind k k ≡ true
same_kind_self k = eq-eqb (number_of k) (number_of k) refl

-- a mark, as facts on numbers
record Mark (T : List ℕ) (lo p : ℕ) (k : SheetKind) : Type 0 where
  pub from : lo ≤ p
  pub low : p - lo < 1277952
  pub is : get_or T ((p - lo) / 24) 0 ≡ (p - lo) % 24 * 8 + number_of k

module _ (T : List ℕ) (lo p : ℕ) (k : SheetKind) where
  mark : marks T lo p k ≡ true → Mark T lo p k
  unfolding marks
  mark h =
      let rest = and_right (leb lo p) _ h in
      record {
        from = leb-true lo p (and_left _ _ h);
        low = ltb-true (p - lo) 1277952 (and_left _ _ rest);
        is = eqb-true (get_or T ((p - lo) / 24) 0) (code_of (p - lo) k) (and_right (ltb (p - lo) 1277952) _ rest);
      }

  unmark : Mark T lo p k → marks T lo p k ≡ true
  unfolding marks
  unmark m = and_both (leb lo p) _ (le-leb lo p m.from) (and_both _ _ (lt-ltb _ _ m.low) (eq-eqb _ _ m.is))

  no_mark : (Mark T lo p k → ⊥) → false ≡ marks T lo p k
  no_mark n = bool_ext false (marks T lo p k) (λ h. never (cc)) (λ h. absurd (n (mark h)))

-- ---- the window
module _ (lo p : ℕ) where
  pub inside_open : lo ≤ p → true ≡ inside lo None p
  unfolding inside
  inside_open h = rw (le-leb lo p h) refl

  pub inside_from : (hi : Option ℕ) → inside lo hi p ≡ true → lo ≤ p
  unfolding inside
  inside_from hi h = leb-true lo p (and_left _ _ h)

  module _ (hi : ℕ) where
    pub inside_below : inside lo (Some hi) p ≡ true → p < hi
    unfolding inside
    inside_below h = ltb-true p hi (and_right (leb lo p) _ h)

    pub inside_within : lo ≤ p → p < hi → true ≡ inside lo (Some hi) p
    unfolding inside
    inside_within l h = rw (le-leb lo p l, lt-ltb p hi h) refl

    pub inside_past : lo ≤ p → inside lo (Some hi) p ≡ false → hi ≤ p
    unfolding inside
    inside_past l h = ltb-false p hi (sym (rw (le-leb lo p l) refl) ∙ h)

-- a window and what lies before it
pub below_hi : (lo hi p : ℕ) → lo < hi → ltb p hi ≡ ltb p lo || inside lo (Some hi) p
unfolding inside
below_hi lo hi p l = by (ltb p lo) refl
  where
    by : (b : Bool) → ltb p lo ≡ b → ltb p hi ≡ b || (leb lo p && ltb p hi)
    by true h = let a : p < lo = ltb-true p lo h in lt-ltb p hi (omega arith)
    by false h = rw (le-leb lo p (ltb-false p lo h)) refl

pub no_end : (lo p : ℕ) → true ≡ ltb p lo || inside lo None p
unfolding inside
no_end lo p = by (ltb p lo) refl
  where
    by : (b : Bool) → ltb p lo ≡ b → true ≡ b || (leb lo p && true)
    by true h = refl
    by false h = rw (le-leb lo p (ltb-false p lo h)) refl

pub same_or_not : (a b : ℕ) → (a ≡ b) ⊎ (a ≡ b → ⊥)
same_or_not a b = by (eqb a b) refl
  where
    by : (x : Bool) → eqb a b ≡ x → (a ≡ b) ⊎ (a ≡ b → ⊥)
    by true h = inl (eqb-true a b h)
    by false h = inr (eqb-false a b h)

-- A BOF is put into an empty slot.
module _ (T : List ℕ) (lo p : ℕ) (k : SheetKind) (q : ℕ) (l : SheetKind) (size : length T ≡ 53248) (from : lo ≤ p) (low : p - lo < 1277952) (empty : get_or T ((p - lo) / 24) 0 ≡ 0) where
  abbrev T' : List ℕ
  T' = set T ((p - lo) / 24) (code_of (p - lo) k)

  put_to_lem : Mark T' lo q l → (eqb p q && same_kind k l) || marks T lo q l ≡ true
  put_to_lem m = ⊎_elim
      (λ e.
      let here : get_or T' ((q - lo) / 24) 0 ≡ code_of (p - lo) k = rw e (get_or-set_same T ((p - lo) / 24) (code_of (p - lo) k) 0 (omega arith)) in
      let m-is = m.is in
      let k_some = number_some k in
      let l_some = number_some l in
      let a : p ≡ q = omega arith in
      let b : number_of k ≡ number_of l = omega arith in
      or_left (eqb p q && same_kind k l) (marks T lo q l) (and_both (eqb p q) (same_kind k l) (eq-eqb p q a) (eq-eqb (number_of k) (number_of l) b)))
      (λ n. or_right (eqb p q && same_kind k l) (marks T lo q l)
      (unmark T lo q l (record { from = m.from; low = m.low; is = sym (get_or-set_other T ((p - lo) / 24) ((q - lo) / 24) (code_of (p - lo) k) 0 n) ∙ m.is })))
      (same_or_not ((q - lo) / 24) ((p - lo) / 24))

  put_from : (eqb p q && same_kind k l) || marks T lo q l ≡ true → Mark T' lo q l
  put_from h = ⊎_elim
      (λ e.
      let a : p ≡ q = eqb-true p q (and_left (eqb p q) (same_kind k l) e) in
      let b : number_of k ≡ number_of l = eqb-true (number_of k) (number_of l) (and_right (eqb p q) (same_kind k l) e) in
      let here : get_or T' ((p - lo) / 24) 0 ≡ code_of (p - lo) k = get_or-set_same T ((p - lo) / 24) (code_of (p - lo) k) 0 (omega arith) in
      let there : get_or T' ((q - lo) / 24) 0 ≡ code_of (p - lo) k = rw (← a) here in
      record { from = omega arith; low = omega arith; is = omega arith })
      (λ e.
      let m : Mark T lo q l = mark T lo q l e in
      let m-is = m.is in
      let some = number_some l in
      let n : (q - lo) / 24 ≡ (p - lo) / 24 → ⊥ = λ f. (let z : get_or T ((q - lo) / 24) 0 ≡ 0 = rw f empty in omega arith) in
      record { from = m.from; low = m.low; is = get_or-set_other T ((p - lo) / 24) ((q - lo) / 24) (code_of (p - lo) k) 0 n ∙ m.is })
      (or_cases (eqb p q && same_kind k l) (marks T lo q l) h)

  put : marks T' lo q l ≡ (eqb p q && same_kind k l) || marks T lo q l
  put = bool_ext (marks T' lo q l) ((eqb p q && same_kind k l) || marks T lo q l) (λ h. put_to_lem (mark T' lo q l h)) (λ h. unmark T' lo q l (put_from h))

-- A BOF that stands there is taken out.
module _ (T : List ℕ) (lo p : ℕ) (k : SheetKind) (q : ℕ) (l : SheetKind) (size : length T ≡ 53248) (m : Mark T lo p k) where
  abbrev T'' : List ℕ
  T'' = set T ((p - lo) / 24) 0

  take_to : Mark T'' lo q l → marks T lo q l && not (eqb p q) ≡ true
  take_to h = ⊎_elim
      (λ e.
      let low = m.low in
      let here : get_or T'' ((q - lo) / 24) 0 ≡ 0 = rw e (get_or-set_same T ((p - lo) / 24) 0 0 (omega arith)) in
      let h-is = h.is in
      let some = number_some l in
      absurd (omega arith))
      (λ n.
      let d : p ≡ q → ⊥ = λ f. n (rw f refl) in
      and_both (marks T lo q l) (not (eqb p q))
      (unmark T lo q l (record { from = h.from; low = h.low; is = sym (get_or-set_other T ((p - lo) / 24) ((q - lo) / 24) 0 0 n) ∙ h.is }))
      (rw (ne_eqb p q d) refl))
      (same_or_not ((q - lo) / 24) ((p - lo) / 24))

  take_from : marks T lo q l && not (eqb p q) ≡ true → Mark T'' lo q l
  take_from h =
      let o : Mark T lo q l = mark T lo q l (and_left (marks T lo q l) (not (eqb p q)) h) in
      let d : p ≡ q → ⊥ = eqb-false p q (not-true (eqb p q) (and_right (marks T lo q l) (not (eqb p q)) h)) in
      let o_is = o.is in
      let m-is = m.is in
      let n : (q - lo) / 24 ≡ (p - lo) / 24 → ⊥ = λ f. (let z : get_or T ((q - lo) / 24) 0 ≡ (p - lo) % 24 * 8 + number_of k = rw f m-is in let some = number_some k in let other = number_some l in let e : p ≡ q = omega arith in d e) in
      record { from = o.from; low = o.low; is = get_or-set_other T ((p - lo) / 24) ((q - lo) / 24) 0 0 n ∙ o_is }

  taken : marks T'' lo q l ≡ marks T lo q l && not (eqb p q)
  taken = bool_ext (marks T'' lo q l) (marks T lo q l && not (eqb p q)) (λ h. take_to (mark T'' lo q l h)) (λ h. unmark T'' lo q l (take_from h))

pub nothing : (T : List ℕ) → ((j : ℕ) → j < 53248 → get_or T j 0 ≡ 0) → (lo q : ℕ) (l : SheetKind) → marks T lo q l ≡ false
nothing T empty lo q l = sym (no_mark T lo q l (λ m. let some = number_some l in let m-is = m.is in let low = m.low in let z = empty ((q - lo) / 24) (omega arith) in omega arith))

-- The BOFs are put into the table: the slots from place p on are empty, and the table and the rest of the BOFs are all BOFs from lo on.
pub record Filling (all rest : List Bof) (T : List ℕ) (lo p : ℕ) : Type 0 where
  pub ahead : (j : ℕ) → (p - lo) / 24 ≤ j → get_or T j 0 ≡ 0
  pub whole : (q : ℕ) (l : SheetKind) → lo ≤ q → marks T lo q l || starts rest q l ≡ starts all q l

or_move : (a b c : Bool) → (a || b) || c ≡ b || (a || c)
or_move true true c = refl
or_move true false c = refl
or_move false b c = refl

or_none : (b : Bool) → b ≡ b || false
or_none true = refl
or_none false = refl

pub fill_start : (all rest : List Bof) (T : List ℕ) (lo p : ℕ) → Empty T → Onward rest lo all → Filling all rest T lo p
fill_start all rest T lo p empty on = record { ahead = λ j h. empty j; whole = λ q l h. rw (nothing T (λ j _. empty j) lo q l) (on q l h) }

and_none : (b : Bool) (q : ℕ) → b && not (named [] q) ≡ b
unfolding named
and_none true q = refl
and_none false q = refl

-- no BOF is left that starts in the window
pub fill_done : (all rest : List Bof) (T : List ℕ) (lo : ℕ) (hi : Option ℕ) (p : ℕ) → Filling all rest T lo p → ((q : ℕ) (l : SheetKind) → inside lo hi q ≡ true → starts rest q l ≡ false) → Marked T lo hi all []
fill_done all rest T lo hi p inv none q l h =
    or_none (marks T lo q l) ∙ ap (λ (b : Bool). marks T lo q l || b) (sym (none q l h)) ∙ inv.whole q l (inside_from lo q hi h) ∙ sym (and_none (starts all q l) q)

-- from the window's last slot on the table says nothing
pub fill_onward : (all rest : List Bof) (T : List ℕ) (lo p : ℕ) → Filling all rest T lo p → lo ≤ p → 1277952 ≤ p - lo → Onward rest p all
fill_onward all rest T lo p inv from far q l h =
    let none : marks T lo q l ≡ false = sym (no_mark T lo q l (λ m. let low = m.low in omega arith)) in
    rw none at (inv.whole q l (omega arith))

pub fill_again : (all rest : List Bof) (T : List ℕ) (lo p : ℕ) (k : SheetKind) (n c : ℕ) → Filling all (record { start = p; kind = k } ∷ rest) T lo p
    → lo ≤ p → p - lo < 1277952 → p + 24 ≤ n → length T ≡ 53248 → c ≡ code_of (p - lo) k → Filling all rest (set T ((p - lo) / 24) c) lo n
unfolding starts
fill_again all rest T lo p k n c inv from low far size e =
    let here : get_or T ((p - lo) / 24) 0 ≡ 0 = inv.ahead ((p - lo) / 24) (omega arith) in
    rw e
    (record {
      ahead = λ j le. get_or-set_other T ((p - lo) / 24) j (code_of (p - lo) k) 0 (λ f. (omega arith)) ∙ inv.ahead j (omega arith);
      whole = λ q l h.
          ap (λ (b : Bool). b || starts rest q l) (put T lo p k q l size from low here)
          ∙ or_move (eqb p q && same_kind k l) (marks T lo q l) (starts rest q l)
          ∙ inv.whole q l h;
    })

-- The sheets are gone through: the table has the BOFs that none of the earlier sheets names, and the rest of the sheets decide.
pub record Passing (bofs : List Bof) (all rest : List Sheet) (T : List ℕ) (lo : ℕ) (hi : Option ℕ) : Type 0 where
  pub earlier : List Sheet
  pub marked : Marked T lo hi bofs earlier
  pub names : (q : ℕ) → named earlier q || named rest q ≡ named all q
  pub same : judged_in (inside lo hi) bofs earlier rest ≡ judged_in (inside lo hi) bofs [] all

pub pass_start : (bofs : List Bof) (all : List Sheet) (T : List ℕ) (lo : ℕ) (hi : Option ℕ) → Marked T lo hi bofs [] → Passing bofs all all T lo hi
unfolding named
pass_start bofs all T lo hi m = record { earlier = []; marked = m; names = λ q. refl; same = refl }

and_not_or : (a b c : Bool) → (a && not b) && not c ≡ a && not (c || b)
and_not_or true true true = refl
and_not_or true true false = refl
and_not_or true false true = refl
and_not_or true false false = refl
and_not_or false b c = refl

pub pass_low : (T : List ℕ) (lo q : ℕ) (k : SheetKind) → marks T lo q k ≡ true → (lo ≤ q) × ((q - lo) / 24 < 53248)
pass_low T lo q k y = let m : Mark T lo q k = mark T lo q k y in let f = m.from in let l = m.low in omega arith

pub pass_done : (bofs : List Bof) (all : List Sheet) (T : List ℕ) (lo : ℕ) (hi : Option ℕ) → Passing bofs all [] T lo hi → Passed T lo hi all bofs None
unfolding judged_in named
pass_done bofs all T lo hi inv = (
  inv.same,
  λ q l h. inv.marked q l h ∙ ap (λ (b : Bool). starts bofs q l && not b) (or_none (named inv.earlier q) ∙ inv.names q),
)

module _ (bofs : List Bof) (all rest : List Sheet) (T : List ℕ) (lo : ℕ) (hi : Option ℕ) (o q : ℕ) (k : SheetKind) (inv : Passing bofs all (record { header = o; position = q; kind = k } ∷ rest) T lo hi) where
  -- a sheet of another window
  pub pass_by : inside lo hi q ≡ false → Passing bofs all rest T lo hi
  unfolding judged_in named pick
  pass_by y =
      record {
        earlier = record { header = o; position = q; kind = k } ∷ inv.earlier;
        marked = λ x l h. (let ne : eqb q x ≡ false = ne_eqb q x (λ e. apart x h e) in inv.marked x l h ∙ rw ne refl);
        names = λ x. or_move (eqb q x) (named inv.earlier x) (named rest x) ∙ inv.names x;
        same = sym (step y) ∙ inv.same;
      }
    where
      apart : (x : ℕ) → inside lo hi x ≡ true → q ≡ x → ⊥
      apart x h e = let f : inside lo hi x ≡ false = rw (← e) y in let z : ◌≡◌ {A = ℕ} 0 1 = cc in omega arith

      step : inside lo hi q ≡ false
          → judged_in (inside lo hi) bofs inv.earlier (record { header = o; position = q; kind = k } ∷ rest) ≡ judged_in (inside lo hi) bofs (record { header = o; position = q; kind = k } ∷ inv.earlier) rest
      step e = rw e refl

  module _ (in_window : inside lo hi q ≡ true) where
    pub pass_fault : marks T lo q k ≡ false → Passed T lo hi all bofs (Some o)
    unfolding judged_in pick
    pass_fault y =
        let not_right : starts bofs q k && not (named inv.earlier q) ≡ false = sym (inv.marked q k in_window) ∙ y in
        sym (sym inv.same ∙ rw (in_window, not_right) refl)

    pub pass_again : marks T lo q k ≡ true → length T ≡ 53248 → Passing bofs all rest (set T ((q - lo) / 24) 0) lo hi
    unfolding judged_in named pick
    pass_again there size =
        let is_right : starts bofs q k && not (named inv.earlier q) ≡ true = sym (inv.marked q k in_window) ∙ there in
        record {
          earlier = record { header = o; position = q; kind = k } ∷ inv.earlier;
          marked = λ x l h.
              taken T lo q k x l size (mark T lo q k there)
              ∙ ap (λ (a : Bool). a && not (eqb q x)) (inv.marked x l h)
              ∙ and_not_or (starts bofs x l) (named inv.earlier x) (eqb q x);
          names = λ x. or_move (eqb q x) (named inv.earlier x) (named rest x) ∙ inv.names x;
          same = sym (step is_right) ∙ inv.same;
        }
      where
        step : starts bofs q k && not (named inv.earlier q) ≡ true
            → judged_in (inside lo hi) bofs inv.earlier (record { header = o; position = q; kind = k } ∷ rest) ≡ judged_in (inside lo hi) bofs (record { header = o; position = q; kind = k } ∷ inv.earlier) rest
        step e = rw (in_window, e) refl

-- The BOFs are gone through: the rest of them decide.
pub record Leaving (sheets : List Sheet) (all rest : List Bof) : Type 0 where
  pub among : (q : ℕ) (l : SheetKind) → starts rest q l ≡ true → starts all q l ≡ true
  pub same : claimed sheets rest ≡ claimed sheets all

pub left_start : (sheets : List Sheet) (all : List Bof) → Leaving sheets all all
left_start sheets all = record { among = λ q l h. h; same = refl }

pub left_done : (sheets : List Sheet) (all : List Bof) → Leaving sheets all [] → None ≡ claimed sheets all
unfolding claimed
left_done sheets all inv = inv.same

module _ (sheets : List Sheet) (all rest : List Bof) (p : ℕ) (k : SheetKind) (inv : Leaving sheets all (record { start = p; kind = k } ∷ rest)) where
  pub head_in : starts all p k ≡ true
  unfolding starts
  head_in = inv.among p k (rw (eq-eqb p p refl, same_kind_self k) refl)

  tail_in : (q : ℕ) (l : SheetKind) → starts rest q l ≡ true → starts all q l ≡ true
  unfolding starts
  tail_in q l g = inv.among q l (or_right (eqb p q && same_kind k l) (starts rest q l) g)

  pub left_named : named sheets p ≡ true → Leaving sheets all rest
  unfolding claimed pick
  left_named y = record { among = tail_in; same = sym (sym inv.same ∙ rw y refl) }

  pub left_free : named sheets p ≡ false → Some p ≡ claimed sheets all
  unfolding claimed pick
  left_free y = sym (sym inv.same ∙ rw y refl)

  module _ (T : List ℕ) (lo : ℕ) (hi : Option ℕ) (table : Marked T lo hi all sheets) (in_window : inside lo hi p ≡ true) where
    is_named : marks T lo p k ≡ not (named sheets p)
    is_named = table p k in_window ∙ ap (λ (a : Bool). a && not (named sheets p)) head_in

    pub left_here : marks T lo p k ≡ true → Some p ≡ claimed sheets all
    left_here y = left_free (not-true (named sheets p) (sym is_named ∙ y))

    pub left_again : marks T lo p k ≡ false → Leaving sheets all rest
    left_again y = left_named (not-false (named sheets p) (sym is_named ∙ y))

-- The windows together: the sooner of what two sorts of sheets give is what both give, since the headers rise.
abbrev pub Rising : ℕ → List Sheet → Type 0
Rising b [] = Unit {0}
Rising b (x ∷ r) = (b ≤ x.header) × Rising (suc x.header) r

pub rising_from : (b c : ℕ) (sheets : List Sheet) → b ≤ c → Rising c sheets → Rising b sheets
rising_from b c [] l r = tt
rising_from b c (x ∷ sheets) l r = let h = r.0 in ((omega arith), r.1)

abbrev Since : ℕ → Option ℕ → Type 0
Since b None = Unit {0}
Since b (Some h) = b ≤ h

since_from : (b c : ℕ) (a : Option ℕ) → b ≤ c → Since c a → Since b a
since_from b c None l h = tt
since_from b c (Some g) l h = omega arith

module _ (bofs : List Bof) where
  since : (P : ℕ → Bool) (b : ℕ) (earlier sheets : List Sheet) → Rising b sheets → Since b (judged_in P bofs earlier sheets)
  unfolding judged_in
  since P b earlier [] r = tt
  since P b earlier (x ∷ sheets) r =
      pick_any (Since b) _ (since_from b (suc x.header) (judged_in P bofs (x ∷ earlier) sheets) (let h = r.0 in omega arith) (since P (suc x.header) (x ∷ earlier) sheets r.1)) r.0

  sooner_left : (h : ℕ) (a : Option ℕ) → Since (suc h) a → Some h ≡ sooner (Some h) a
  sooner_left h None l = refl
  sooner_left h (Some g) l = ap Some (omega arith)

  sooner_right : (h : ℕ) (a : Option ℕ) → Since (suc h) a → Some h ≡ sooner a (Some h)
  sooner_right h None l = refl
  sooner_right h (Some g) l = ap Some (omega arith)

  sooner_same : (h : ℕ) → Some h ≡ sooner (Some h) (Some h)
  sooner_same h = ap Some (omega arith)

  module _ (P Q R : ℕ → Bool) (both : (p : ℕ) → R p ≡ P p || Q p) where
    pub judged_both : (b : ℕ) (earlier sheets : List Sheet) → Rising b sheets
        → sooner (judged_in P bofs earlier sheets) (judged_in Q bofs earlier sheets) ≡ judged_in R bofs earlier sheets
    unfolding judged_in pick
    judged_both b earlier [] r = refl
    judged_both b earlier (x ∷ sheets) r =
        rw (both x.position)
        (step (P x.position) (Q x.position) (right bofs earlier x) (judged_in P bofs (x ∷ earlier) sheets) (judged_in Q bofs (x ∷ earlier) sheets) (judged_in R bofs (x ∷ earlier) sheets)
        (judged_both (suc x.header) (x ∷ earlier) sheets r.1)
        (since P (suc x.header) (x ∷ earlier) sheets r.1)
        (since Q (suc x.header) (x ∷ earlier) sheets r.1))
      where
        step : (p q y : Bool) (i j k : Option ℕ) → sooner i j ≡ k → Since (suc x.header) i → Since (suc x.header) j
            → sooner (pick (not p || y) i (Some x.header)) (pick (not q || y) j (Some x.header)) ≡ pick (not (p || q) || y) k (Some x.header)
        step true true true i j k e f g = e
        step true true false i j k e f g = sym (sooner_same x.header)
        step true false true i j k e f g = e
        step true false false i j k e f g = sym (sooner_left x.header j g)
        step false true true i j k e f g = e
        step false true false i j k e f g = sym (sooner_right x.header i f)
        step false false y i j k e f g = e

  pub judged_none : (P : ℕ → Bool) → ((p : ℕ) → P p ≡ false) → (earlier sheets : List Sheet) → None ≡ judged_in P bofs earlier sheets
  unfolding judged_in pick
  judged_none P none earlier [] = refl
  judged_none P none earlier (x ∷ sheets) = rw (none x.position) (judged_none P none (x ∷ earlier) sheets)

  judged_all : (P : ℕ → Bool) → ((p : ℕ) → P p ≡ true) → (v : Option ℕ) (earlier sheets : List Sheet) → option_or (judged_in P bofs earlier sheets) v ≡ judged bofs earlier sheets v
  unfolding judged_in judged pick
  judged_all P every v earlier [] = refl
  judged_all P every v earlier (x ∷ sheets) = rw (every x.position) (step (right bofs earlier x) (judged_in P bofs (x ∷ earlier) sheets) (judged bofs (x ∷ earlier) sheets v) (judged_all P every v (x ∷ earlier) sheets))
    where
      step : (y : Bool) (i k : Option ℕ) → option_or i v ≡ k → option_or (pick y i (Some x.header)) v ≡ pick y k (Some x.header)
      step true i k e = e
      step false i k e = refl

  -- all windows: the first sheet that is not right, else the first BOF that none names
  pub windows_done : (P : ℕ → Bool) → ((p : ℕ) → P p ≡ true) → (sheets : List Sheet) (fault free : Option ℕ) → fault ≡ judged_in P bofs [] sheets
      → (fault ≡ None → free ≡ claimed sheets bofs) → option_or fault free ≡ agreement_of sheets bofs
  unfolding agreement_of
  windows_done P every sheets fault free e f = by fault refl ∙ ap (λ (a : Option ℕ). option_or a (claimed sheets bofs)) e ∙ judged_all P every (claimed sheets bofs) [] sheets
    where
      by : (a : Option ℕ) → fault ≡ a → option_or a free ≡ option_or a (claimed sheets bofs)
      by None h = f h
      by (Some o) h = refl

pub sooner_none : (a b : Option ℕ) → sooner a b ≡ None → (a ≡ None) × (b ≡ None)
sooner_none None b h = (refl, h)
sooner_none (Some g) None h = never (cc)
sooner_none (Some g) (Some f) h = never (cc)

pub or_or : (a b c : Option ℕ) → option_or (option_or a b) c ≡ option_or a (option_or b c)
or_or None b c = refl
or_or (Some h) b c = refl

pub zeros_length : (n : ℕ) → length (replicate {A = ℕ} n 0) ≡ n
zeros_length n = length-replicate n 0

pub no_marks : (n : ℕ) → Empty (replicate n 0)
no_marks zero j = refl
no_marks (suc n) zero = refl
no_marks (suc n) (suc j) = no_marks n j

-- Both lists are gone through side by side: so far the sheets named the BOFs in their order, all of them before place p.
pub record Ordered (sheets more : List Sheet) (bofs rest : List Bof) (p : ℕ) : Type 0 where
  pub earlier : List Sheet
  pub below : (x : ℕ) → p ≤ x → named earlier x ≡ false
  pub names : (x : ℕ) → named earlier x || named more x ≡ named sheets x
  pub same : (v : Option ℕ) → judged bofs earlier more v ≡ judged bofs [] sheets v
  pub leaving : Leaving sheets bofs rest

pub order_start : (sheets : List Sheet) (bofs : List Bof) (p : ℕ) → Ordered sheets sheets bofs bofs p
unfolding named
order_start sheets bofs p = record { earlier = []; below = λ x h. refl; names = λ x. refl; same = λ v. refl; leaving = left_start sheets bofs }

pub order_done : (sheets : List Sheet) (bofs : List Bof) (p : ℕ) → Ordered sheets [] bofs [] p → None ≡ agreement_of sheets bofs
unfolding agreement_of judged
order_done sheets bofs p inv = left_done sheets bofs inv.leaving ∙ inv.same (claimed sheets bofs)

module _ (sheets : List Sheet) (bofs rest : List Bof) (p : ℕ) (k : SheetKind) where
  module _ (more : List Sheet) (o x : ℕ) (l : SheetKind) (inv : Ordered sheets (record { header = o; position = x; kind = l } ∷ more) bofs (record { start = p; kind = k } ∷ rest) p) (here : x ≡ p) (kind : l ≡ k) where
    abbrev this : Sheet
    this = record { header = o; position = x; kind = l }

    is_right : starts bofs x l && not (named inv.earlier x) ≡ true
    is_right =
        let free : named inv.earlier p ≡ false = inv.below p (omega arith) in
        let there : starts bofs p k ≡ true = head_in sheets bofs rest p k inv.leaving in
        rw (here, kind, free, there) refl

    some_one : named sheets p ≡ true
    unfolding named
    some_one = sym (inv.names p) ∙ or_right (named inv.earlier p) (named (this ∷ more) p) (rw (here, eq-eqb p p refl) refl)

    step : (v : Option ℕ) → judged bofs inv.earlier (this ∷ more) v ≡ judged bofs (this ∷ inv.earlier) more v
    unfolding judged pick
    step v = rw is_right refl

    pub order_again : (n : ℕ) → p < n → Ordered sheets more bofs rest n
    unfolding named
    order_again n far =
        record {
          earlier = this ∷ inv.earlier;
          below = λ y le. (let ne : eqb x y ≡ false = ne_eqb x y (λ e. (omega arith)) in rw (ne, inv.below y (omega arith)) refl);
          names = λ y. or_move (eqb x y) (named inv.earlier y) (named more y) ∙ inv.names y;
          same = λ v. sym (step v) ∙ inv.same v;
          leaving = left_named sheets bofs rest p k inv.leaving some_one;
        }
