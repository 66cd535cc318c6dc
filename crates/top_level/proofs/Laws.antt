-- What the loops over the sheets and the BOFs keep. Assumes nothing.
use Rattle.std.proofs.Common.{◌≡◌, ℕ, zero, suc, ◌-◌, ◌/◌, ◌≤◌, ◌<◌, Bool, true, false, ◌||◌, List, [], ◌∷◌, Option, None, Some, length, set, get_or, eqb, ltb, refl, sym, ap, ◌∙◌, subst, arith}
use Rattle.std.proofs.Common.{bit_or}
use Rattle.std.proofs.lemmas.Nat.{le_or_l, le_or_r}
use Rattle.std.specs.List.{fold}
use Rattle.std.specs.Option.{unwrap_or, option_or}
use mathlib.Core.Bool.{◌&&◌, not}
use borrow.Author.Tests.{ne_eqb, le-ltb, not-false}
use Rattle.steps.proofs.Choice.{never, pick_any}
use Rattle.record.specs.declared.Header.{Header}
use Rattle.record.specs.declared.Header.TheVariants.{Record, Cut, End}
use Rattle.record.specs.Record.{header_at}
use Rattle.sheet_agreement.specs.declared.SheetKind.{SheetKind}
use Rattle.sheet_agreement.specs.Agreement.{Sheet, Bof, starts, named, claimed, agreement_of}
use Rattle.sheet_agreement.specs.Slots.{inside, code_of, marks, Marked, Empty, Onward, judged_in, sooner, Passed}
use Rattle.sheet_agreement.proofs.Laws as list
use Rattle.globals.specs.declared.Boundsheet.{Boundsheet}
use Rattle.globals.specs.declared.Bound.{Bound}
use Rattle.globals.specs.declared.Bound.TheVariants as bound
use Rattle.globals.specs.Sheets.{sheet_at, on_bound, bound_at, declared, sheets_from, sheets_of}
use Rattle.globals.proofs.Sheets.{sheets_done, sheets_skip, skip_less, sheets_more, sheets_less}
use Rattle.top_level.specs.declared.Found.{Found}
use Rattle.top_level.specs.TopLevel.{bof_at, bofs_from}
use Rattle.top_level.proofs.Bofs.{bofs_done, bofs_more, bofs_next, bofs_less}
use Rattle.top_level.specs.Parts.{NamedAll, NoneLeft, EachNamed, Filled, PassedAll, Lefts, Windowed}
use Rattle.top_level.specs.declared.Remaining.TheVariants as remaining
use Rattle.top_level.specs.declared.Window.{Window}

-- ---- the BOFs from a place on
module _ (s : List ℕ) (u : ℕ) where
  above_by : (at q : ℕ) (l : SheetKind) → q < at → ((e : ℕ) → length s - e < length s - at → q < e → starts (bofs_from s u e) q l ≡ false)
      → (x : Option Found) → bof_at s u at ≡ x → starts (bofs_from s u at) q l ≡ false
  unfolding starts
  above_by at q l h ih None i = rw (bofs_done s u at (bof_at s u at) refl i) refl
  above_by at q l h ih (Some x) i =
      let a = bofs_next s u at (bof_at s u at) refl x i in
      let m = bofs_more s u at (bof_at s u at) refl x i in
      let f : eqb at q ≡ false = ne_eqb at q (λ e. (omega arith)) in
      let r : starts (bofs_from s u x.end) q l ≡ false = ih x.end (omega arith) (omega arith) in
      rw (m, f, r) refl

  above : (n at q : ℕ) (l : SheetKind) → length s - at < n → q < at → starts (bofs_from s u at) q l ≡ false
  above zero at q l less h = absurd (omega arith)
  above (suc n) at q l less h = above_by at q l h (λ e i j. above n e q l (omega arith) j) (bof_at s u at) refl

  bofs_above : (at q : ℕ) (l : SheetKind) → q < at → starts (bofs_from s u at) q l ≡ false
  bofs_above at q l h = above (suc (length s - at)) at q l (omega arith) h

  bofs_beyond : (at : ℕ) → length s ≤ at → bofs_from s u at ≡ []
  bofs_beyond at h = by (bof_at s u at) refl
    where
      by : (x : Option Found) → bof_at s u at ≡ x → bofs_from s u at ≡ []
      by None i = bofs_done s u at (bof_at s u at) refl i
      by (Some x) i = let a = bofs_next s u at (bof_at s u at) refl x i in absurd (omega arith)

-- ---- the BOFs are put into their slots, whichever stand before the window
pub record Filling (s : List ℕ) (u from lo : ℕ) (T : List ℕ) (at : ℕ) : Type 0 where
  pub low : lo ≤ at
  pub for_all : (bofs : List Bof) → Onward (bofs_from s u from) lo bofs → list.Filling bofs (bofs_from s u at) T lo at
  pub passed : ((q : ℕ) (k : SheetKind) → lo ≤ q → q < at → starts (bofs_from s u from) q k ≡ true → named (sheets_of s) q ≡ true) → list.Leaving (sheets_of s) (bofs_from s u from) (bofs_from s u at)

pub fill_start : (s : List ℕ) (u from lo : ℕ) (T : List ℕ) → Empty T → lo ≤ from → Filling s u from lo T from
fill_start s u from lo T e l = record { low = l; for_all = λ bofs on. list.fill_start bofs (bofs_from s u from) T lo from e on; passed = λ _. list.left_start (sheets_of s) (bofs_from s u from) }

module _ (s : List ℕ) (u from lo : ℕ) (T : List ℕ) (at : ℕ) (inv : Filling s u from lo T at) where
  fill_none : bofs_from s u at ≡ [] → Filled s u from lo T None
  unfolding starts
  fill_none e =
      let beyond : bofs_from s u (length s) ≡ [] = bofs_beyond s u (length s) (omega arith) in
      record {
        marked = λ bofs on. list.fill_done bofs (bofs_from s u at) T lo None at (inv.for_all bofs on) (λ q l h. rw e refl);
        far = λ h n. never (cc);
        next = λ h n. never (cc);
        named = λ each.
            record {
              same = ap (claimed (sheets_of s)) (beyond ∙ sym e) ∙ (inv.passed (λ q k low short. each q k (sym (list.inside_open lo q low)))).same;
              next = λ h n. never (cc);
              last = λ z. beyond;
            };
      }

  pub fill_beyond : length s ≤ at → Filled s u from lo T None
  fill_beyond h = fill_none (bofs_beyond s u at h)

  pub fill_done : (r : Option Found) → r ≡ bof_at s u at → r ≡ None → Filled s u from lo T None
  fill_done r is h = fill_none (bofs_done s u at r is h)

  pub fill_full : at < length s → 1277952 ≤ at - lo → Filled s u from lo T (Some at)
  fill_full short full =
      let low = inv.low in
      let onward : (bofs : List Bof) → Onward (bofs_from s u from) lo bofs → Onward (bofs_from s u at) at bofs = λ bofs on. list.fill_onward bofs (bofs_from s u at) T lo at (inv.for_all bofs on) low full in
      record {
        marked = λ bofs on. list.fill_done bofs (bofs_from s u at) T lo (Some at) at (inv.for_all bofs on) (λ q l h. bofs_above s u at q l (list.inside_below lo q at h));
        far = λ h e. let i : at ≡ h = cc in omega arith;
        next = λ h e bofs on. let i : at ≡ h = cc in subst (λ (x : ℕ). Onward (bofs_from s u x) x bofs) i (onward bofs on);
        named = λ each.
            record {
              same = (inv.passed (λ q k low short. each q k (sym (list.inside_within lo q at low short)))).same;
              next = λ h e. let i : at ≡ h = cc in (omega arith, subst (λ (x : ℕ). Onward (bofs_from s u at) x (bofs_from s u from)) i (onward (bofs_from s u from) (λ q k g. refl)));
              last = λ z. never (cc);
            };
      }

  pub fill_low : lo ≤ at
  fill_low = inv.low

  pub fill_again : (r : Option Found) → r ≡ bof_at s u at → (f : Found) → r ≡ Some f → (c : ℕ) → at - lo < 1277952 → length T ≡ 53248 → c ≡ code_of (at - lo) f.kind
      → Filling s u from lo (set T ((at - lo) / 24) c) f.end
  fill_again r is f h c short size j =
      let i = bofs_next s u at r is f h in
      let more = bofs_more s u at r is f h in
      let low = inv.low in
      record {
        low = omega arith;
        for_all = λ bofs on. list.fill_again bofs (bofs_from s u f.end) T lo at f.kind f.end c (rw more at (inv.for_all bofs on)) low short (omega arith) size j;
        passed = λ each.
            (let rest = rw more at (inv.passed (λ q l g x. each q l g (omega arith))) in
            list.left_named (sheets_of s) (bofs_from s u from) (bofs_from s u f.end) at f.kind rest (each at f.kind low (omega arith) (list.head_in (sheets_of s) (bofs_from s u from) (bofs_from s u f.end) at f.kind rest)));
      }

pub ruleset fill_laws = (fill_start, fill_beyond, fill_done, fill_full, fill_low, fill_again, bofs_less)

-- ---- the sheets are gone through, of which l are left, whichever BOFs the slots T₀ had
pub record Passing (T₀ T : List ℕ) (lo : ℕ) (hi : Option ℕ) (sheets l : List Sheet) : Type 0 where
  pub for_all : (bofs : List Bof) → Marked T₀ lo hi bofs [] → list.Passing bofs sheets l T lo hi

pub pass_start : (T : List ℕ) (lo : ℕ) (hi : Option ℕ) (sheets l : List Sheet) → l ≡ sheets → Passing T T lo hi sheets l
pass_start T lo hi sheets l e = record { for_all = λ bofs m. rw e (list.pass_start bofs sheets T lo hi m) }

module _ {T₀ T : List ℕ} {lo : ℕ} {hi : Option ℕ} {sheets l : List Sheet} (inv : Passing T₀ T lo hi sheets l) where
  pub pass_done : l ≡ [] → PassedAll T₀ T lo hi sheets None
  pass_done h = record { for_all = λ bofs m. list.pass_done bofs sheets T lo hi (rw h at (inv.for_all bofs m)) }

  module _ (b : Boundsheet) (l' : List Sheet) (h : l ≡ declared b ∷ l') (w : Bool) (in_window : w ≡ inside lo hi b.position) where
    here : (bofs : List Bof) → Marked T₀ lo hi bofs [] → list.Passing bofs sheets (declared b ∷ l') T lo hi
    here bofs m = rw h at (inv.for_all bofs m)

    pub pass_by : w ≡ false → Passing T₀ T lo hi sheets l'
    pass_by y = record { for_all = λ bofs m. list.pass_by bofs sheets l' T lo hi b.header b.position b.kind (here bofs m) (sym in_window ∙ y) }

    module _ (x : w ≡ true) (f : Bool) (has : f ≡ marks T lo b.position b.kind) where
      pub pass_low : f ≡ true → lo ≤ b.position
      pass_low y = (list.pass_low T lo b.position b.kind (sym has ∙ y)).0

      pub pass_slot : f ≡ true → (b.position - lo) / 24 < 53248
      pass_slot y = (list.pass_low T lo b.position b.kind (sym has ∙ y)).1

      pub pass_fault : f ≡ false → PassedAll T₀ T lo hi sheets (Some b.header)
      pass_fault y = record { for_all = λ bofs m. list.pass_fault bofs sheets l' T lo hi b.header b.position b.kind (here bofs m) (sym in_window ∙ x) (sym has ∙ y) }

      pub pass_again : f ≡ true → length T ≡ 53248 → Passing T₀ (set T ((b.position - lo) / 24) 0) lo hi sheets l'
      pass_again y size = record { for_all = λ bofs m. list.pass_again bofs sheets l' T lo hi b.header b.position b.kind (here bofs m) (sym in_window ∙ x) (sym has ∙ y) size }

pub ruleset pass_laws = (pass_start, pass_done, pass_by, pass_low, pass_slot, pass_fault, pass_again)

-- ---- the BOFs of the window that are left
pub record Leaving (s : List ℕ) (u from lo : ℕ) (hi : Option ℕ) (at : ℕ) : Type 0 where
  pub low : lo ≤ at
  pub leaving : list.Leaving (sheets_of s) (bofs_from s u from) (bofs_from s u at)
  pub next : (h : ℕ) → hi ≡ Some h → Onward (bofs_from s u at) h (bofs_from s u from)

pub left_start : (s : List ℕ) (u from lo : ℕ) (hi : Option ℕ) → lo ≤ from → Leaving s u from lo hi from
left_start s u from lo hi l = record { low = l; leaving = list.left_start (sheets_of s) (bofs_from s u from); next = λ n h q k g. refl }

module _ (s : List ℕ) (u from lo : ℕ) (hi : Option ℕ) (at : ℕ) (inv : Leaving s u from lo hi at) (w : Bool) (in_window : w ≡ inside lo hi at) where
  pub left_out : w ≡ false → Lefts s u from hi (remaining.Named at)
  left_out y =
      record {
        same = inv.leaving.same;
        next = λ h e. (let i : inside lo (Some h) at ≡ false = rw e at (sym in_window ∙ y) in list.inside_past lo at h inv.low i, inv.next h e);
        last = λ e. let i : inside lo None at ≡ false = rw e at (sym in_window ∙ y) in let a : true ≡ inside lo None at = list.inside_open lo at inv.low in never (cc);
      }

  module _ (x : w ≡ true) (r : Option Found) (is : r ≡ bof_at s u at) where
    pub left_done : r ≡ None → (n : ℕ) → n ≡ length s → ((h : ℕ) → hi ≡ Some h → h ≤ length s) → Lefts s u from hi (remaining.Named n)
    left_done h n e short =
        let none : bofs_from s u at ≡ [] = bofs_done s u at r is h in
        let beyond : bofs_from s u n ≡ [] = bofs_beyond s u n (omega arith) in
        let both : bofs_from s u n ≡ bofs_from s u at = cc in
        record {
          same = rw both inv.leaving.same;
          next = λ m i. (let l = short m i in omega arith, rw both (inv.next m i));
          last = λ z. beyond;
        }

    module _ (f : Found) (h : r ≡ Some f) (T : List ℕ) (table : Marked T lo hi (bofs_from s u from) (sheets_of s)) (b : Bool) (has : b ≡ marks T lo at f.kind) where
      more : bofs_from s u at ≡ record { start = at; kind = f.kind } ∷ bofs_from s u f.end
      more = bofs_more s u at r is f h

      here' : list.Leaving (sheets_of s) (bofs_from s u from) (record { start = at; kind = f.kind } ∷ bofs_from s u f.end)
      here' = rw more at inv.leaving

      pub left_here : b ≡ true → Lefts s u from hi (remaining.Free at)
      left_here y = list.left_here (sheets_of s) (bofs_from s u from) (bofs_from s u f.end) at f.kind here' T lo hi table (sym in_window ∙ x) (sym has ∙ y)

      drop_one : (m : ℕ) → hi ≡ Some m → Onward (bofs_from s u f.end) m (bofs_from s u from)
      unfolding starts
      drop_one m n q l g =
          let i : inside lo (Some m) at ≡ true = rw n at (sym in_window ∙ x) in
          let below : at < m = list.inside_below lo at m i in
          let e : eqb at q ≡ false = ne_eqb at q (λ e. (omega arith)) in
          rw (more, e) at (inv.next m n q l g)

      pub left_again : b ≡ false → Leaving s u from lo hi f.end
      left_again y =
          let i = bofs_next s u at r is f h in
          let low = inv.low in
          record {
            low = omega arith;
            leaving = list.left_again (sheets_of s) (bofs_from s u from) (bofs_from s u f.end) at f.kind here' T lo hi table (sym in_window ∙ x) (sym has ∙ y);
            next = drop_one;
          }

pub ruleset left_laws = (left_start, left_out, left_done, left_here, left_again, bofs_less)

-- ---- all slots are empty
pub or_none : (xs : List ℕ) (a : ℕ) → fold bit_or a xs ≡ 0 → (a ≡ 0) × ((j : ℕ) → get_or xs j 0 ≡ 0)
or_none [] a e = (e, λ j. refl)
or_none (x ∷ xs) a e =
    let rest = or_none xs (bit_or a x) e in
    let l = le_or_l a x in
    let r = le_or_r a x in
    (omega arith, each (omega arith) rest.1)
  where
    each : x ≡ 0 → ((j : ℕ) → get_or xs j 0 ≡ 0) → (j : ℕ) → get_or (x ∷ xs) j 0 ≡ 0
    each h rest zero = h
    each h rest (suc j) = rest j

-- then each BOF of the window is named
module _ (s : List ℕ) (u from lo : ℕ) (hi : Option ℕ) (T : List ℕ) (table : Marked T lo hi (bofs_from s u from) (sheets_of s)) where
  pub none_each : NoneLeft T → EachNamed s u from lo hi
  none_each none q k i st = not-false (named (sheets_of s) q) (ap (λ (a : Bool). a && not (named (sheets_of s) q)) (sym st) ∙ sym (table q k i) ∙ list.nothing T none lo q k)

-- ---- the three passes together
module _ (s : List ℕ) (u from lo : ℕ) (T₀ T : List ℕ) (hi : Option ℕ) (filled : Filled s u from lo T₀ hi) (v : Option ℕ) (passed : PassedAll T₀ T lo hi (sheets_of s) v) where
  end_far : (n : ℕ) → n ≡ unwrap_or hi (length s) → (h : ℕ) → hi ≡ Some h → (lo < h) × (h ≤ length s) × (h ≤ n)
  end_far n e h i = let f = filled.far h i in let g : n ≡ h = rw i at e in omega arith

  end_onward : (n : ℕ) → n ≡ unwrap_or hi (length s) → (h : ℕ) → hi ≡ Some h → (bofs : List Bof) → Onward (bofs_from s u from) lo bofs → Onward (bofs_from s u n) h bofs
  end_onward n e h i bofs on = let g : h ≡ n = sym (rw i at e) in subst (λ (x : ℕ). Onward (bofs_from s u x) h bofs) g (filled.next h i bofs on)

  judged_by : (x : Option ℕ) → v ≡ x → (bofs : List Bof) → Onward (bofs_from s u from) lo bofs → Passed T lo hi (sheets_of s) bofs x
  judged_by x e bofs on = subst (Passed T lo hi (sheets_of s) bofs) e (passed.for_all bofs (filled.marked bofs on))

  judges : (bofs : List Bof) → Onward (bofs_from s u from) lo bofs → v ≡ judged_in (inside lo hi) bofs [] (sheets_of s)
  judges bofs on = by v refl
    where
      by : (x : Option ℕ) → v ≡ x → v ≡ judged_in (inside lo hi) bofs [] (sheets_of s)
      by None e = e ∙ (judged_by None e bofs on).0
      by (Some h) e = e ∙ judged_by (Some h) e bofs on

  pub window_fault : (n : ℕ) → n ≡ unwrap_or hi (length s) → (v ≡ None → ⊥) → Windowed s u from lo (record { fault = v; free = None; next = hi; at = n })
  window_fault n e some =
      record {
        judges = judges;
        claims = λ g. absurd (some g);
        far = end_far n e;
        onward = end_onward n e;
        last = λ z g. absurd (some g);
      }

  module _ (e : v ≡ None) where
    pub window_left : Marked T lo hi (bofs_from s u from) (sheets_of s)
    window_left = (judged_by None e (bofs_from s u from) (λ q l h. refl)).1

    pub window_free : (n : ℕ) → n ≡ unwrap_or hi (length s) → (b : ℕ) → Lefts s u from hi (remaining.Free b) → Windowed s u from lo (record { fault = v; free = Some b; next = hi; at = n })
    window_free n i b l =
        record {
          judges = judges;
          claims = λ g. l;
          far = end_far n i;
          onward = end_onward n i;
          last = λ z g. l;
        }

    pub window_named : (at : ℕ) → NamedAll s u from hi at → Windowed s u from lo (record { fault = v; free = None; next = hi; at = at })
    unfolding claimed
    window_named at l =
        record {
          judges = judges;
          claims = λ g. l.same;
          far = λ h i. (let f = filled.far h i in let g = l.next h i in omega arith);
          onward = λ h i bofs on q k g. (let f = filled.far h i in (l.next h i).1 q k g ∙ on q k (omega arith));
          last = λ z g. rw (l.last z) at l.same;
        }

-- ---- the windows together
-- the headers of the sheets rise
abbrev Placed : ℕ → Bound → Type 0
Placed p (bound.Sheet b) = b.header ≡ p
Placed p (bound.Other n) = Unit {0}
Placed p bound.Done = Unit {0}

placed_by : (s : List ℕ) (p : ℕ) (x : Header) → Placed p (on_bound s p x)
unfolding sheet_at
placed_by s p (Record k z e) = pick_any (Placed p) _ (pick_any (Placed p) _ tt refl) (pick_any (Placed p) _ tt tt)
placed_by s p Cut = tt
placed_by s p End = tt

placed : (s : List ℕ) (p : ℕ) → Placed p (bound_at s p)
unfolding bound_at
placed s p = placed_by s p (header_at s p)

rising_by : (s : List ℕ) (p : ℕ) → ((m : ℕ) → length s - m < length s - p → list.Rising m (sheets_from s m)) → (x : Bound) → bound_at s p ≡ x → list.Rising p (sheets_from s p)
rising_by s p ih (bound.Sheet b) h =
    let less = sheets_less s p (bound_at s p) refl b h in
    let at_place : b.header ≡ p = subst (Placed p) h (placed s p) in
    rw (sheets_more s p (bound_at s p) refl b h) ((omega arith), list.rising_from (suc b.header) b.next (sheets_from s b.next) (omega arith) (ih b.next less))
rising_by s p ih (bound.Other m) h =
    let less = skip_less s p (bound_at s p) refl m h in
    rw (sheets_skip s p (bound_at s p) refl m h) (list.rising_from p m (sheets_from s m) (omega arith) (ih m less))
rising_by s p ih bound.Done h = rw (sheets_done s p (bound_at s p) refl h) tt

rising_in : (s : List ℕ) (n p : ℕ) → length s - p < n → list.Rising p (sheets_from s p)
rising_in s zero p l = absurd (omega arith)
rising_in s (suc n) p l = rising_by s p (λ m less. rising_in s n m (omega arith)) (bound_at s p) refl

rising : (s : List ℕ) → list.Rising 20 (sheets_of s)
rising s = rising_in s (suc (length s - 20)) 20 (omega arith)

-- so far the sheets whose positions lie before lo are judged, and the BOFs before lo
pub record Going (s : List ℕ) (u from lo at : ℕ) (fault free : Option ℕ) : Type 0 where
  pub low : lo ≤ at
  pub next : Onward (bofs_from s u at) lo (bofs_from s u from)
  pub judges : fault ≡ judged_in (λ p. ltb p lo) (bofs_from s u from) [] (sheets_of s)
  pub claims : fault ≡ None → option_or free (claimed (sheets_of s) (bofs_from s u at)) ≡ claimed (sheets_of s) (bofs_from s u from)

pub going_start : (s : List ℕ) (u from : ℕ) → Going s u from 0 from None None
going_start s u from =
    record {
      low = omega arith;
      next = λ q l h. refl;
      judges = list.judged_none (bofs_from s u from) (λ p. ltb p 0) (λ p. le-ltb p 0 (omega arith)) [] (sheets_of s);
      claims = λ h. refl;
    }

module _ (s : List ℕ) (u from lo at : ℕ) (fault free : Option ℕ) (inv : Going s u from lo at fault free) where
  pub going_low : lo ≤ at
  going_low = inv.low

  module _ (w : Window) (windowed : Windowed s u at lo w) (f g : Option ℕ) (is_f : f ≡ sooner fault w.fault) (is-g : g ≡ option_or free w.free) where
    joined : (R : ℕ → Bool) → ((p : ℕ) → R p ≡ ltb p lo || inside lo w.next p) → f ≡ judged_in R (bofs_from s u from) [] (sheets_of s)
    joined R both =
        is_f ∙ ap (λ (a : Option ℕ). sooner a w.fault) inv.judges
        ∙ ap (λ (a : Option ℕ). sooner (judged_in (λ p. ltb p lo) (bofs_from s u from) [] (sheets_of s)) a) (windowed.judges (bofs_from s u from) inv.next)
        ∙ list.judged_both (bofs_from s u from) (λ p. ltb p lo) (inside lo w.next) R both 20 [] (sheets_of s) (rising s)

    both_none : f ≡ None → (fault ≡ None) × (w.fault ≡ None)
    both_none h = list.sooner_none fault w.fault (sym is_f ∙ h)

    module _ (h : ℕ) (e : w.next ≡ Some h) where
      pub going_again : Going s u from h w.at f g
      going_again =
          let far = windowed.far h e in
          record {
            low = omega arith;
            next = windowed.onward h e (bofs_from s u from) inv.next;
            judges = joined (λ p. ltb p h) (λ p. list.below_hi lo h p far.0 ∙ ap (λ (x : Option ℕ). ltb p lo || inside lo x p) (sym e));
            claims = λ i. (
                let a = both_none i in
                ap (λ (x : Option ℕ). option_or x (claimed (sheets_of s) (bofs_from s u w.at))) is-g
                ∙ list.or_or free w.free (claimed (sheets_of s) (bofs_from s u w.at))
                ∙ ap (λ (x : Option ℕ). option_or free x) (windowed.claims a.1)
                ∙ inv.claims a.0);
          }

      pub going_less : length s - h < length s - lo
      going_less = let far = windowed.far h e in omega arith

    pub going_done : w.next ≡ None → option_or f g ≡ agreement_of (sheets_of s) (bofs_from s u from)
    going_done z =
        list.windows_done (bofs_from s u from) (λ p. true) (λ p. refl) (sheets_of s) f g
        (joined (λ p. true) (λ p. list.no_end lo p ∙ ap (λ (x : Option ℕ). ltb p lo || inside lo x p) (sym z)))
        (λ h. (
        let a = both_none h in
        is-g ∙ ap (λ (x : Option ℕ). option_or free x) (windowed.last z a.1) ∙ inv.claims a.0))

pub ruleset going_laws = (going_start, going_low, going_again, going_less, going_done)
