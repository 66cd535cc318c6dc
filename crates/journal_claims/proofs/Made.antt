-- One entry of any journal: what it writes is right in a listed cell, and forwards it is a correction. Assumes nothing.
use Prim.Native.Nat.{ℕ, ◌+◌, ◌*◌, ◌/◌, ◌%◌, ◌^◌, ◌≤◌, ◌<◌}
use mathlib.Core.Path.{◌≡◌, refl, sym, ap, ap₂, ◌∙◌, subst}
use mathlib.Core.List.{List}
use mathlib.Core.Bool.{Bool, true, false, not}
use native.Mathlib.Omega.{arith}
use native.Mathlib.Nat.{mod-eq_of_lt}
use lib.Dec.{ltb, eqb}
use lib.Ieee.{binary64, of_bits}
use lib.Ieee.Bits.{of_bits-fits}
use borrow.Author.Tests.{eqb-true, eqb-false, ltb-true, le-ltb}
use Rattle.steps.specs.Choice.{pick}
use Rattle.steps.proofs.Choice.{never, pick_by}
use Rattle.number.specs.Float64.{is_nan_bits}
use Rattle.number.specs.Packing.{pack_of}
use Rattle.number.proofs.Laws.{bits_of_float, sound, rk_bits_number}
use Rattle.value.specs.declared.Field.{Field}
use Rattle.value.specs.declared.Field.TheVariants.{NoField, Float, RkWord, TextIndex, TruthError, StoredResult}
use Rattle.value.specs.Value.{width_of, value_fits, index_fits}
use Rattle.new_value.specs.declared.NewValue.{NewValue}
use Rattle.new_value.specs.declared.NewValue.TheVariants.{Number, Text, Truth, Error}
use Rattle.new_value.specs.Change.{finite, put_if, float_plan, packed_plan, number_plan, plan_of}
use Rattle.new_value.specs.Change.{Held}
use Rattle.globals.specs.declared.Globals.{Globals}
use Rattle.workbook.specs.Check.{Right}
use Rattle.workbook.specs.Check.{checked_of, on_checked}
use Rattle.correction.specs.declared.Aim.{Aim}
use Rattle.refusal.specs.declared.Refusal.{Refusal}
use Rattle.std.specs.Prelude.{Option, Some, None, Result, Ok, Err}
use Rattle.journal_claims.proofs.Words.{aimed}
use Rattle.correction.specs.Parts.{aim_in}
use Rattle.journal.specs.Journal.{planned, on_spot}
use Rattle.correction.specs.Correction.{refuses, writes, correction_in, correction_of}
use Rattle.passes_after.specs.Stored.{Fits, Stored}
use Rattle.passes_after.proofs.Upheld.{plan_fits, plan_plain}
use Rattle.journal_claims.proofs.Aims.{aimed_only, aimed_unique, one_stored, aimed_correction}
use Rattle.journal.specs.declared.Entry.{Entry}
use Rattle.journal.specs.Entries.{entry_in, number_fits, counts_fit, entry_fits}
use Rattle.replay_entry.specs.Steps.{first_bytes, entry_plan, holds, on_make, on_undo, passes_in, make_at, undo_at, make_of, undo_of}
use Rattle.journal_claims.specs.Replayed.{Small, EntriesSmall, Made, MadeIs, Well, EntriesStore}
use Rattle.journal_claims.proofs.Right.{num_small}

pub entries_small : EntriesSmall
unfolding entry_in
entries_small j e b =
    record { sheet = num_small j 4 e b; row = num_small j 2 (e + 4) b; column = num_small j 2 (e + 6) b; kind = num_small j 2 (e + 8) b; width = num_small j 2 (e + 10) b; old = num_small j 8 (e + 12) b; new = num_small j 8 (e + 20) b }

-- ---- what an entry that is made has
pub record Makes (x : Entry) (a : Result Aim Refusal) (unique : ℕ) (f : Field) (p b : ℕ) : Type 0 where
  pub aims : a ≡ aimed f p unique
  pub plan : entry_plan f x.kind x.new unique ≡ Ok b

makes_by : (unique : ℕ) (x : Entry) (f : Field) (p b : ℕ) (k : Field) (q : ℕ) (y : Result ℕ Refusal) → entry_plan k x.kind x.new unique ≡ y → (c : Bool) → on_make k q c y ≡ writes f p b → Makes x (aimed k q unique) unique f p b
unfolding pick
makes_by unique x f p b k q (Ok m) i true h =
    let e : k ≡ f = cc in
    let o : m ≡ b = cc in
    record { aims = ap₂ (λ (y : Field) (z : ℕ). aimed y z unique) e (cc); plan = ap (λ (y : Field). entry_plan y x.kind x.new unique) (sym e) ∙ i ∙ ap (λ (z : ℕ). Ok z) o }
makes_by unique x f p b k q (Ok m) i false h = never (cc)
makes_by unique x f p b k q (Err r) i c h = absurd (none (eqb r.number 17) c h)
  where
    none : (u v : Bool) → pick u (refuses 17 0) (pick v (refuses r.number 0) (refuses 19 0)) ≡ writes f p b → ⊥
    none true v e = never (cc)
    none false true e = never (cc)
    none false false e = never (cc)

pub makes : (s : List ℕ) (x : Entry) (a : Result Aim Refusal) (unique : ℕ) → ((f : Field) (p q : ℕ) → a ≡ aimed f p q → q ≡ unique) → (f : Field) (p b : ℕ) → make_at s x a ≡ writes f p b → Makes x a unique f p b
makes s x (Err r) unique w f p b h = never (cc)
makes s x (Ok a) unique w f p b h =
    let k = a.kind in
    let q = a.field in
    let u = a.unique in
    let e = w k q u refl in
    subst (λ (y : ℕ). Makes x (aimed k q y) unique f p b) (sym e)
    (makes_by unique x f p b k q (entry_plan k x.kind x.new unique) refl (holds s k q x.width x.old)
    (subst (λ (y : ℕ). on_make k q (holds s k q x.width x.old) (entry_plan k x.kind x.new y) ≡ writes f p b) e h))

-- ---- and one that is undone
pub record Undoes (unique : ℕ) (x : Entry) (a : Result Aim Refusal) (f : Field) (p b : ℕ) : Type 0 where
  pub aims : a ≡ aimed f p unique
  pub old : x.old ≡ b
  pub width : x.width ≡ width_of f
  pub right : passes_in f unique x.old ≡ true
  pub put : ℕ
  pub plan : entry_plan f x.kind x.new unique ≡ Ok put

holds_width : (s : List ℕ) (f : Field) (p width n : ℕ) → holds s f p width n ≡ true → width ≡ width_of f
unfolding holds
holds_width s f p width n h = pick_by (λ (c : Bool). c ≡ true → width ≡ width_of f) (eqb width (width_of f)) (λ i _. eqb-true width (width_of f) i) (λ _ e. never (cc)) h

undoes_by : (s : List ℕ) (unique : ℕ) (x : Entry) (f : Field) (p b : ℕ) (k : Field) (q m : ℕ) (c d : Bool) → entry_plan k x.kind x.new unique ≡ Ok m → holds s k q x.width m ≡ c → passes_in k unique x.old ≡ d
    → pick c (pick d (writes k q x.old) (refuses 18 0)) (refuses 19 0) ≡ writes f p b → Undoes unique x (aimed k q unique) f p b
unfolding pick
undoes_by s unique x f p b k q m true true o i j h =
    let e : k ≡ f = cc in
    record {
      aims = ap₂ (λ (y : Field) (z : ℕ). aimed y z unique) e (cc);
      old = cc;
      width = holds_width s k q x.width m i ∙ ap width_of e;
      right = ap (λ (y : Field). passes_in y unique x.old) (sym e) ∙ j;
      put = m;
      plan = ap (λ (y : Field). entry_plan y x.kind x.new unique) (sym e) ∙ o;
    }
undoes_by s unique x f p b k q m true false o i j h = never (cc)
undoes_by s unique x f p b k q m false d o i j h = never (cc)

undoes_plan : (s : List ℕ) (unique : ℕ) (x : Entry) (f : Field) (p b : ℕ) (k : Field) (q : ℕ) (y : Result ℕ Refusal) → entry_plan k x.kind x.new unique ≡ y
    → on_undo k q (holds s k q x.width) (passes_in k unique x.old) x.old y ≡ writes f p b → Undoes unique x (aimed k q unique) f p b
unfolding pick
undoes_plan s unique x f p b k q (Ok m) i h = undoes_by s unique x f p b k q m (holds s k q x.width m) (passes_in k unique x.old) i refl refl h
undoes_plan s unique x f p b k q (Err r) i h = absurd (none (eqb r.number 17) h)
  where
    none : (u : Bool) → pick u (refuses 17 0) (refuses 19 0) ≡ writes f p b → ⊥
    none true e = never (cc)
    none false e = never (cc)

pub undoes : (s : List ℕ) (x : Entry) (a : Result Aim Refusal) (unique : ℕ) → ((f : Field) (p q : ℕ) → a ≡ aimed f p q → q ≡ unique) → (f : Field) (p b : ℕ) → undo_at s x a ≡ writes f p b → Undoes unique x a f p b
undoes s x (Err r) unique w f p b h = never (cc)
undoes s x (Ok a) unique w f p b h =
    let k = a.kind in
    let q = a.field in
    let u = a.unique in
    let e = w k q u refl in
    subst (λ (y : ℕ). Undoes unique x (aimed k q y) f p b) (sym e)
    (undoes_plan s unique x f p b k q (entry_plan k x.kind x.new unique) refl
    (subst (λ (y : ℕ). on_undo k q (holds s k q x.width) (passes_in k y x.old) x.old (entry_plan k x.kind x.new y) ≡ writes f p b) e h))

-- ---- the old bytes of a well-formed entry
counts_old : (olds news width old new : ℕ) → counts_fit olds news width old new ≡ true → old < 256 ^ width
unfolding counts_fit
counts_old olds news width old new h =
    pick_by (λ (c : Bool). c ≡ true → old < 256 ^ width) (eqb width olds)
    (λ i. pick_by (λ (c : Bool). c ≡ true → old < 256 ^ width) (ltb old (256 ^ olds)) (λ j _. let e = eqb-true width olds i in rw e (ltb-true old (256 ^ olds) j)) (λ _ e. never (cc)))
    (λ _ e. never (cc)) h

number_old : (width old : ℕ) → old < 256 ^ 8 → number_fits width old ≡ true → old < 256 ^ width
unfolding number_fits
number_old width old l h =
    pick_by (λ (c : Bool). c ≡ true → old < 256 ^ width) (eqb width 8) (λ i _. let e = eqb-true width 8 i in rw e l)
    (λ _. pick_by (λ (c : Bool). c ≡ true → old < 256 ^ width) (eqb width 4) (λ i j. let e = eqb-true width 4 i in rw e (ltb-true old (256 ^ 4) j)) (λ _ e. never (cc))) h

well_old : (x : Entry) → Small x → Well x → x.old < 256 ^ x.width
unfolding entry_fits
well_old x small h =
    pick_by Goal (eqb x.kind 0) (λ _. number_old x.width x.old small.old)
    (λ _. pick_by Goal (eqb x.kind 1) (λ _. counts_old 4 4 x.width x.old x.new)
    (λ _. pick_by Goal (eqb x.kind 2) (λ _. counts_old 2 1 x.width x.old x.new)
    (λ _. pick_by Goal (eqb x.kind 3) (λ _. counts_old 2 1 x.width x.old x.new) (λ _ e. never (cc))))) h
  where
    Goal : Bool → Type 0
    Goal c = c ≡ true → x.old < 256 ^ x.width

passes_fits : (f : Field) (unique n : ℕ) → n < 256 ^ width_of f → passes_in f unique n ≡ true → Fits f unique n
unfolding passes_in
passes_fits f unique n l h =
    let e : n % 256 ^ width_of f ≡ n = mod-eq_of_lt l in
    let k : pick (value_fits f n) (index_fits f n unique) false ≡ true = rw e at h in
    pick_by (λ (c : Bool). c ≡ true → Fits f unique n) (value_fits f n) (λ i j. record { small = l; right = i; index = j }) (λ _ j. never (cc)) k

-- ---- the value that a correction would be asked with
-- a number that is put is no NaN
finite_number : (b : ℕ) → finite b ≡ true → is_nan_bits b ≡ false
unfolding finite is_nan_bits
finite_number b e = le-ltb (2047 * 2 ^ 52) (b % 2 ^ 63) (let o = eqb-false (b / 2 ^ 52 % 2 ^ 11) 2047 (un_not (eqb (b / 2 ^ 52 % 2 ^ 11) 2047) e) in bounded o)
  where
    un_not : (t : Bool) → not t ≡ true → t ≡ false
    un_not true i = sym i
    un_not false i = refl

    bounded : (b / 2 ^ 52 % 2 ^ 11 ≡ 2047 → ⊥) → b % 2 ^ 63 ≤ 2047 * 2 ^ 52
    bounded o = omega arith

put_right : (t : Bool) (n b : ℕ) → put_if t n ≡ Ok b → t ≡ true
unfolding put_if pick
put_right true n b e = refl
put_right false n b e = never (cc)

word_put : (k : Option ℕ) (b : ℕ) → packed_plan k ≡ Ok b → k ≡ Some b
word_put (Some w) b e = cc
word_put None b e = never (cc)

number_put : (f : Field) (n b : ℕ) → n < 2 ^ 64 → number_plan f n ≡ Ok b → is_nan_bits n ≡ false
unfolding float_plan
number_put NoField n b l h = never (cc)
number_put Float n b l h = finite_number n (put_right (finite n) n b h)
number_put RkWord n b l h = let m = sound n b l (word_put (pack_of n) b h) in subst (λ (y : ℕ). is_nan_bits y ≡ false) m.bits (rk_bits_number b m.fits m.meant)
number_put TextIndex n b l h = never (cc)
number_put TruthError n b l h = never (cc)
number_put StoredResult n b l h = never (cc)

pub record Asks (f : Field) (unique b : ℕ) : Type 0 where
  pub value : NewValue
  pub held : Held value
  pub plan : plan_of f value unique ≡ Ok b

asks_number : (f : Field) (new unique b : ℕ) → new < 256 ^ 8 → number_plan f new ≡ Ok b → Asks f unique b
asks_number f new unique b l h =
    let e = bits_of_float new (omega arith) (number_put f new b (omega arith) h) in
    record { value = Number (of_bits binary64 new); held = of_bits-fits binary64 new; plan = ap (number_plan f) e ∙ h }

pub asks : (f : Field) (kind new unique b : ℕ) → new < 256 ^ 8 → entry_plan f kind new unique ≡ Ok b → Asks f unique b
unfolding entry_plan
asks f kind new unique b l h =
    pick_by Goal (eqb kind 0) (λ _. asks_number f new unique b l)
    (λ _. pick_by Goal (eqb kind 1) (λ _ e. record { value = Text (first_bytes 4 new); held = omega arith; plan = e })
    (λ _. pick_by Goal (eqb kind 2) (λ _ e. record { value = Truth (first_bytes 1 new); held = omega arith; plan = e })
    (λ _ e. record { value = Error (first_bytes 1 new); held = omega arith; plan = e }))) h
  where
    Goal : Result ℕ Refusal → Type 0
    Goal y = y ≡ Ok b → Asks f unique b

-- ---- the claims
module _ (s : List ℕ) (u t : ℕ) (g : Globals) (ok : checked_of s u ≡ Right g) (x : Entry) (small : Small x) (f : Field) (p b : ℕ) where
  abbrev aims : Result Aim Refusal
  aims = aim_in s g.unique t x.sheet x.row x.column

  counts : (f : Field) (p q : ℕ) → aims ≡ aimed f p q → q ≡ g.unique
  counts f p q = aimed_unique s g.unique t x.sheet x.row x.column f p q

  one_there : aims ≡ aimed f p g.unique → Fits f g.unique b → (f ≡ StoredResult → ⊥) → Stored s u x.sheet f p b
  one_there h = one_stored s u x.sheet x.row x.column f p g ok (aimed_only s g.unique x.sheet x.row x.column f p g.unique t h) b

  module _ (h : make_of g.unique t x s ≡ writes f p b) where
    m : Makes x aims g.unique f p b
    m = makes s x aims g.unique counts f p b h

    a : Asks f g.unique b
    a = asks f x.kind x.new g.unique b small.new m.plan

    pub made : Made s u t x f p b
    unfolding correction_of
    made = record {
      value = a.value;
      held = a.held;
      correction =
          ap (on_checked refuses (λ (g : Globals). correction_in s g.unique t x.sheet x.row x.column a.value)) ok
          ∙ sym (aimed_correction s g.unique t x.sheet x.row x.column a.value)
          ∙ ap (on_spot a.value) m.aims ∙ ap (planned f p) a.plan;
    }

    pub made_stored : Stored s u x.sheet f p b
    made_stored = one_there m.aims (plan_fits f a.value g.unique b a.held a.plan) (plan_plain f a.value g.unique b a.plan)

  module _ (well : Well x) (h : undo_of g.unique t x s ≡ writes f p b) where
    d : Undoes g.unique x aims f p b
    d = undoes s x aims g.unique counts f p b h

    pub undone_stored : Stored s u x.sheet f p b
    undone_stored =
        let a₁ = asks f x.kind x.new g.unique d.put small.new d.plan in
        let l : x.old < 256 ^ width_of f = rw d.width at (well_old x small well) in
        one_there d.aims (subst (Fits f g.unique) d.old (passes_fits f g.unique x.old l d.right))
        (plan_plain f a₁.value g.unique d.put a₁.plan)

pub made_is : MadeIs
made_is s u t g ok x small f p b h = made s u t g ok x small f p b h

pub entries_store : EntriesStore
entries_store s u t g ok x small well f p b = (made_stored s u t g ok x small f p b, undone_stored s u t g ok x small f p b well)
