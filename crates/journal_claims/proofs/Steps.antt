-- One entry: what a journalled correction writes can be made again and undone. Assumes nothing.
use Prim.Native.Nat.{ℕ, zero, suc, ◌+◌, ◌%◌, ◌^◌, ◌≤◌, ◌<◌}
use mathlib.Core.Path.{◌≡◌, refl, sym, ap, ap₂, ◌∙◌, subst}
use mathlib.Core.List.{List}
use mathlib.Core.Bool.{Bool, true, false}
use native.Mathlib.Omega.{arith}
use native.Mathlib.Nat.{mod-eq_of_lt}
use lib.ListN.{length, get_or, set}
use lib.Dec.{ltb, eqb}
use lib.Seq.{sets, get_or-set_same, get_or-set_other, set_out}
use borrow.Author.Tests.{eq-eqb, eqb-true, eqb-false, ltb-true, ltb-false, lt-ltb, leb-true}
use Rattle.steps.specs.Choice.{pick}
use Rattle.steps.proofs.Choice.{never, pick_true, pick_by}
use Rattle.byte_numbers.specs.Bytes.{num_at, bytes_of}
use Rattle.number.proofs.Laws.{bits_of_lt}
use Rattle.value.specs.declared.Field.{Field}
use Rattle.value.specs.declared.Field.TheVariants.{NoField, Float, RkWord, TextIndex, TruthError, StoredResult}
use Rattle.value.specs.Value.{width_of, value_fits, index_fits}
use Rattle.new_value.specs.declared.NewValue.{NewValue}
use Rattle.new_value.specs.declared.NewValue.TheVariants.{Number, Text, Truth, Error}
use Rattle.new_value.specs.Change.{text_plan, pair_plan, plan_of}
use Rattle.truth_error.specs.Boolerr.{is_truth, is_error}
use Rattle.new_value.specs.Change.{Held}
use Rattle.globals.specs.declared.Globals.{Globals}
use Rattle.workbook.specs.Check.{Checked}
use Rattle.workbook.specs.Check.{Right}
use Rattle.workbook.specs.Check.{checked_of, on_checked}
use Rattle.correction.specs.declared.Aim.{Aim}
use Rattle.refusal.specs.declared.Refusal.{Refusal}
use Rattle.refusal.specs.Refused.{refuse}
use Rattle.std.specs.Prelude.{Result, Ok, Err}
use Rattle.journal_claims.proofs.Words.{aimed}
use Rattle.correction.specs.Parts.{aim_in}
use Rattle.correction.specs.Correction.{refuses, writes, stream_after}
use Rattle.passes_after.specs.Stored.{Fits, Stored}
use Rattle.passes_after.proofs.Upheld.{plan_fits, plan_plain}
use Rattle.passes_after.proofs.Stored.{number_now}
use Rattle.either_order.proofs.Sets.{stored_over}
use Rattle.journal_claims.proofs.Aims.{stored_same, Only, aimed_only, one_stored, aimed_unique, aim_stays}
use Rattle.journal.specs.declared.Entry.{Entry}
use Rattle.journal.specs.Entries.{count_in, entry_at, number_fits, counts_fit, entry_fits, journal_fits, room_for}
use Rattle.journal.specs.EntryParts.{Room}
use Rattle.journal.specs.Journal.{on_room, spot_in, planned, on_spot, journalled_in, journalled_of, kind_of, number_of, entry_of}
use Rattle.replay_entry.specs.Steps.{entry_plan, holds, on_make, on_undo, passes_in, make_at, undo_at, make_of, undo_of}
use Rattle.journal_claims.specs.Replayed.{Bytes, Small, Well}
use Rattle.journal_claims.proofs.Right.{RightCell, cell_right, num_small, value_right, index_right, column_small, row_small}

-- ---- a journalled correction that writes
pub record Journals (s : List ℕ) (u t : ℕ) (j : List ℕ) (n row column : ℕ) (v : NewValue) (f : Field) (p b : ℕ) : Type 0 where
  pub globals : Globals
  pub passes : checked_of s u ≡ Right globals
  pub room : room_for j ≡ true
  pub aims : aim_in s globals.unique t n row column ≡ aimed f p globals.unique
  pub plan : plan_of f v globals.unique ≡ Ok b

module _ (s : List ℕ) (u t : ℕ) (j : List ℕ) (n row column : ℕ) (v : NewValue) (f : Field) (p b : ℕ) where
  abbrev Goal : Type 0
  Goal = Journals s u t j n row column v f p b

  module _ (g : Globals) (ok : checked_of s u ≡ Right g) where
    by_plan : (k : Field) (q : ℕ) → room_for j ≡ true → aim_in s g.unique t n row column ≡ aimed k q g.unique → (y : Result ℕ Refusal) → plan_of k v g.unique ≡ y → planned k q y ≡ writes f p b → Goal
    by_plan k q r a (Ok m) i h =
        let d : k ≡ f = cc in
        let e : q ≡ p = cc in
        let o : m ≡ b = cc in
        record { globals = g; passes = ok; room = r; aims = a ∙ ap₂ (λ (x : Field) (y : ℕ). aimed x y g.unique) d e; plan = ap (λ (x : Field). plan_of x v g.unique) (sym d) ∙ i ∙ ap (λ (z : ℕ). Ok z) o }
    by_plan k q r a (Err e) i h = never (cc)

    by_many : (e : Refusal) (c r : Bool) → on_spot v (pick c (pick r (Err e) (refuse 12 0)) (Err e)) ≡ writes f p b → Goal
    unfolding pick
    by_many e true true h = never (cc)
    by_many e true false h = never (cc)
    by_many e false r h = never (cc)

    by_room : (a : Result Aim Refusal) → aim_in s g.unique t n row column ≡ a → (r : Bool) → room_for j ≡ r → on_spot v (on_room r a) ≡ writes f p b → Goal
    unfolding pick
    by_room (Err x) a r i h = by_many x (eqb x.number 16) r h
    by_room (Ok x) a true i h =
        let e = aimed_unique s g.unique t n row column x.kind x.field x.unique a in
        by_plan x.kind x.field i (a ∙ ap (aimed x.kind x.field) e) (plan_of x.kind v g.unique) refl (subst (λ (y : ℕ). planned x.kind x.field (plan_of x.kind v y) ≡ writes f p b) e h)
    by_room (Ok x) a false i h = never (cc)

    by_form : (c : Bool) → on_spot v (pick c (on_room (room_for j) (aim_in s g.unique t n row column)) (refuse 21 0)) ≡ writes f p b → Goal
    unfolding pick
    by_form true h = by_room (aim_in s g.unique t n row column) refl (room_for j) refl h
    by_form false h = never (cc)

  by_checked : (x : Checked) → checked_of s u ≡ x
      → on_checked refuses (λ (g : Globals). on_spot v (pick (journal_fits j (length s) g.unique) (on_room (room_for j) (aim_in s g.unique t n row column)) (refuse 21 0))) x ≡ writes f p b → Goal
  by_checked (Ok g) i h = by_form g i (journal_fits j (length s) g.unique) h
  by_checked (Err r) i h = never (cc)

  pub journals : journalled_of s u t j n row column v ≡ writes f p b → Goal
  unfolding journalled_of journalled_in spot_in
  journals h = by_checked (checked_of s u) refl h

-- ---- room
pub room_is : (j : List ℕ) → 16 ≤ length j → count_in j < 4294967296 → room_for j ≡ true → Room j
unfolding room_for
room_is j l small h =
    pick_by (λ (c : Bool). c ≡ true → Room j) (eqb (count_in j) 4294967295) (λ _ e. never (cc))
    (λ n e. record { least = l; count = less (count_in j) (eqb-false (count_in j) 4294967295 n) small; entry = leb-true (entry_at (count_in j + 1)) (length j) e }) h
  where
    less : (n : ℕ) → (n ≡ 4294967295 → ⊥) → n < 4294967296 → n < 4294967295
    less n m s = omega arith

-- ---- the plan of an entry is that of its value
pub plan_same : (f : Field) (v : NewValue) (unique : ℕ) → Held v → entry_plan f (kind_of v) (number_of v) unique ≡ plan_of f v unique
unfolding entry_plan pick
plan_same f (Number x) unique held = refl
plan_same f (Text i) unique held = let e : i % 2 ^ 32 ≡ i = omega arith in ap (λ (m : ℕ). text_plan f m unique) e
plan_same f (Truth t) unique held = let e : t % 256 ≡ t = omega arith in ap (λ (m : ℕ). pair_plan f (is_truth m) m) e
plan_same f (Error c) unique held = let e : c % 256 ≡ c = omega arith in ap (λ (m : ℕ). pair_plan f (is_error m) (m + 256)) e

-- ---- what a field holds
pub holds_is : (s : List ℕ) (f : Field) (p n : ℕ) → num_at s (width_of f) p ≡ n → holds s f p (width_of f) n ≡ true
unfolding holds
holds_is s f p n h = sym (pick_true true _ false (eqb (width_of f) (width_of f)) (eq-eqb (width_of f) (width_of f) refl) (sym (eq-eqb (num_at s (width_of f) p) n h)))

pub passes_is : (f : Field) (unique n : ℕ) → Fits f unique n → passes_in f unique n ≡ true
unfolding passes_in
passes_is f unique n h =
    let e : n % 256 ^ width_of f ≡ n = mod-eq_of_lt h.small in
    rw e (sym (pick_true true _ false (value_fits f n) h.right (sym h.index)))

-- ---- bytes
set_bytes : (s : List ℕ) (p a : ℕ) → a < 256 → Bytes s → Bytes (set s p a)
set_bytes s p a l h i = go (eqb i p) refl (ltb p (length s)) refl
  where
    go : (c : Bool) → eqb i p ≡ c → (d : Bool) → ltb p (length s) ≡ d → get_or (set s p a) i 0 < 256
    go true q true r = let e = eqb-true i p q in rw (e, get_or-set_same s p a 0 (ltb-true p (length s) r)) l
    go true q false r = rw (set_out s p a (ltb-false p (length s) r)) (h i)
    go false q d r = rw (get_or-set_other s p i a 0 (eqb-false i p q)) (h i)

pub stored_bytes : (w n : ℕ) (s : List ℕ) (p : ℕ) → Bytes s → Bytes (sets s p (bytes_of w n))
unfolding bytes_of
stored_bytes zero n s p h = h
stored_bytes (suc w) n s p h = stored_bytes w _ (set s p (n % 256)) (suc p) (set_bytes s p (n % 256) (omega arith) h)

-- ---- the entry's numbers
old_small : (f : Field) (n : ℕ) → n < 256 ^ width_of f → n < 256 ^ 8
old_small NoField n h = omega arith
old_small Float n h = omega arith
old_small RkWord n h = omega arith
old_small TextIndex n h = omega arith
old_small TruthError n h = omega arith
old_small StoredResult n h = omega arith

kind_small : (v : NewValue) → kind_of v < 256 ^ 2
kind_small (Number x) = omega arith
kind_small (Text i) = omega arith
kind_small (Truth t) = omega arith
kind_small (Error e) = omega arith

new_small : (v : NewValue) → Held v → number_of v < 256 ^ 8
new_small (Number x) h = let l = bits_of_lt x h in omega arith
new_small (Text i) h = omega arith
new_small (Truth t) h = omega arith
new_small (Error e) h = omega arith

-- the form of an entry whose plan puts a number
wrong : {A : Type 0} {n o b : ℕ} → ◌≡◌ {A = Result ℕ Refusal} (refuse n o) (Ok b) → A
wrong h = never (cc)

width_small : (k : Field) → width_of k ≤ 8
width_small NoField = omega arith
width_small Float = omega arith
width_small RkWord = omega arith
width_small TextIndex = omega arith
width_small TruthError = omega arith
width_small StoredResult = omega arith

index_well : (old new : ℕ) → old < 4294967296 → new < 4294967296 → counts_fit 4 4 4 old new ≡ true
unfolding counts_fit pick
index_well old new l m = rw (lt-ltb old 4294967296 l, lt-ltb new 4294967296 m) refl

pair_well : (old new : ℕ) → old < 65536 → new < 256 → counts_fit 2 1 2 old new ≡ true
unfolding counts_fit pick
pair_well old new l m = rw (lt-ltb old 65536 l, lt-ltb new 256 m) refl

number_well : (old : ℕ) → old < 4294967296 → number_fits 4 old ≡ true
unfolding number_fits pick
number_well old l = rw (lt-ltb old 4294967296 l) refl

pub entry_well : (f : Field) (v : NewValue) (unique b old : ℕ) → Held v → plan_of f v unique ≡ Ok b → old < 256 ^ width_of f → entry_fits (kind_of v) (width_of f) old (number_of v) ≡ true
unfolding entry_fits number_fits pick
entry_well NoField (Number x) unique b old held h l = wrong h
entry_well Float (Number x) unique b old held h l = refl
entry_well RkWord (Number x) unique b old held h l = number_well old (omega arith)
entry_well TextIndex (Number x) unique b old held h l = wrong h
entry_well TruthError (Number x) unique b old held h l = wrong h
entry_well StoredResult (Number x) unique b old held h l = wrong h
entry_well NoField (Text i) unique b old held h l = wrong h
entry_well Float (Text i) unique b old held h l = wrong h
entry_well RkWord (Text i) unique b old held h l = wrong h
entry_well TextIndex (Text i) unique b old held h l = index_well old i (omega arith) (omega arith)
entry_well TruthError (Text i) unique b old held h l = wrong h
entry_well StoredResult (Text i) unique b old held h l = wrong h
entry_well NoField (Truth t) unique b old held h l = wrong h
entry_well Float (Truth t) unique b old held h l = wrong h
entry_well RkWord (Truth t) unique b old held h l = wrong h
entry_well TextIndex (Truth t) unique b old held h l = wrong h
entry_well TruthError (Truth t) unique b old held h l = pair_well old t (omega arith) (omega arith)
entry_well StoredResult (Truth t) unique b old held h l = wrong h
entry_well NoField (Error e) unique b old held h l = wrong h
entry_well Float (Error e) unique b old held h l = wrong h
entry_well RkWord (Error e) unique b old held h l = wrong h
entry_well TextIndex (Error e) unique b old held h l = wrong h
entry_well TruthError (Error e) unique b old held h l = pair_well old e (omega arith) (omega arith)
entry_well StoredResult (Error e) unique b old held h l = wrong h

-- ---- the entry of a journalled correction
module _ {s : List ℕ} {u t : ℕ} {j : List ℕ} {n row column : ℕ} {v : NewValue} {f : Field} {p b : ℕ} (w : Journals s u t j n row column v f p b)
    (bytes : Bytes s) (held : Held v) (sheet : n < 2 ^ 32) where
  abbrev g : Globals
  g = w.globals

  abbrev s' : List ℕ
  s' = stream_after s (writes f p b)

  abbrev x : Entry
  x = entry_of s n row column v f p

  only : Only s n row column f p
  only = aimed_only s g.unique n row column f p g.unique t w.aims

  right : RightCell s g.unique only.cell
  right = cell_right s u g w.passes n only.sheet only.nth only.which only.cell only.is

  abbrev old : ℕ
  old = num_at s (width_of f) p

  -- the old bytes are right there
  pub old_fits : Fits f g.unique old
  old_fits = record {
    small = num_small s (width_of f) p bytes;
    right = subst (λ (q : ℕ). value_fits f (num_at s (width_of f) q) ≡ true) only.field (subst (λ (k : Field). value_fits k (num_at s (width_of k) only.cell.field) ≡ true) only.kind (value_right right));
    index = subst (λ (q : ℕ). index_fits f (num_at s (width_of f) q) g.unique ≡ true) only.field (subst (λ (k : Field). index_fits k (num_at s (width_of k) only.cell.field) g.unique ≡ true) only.kind (index_right right));
  }

  pub stored : Stored s u n f p b
  stored = one_stored s u n row column f p g w.passes only b (plan_fits f v g.unique b held w.plan) (plan_plain f v g.unique b w.plan)

  pub entry_small : Small x
  entry_small =
      let a = row_small right bytes in
      let c = column_small right in
      let d = only.row_is in
      let e = only.column_is in
      let k = width_small f in
      record { sheet = omega arith; row = omega arith; column = omega arith; kind = kind_small v; width = omega arith; old = old_small f old (num_small s (width_of f) p bytes); new = new_small v held }

  pub entry_form : Well x
  entry_form = entry_well f v g.unique b old held w.plan (num_small s (width_of f) p bytes)

  plan_is : entry_plan f (kind_of v) (number_of v) g.unique ≡ Ok b
  plan_is = plan_same f v g.unique held ∙ w.plan

  -- forwards it is made again
  pub made_again : make_of g.unique t x s ≡ writes f p b
  made_again =
      (λ i. make_at s x (w.aims i))
      ∙ ap₂ (λ (there : Bool) (y : Result ℕ Refusal). on_make f p there y) (holds_is s f p old refl) plan_is
      ∙ sym (pick_true (writes f p b) (writes f p b) (refuses 19 0) true refl refl)

  -- backwards it is undone
  pub undone : undo_of g.unique t x s' ≡ writes f p old
  undone =
      (λ i. undo_at s' x ((aim_stays stored g.unique t n row column ∙ w.aims) i))
      ∙ ap (on_undo f p (holds s' f p (width_of f)) (passes_in f g.unique old) old) plan_is
      ∙ sym (pick_true (writes f p old) _ (refuses 19 0) (holds s' f p (width_of f) b) (holds_is s' f p b (number_now stored.placed))
      (pick_true (writes f p old) (writes f p old) (refuses 18 0) (passes_in f g.unique old) (passes_is f g.unique old old_fits) refl))

  -- and the stream is the old one
  pub back_again : stream_after s' (writes f p old) ≡ s
  back_again = stored_over (width_of f) b old s p ∙ stored_same (width_of f) s p bytes

  pub bytes_again : Bytes s'
  bytes_again = stored_bytes (width_of f) b s p bytes
