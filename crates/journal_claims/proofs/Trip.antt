-- A journal since it was started: replay on the original gives the final stream, and backwards from the final the original. Assumes nothing.
use Prim.Native.Nat.{ℕ, zero, suc, ◌+◌, ◌^◌, ◌≤◌, ◌<◌}
use mathlib.Core.Path.{◌≡◌, refl, sym, ap, ap₂, ◌∙◌, subst}
use mathlib.Core.List.{List}
use mathlib.Core.Bool.{Bool, true, false}
use native.Mathlib.Omega.{arith}
use native.Mathlib.Numerals.{add-one}
use lib.ListN.{length}
use lib.Dec.{ltb, eqb}
use lib.Seq.{length-sets}
use borrow.Author.Tests.{eqb-true, eqb-false, ltb-false}
use Rattle.steps.specs.Choice.{pick}
use Rattle.steps.proofs.Choice.{never, pick_true}
use Rattle.byte_numbers.specs.Bytes.{num_at, bytes_of}
use Rattle.value.specs.declared.Field.{Field}
use Rattle.value.specs.Value.{width_of}
use Rattle.globals.specs.declared.Globals.{Globals}
use Rattle.std.specs.Prelude.{Ok, Err}
use Rattle.workbook.specs.Check.{Checked}
use Rattle.workbook.specs.Check.{Right}
use Rattle.workbook.specs.Check.{checked_of, on_checked}
use Rattle.record_chain.proofs.Sheets.{passing}
use Rattle.correction.specs.Correction.{Correction, refuses, writes, stream_after}
use Rattle.passes_after.proofs.Stored.{stored_checked}
use Rattle.either_order.specs.Apart.{Asked}
use Rattle.journal.specs.declared.Entry.{Entry}
use Rattle.journal.specs.Entries.{header, count_in, entry_at, entry_in, journal_fits, logged}
use Rattle.journal.specs.EntryParts.{Room}
use Rattle.journal.specs.Journal.{declines, begins, start_in, start_of, entry_of, journal_after}
use Rattle.replay_entry.specs.Steps.{make_of, undo_of}
use Rattle.replay_entry.specs.Replay.{Ran, all, stopped, on_step, forwards, backwards, declined, ran, runs, replay_in, replay_of}
use Rattle.journal_claims.specs.Replayed.{Bytes, Sent, journalled, journal_next, Since, begun, asked, RoundTrip, Small, Well, Logs, Logged}
use Rattle.journal_claims.proofs.Places.{Formed, formed_fits, started_count, started_formed, logged_length, logged_count, logged_else, logged_in, logged_entry}
use Rattle.journal_claims.proofs.Unique.{unique_small}
use Rattle.journal_claims.proofs.Steps.{Journals, journals, room_is, stored, entry_small, entry_form, made_again, undone, back_again, bytes_again}

-- ---- entries that can be made and undone, one after the other
pub data History (unique t : ℕ) (j s₀ : List ℕ) : ℕ → List ℕ → Type 0 where
  none : History unique t j s₀ 0 s₀
  one : {n : ℕ} {s : List ℕ} → History unique t j s₀ n s → (f : Field) (p b a : ℕ) → make_of unique t (entry_in j (entry_at n)) s ≡ writes f p b
      → undo_of unique t (entry_in j (entry_at n)) (stream_after s (writes f p b)) ≡ writes f p a → stream_after (stream_after s (writes f p b)) (writes f p a) ≡ s
      → History unique t j s₀ (suc n) (stream_after s (writes f p b))

history_same : (unique t : ℕ) (j j' s₀ : List ℕ) {n : ℕ} {s : List ℕ} → ((i : ℕ) → i < n → entry_in j' (entry_at i) ≡ entry_in j (entry_at i)) → History unique t j s₀ n s → History unique t j' s₀ n s
history_same unique t j j' s₀ h none = none
history_same unique t j j' s₀ h (one {n = n} {s = s} r f p b a x y z) =
    let e = h n (omega arith) in
    one (history_same unique t j j' s₀ (λ i l. h i (omega arith)) r) f p b a (ap (λ (i : Entry). make_of unique t i s) e ∙ x) (ap (λ (i : Entry). undo_of unique t i (stream_after s (writes f p b))) e ∙ y) z

-- ---- backwards
pub back_all : (unique t : ℕ) (j s₀ : List ℕ) {n : ℕ} {s : List ℕ} → History unique t j s₀ n s → backwards unique t j n s ≡ all s₀
unfolding backwards
back_all unique t j s₀ none = refl
back_all unique t j s₀ (one {n = n} {s = s} r f p b a x y z) =
    ap (λ (c : Correction). on_step (stream_after s (writes f p b)) n c (λ r. backwards unique t j n r)) y
    ∙ ap (backwards unique t j n) z ∙ back_all unique t j s₀ r

-- ---- forwards, with the last entry apart
abbrev and_then : Ran → (List ℕ → Ran) → Ran
and_then (all s) k = k s
and_then (stopped m i s) k = stopped m i s

module _ (unique t : ℕ) (j : List ℕ) where
  abbrev last : ℕ → List ℕ → Ran
  last i s = on_step s i (make_of unique t (entry_in j (entry_at i)) s) all

  last_same : (i : ℕ) (s : List ℕ) (c : Correction) → on_step s i c (λ r. forwards unique t j (i + 1) 0 r) ≡ on_step s i c all
  unfolding forwards
  last_same i s (refuses m o) = refl
  last_same i s (writes f p b) = refl

  fore_last : (n i : ℕ) (s : List ℕ) → forwards unique t j i (suc n) s ≡ and_then (forwards unique t j i n s) (last (i + n))
  unfolding forwards
  fore_last zero i s = let e : i ≡ i + 0 = omega arith in last_same i s (make_of unique t (entry_in j (entry_at i)) s) ∙ ap (λ (k : ℕ). last k s) e
  fore_last (suc n) i s = go (make_of unique t (entry_in j (entry_at i)) s) (λ r. fore_last n (i + 1) r)
    where
      go : (c : Correction) → ((r : List ℕ) → forwards unique t j (i + 1) (suc n) r ≡ and_then (forwards unique t j (i + 1) n r) (last (i + 1 + n)))
          → on_step s i c (λ r. forwards unique t j (i + 1) (suc n) r) ≡ and_then (on_step s i c (λ r. forwards unique t j (i + 1) n r)) (last (i + suc n))
      go (refuses m o) ih = refl
      go (writes f p b) ih =
          let e : i + 1 + n ≡ i + suc n = omega arith in
          ih (stream_after s (writes f p b)) ∙ ap (λ (k : ℕ). and_then (forwards unique t j (i + 1) n (stream_after s (writes f p b))) (last k)) e

  pub fore_all : (s₀ : List ℕ) {n : ℕ} {s : List ℕ} → History unique t j s₀ n s → forwards unique t j 0 n s₀ ≡ all s
  unfolding forwards
  fore_all s₀ none = refl
  fore_all s₀ (one {n = n} {s = s} r f p b a x y z) =
      let e : 0 + n ≡ n = omega arith in
      fore_last n 0 s₀ ∙ ap (λ (q : Ran). and_then q (last (0 + n))) (fore_all s₀ r) ∙ ap (λ (k : ℕ). last k s) e ∙ ap (λ (c : Correction). on_step s n c all) x

-- ---- what holds since the start
pub record Keeping (u t : ℕ) (s₀ s j : List ℕ) : Type 0 where
  pub globals : Globals
  pub first : checked_of s₀ u ≡ Right globals
  pub now : checked_of s u ≡ Right globals
  pub size : length s ≡ length s₀
  pub bytes : Bytes s
  pub formed : Formed j (length s) globals.unique
  pub history : History globals.unique t j s₀ (count_in j) s

-- the start
begins_by : (s j : List ℕ) (u unique : ℕ) (x : Checked) → checked_of s u ≡ x → on_checked declines (λ (g : Globals). pick (ltb (length j) 16) (declines 12 0) (begins g.unique)) x ≡ begins unique
    → (g : Globals) → x ≡ Right g → (16 ≤ length j) × (g.unique ≡ unique)
unfolding pick
begins_by s j u unique x i h g e = go (ltb (length j) 16) refl (ap (on_checked declines (λ (g : Globals). pick (ltb (length j) 16) (declines 12 0) (begins g.unique))) (sym e) ∙ h)
  where
    go : (b : Bool) → ltb (length j) 16 ≡ b → pick b (declines 12 0) (begins g.unique) ≡ begins unique → (16 ≤ length j) × (g.unique ≡ unique)
    go true l k = never (cc)
    go false l k = (ltb-false (length j) 16 l, cc)

module _ (u t : ℕ) (s j : List ℕ) (unique : ℕ) (bytes : Bytes s) (lent : u < 2 ^ 32) where
  start_by_lem : (x : Checked) → checked_of s u ≡ x → on_checked declines (λ (g : Globals). pick (ltb (length j) 16) (declines 12 0) (begins g.unique)) x ≡ begins unique → Keeping u t s s (header (length s) unique j)
  start_by_lem (Ok g) i h =
      let k = begins_by s j u unique (Right g) i h g refl in
      let l = (passing s u g i).short in
      let small = unique_small s u g bytes lent (passing s u g i).globals in
      let same = k.1 in
      let f = started_formed j (length s) unique k.0 (omega arith) (omega arith) in
      record {
        globals = g;
        first = i;
        now = i;
        size = refl;
        bytes = bytes;
        formed = subst (λ (q : ℕ). Formed (header (length s) unique j) (length s) q) (sym k.1) f;
        history = subst (λ (n : ℕ). History g.unique t (header (length s) unique j) s n s) (sym (started_count j (length s) unique k.0 (omega arith) (omega arith))) none;
      }
  start_by_lem (Err r) i h = never (cc)

  keeping_start : start_of s u (length j) ≡ begins unique → Keeping u t s s (header (length s) unique j)
  unfolding start_of start_in
  keeping_start h = start_by_lem (checked_of s u) refl h

-- one correction
module _ {u t : ℕ} {s₀ s j : List ℕ} (k : Keeping u t s₀ s j) (x : Asked) (sent : Sent x) where
  module _ (f : Field) (p b : ℕ) (h : journalled s u t j x ≡ writes f p b) where
    w : Journals s u t j x.sheet x.row x.column x.value f p b
    w = journals s u t j x.sheet x.row x.column x.value f p b h

    g_same : w.globals ≡ k.globals
    g_same = let e : Right w.globals ≡ Right k.globals = sym w.passes ∙ k.now in cc

    pub room : Room j
    room = room_is j k.formed.long k.formed.count w.room

    abbrev e : Entry
    e = entry_of s x.sheet x.row x.column x.value f p

    abbrev s' : List ℕ
    s' = stream_after s (writes f p b)

    abbrev j' : List ℕ
    j' = logged e j

    e_small : Small e
    e_small = entry_small w k.bytes sent.1 sent.0

    count_is : count_in j' ≡ suc (count_in j)
    count_is = logged_count j e room ∙ add-one (count_in j)

    pub logs : Logs s j j' x f p
    logs = record { count = logged_count j e room; entry = logged_in j e room e_small; before = logged_entry j e room }

    each : (i : ℕ) → i < count_in j' → Well (entry_in j' (entry_at i))
    each i l = go (eqb i (count_in j)) refl
      where
        go : (c : Bool) → eqb i (count_in j) ≡ c → Well (entry_in j' (entry_at i))
        go true q = subst Well (sym (ap (λ (m : ℕ). entry_in j' (entry_at m)) (eqb-true i (count_in j) q) ∙ logged_in j e room e_small)) (entry_form w k.bytes sent.1 sent.0)
        go false q =
            let m : i < count_in j = less i (count_in j) (eqb-false i (count_in j) q) (let c = count_is in omega arith) in
            subst Well (sym (logged_entry j e room i m)) (k.formed.each i m)
          where
            less : (a c : ℕ) → (a ≡ c → ⊥) → a < suc c → a < c
            less a c n l = omega arith

    formed : Formed j' (length s') k.globals.unique
    formed =
        let a = logged_length j e room in
        let c = logged_count j e room in
        let r = room.entry in
        let q = room.count in
        let o = k.formed.long in
        let z = length-sets s p (bytes_of (width_of f) b) in
        record {
          long = omega arith;
          offset = logged_else j e room 4 4 (omega arith) (omega arith) ∙ k.formed.offset;
          stream = logged_else j e room 4 8 (omega arith) (omega arith) ∙ k.formed.stream ∙ sym z;
          strings = logged_else j e room 4 12 (omega arith) (omega arith) ∙ k.formed.strings;
          count = omega arith;
          whole = omega arith;
          each = each;
        }

    history : History k.globals.unique t j' s₀ (count_in j') s'
    history =
        let q = logged_in j e room e_small in
        let v = ap (λ (y : Globals). y.unique) g_same in
        subst (λ (n : ℕ). History k.globals.unique t j' s₀ n s') (sym count_is)
        (one (history_same k.globals.unique t j j' s₀ (logged_entry j e room) k.history) f p b (num_at s (width_of f) p)
        (ap₂ (λ (m : ℕ) (y : Entry). make_of m t y s) (sym v) q ∙ made_again w k.bytes sent.1 sent.0)
        (ap₂ (λ (m : ℕ) (y : Entry). undo_of m t y s') (sym v) q ∙ undone w k.bytes sent.1 sent.0)
        (back_again w k.bytes sent.1 sent.0))

    written : Keeping u t s₀ s' j'
    written = record {
      globals = k.globals;
      first = k.first;
      now = stored_checked (stored w k.bytes sent.1 sent.0) ∙ k.now;
      size = length-sets s p (bytes_of (width_of f) b) ∙ k.size;
      bytes = bytes_again w k.bytes sent.1 sent.0;
      formed = formed;
      history = history;
    }

  keeping_by : (c : Correction) → journalled s u t j x ≡ c → Keeping u t s₀ (stream_after s c) (journal_after s j x.sheet x.row x.column x.value c)
  keeping_by (refuses m o) h = k
  keeping_by (writes f p b) h = written f p b h

  pub keeping_asked : Keeping u t s₀ (stream_after s (journalled s u t j x)) (journal_next s u t j x)
  keeping_asked = keeping_by (journalled s u t j x) refl

pub keeping : (u t : ℕ) (s₀ j₀ : List ℕ) → u < 2 ^ 32 → Bytes s₀ → {s j : List ℕ} → Since u t s₀ j₀ s j → Keeping u t s₀ s j
keeping u t s₀ j₀ lent bytes (begun {unique = unique} h) = keeping_start u t s₀ j₀ unique bytes lent h
keeping u t s₀ j₀ lent bytes (asked r x sent) = keeping_asked (keeping u t s₀ j₀ lent bytes r) x sent

-- ---- replay
ran_is : (s : List ℕ) (u t : ℕ) (j : List ℕ) (back : Bool) (g : Globals) → checked_of s u ≡ Right g → journal_fits j (length s) g.unique ≡ true → replay_of s u t j back ≡ ran (runs back g.unique t j s)
unfolding replay_of replay_in
ran_is s u t j back g ok fits =
    ap (on_checked declined (λ (g : Globals). pick (journal_fits j (length s) g.unique) (ran (runs back g.unique t j s)) (declined 21 0))) ok
    ∙ sym (pick_true (ran (runs back g.unique t j s)) (ran (runs back g.unique t j s)) (declined 21 0) (journal_fits j (length s) g.unique) fits refl)

pub round_trip : RoundTrip
round_trip u t s₀ j₀ s j lent bytes since =
    let k = keeping u t s₀ j₀ lent bytes since in
    let g = k.globals in
    let f = formed_fits j (length s) g.unique k.formed in (
      ran_is s₀ u t j false g k.first (ap (λ (n : ℕ). journal_fits j n g.unique) (sym k.size) ∙ f) ∙ ap ran (fore_all g.unique t j s₀ k.history),
      ran_is s u t j true g k.now f ∙ ap ran (back_all g.unique t j s₀ k.history),
    )

pub logged_each : Logged
logged_each u t s₀ j₀ s j lent bytes since x sent f p b h =
    subst (λ (c : Correction). Logs s j (journal_after s j x.sheet x.row x.column x.value c) x f p) (sym h) (logs (keeping u t s₀ j₀ lent bytes since) x sent f p b h)
