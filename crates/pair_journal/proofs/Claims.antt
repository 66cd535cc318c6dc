-- A session's journal is a journal with the template's two numbers. Assumes nothing.
use Prim.Native.Nat.{ℕ}
use mathlib.Core.Path.{◌≡◌, refl, sym, ap, ◌∙◌, subst}
use mathlib.Core.List.{List}
use mathlib.Core.Bool.{Bool, true, false}
use native.Mathlib.Omega.{arith}
use lib.ListN.{length}
use Rattle.std.specs.Prelude.{Result, Ok, Err}
use Rattle.globals.specs.declared.Globals.{Globals}
use Rattle.globals.specs.Sheets.{sheets_of}
use Rattle.workbook.specs.Check.{Checked, Right, Wrong, checked_of, on_checked}
use Rattle.correction.specs.Correction as correction
use Rattle.correction.specs.Correction.{Correction}
use Rattle.record_chain.proofs.Sheets.{passing}
use Rattle.pair.specs.declared.PairChecked.{PairChecked}
use Rattle.pair.specs.declared.StreamRefusal.{StreamRefusal}
use Rattle.pair.specs.Pair.{pair_of, on_template, on_session, Passes, on_pair, PairCorrection, refuses, asked, session_after}
use Rattle.pair.proofs.Laws.{passes_both, passes_is}
use Rattle.either_order.specs.Apart.{Asked}
use Rattle.journal.specs.Journal as journal
use Rattle.journal.specs.Journal.{Start, start_in, start_of, journalled_in, journalled_of, journal_after}
use Rattle.replay_entry.specs.Replay as replay
use Rattle.replay_entry.specs.Replay.{all, replay_in, replay_of}
use Rattle.journal_claims.specs.Replayed as one
use Rattle.journal_claims.specs.Replayed.{Since, begun}
use Rattle.journal_claims.proofs.Unique.{unique_small}
use Rattle.journal_claims.proofs.Trip.{round_trip}
use Rattle.pair_journal.specs.Journals.{declines, begins, start_asked, pair_start_of, pair_journalled_of, pair_journal_after, declined, ran, replay_asked, pair_replay_of}
use Rattle.pair_journal.specs.Claims as claims
use Rattle.pair_journal.specs.Claims.{StartIs, JournalledIs, ReplayIs, PairSince, PairRoundTrip}
use Rattle.pair.proofs.Correcting.{asked_stream}
use Rattle.pair_journal.proofs.Laws.{journal_asked}

module _ (t s : List ℕ) (g h : Globals) (p : Passes t s g h) where
  start_with : (n : ℕ) → pair_start_of t s n ≡ start_asked (start_of s g.unique n)
  unfolding pair_start_of start_of
  start_with n =
      ap (on_pair declines (λ _ h. start_asked (start_in h.unique n))) (passes_is t s g h p)
      ∙ ap start_asked (sym (ap (on_checked journal.declines (λ (h : Globals). start_in h.unique n)) p.session))

  journalled_with : (j : List ℕ) (x : Asked) → claims.journalled t s j x ≡ asked (journalled_of s g.unique (length (sheets_of t)) j x.sheet x.row x.column x.value)
  unfolding pair_journalled_of journalled_of
  journalled_with j x =
      ap (on_pair refuses (λ _ h. asked (journalled_in s h.unique (length (sheets_of t)) j x.sheet x.row x.column x.value))) (passes_is t s g h p)
      ∙ ap asked (sym (ap (on_checked correction.refuses (λ (h : Globals). journalled_in s h.unique (length (sheets_of t)) j x.sheet x.row x.column x.value)) p.session))

  replay_with : (j : List ℕ) (back : Bool) → pair_replay_of t s j back ≡ replay_asked (replay_of s g.unique (length (sheets_of t)) j back)
  unfolding pair_replay_of replay_of
  replay_with j back =
      ap (on_pair declined (λ _ h. replay_asked (replay_in s h.unique (length (sheets_of t)) j back))) (passes_is t s g h p)
      ∙ ap replay_asked (sym (ap (on_checked replay.declined (λ (h : Globals). replay_in s h.unique (length (sheets_of t)) j back)) p.session))

pub start_is : StartIs
start_is t s g h p n = start_with t s g h p n

pub journalled_is : JournalledIs
journalled_is t s g h p j x = journalled_with t s g h p j x

pub replay_is : ReplayIs
replay_is t s g h p j back = replay_with t s g h p j back

-- ---- the round trip
-- where the template passes, a correction of the session leaves what it leaves with the template's two numbers, also where the session doesn't pass
module _ (t : List ℕ) (g : Globals) (ok : checked_of t 0 ≡ Right g) (s j : List ℕ) (x : Asked) where
  abbrev there : Correction
  there = journalled_of s g.unique (length (sheets_of t)) j x.sheet x.row x.column x.value

  refused_with : (m o : ℕ) → checked_of s g.unique ≡ Wrong m o → there ≡ correction.refuses m o
  unfolding journalled_of
  refused_with m o e = ap (on_checked correction.refuses (λ (h : Globals). journalled_in s h.unique (length (sheets_of t)) j x.sheet x.row x.column x.value)) e

  refused_pair : (m o : ℕ) → checked_of s g.unique ≡ Wrong m o → (w : PairCorrection → List ℕ) (d : List ℕ) → ((v : _) (m o : ℕ) → w (refuses v m o) ≡ d) → w (claims.journalled t s j x) ≡ d
  unfolding pair_journalled_of pair_of
  refused_pair m o e w d k =
      ap (λ (c : Result PairChecked StreamRefusal). w (on_pair refuses (λ _ h. asked (journalled_in s h.unique (length (sheets_of t)) j x.sheet x.row x.column x.value)) c)) (ap (on_template s) ok ∙ ap (on_session g) e)
      ∙ k _ m o

  session_by : (c : Checked) → checked_of s g.unique ≡ c → session_after s (claims.journalled t s j x) ≡ correction.stream_after s there
  session_by (Ok h) e = ap (session_after s) (journalled_with t s g h (record { template = ok; session = e }) j x) ∙ sym (asked_stream s there)
  session_by (Err r) e = refused_pair r.number r.offset e (session_after s) s (λ v m o. refl) ∙ sym (ap (correction.stream_after s) (refused_with r.number r.offset e))

  pub session_with : session_after s (claims.journalled t s j x) ≡ correction.stream_after s there
  session_with = session_by (checked_of s g.unique) refl

  journal_by : (c : Checked) → checked_of s g.unique ≡ c → claims.journal_next t s j x ≡ journal_after s j x.sheet x.row x.column x.value there
  journal_by (Ok h) e = ap (pair_journal_after s j x.sheet x.row x.column x.value) (journalled_with t s g h (record { template = ok; session = e }) j x) ∙ journal_asked s j x.sheet x.row x.column x.value there
  journal_by (Err r) e =
      refused_pair r.number r.offset e (pair_journal_after s j x.sheet x.row x.column x.value) j (λ v m o. refl)
      ∙ sym (ap (journal_after s j x.sheet x.row x.column x.value) (refused_with r.number r.offset e))

  pub journal_with : claims.journal_next t s j x ≡ journal_after s j x.sheet x.row x.column x.value there
  journal_with = journal_by (checked_of s g.unique) refl

-- a journal that was started had both streams pass
record Begun (t s : List ℕ) (n unique : ℕ) : Type 0 where
  globals : Globals
  own : Globals
  passes : Passes t s globals own
  starts : start_of s globals.unique n ≡ journal.begins unique

begins_as : (x : Start) (unique : ℕ) → start_asked x ≡ begins unique → x ≡ journal.begins unique
begins_as (journal.declines m o) unique h = absurd (cc)
begins_as (journal.begins u) unique h = let e : u ≡ unique = cc in ap journal.begins e

module _ (t s : List ℕ) (n unique : ℕ) where
  begun_by : (c : Result PairChecked StreamRefusal) → pair_of t s ≡ c → on_pair declines (λ _ h. start_asked (start_in h.unique n)) c ≡ begins unique → Begun t s n unique
  unfolding pair_start_of
  begun_by (Err r) e k = absurd (cc)
  begun_by (Ok c) e k =
      let g = c.template in
      let h = c.session in
      let p = passes_both t s g h e in
      record { globals = g; own = h; passes = p; starts = begins_as (start_of s g.unique n) unique (sym (start_with t s g h p n) ∙ ap (on_pair declines (λ _ h. start_asked (start_in h.unique n))) e ∙ k) }

  begun_was : pair_start_of t s n ≡ begins unique → Begun t s n unique
  unfolding pair_start_of
  begun_was k = begun_by (pair_of t s) refl k

record Kept (t s₀ j₀ s j : List ℕ) : Type 0 where
  globals : Globals
  own : Globals
  passes : Passes t s₀ globals own
  since : Since globals.unique (length (sheets_of t)) s₀ j₀ s j

kept : (t s₀ j₀ : List ℕ) {s j : List ℕ} → PairSince t s₀ j₀ s j → Kept t s₀ j₀ s j
kept t s₀ j₀ (claims.begun {unique = unique} k) =
    let b = begun_was t s₀ (length j₀) unique k in
    record { globals = b.globals; own = b.own; passes = b.passes; since = begun b.starts }
kept t s₀ j₀ (claims.asks {s = s} {j = j} r x sent) =
    let k = kept t s₀ j₀ r in
    let g = k.globals in
    let u = length (sheets_of t) in
    record {
      globals = g;
      own = k.own;
      passes = k.passes;
      since =
          subst (λ (y : List ℕ). Since g.unique u s₀ j₀ y (claims.journal_next t s j x)) (sym (session_with t g k.passes.template s j x))
          (subst (λ (y : List ℕ). Since g.unique u s₀ j₀ (correction.stream_after s (one.journalled s g.unique u j x)) y) (sym (journal_with t g k.passes.template s j x)) (one.asked k.since x sent));
    }

replay_wrong : (s : List ℕ) (u t : ℕ) (j : List ℕ) (back : Bool) (m o : ℕ) → checked_of s u ≡ Wrong m o → replay_of s u t j back ≡ replay.declined m o
unfolding replay_of
replay_wrong s u t j back m o e = ap (on_checked replay.declined (λ (h : Globals). replay_in s h.unique t j back)) e

pub pair_round_trip : PairRoundTrip
pair_round_trip t s₀ j₀ s j template-bytes bytes since =
    let k = kept t s₀ j₀ since in
    let g = k.globals in
    let ok = k.passes.template in
    let small = unique_small t 0 g template-bytes (omega arith) (passing t 0 g ok).globals in
    let r = round_trip g.unique (length (sheets_of t)) s₀ j₀ s j small bytes k.since in
    (replay_with t s₀ g k.own k.passes j false ∙ ap replay_asked r.0, final g ok r.1 (checked_of s g.unique) refl)
  where
    final : (g : Globals) → checked_of t 0 ≡ Right g → replay_of s g.unique (length (sheets_of t)) j true ≡ replay.ran (all s₀) → (c : Checked) → checked_of s g.unique ≡ c → pair_replay_of t s j true ≡ ran (all s₀)
    final g ok r (Ok h) e = replay_with t s g h (record { template = ok; session = e }) j true ∙ ap replay_asked r
    final g ok r (Err x) e = let w = replay_wrong s g.unique (length (sheets_of t)) j true x.number x.offset e in absurd (cc)
