-- The laws of a correction over the pair. Assumes nothing.
use Prim.Native.Nat.{ℕ}
use mathlib.Core.Path.{◌≡◌, refl, sym, ap, ◌∙◌}
use mathlib.Core.List.{List}
use lib.ListN.{length}
use Rattle.new_value.specs.declared.NewValue.{NewValue}
use Rattle.globals.specs.declared.Globals.{Globals}
use Rattle.globals.specs.Sheets.{sheets_of}
use Rattle.workbook.specs.Check.{on_checked}
use Rattle.correction.specs.Correction.{Correction, correction_in, correction_of}
use Rattle.correction.specs.Correction as correction
use Rattle.pair.specs.Refused.{questioned}
use Rattle.pair.specs.Pair.{Passes, on_pair, refuses, asked, pair_correction_of, answer_of, session_after}
use Rattle.pair.proofs.Laws.{passes_is}

-- ---- what it comes to where both streams pass
module _ (t s : List ℕ) (n row column : ℕ) (v : NewValue) (g h : Globals) (p : Passes t s g h) where
  in_session_lem : correction_of s g.unique (length (sheets_of t)) n row column v ≡ correction_in s h.unique (length (sheets_of t)) n row column v
  unfolding correction_of
  in_session_lem = ap (on_checked correction.refuses (λ (b : Globals). correction_in s b.unique (length (sheets_of t)) n row column v)) p.session

  pub pair_is : pair_correction_of t s n row column v ≡ asked (correction_of s g.unique (length (sheets_of t)) n row column v)
  unfolding pair_correction_of
  pair_is =
      ap (on_pair refuses (λ _ h. asked (correction_in s h.unique (length (sheets_of t)) n row column v))) (passes_is t s g h p)
      ∙ ap asked (sym in_session_lem)

-- ---- after the check
pub answer_asked : (x : Correction) → answer_of (asked x) ≡ questioned (correction.answer_of x)
answer_asked (correction.refuses n o) = refl
answer_asked (correction.writes f p b) = refl

pub asked_stream : (s : List ℕ) (x : Correction) → correction.stream_after s x ≡ session_after s (asked x)
asked_stream s (correction.refuses n o) = refl
asked_stream s (correction.writes f p b) = refl

pub ruleset asked_laws = (answer_asked, asked_stream)
