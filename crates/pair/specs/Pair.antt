-- One template, many sessions: the questions over a template and a session of one owner.
use Rattle.std.specs.Prelude.{ℕ, ◌≡◌, List, [], length, Result, Ok, Err}
use Rattle.steps.specs.Items.{nth}
use Rattle.value.specs.declared.Field.{Field}
use Rattle.new_value.specs.declared.NewValue.{NewValue}
use Rattle.sheet_agreement.specs.Agreement.{Sheet}
use Rattle.globals.specs.declared.Globals.{Globals}
use Rattle.globals.specs.Sheets.{sheets_of}
use Rattle.workbook.specs.Check.{Checked, Right, checked_of}
use Rattle.reading.specs.Reading.{name_at, width_at, type_at, start_of, listed_of, rows_of}
use Rattle.correction.specs.Correction.{Correction, correction_in}
use Rattle.correction.specs.Correction as correction
use Rattle.pair.specs.declared.Whose.{Whose}
use Rattle.pair.specs.declared.Whose.TheVariants.{Session, Template}
use Rattle.pair.specs.declared.Of.{Of}
use Rattle.pair.specs.declared.Of.TheVariants as of
use Rattle.pair.specs.declared.StreamRefusal.{StreamRefusal}
use Rattle.pair.specs.declared.PairRefusal.{PairRefusal}
use Rattle.pair.specs.declared.PairChecked.{PairChecked}
use Rattle.pair.specs.declared.PairSheet.{PairSheet}
use Rattle.pair.specs.declared.PairCells.{PairCells}
use Rattle.pair.specs.Refused.{refuse_stream, refuse_of, of_stream}

-- ---- the check: the template's refusals, then the session's. The session's unique count is the template's where the session has no SST
abbrev pub passes : Globals → Globals → Result PairChecked StreamRefusal
passes g h = Ok (record { template = g; session = h })

abbrev pub on_session : Globals → Checked → Result PairChecked StreamRefusal
on_session g (Ok h) = passes g h
on_session g (Err r) = refuse_stream Session r.number r.offset

abbrev pub on_template : List ℕ → Checked → Result PairChecked StreamRefusal
on_template s (Ok g) = on_session g (checked_of s g.unique)
on_template s (Err r) = refuse_stream Template r.number r.offset

-- t is the template, s the session
unfoldable pub pair_of : List ℕ → List ℕ → Result PairChecked StreamRefusal
pair_of t s = on_template s (checked_of t 0)

-- both pass
pub record Passes (t s : List ℕ) (g h : Globals) : Type 0 where
  pub template : checked_of t 0 ≡ Right g
  pub session : checked_of s g.unique ≡ Right h

-- for the questions that give first any refusal that the check would
abbrev pub on_pair : {A : Type 0} → (Of → ℕ → ℕ → A) → (Globals → Globals → A) → Result PairChecked StreamRefusal → A
on_pair r f (Ok x) = f x.template x.session
on_pair r f (Err x) = r (of_stream x.whose) x.number x.offset

-- ---- sheet n: whole from the session, or from the template where the session has no such sheet; d where neither has
unfoldable pub sheet_from : {A : Type 0} → List ℕ → List ℕ → ℕ → (Whose → List ℕ → Sheet → A) → A → A
sheet_from t s n f d = nth (sheets_of s) n (f Session s) (nth (sheets_of t) n (f Template t) d)

abbrev pub described : Whose → List ℕ → Sheet → Result PairSheet PairRefusal
described w s x = Ok (record { whose = w; header = x.header; type_byte = type_at s x.header; width = width_at s x.header; rows = rows_of (listed_of s x) })

unfoldable pub pair_sheet_of : List ℕ → List ℕ → ℕ → Result PairSheet PairRefusal
pair_sheet_of t s n = on_pair refuse_of (λ _ _. sheet_from t s n described (refuse_of of.Question 11 0)) (pair_of t s)

-- its name, a part of the one stream or the other; nothing where the question is refused
abbrev pub named : Whose → List ℕ → Sheet → List ℕ
named w s x = name_at s x.header

unfoldable pub pair_name_of : List ℕ → List ℕ → ℕ → List ℕ
pair_name_of t s n = on_pair (λ _ _ _. []) (λ _ _. sheet_from t s n named []) (pair_of t s)

-- where its cells start, in the stream that is told
abbrev pub started : Whose → List ℕ → Sheet → Result PairCells PairRefusal
started w s x = Ok (record { whose = w; place = start_of s x })

unfoldable pub pair_cells_of : List ℕ → List ℕ → ℕ → Result PairCells PairRefusal
pair_cells_of t s n = on_pair refuse_of (λ _ _. sheet_from t s n started (refuse_of of.Question 11 0)) (pair_of t s)

-- ---- a correction
pub data PairCorrection : Type 0 where
  refuses : Of → ℕ → ℕ → PairCorrection
  writes : Field → ℕ → ℕ → PairCorrection

abbrev pub asked : Correction → PairCorrection
asked (correction.refuses n o) = refuses of.Question n o
asked (correction.writes f p b) = writes f p b

-- one of the session, under a template of so many sheets: 17 for a sheet that only the template has
unfoldable pub pair_correction_of : List ℕ → List ℕ → ℕ → ℕ → ℕ → NewValue → PairCorrection
pair_correction_of t s n row column v = on_pair refuses (λ _ h. asked (correction_in s h.unique (length (sheets_of t)) n row column v)) (pair_of t s)

-- the answer, and the session after it
abbrev pub answer_of : PairCorrection → Result (Unit {0}) PairRefusal
answer_of (refuses w n o) = refuse_of w n o
answer_of (writes f p b) = Ok tt

abbrev pub session_after : List ℕ → PairCorrection → List ℕ
session_after s (refuses w n o) = s
session_after s (writes f p b) = correction.stream_after s (correction.writes f p b)
