-- The strings and texts of a template and a session: a fetch, the text result of a formula.
use Rattle.std.specs.Prelude.{ℕ, List, length, ltb, eqb, Result, Ok, Err}
use Rattle.steps.specs.Choice.{pick}
use Rattle.steps.specs.Items.{nth}
use Rattle.strings.specs.Table.{buffer_of}
use Rattle.refusal.specs.declared.Refusal.{Refusal}
use Rattle.sheet_agreement.specs.Agreement.{Sheet}
use Rattle.globals.specs.declared.Globals.{Globals}
use Rattle.reading.specs.Reading.{listed_of, strings_at}
use Rattle.correction.specs.Correction.{cells_at}
use Rattle.cell_text.specs.CellText.{answer_to, buffer_to}
use Rattle.pair.specs.declared.Whose.{Whose}
use Rattle.pair.specs.declared.Whose.TheVariants.{Session, Template}
use Rattle.pair.specs.declared.Of.TheVariants as of
use Rattle.pair.specs.declared.PairRefusal.{PairRefusal}
use Rattle.pair.specs.Refused.{refuse_of, question_refusal}
use Rattle.pair.specs.Pair.{pair_of, on_pair, sheet_from}
use Rattle.pair_texts.specs.declared.PairFetched.{PairFetched}

-- ---- a fetch says whose index it asks
-- in whose table that index resolves: the session's in the session if it has an SST, else in the template; the template's always in the template
abbrev pub table_of : Whose → Globals → Whose
table_of Session h = pick (eqb h.table 0) Template Session
table_of Template h = Template

abbrev pub strings_of : List ℕ → List ℕ → Globals → Globals → Whose → List (List ℕ)
strings_of t s g h Session = strings_at s h.table
strings_of t s g h Template = strings_at t g.table

unfoldable pub units_told : Whose → ℕ → List ℕ → Result PairFetched PairRefusal
units_told w n us = pick (ltb n (length us)) (refuse_of of.Question 12 0) (Ok (record { whose = w; units = length us }))

unfoldable pub pair_fetch_of : List ℕ → List ℕ → Whose → ℕ → List ℕ → Result PairFetched PairRefusal
pair_fetch_of t s w i b =
    on_pair refuse_of
    (λ g h. nth (strings_of t s g h (table_of w h)) i (units_told (table_of w h) (length b)) (refuse_of of.Question 11 0))
    (pair_of t s)

-- the buffer after it
unfoldable pub pair_buffer_of : List ℕ → List ℕ → Whose → ℕ → List ℕ → List ℕ
pair_buffer_of t s w i b = on_pair (λ _ _ _. b) (λ g h. nth (strings_of t s g h (table_of w h)) i (buffer_of b) b) (pair_of t s)

-- ---- the text result of a cell in sheet n, and the stream that has the sheet
abbrev pub told_of : Whose → Result ℕ Refusal → Result PairFetched PairRefusal
told_of w (Ok n) = Ok (record { whose = w; units = n })
told_of w (Err r) = Err (question_refusal r)

abbrev pub text_in : ℕ → ℕ → List ℕ → Whose → List ℕ → Sheet → Result PairFetched PairRefusal
text_in row column b w s x = told_of w (answer_to s b (cells_at row column (listed_of s x)))

unfoldable pub pair_text_of : List ℕ → List ℕ → ℕ → ℕ → ℕ → List ℕ → Result PairFetched PairRefusal
pair_text_of t s n row column b = on_pair refuse_of (λ _ _. sheet_from t s n (text_in row column b) (refuse_of of.Question 11 0)) (pair_of t s)

-- the buffer after it
abbrev pub buffer_in : ℕ → ℕ → List ℕ → Whose → List ℕ → Sheet → List ℕ
buffer_in row column b w s x = buffer_to s b (cells_at row column (listed_of s x))

unfoldable pub pair_text_buffer : List ℕ → List ℕ → ℕ → ℕ → ℕ → List ℕ → List ℕ
pair_text_buffer t s n row column b = on_pair (λ _ _ _. b) (λ _ _. sheet_from t s n (buffer_in row column b) b) (pair_of t s)
