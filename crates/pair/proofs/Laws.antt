-- The laws that the functions' proofs cite. Assumes nothing.
use Prim.Native.Nat.{ℕ, zero, suc, ◌≤◌}
use mathlib.Core.Path.{◌≡◌, refl, sym, ap, ◌∙◌, subst}
use mathlib.Core.List.{List, [], ◌∷◌}
use lib.ListN.{length}
use Rattle.std.specs.Prelude.{Option, Some, None, option_map, ok_or, Result, Ok, Err}
use Rattle.steps.specs.Items.{nth}
use Rattle.sheet_agreement.specs.Agreement.{Sheet}
use Rattle.globals.specs.declared.Globals.{Globals}
use Rattle.globals.specs.Sheets.{sheets_of}
use Rattle.workbook.specs.Check.{Checked, Right, checked_of}
use Rattle.workbook.proofs.Laws.{short}
use Rattle.listing.specs.declared.Sought.{Sought}
use Rattle.listing.specs.Parts.{found_sheet}
use Rattle.pair.specs.declared.Whose.{Whose}
use Rattle.pair.specs.declared.Whose.TheVariants.{Session, Template}
use Rattle.pair.specs.declared.Of.{Of}
use Rattle.pair.specs.declared.Of.TheVariants as of
use Rattle.pair.specs.declared.StreamRefusal.{StreamRefusal}
use Rattle.pair.specs.declared.PairRefusal.{PairRefusal}
use Rattle.pair.specs.declared.PairChecked.{PairChecked}
use Rattle.pair.specs.declared.PairSheet.{PairSheet}
use Rattle.pair.specs.declared.PairCells.{PairCells}
use Rattle.pair.specs.declared.Where.{Where}
use Rattle.pair.specs.Refused.{refuse_of}
use Rattle.reading.specs.Cells.{listed_from}
use Rattle.reading.specs.Reading.{name_at, width_at, type_at, start_by, rows_of}
use Rattle.pair.specs.Pair.{on_session, on_template, passes, pair_of, Passes, on_pair, sheet_from, pair_sheet_of, pair_name_of, pair_cells_of}
use Rattle.pair.specs.Parts.{checked_for, stream_of, standing, where_of, found_of}

-- ---- the check
abbrev pub and_then : {A B E : Type 0} → (A → Result B E) → Result A E → Result B E
and_then k (Ok x) = k x
and_then k (Err e) = Err e

session_by : (g : Globals) (x : Checked) → on_session g x ≡ and_then (passes g) (checked_for Session x)
session_by g (Ok h) = refl
session_by g (Err r) = refl

template_by : (s : List ℕ) (x : Checked) → on_template s x ≡ and_then (λ g. and_then (passes g) (checked_for Session (checked_of s g.unique))) (checked_for Template x)
template_by s (Ok g) = session_by g (checked_of s g.unique)
template_by s (Err r) = refl

pub pair_by : (t s : List ℕ) → pair_of t s ≡ and_then (λ g. and_then (passes g) (checked_for Session (checked_of s g.unique))) (checked_for Template (checked_of t 0))
unfolding pair_of
pair_by t s = template_by s (checked_of t 0)

-- ---- both streams pass
module _ (t s : List ℕ) (g h : Globals) where
  session_passed : (b : Globals) → checked_of t 0 ≡ Right b → (x : Checked) → checked_of s b.unique ≡ x → on_session b x ≡ passes g h → Passes t s g h
  session_passed b i (Ok c) j e =
      let same : record { template = b; session = c } ≡ record { template = g; session = h } = cc in
      let k : b ≡ g = ap (λ (x : PairChecked). x.template) same in
      let l : c ≡ h = ap (λ (x : PairChecked). x.session) same in
      record { template = i ∙ ap Ok k; session = subst (λ (y : Globals). checked_of s y.unique ≡ Right h) k (j ∙ ap Ok l) }
  session_passed b i (Err r) j e = absurd (cc)

  template_passed : (x : Checked) → checked_of t 0 ≡ x → on_template s x ≡ passes g h → Passes t s g h
  template_passed (Ok b) i e = session_passed b i (checked_of s b.unique) refl e
  template_passed (Err r) i e = absurd (cc)

  pub passes_both : pair_of t s ≡ passes g h → Passes t s g h
  unfolding pair_of
  passes_both e = template_passed (checked_of t 0) refl e

module _ (t s : List ℕ) (c : PairChecked) (is : Ok c ≡ pair_of t s) where
  pub both : Passes t s c.template c.session
  both = passes_both t s c.template c.session (sym is)

  pub template_short : length t ≤ 16777216
  template_short = short t 0 c.template refl both.template

  pub session_short : length s ≤ 16777216
  session_short = short s c.template.unique c.session refl both.session

pub passes_is : (t s : List ℕ) (g h : Globals) → Passes t s g h → pair_of t s ≡ passes g h
unfolding pair_of
passes_is t s g h p = ap (on_template s) p.template ∙ ap (on_session g) p.session

-- what is said where both pass may use that they do
pub where_passed : {A : Type 0} (t s : List ℕ) (r : Of → ℕ → ℕ → A) (f f' : Globals → Globals → A) → ((g h : Globals) → Passes t s g h → f g h ≡ f' g h) → on_pair r f (pair_of t s) ≡ on_pair r f' (pair_of t s)
where_passed {A = A} t s r f f' k = by (pair_of t s) refl
  where
    by : (x : Result PairChecked StreamRefusal) → x ≡ pair_of t s → on_pair r f x ≡ on_pair r f' x
    by (Ok c) is = k c.template c.session (both t s c is)
    by (Err e) is = refl

-- ---- the sheet of a number
pub through_nth : {A B C : Type 0} (g : B → C) (f : A → B) (d : B) (l : List A) (n : ℕ) → nth l n (λ (x : A). g (f x)) (g d) ≡ g (nth l n f d)
unfolding nth
through_nth g f d [] n = refl
through_nth g f d (x ∷ l) zero = refl
through_nth g f d (x ∷ l) (suc n) = through_nth g f d l n

through_sheet : {A B : Type 0} (g : A → B) (t s : List ℕ) (n : ℕ) (f : Whose → List ℕ → Sheet → A) (d : A) → sheet_from t s n (λ w y x. g (f w y x)) (g d) ≡ g (sheet_from t s n f d)
unfolding sheet_from
through_sheet g t s n f d =
    ap (λ y. nth (sheets_of s) n (λ (x : Sheet). g (f Session s x)) y) (through_nth g (f Template t) d (sheets_of t) n)
    ∙ through_nth g (f Session s) (nth (sheets_of t) n (f Template t) d) (sheets_of s) n

abbrev or_in_template : Option Sought → Option Sought → Option Where
or_in_template d (Some x) = Some (record { whose = Session; sheet = x })
or_in_template d None = option_map (λ (x : Sought). record { whose = Template; sheet = x }) d

pub where_by : (t s : List ℕ) (n : ℕ) → where_of t s n ≡ or_in_template (nth (sheets_of t) n found_sheet None) (nth (sheets_of s) n found_sheet None)
unfolding where_of sheet_from
where_by t s n =
    ap (nth (sheets_of s) n (λ (x : Sheet). Some (standing Session x))) (through_nth (λ d. or_in_template d None) found_sheet None (sheets_of t) n)
    ∙ through_nth (or_in_template (nth (sheets_of t) n found_sheet None)) found_sheet None (sheets_of s) n

pub found_by : (t s : List ℕ) (n : ℕ) → found_of t s n ≡ on_pair refuse_of (λ _ _. ok_or (where_of t s n) (record { of = of.Question; number = 11; offset = 0 })) (pair_of t s)
unfolding found_of where_of
found_by t s n =
    ap (λ y. on_pair refuse_of (λ _ _. y) (pair_of t s))
    (through_sheet (λ o. ok_or o (record { of = of.Question; number = 11; offset = 0 })) t s n (λ w _ x. Some (standing w x)) None)

-- ---- what is said of that sheet
abbrev pub on_found : {A : Type 0} → A → (Where → A) → Result Where PairRefusal → A
on_found d f (Ok w) = f w
on_found d f (Err e) = d

module _ {A : Type 0} (t s : List ℕ) (n : ℕ) (g : Result Where PairRefusal → A) where
  seen_pair : (c : Result PairChecked StreamRefusal)
      → on_pair (λ w m o. g (refuse_of w m o)) (λ _ _. sheet_from t s n (λ w _ x. g (Ok (standing w x))) (g (refuse_of of.Question 11 0))) c
      ≡ g (on_pair refuse_of (λ _ _. sheet_from t s n (λ w _ x. Ok (standing w x)) (refuse_of of.Question 11 0)) c)
  seen_pair (Ok c) = through_sheet g t s n (λ w _ x. Ok (standing w x)) (refuse_of of.Question 11 0)
  seen_pair (Err e) = refl

  pub seen : on_pair (λ w m o. g (refuse_of w m o)) (λ _ _. sheet_from t s n (λ w _ x. g (Ok (standing w x))) (g (refuse_of of.Question 11 0))) (pair_of t s) ≡ g (found_of t s n)
  unfolding found_of
  seen = seen_pair (pair_of t s)

abbrev described : List ℕ → List ℕ → Where → Result PairSheet PairRefusal
described t s w = let x = stream_of w.whose t s in Ok (record { whose = w.whose; header = w.sheet.header; type_byte = type_at x w.sheet.header; width = width_at x w.sheet.header; rows = rows_of (listed_from x (start_by (length x) w.sheet.position w.sheet.kind)) })

pub sheet_by : (t s : List ℕ) (n : ℕ) → pair_sheet_of t s n ≡ and_then (described t s) (found_of t s n)
unfolding pair_sheet_of sheet_from
sheet_by t s n = seen t s n (and_then (described t s))

pub name_by : (t s : List ℕ) (n : ℕ) → pair_name_of t s n ≡ on_found [] (λ (w : Where). name_at (stream_of w.whose t s) w.sheet.header) (found_of t s n)
unfolding pair_name_of sheet_from
name_by t s n = seen t s n (on_found [] (λ (w : Where). name_at (stream_of w.whose t s) w.sheet.header))

abbrev started : List ℕ → List ℕ → Where → Result PairCells PairRefusal
started t s w = Ok (record { whose = w.whose; place = start_by (length (stream_of w.whose t s)) w.sheet.position w.sheet.kind })

pub cells_by : (t s : List ℕ) (n : ℕ) → pair_cells_of t s n ≡ and_then (started t s) (found_of t s n)
unfolding pair_cells_of sheet_from
cells_by t s n = seen t s n (and_then (started t s))
