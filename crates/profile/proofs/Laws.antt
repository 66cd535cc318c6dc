-- The laws of the profile, with what a call gave as the proofs have it. Assumes nothing.
use Prim.Native.Nat.{ℕ, ◌+◌, ◌%◌}
use mathlib.Core.Path.{◌≡◌, refl, sym, ap, ◌∙◌}
use mathlib.Core.List.{List, [], ◌∷◌}
use Rattle.std.specs.Prelude.{Option, Some, None, option_map, Result, Ok, Err, ok_or}
use Rattle.std.specs.List.{slice_get}
use Rattle.refusal.specs.declared.Refusal.{Refusal}
use Rattle.refusal.specs.Refused.{refuse}
use lib.ListN.{length}
use Rattle.steps.proofs.Choice.{never}
use Rattle.steps.specs.Items.{nth}
use Rattle.cell.specs.declared.Cell.{Cell}
use Rattle.sheet_agreement.specs.declared.SheetKind.{SheetKind}
use Rattle.sheet_agreement.specs.declared.SheetKind.TheVariants.{Worksheet, Chart, Macro, Other}
use Rattle.sheet_agreement.specs.Agreement.{Sheet}
use Rattle.globals.specs.declared.Globals.{Globals}
use Rattle.globals.specs.Sheets.{sheets_of}
use Rattle.workbook.specs.Check.{checked_of, on_checked}
use Rattle.reading.specs.declared.Place.{Place}
use Rattle.reading.specs.Reading.{start_by}
use Rattle.listing.specs.declared.Sought.{Sought}
use Rattle.listing.specs.Parts.{sought, found_sheet}
use Rattle.profile.specs.declared.NextPlaced.{NextPlaced}
use Rattle.profile.specs.declared.Session.{Session}
use Rattle.profile.specs.Placed.{Placed, placed_from}
use Rattle.profile.specs.Profile.{third_of, columns_of, amount_at, seconds_after, on_amount, ended_at, judged_from, profile_at, of_worksheet, on_sheets, profile_of}
use Rattle.profile.specs.Parts.{third_cell, on_placed}
use Rattle.profile.specs.Left.{placed}

-- ---- the third cell, as the iterator gives it, and the columns by it
third_is : (l : List Cell) → slice_get l 2 ≡ third_cell l
third_is [] = refl
third_is (a ∷ []) = refl
third_is (a ∷ b ∷ []) = refl
third_is (a ∷ b ∷ c ∷ l) = refl

pub third_got : (r : Option Cell) (l : List Cell) → option_map (λ (x : Cell). x) r ≡ slice_get l 2 → r ≡ third_cell l
third_got None l e = e ∙ third_is l
third_got (Some x) l e = e ∙ third_is l

abbrev pub columns_third : Option Cell → ℕ
columns_third (Some c) = third_of c
columns_third None = 2

pub columns_by : (l : List Cell) → columns_of l ≡ columns_third (third_cell l)
unfolding columns_of nth
columns_by [] = refl
columns_by (a ∷ []) = refl
columns_by (a ∷ b ∷ []) = refl
columns_by (a ∷ b ∷ c ∷ l) = refl

-- ---- what a call of `next_with_record` gave, r
module _ (s : List ℕ) (v : Place) (r : Option NextPlaced) (is : placed_from s v ≡ on_placed s r) where
  pub placed_none : r ≡ None → placed_from s v ≡ []
  placed_none h = is ∙ ap (on_placed s) h

  pub placed_some : (x : NextPlaced) → r ≡ Some x → placed_from s v ≡ placed x ∷ placed_from s x.next
  placed_some x h = is ∙ ap (on_placed s) h

-- ---- the cells judged, one after the other
pub ok_or_wrong : (a : Option ℕ) (e f : Refusal) → ok_or a e ≡ Err f → (a ≡ None) × (e ≡ f)
ok_or_wrong None e f h = (refl, cc)
ok_or_wrong (Some n) e f h = never (cc)

abbrev pub by_amount : ℕ → ℕ → ℕ → ℕ → List Placed → Option ℕ → Result ℕ Refusal
by_amount k i seconds at l (Some n) = judged_from k (i + 1) (seconds_after (i % k) seconds n) l
by_amount k i seconds at l None = refuse 20 at

judged_some : (k i seconds : ℕ) (x : Placed) (l : List Placed) → judged_from k i seconds (x ∷ l) ≡ by_amount k i seconds x.at l (amount_at k i seconds x.cell)
unfolding judged_from
judged_some k i seconds x l = by (amount_at k i seconds x.cell)
  where
    by : (a : Option ℕ) → on_amount (refuse 20 x.at) (λ n. judged_from k (i + 1) (seconds_after (i % k) seconds n) l) a ≡ by_amount k i seconds x.at l a
    by (Some n) = refl
    by None = refl

module _ (k i seconds : ℕ) (l : List Placed) where
  pub judged_end : l ≡ [] → judged_from k i seconds l ≡ ended_at k i
  unfolding judged_from
  judged_end h = ap (judged_from k i seconds) h

  module _ (x : NextPlaced) (m : List Placed) (h : l ≡ placed x ∷ m) where
    judged_by : (a : Option ℕ) → a ≡ amount_at k i seconds x.cell → judged_from k i seconds l ≡ by_amount k i seconds x.at m a
    judged_by a e = ap (judged_from k i seconds) h ∙ judged_some k i seconds (placed x) m ∙ ap (by_amount k i seconds x.at m) (sym e)

    pub judged_wrong : {a : Option ℕ} → a ≡ amount_at k i seconds x.cell → a ≡ None → judged_from k i seconds l ≡ refuse 20 x.at
    judged_wrong {a} e n = judged_by a e ∙ ap (by_amount k i seconds x.at m) n

    pub judged_next : {a : Option ℕ} (n : ℕ) → a ≡ amount_at k i seconds x.cell → a ≡ Some n → judged_from k i seconds l ≡ judged_from k (i + 1) (seconds_after (i % k) seconds n) m
    judged_next {a} n e y = judged_by a e ∙ ap (by_amount k i seconds x.at m) y

pub ruleset judge_laws = (judged_end, judged_wrong, judged_next)

-- ---- the stream
module _ (s : List ℕ) where
  no_sheet_lem : (l : List Sheet) → nth l 0 found_sheet None ≡ None → on_sheets s l ≡ refuse 20 0
  unfolding nth
  no_sheet_lem [] h = refl
  no_sheet_lem (x ∷ l) h = never (cc)

  more_sheets : (l : List Sheet) (x : Sought) → nth l 1 found_sheet None ≡ Some x → on_sheets s l ≡ refuse 20 0
  unfolding nth
  more_sheets [] x h = never (cc)
  more_sheets (y ∷ []) x h = never (cc)
  more_sheets (y ∷ z ∷ l) x h = refl

  one_sheet : (l : List Sheet) (x : Sought) → nth l 0 found_sheet None ≡ Some x → nth l 1 found_sheet None ≡ None → on_sheets s l ≡ of_worksheet x.kind (profile_at s (start_by (length s) x.position x.kind))
  unfolding nth
  one_sheet [] x h i = never (cc)
  one_sheet (y ∷ []) x h i =
      let same : sought y ≡ x = cc in
      ap (λ (z : Sought). of_worksheet z.kind (profile_at s (start_by (length s) z.position z.kind))) same
  one_sheet (y ∷ z ∷ l) x h i = never (cc)

  other_sheet : (l : List Sheet) (x : Sought) → nth l 0 found_sheet None ≡ Some x → ((r : Result Session Refusal) → of_worksheet x.kind r ≡ refuse 20 0) → on_sheets s l ≡ refuse 20 0
  unfolding nth
  other_sheet [] x h o = never (cc)
  other_sheet (y ∷ []) x h o =
      let same : sought y ≡ x = cc in
      ap (λ (z : Sought). of_worksheet z.kind (profile_at s (start_by (length s) z.position z.kind))) same ∙ o _
  other_sheet (y ∷ z ∷ l) x h o = refl

  pub profile_wrong : (e : Refusal) → checked_of s 0 ≡ Err e → profile_of s ≡ Err e
  unfolding profile_of
  profile_wrong e h = ap (on_checked refuse (λ _. on_sheets s (sheets_of s))) h

  module _ (b : Globals) (h : checked_of s 0 ≡ Ok b) where
    passed : profile_of s ≡ on_sheets s (sheets_of s)
    unfolding profile_of
    passed = ap (on_checked refuse (λ _. on_sheets s (sheets_of s))) h

    pub profile_none : nth (sheets_of s) 0 found_sheet None ≡ None → profile_of s ≡ refuse 20 0
    profile_none i = passed ∙ no_sheet_lem (sheets_of s) i

    module _ (x : Sought) (i : nth (sheets_of s) 0 found_sheet None ≡ Some x) where
      pub profile_chart : x.kind ≡ Chart → profile_of s ≡ refuse 20 0
      profile_chart n = passed ∙ other_sheet (sheets_of s) x i (λ r. ap (λ (k : SheetKind). of_worksheet k r) n)

      pub profile_macro : x.kind ≡ Macro → profile_of s ≡ refuse 20 0
      profile_macro n = passed ∙ other_sheet (sheets_of s) x i (λ r. ap (λ (k : SheetKind). of_worksheet k r) n)

      pub profile_other : x.kind ≡ Other → profile_of s ≡ refuse 20 0
      profile_other n = passed ∙ other_sheet (sheets_of s) x i (λ r. ap (λ (k : SheetKind). of_worksheet k r) n)

      pub profile_many : (y : Sought) → nth (sheets_of s) 1 found_sheet None ≡ Some y → profile_of s ≡ refuse 20 0
      profile_many y j = passed ∙ more_sheets (sheets_of s) y j

      pub profile_one : x.kind ≡ Worksheet → nth (sheets_of s) 1 found_sheet None ≡ None → profile_of s ≡ profile_at s (start_by (length s) x.position Worksheet)
      profile_one n j = passed ∙ one_sheet (sheets_of s) x i j ∙ ap (λ (k : SheetKind). of_worksheet k (profile_at s (start_by (length s) x.position k))) n

pub ruleset profile_laws = (profile_wrong, profile_none, profile_chart, profile_macro, profile_other, profile_many, profile_one)
