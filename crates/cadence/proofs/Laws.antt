-- The laws of the steps, with what a call gave as the proofs have it. Assumes nothing.
use Prim.Native.Nat.{ℕ, ◌≤◌, ◌<◌}
use mathlib.Core.Path.{◌≡◌, refl, sym, ap, ◌∙◌}
use mathlib.Core.List.{List}
use Rattle.std.specs.Prelude.{Option, Some, None}
use native.Mathlib.Omega.{arith}
use Rattle.steps.specs.Choice.{pick}
use Rattle.steps.proofs.Choice.{never, pick_eq, pick_ne}
use Rattle.number.specs.Float64.{bits_of}
use Rattle.number.proofs.Amounts.{amount_within}
use Rattle.value.specs.declared.CellValue.{CellValue}
use Rattle.value.specs.declared.CellValue.TheVariants.{Blank, Number, NotNumber, Text, Truth, Error, Formula}
use Rattle.reading.specs.declared.Place.{Place}
use Rattle.reading.specs.Cells.{remaining}
use Rattle.listing.specs.declared.Listed.{Listed}
use Rattle.listing.specs.Listing.{next_of}
use Rattle.listing.proofs.Laws.{next_nearer}
use Rattle.profile.specs.Profile.{limit_of, amount_in}
use Rattle.cadence.specs.declared.NextNumber.{NextNumber}
use Rattle.cadence.specs.Cadence.{row_with}
use Rattle.cadence.specs.Steps.{with_place, on_cell, next_number_of, on_number, seconds_row, next_row_of}

-- ---- a number is within its limit
pub number_within : (column n : ℕ) (v : CellValue) → amount_in column v ≡ Some n → n ≤ limit_of column
number_within column n Blank e = never (cc)
number_within column n (Number x) e = amount_within (limit_of column) n (bits_of x) e
number_within column n (NotNumber b) e = never (cc)
number_within column n (Text i) e = never (cc)
number_within column n (Truth t) e = never (cc)
number_within column n (Error x) e = never (cc)
number_within column n (Formula r) e = never (cc)

-- ---- the next number
module _ (s : List ℕ) (column : ℕ) (v : Place) where
  pub number_is : (x : Listed) (n : ℕ) → next_of s v ≡ Some x → amount_in column x.cell.value ≡ Some n → next_number_of s column v ≡ Some (record { number = n; next = x.next })
  unfolding next_number_of
  number_is x n h e = ap (on_cell column) h ∙ ap (with_place x.next) e

  pub number_end : next_of s v ≡ None → next_number_of s column v ≡ None
  unfolding next_number_of
  number_end h = ap (on_cell column) h

  record Found (y : NextNumber) : Type 0 where
    pub listed : Listed
    pub is : next_of s v ≡ Some listed
    pub number : amount_in column listed.cell.value ≡ Some y.number
    pub next : listed.next ≡ y.next

  found_amount : (x : Listed) → next_of s v ≡ Some x → (a : Option ℕ) → amount_in column x.cell.value ≡ a → (y : NextNumber) → with_place x.next a ≡ Some y → Found y
  found_amount x i (Some m) j y e =
      let same : ◌≡◌ {A = NextNumber} (record { number = m; next = x.next }) y = cc in
      record { listed = x; is = i; number = j ∙ ap (λ (z : NextNumber). Some z.number) same; next = ap (λ (z : NextNumber). z.next) same }
  found_amount x i None j y e = never (cc)

  found_by : (x : Option Listed) → next_of s v ≡ x → (y : NextNumber) → on_cell column x ≡ Some y → Found y
  found_by (Some x) i y e = found_amount x i (amount_in column x.cell.value) refl y e
  found_by None i y e = never (cc)

  found : (y : NextNumber) → next_number_of s column v ≡ Some y → Found y
  unfolding next_number_of
  found y e = found_by (next_of s v) refl y e

  pub number_nearer : (y : NextNumber) → next_number_of s column v ≡ Some y → remaining s y.next < remaining s v
  number_nearer y e = let f = found y e in let l = next_nearer s v f.listed f.is in let n = ap (remaining s) f.next in omega arith

module _ (s : List ℕ) (v : Place) (y : NextNumber) where
  pub ticks_below : next_number_of s 0 v ≡ Some y → y.number < 65536
  unfolding limit_of pick
  ticks_below h = let f = found s 0 v y h in let l = number_within 0 y.number f.listed.cell.value f.number in omega arith

  pub turns_below : next_number_of s 1 v ≡ Some y → y.number < 65536
  unfolding limit_of pick
  turns_below h = let f = found s 1 v y h in let l = number_within 1 y.number f.listed.cell.value f.number in omega arith

pub ruleset row_laws = (ticks_below, turns_below)

-- ---- the next row
module _ (s : List ℕ) (k t u : ℕ) (v : Place) where
  pub row_short : (k ≡ 3 → ⊥) → seconds_row s k t u v ≡ Some (record { row = row_with t u 0; next = v })
  unfolding seconds_row
  row_short n = sym (pick_ne _ _ _ k 3 n refl)

  pub row_long : (n : ℕ) (w : Place) → k ≡ 3 → next_number_of s 2 v ≡ Some (record { number = n; next = w }) → seconds_row s k t u v ≡ Some (record { row = row_with t u n; next = w })
  unfolding seconds_row
  row_long n w e h = sym (pick_eq _ _ _ k 3 e (ap (λ (x : Option NextNumber). on_number x (λ n w. Some (record { row = row_with t u n; next = w }))) (sym h)))

module _ (s : List ℕ) (k : ℕ) (v : Place) where
  pub no_ticks : next_number_of s 0 v ≡ None → next_row_of s k v ≡ None
  unfolding next_row_of
  no_ticks h = rw h refl

  pub row_by : (t u : ℕ) (w x : Place) → next_number_of s 0 v ≡ Some (record { number = t; next = w }) → next_number_of s 1 w ≡ Some (record { number = u; next = x }) → next_row_of s k v ≡ seconds_row s k t u x
  unfolding next_row_of
  row_by t u w x h i = rw (h, i) refl
