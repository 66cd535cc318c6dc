-- All neighbouring rows, one pair after the other, after one check. The state is plain numbers: the earlier row, the place of the cells after it, how many columns.
use Rattle.std.specs.Prelude.{ℕ, List, eqb, Option, Some, None, Result, Ok}
use Rattle.steps.specs.Choice.{pick}
use Rattle.steps.specs.Items.{Item, gives, ends, collect, nth}
use Rattle.refusal.specs.declared.Refusal.{Refusal}
use Rattle.refusal.specs.Refused.{refuse}
use Rattle.reading.specs.declared.Place.{Place}
use Rattle.reading.specs.Cells.{remaining}
use Rattle.listing.specs.declared.Listed.{Listed}
use Rattle.listing.specs.Listing.{next_of}
use Rattle.profile.specs.Profile.{amount_in, profile_of}
use Rattle.cadence.specs.declared.Row.{Row}
use Rattle.cadence.specs.declared.Cadence.{Cadence}
use Rattle.cadence.specs.declared.NextNumber.{NextNumber}
use Rattle.cadence.specs.declared.NextRow.{NextRow}
use Rattle.cadence.specs.declared.Position.{Position}
use Rattle.cadence.specs.declared.NextPair.{NextPair}
use Rattle.cadence.specs.Cadence.{row_with, pair_of, on_session}

-- ---- the next cell's number
abbrev pub with_place : Place → Option ℕ → Option NextNumber
with_place w (Some n) = Some (record { number = n; next = w })
with_place w None = None

abbrev pub on_cell : ℕ → Option Listed → Option NextNumber
on_cell column (Some x) = with_place x.next (amount_in column x.cell.value)
on_cell column None = None

unfoldable pub next_number_of : List ℕ → ℕ → Place → Option NextNumber
next_number_of s column v = on_cell column (next_of s v)

-- ---- the next row
abbrev pub on_number : Option NextNumber → (ℕ → Place → Option NextRow) → Option NextRow
on_number (Some x) f = f x.number x.next
on_number None f = None

unfoldable pub seconds_row : List ℕ → ℕ → ℕ → ℕ → Place → Option NextRow
seconds_row s columns ticks turns v =
    pick (eqb columns 3)
    (on_number (next_number_of s 2 v) (λ n w. Some (record { row = row_with ticks turns n; next = w })))
    (Some (record { row = row_with ticks turns 0; next = v }))

unfoldable pub next_row_of : List ℕ → ℕ → Place → Option NextRow
next_row_of s columns v =
    on_number (next_number_of s 0 v)
    (λ ticks w. on_number (next_number_of s 1 w)
    (λ turns x. seconds_row s columns ticks turns x))

-- ---- the next pair, for any state
unfoldable pub position_at : Row → Place → ℕ → Position
position_at a v columns = record { earlier = a; cells = v; columns = columns }

abbrev pub on_row : Position → Option NextRow → Option NextPair
on_row p (Some x) = Some (record { answer = pair_of p.earlier x.row; next = position_at x.row x.next p.columns })
on_row p None = None

unfoldable pub next_pair_of : List ℕ → Position → Option NextPair
next_pair_of s p = on_row p (next_row_of s p.columns p.cells)

-- where they start: after the first row
abbrev pub on_first : ℕ → Place → Option NextRow → Position
on_first columns v (Some x) = position_at x.row x.next columns
on_first columns v None = position_at (row_with 0 0 0) v columns

unfoldable pub pairs_of : List ℕ → Result Position Refusal
pairs_of s = on_session (λ columns v. Ok (on_first columns v (next_row_of s columns v))) (profile_of s)

-- ---- all that the steps give
abbrev pub pair_item : Option NextPair → Item Position Cadence
pair_item (Some x) = gives x.answer x.next
pair_item None = ends

unfoldable pub pairs_from : List ℕ → Position → List Cadence
pairs_from s p = collect (λ q. pair_item (next_pair_of s q)) (λ q. remaining s q.cells) p

-- the n-th of them; 11 where there is none
unfoldable pub nth_pair : List ℕ → Position → ℕ → Result Cadence Refusal
nth_pair s p n = nth (pairs_from s p) n Ok (refuse 11 0)
