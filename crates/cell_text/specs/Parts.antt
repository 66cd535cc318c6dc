-- What the contracts of the inner functions speak of.
use Rattle.std.specs.Prelude.{ℕ, ◌≤◌, ◌≡◌, List, length, Option, Some, None, Result}
use Rattle.refusal.specs.declared.Refusal.{Refusal}
use Rattle.refusal.specs.Refused.{refuse}
use Rattle.segments.specs.Segments.{list_of}
use Rattle.strings.specs.Table.{fetched_of, buffer_of}
use Rattle.cell.specs.declared.Cell.{Cell}
use Rattle.text_result.specs.TextResult.{text_of}
use Rattle.cell_text.specs.declared.Spot.{Spot}
use Rattle.cell_text.specs.CellText.{answer_to, buffer_to}

-- an answer and a buffer are those of a fetch at the spot
abbrev pub Fetches : List ℕ → List ℕ → Result ℕ Refusal → List ℕ → Option Spot → Type 0
Fetches s b y b' (Some x) = (y ≡ fetched_of (length b) (list_of (text_of s x.at x.end))) × (b' ≡ buffer_of b (list_of (text_of s x.at x.end)))
Fetches s b y b' None = (y ≡ refuse 11 0) × (b' ≡ b)

abbrev pub Within : List ℕ → Option Spot → Type 0
Within s (Some x) = x.end ≤ length s
Within s None = Unit {0}

-- the spot of the first of these cells
pub record First (s : List ℕ) (l : List Cell) (r : Option Spot) : Type 0 where
  pub within : Within s r
  pub fetches : (b : List ℕ) → Fetches s b (answer_to s b l) (buffer_to s b l) r
