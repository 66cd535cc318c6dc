-- What the contracts speak of: a value as it is compared.
use Rattle.std.specs.Prelude.{ℕ, List, [], ◌∷◌, get_or}
use Rattle.cell_equality.specs.declared.Shown.{Shown}
use Rattle.cell_equality.specs.declared.Shown.TheVariants as shown

-- with the kinds of `shown`
abbrev pub shown_as : List (List ℕ) → Shown → List ℕ
shown_as strings shown.Blank = 0 ∷ []
shown_as strings (shown.Number b) = 1 ∷ b ∷ []
shown_as strings (shown.Text i) = 2 ∷ get_or strings i []
shown_as strings (shown.Truth t) = 3 ∷ t ∷ []
shown_as strings (shown.Error e) = 4 ∷ e ∷ []
shown_as strings (shown.NumberResult b) = 5 ∷ b ∷ []
shown_as strings shown.TextResult = 6 ∷ []
shown_as strings (shown.TruthResult t) = 7 ∷ t ∷ []
shown_as strings (shown.ErrorResult e) = 8 ∷ e ∷ []
shown_as strings shown.EmptyResult = 9 ∷ []
