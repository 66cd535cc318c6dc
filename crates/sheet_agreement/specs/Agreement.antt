-- When the sheet list and the substreams agree: the first at fault, if any is.
use Rattle.std.specs.Prelude.{ℕ, List, [], ◌∷◌, Option, None, Some, Bool, false, ◌&&◌, ◌||◌, not, eqb}
use Rattle.steps.specs.Choice.{pick}
use Rattle.sheet_agreement.specs.declared.SheetKind.{SheetKind}
use Rattle.sheet_agreement.specs.declared.SheetKind.TheVariants.{Worksheet, Chart, Macro, Other}

abbrev pub number_of : SheetKind → ℕ
number_of Worksheet = 1
number_of Chart = 2
number_of Macro = 3
number_of Other = 4

-- the kind of a number; one that is no sheet's is Other
unfoldable pub kind_of : ℕ → SheetKind
kind_of n = pick (eqb n 1) Worksheet (pick (eqb n 2) Chart (pick (eqb n 3) Macro Other))

abbrev pub same_kind : SheetKind → SheetKind → Bool
same_kind k l = eqb (number_of k) (number_of l)

-- a BOUNDSHEET: where its header stands, the BOF position it names, and the kind it says
pub record Sheet : Type 0 where
  pub header : ℕ
  pub position : ℕ
  pub kind : SheetKind

-- a top-level BOF: where it starts, and its kind
pub record Bof : Type 0 where
  pub start : ℕ
  pub kind : SheetKind

-- one of the BOFs has this start and this kind
unfoldable pub starts : List Bof → ℕ → SheetKind → Bool
starts [] p k = false
starts (b ∷ r) p k = (eqb b.start p && same_kind b.kind k) || starts r p k

-- one of the sheets names this position
unfoldable pub named : List Sheet → ℕ → Bool
named [] p = false
named (x ∷ r) p = eqb x.position p || named r p

-- a sheet is right if a BOF of its kind starts at its position, and no earlier sheet names that
abbrev pub right : List Bof → List Sheet → Sheet → Bool
right bofs earlier x = starts bofs x.position x.kind && not (named earlier x.position)

-- the first sheet that is not right is at fault; if all are right, the answer is v
unfoldable pub judged : List Bof → List Sheet → List Sheet → Option ℕ → Option ℕ
judged bofs earlier [] v = v
judged bofs earlier (x ∷ r) v = pick (right bofs earlier x) (judged bofs (x ∷ earlier) r v) (Some x.header)

-- the first BOF that no sheet names is at fault
unfoldable pub claimed : List Sheet → List Bof → Option ℕ
claimed sheets [] = None
claimed sheets (b ∷ r) = pick (named sheets b.start) (claimed sheets r) (Some b.start)

unfoldable pub agreement_of : List Sheet → List Bof → Option ℕ
agreement_of sheets bofs = judged bofs [] sheets (claimed sheets bofs)
