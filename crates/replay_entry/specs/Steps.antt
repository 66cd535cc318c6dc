-- One entry of a journal, made again or undone: what it comes to is a number for a value field, or a refusal.
-- t is how many sheets the template has, 0 without one; unique is the unique count of strings.
use Rattle.std.specs.Prelude.{ℕ, ◌+◌, ◌^◌, ◌%◌, Bool, false, List, Result, Ok, Err, eqb}
use Rattle.steps.specs.Choice.{pick}
use Rattle.byte_numbers.specs.Bytes.{num_at}
use Rattle.truth_error.specs.Boolerr.{is_truth, is_error}
use Rattle.value.specs.declared.Field.{Field}
use Rattle.value.specs.Value.{width_of, value_fits, index_fits}
use Rattle.refusal.specs.declared.Refusal.{Refusal}
use Rattle.new_value.specs.Change.{number_plan, text_plan, pair_plan}
use Rattle.correction.specs.declared.Aim.{Aim}
use Rattle.correction.specs.Correction.{Correction, refuses, writes}
use Rattle.correction.specs.Parts.{aim_in}
use Rattle.journal.specs.declared.Entry.{Entry}

-- of the 8 bytes whose number is n, the number of the first w
abbrev pub first_bytes : ℕ → ℕ → ℕ
first_bytes w n = n % 256 ^ w

-- the number that a field takes for the entry's new value, which is in the first 8, 4 or 1 of its bytes; 17, 18 as of a correction
unfoldable pub entry_plan : Field → ℕ → ℕ → ℕ → Result ℕ Refusal
entry_plan f kind new unique =
    pick (eqb kind 0) (number_plan f new)
    (pick (eqb kind 1) (text_plan f (first_bytes 4 new) unique)
    (pick (eqb kind 2) (pair_plan f (is_truth (first_bytes 1 new)) (first_bytes 1 new))
    (pair_plan f (is_error (first_bytes 1 new)) (first_bytes 1 new + 256))))

-- the field of kind f at p has as many bytes as the entry says, and they are the number n
unfoldable pub holds : List ℕ → Field → ℕ → ℕ → ℕ → Bool
holds s f p width n = pick (eqb width (width_of f)) (eqb (num_at s (width_of f) p) n) false

-- forwards: 17; then 19 unless the old bytes are there; then 18; else the new value is written
abbrev pub on_make : Field → ℕ → Bool → Result ℕ Refusal → Correction
on_make f p there (Err r) = pick (eqb r.number 17) (refuses 17 0) (pick there (refuses r.number 0) (refuses 19 0))
on_make f p there (Ok b) = pick there (writes f p b) (refuses 19 0)

-- backwards: 17; 19 for a new value that doesn't fit, or that isn't there; 18 for old bytes that the check wouldn't pass there; else they are written
abbrev pub on_undo : Field → ℕ → (ℕ → Bool) → Bool → ℕ → Result ℕ Refusal → Correction
on_undo f p there right old (Err r) = pick (eqb r.number 17) (refuses 17 0) (refuses 19 0)
on_undo f p there right old (Ok b) = pick (there b) (pick right (writes f p old) (refuses 18 0)) (refuses 19 0)

-- bytes that the check passes in a field of kind f: the first of the 8 whose number is n
unfoldable pub passes_in : Field → ℕ → ℕ → Bool
passes_in f unique n = pick (value_fits f (first_bytes (width_of f) n)) (index_fits f (first_bytes (width_of f) n) unique) false

-- the template's sheet: 17; no cell: 11; two or more: 16; else the one cell
abbrev pub make_at : List ℕ → Entry → Result Aim Refusal → Correction
make_at s x (Ok a) = on_make a.kind a.field (holds s a.kind a.field x.width x.old) (entry_plan a.kind x.kind x.new a.unique)
make_at s x (Err r) = refuses r.number 0

abbrev pub undo_at : List ℕ → Entry → Result Aim Refusal → Correction
undo_at s x (Ok a) = on_undo a.kind a.field (holds s a.kind a.field x.width) (passes_in a.kind a.unique x.old) x.old (entry_plan a.kind x.kind x.new a.unique)
undo_at s x (Err r) = refuses r.number 0

abbrev pub make_of : ℕ → ℕ → Entry → List ℕ → Correction
make_of unique t x s = make_at s x (aim_in s unique t x.sheet x.row x.column)

abbrev pub undo_of : ℕ → ℕ → Entry → List ℕ → Correction
undo_of unique t x s = undo_at s x (aim_in s unique t x.sheet x.row x.column)
