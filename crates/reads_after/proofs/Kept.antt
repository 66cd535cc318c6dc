-- What a granted correction leaves: the check's answer, the sheets, and all of every cell but its value. Assumes nothing.
use Prim.Native.Nat.{ℕ}
use mathlib.Core.Path.{◌≡◌, refl, sym, ap, ap₂, ◌∙◌}
use mathlib.Core.List.{List, [], ◌∷◌, map}
use lib.Dec.{eqb}
use Rattle.steps.proofs.Choice.{pick_any}
use Rattle.value.specs.declared.CellValue.{CellValue}
use Rattle.cell.specs.declared.Cell.{Cell}
use Rattle.new_value.specs.Change.{new_of}
use Rattle.passes_after.proofs.Granted.{granted}
use Rattle.passes_after.proofs.Upheld.{upheld, sheets_stay}
use Rattle.reads_after.specs.Parts.{written}
use Rattle.reads_after.proofs.Reading.{listed_written}
use Rattle.reading.specs.Reading.{listed_of}
use Rattle.reads_after.specs.Fields.{Frame, frame_of, AllLeft}

frames_written : (p : ℕ) (v : CellValue) (l : List Cell) → map frame_of (map (written p v) l) ≡ map frame_of l
unfolding written
frames_written p v [] = refl
frames_written p v (c ∷ l) =
    ap₂ (λ (x : Frame) (y : List Frame). x ∷ y) (pick_any (λ (d : Cell). frame_of d ≡ frame_of c) (eqb c.field p) refl refl) (frames_written p v l)

pub all_left : AllLeft
all_left s lent sheets n row column v f p b held h =
    let r = granted s lent sheets n row column v f p b h in
    record {
      checked = upheld s lent sheets n row column v f p b held h;
      sheets = sym (sheets_stay s lent n row column v f p b held r);
      cells = λ m x i. ap (map frame_of) (listed_written r held m x i) ∙ frames_written _ (new_of v) (listed_of s x);
    }
