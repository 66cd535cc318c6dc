use mathlib.Core.Path.{refl}
use Rattle.unordered_sheets.proofs.stage.Stages.next.Goals as goal

pub returns : goal.returns
returns c =
    let h = c.requires.1 in
    let far = c.next.ensures _ _ (λ b i j. refl) (λ b i j. refl) h.far in
    let middle = c.sift.ensures _ _ far h.middle in
    let close = c.sift-2.ensures _ _ middle h.close in
    record { far = far; middle = middle; close = close; near = c.sift-3.ensures _ _ close h.near }
