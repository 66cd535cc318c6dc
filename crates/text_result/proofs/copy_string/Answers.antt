use mathlib.Core.Path.{◌∙◌}
use native.Mathlib.Omega.{arith}
use Rattle.text_result.proofs.Fetch.{text_long, copied_passes}
use Rattle.text_result.proofs.copy_string.Goals as goal

pub copy_chars-requires : goal.copy_chars-requires
copy_chars-requires c =
    let long = (text_long c.args.s.now c.args.c c.requires.1).1 in
    ((omega arith, omega arith), omega arith, omega arith, omega arith, copied_passes _ _ c.requires.1 _ (c.from-count.ensures ∙ c.u16_at.ensures) _ c.width_of-width.ensures)
