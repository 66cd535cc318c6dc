use mathlib.Core.Path.{◌∙◌}
use Rattle.table_size.proofs.Laws.{chars_some}
use Rattle.table_size.proofs.size_chars.Goals as goal

pub returns-then-count-gt0 : goal.returns-then-count-gt0
returns-then-count-gt0 c = chars_some _ _ _ _ _ c.args.chars.now.passes c.if-count-gt0.true _ (c.from-width.ensures ∙ c.is_wide.ensures) _ c.start_size.ensures _ _ c.piece-first.ensures c.pieces.ensures
