use Rattle.table_writer.proofs.Many.{skip_to}
use Rattle.table_writer.proofs.texts.NextText.skip.Goals as goal

pub returns : goal.returns
returns c = search skip_to
