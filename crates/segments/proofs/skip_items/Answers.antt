use Rattle.segments.proofs.Laws.{skip_laws}
use Rattle.segments.proofs.skip_items.Goals as goal

pub returns-then-n-most_of : goal.returns-then-n-most_of
returns-then-n-most_of c = search skip_laws
