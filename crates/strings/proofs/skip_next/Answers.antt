use Rattle.strings.proofs.Laws.{inside_laws}
use Rattle.strings.proofs.skip_next.Goals as goal

pub skip_string-requires : goal.skip_string-requires
skip_string-requires c = search (inside_laws, c.in_ok-next_place-in-None.was)
