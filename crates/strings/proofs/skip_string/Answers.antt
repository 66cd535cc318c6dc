use Rattle.strings.proofs.Laws.{inside_laws}
use Rattle.strings.proofs.skip_string.Goals as goal

pub skip_items-requires : goal.skip_items-requires
skip_items-requires c = search (inside_laws, c.in_ok-head.was)

pub skip_rest-requires : goal.skip_rest-requires
skip_rest-requires c = search (inside_laws, c.in_ok-head.was, c.in_ok-e.was) depth 8
