use Rattle.strings.proofs.Laws.{place_laws}
use Rattle.strings.proofs.fetch_string.Goals as goal

pub fetch_at-requires : goal.fetch_at-requires
fetch_at-requires c = search place_laws
