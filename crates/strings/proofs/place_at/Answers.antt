use Rattle.strings.proofs.Laws.{place_laws}
use Rattle.strings.proofs.place_at.Goals as goal

pub skip_strings-requires : goal.skip_strings-requires
skip_strings-requires c = search place_laws

pub unwrap-c-requires : goal.unwrap-c-requires
unwrap-c-requires c = search place_laws

pub next_place-requires : goal.next_place-requires
next_place-requires c = search place_laws

pub unwrap-requires : goal.unwrap-requires
unwrap-requires c = search place_laws

pub returns : goal.returns
returns c = search place_laws
