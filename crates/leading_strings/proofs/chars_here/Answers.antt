use Rattle.leading_strings.proofs.Laws.{here_stands}
use Rattle.leading_strings.proofs.chars_here.Goals as goal

pub chars_of-requires : goal.chars_of-requires
chars_of-requires c = here_stands _ _ c.requires.0 _ c.requires.1 _ c.next_place.ensures _ c.unwrap.ensures
