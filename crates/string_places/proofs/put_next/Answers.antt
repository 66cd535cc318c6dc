use Rattle.std.proofs.Common.{arith}
use Rattle.strings.proofs.Laws.{place_inside}
use Rattle.string_places.proofs.Laws.{at_small, seg_small}
use Rattle.string_places.proofs.put_next.Goals as goal

pub overflow_cast-e : goal.overflow_cast-e
overflow_cast-e c =
    let at = at_small _ _ _ _ c.next_place.ensures c.in_ok-e.was c.requires.0 c.requires.2 in
    let seg = seg_small _ _ _ _ c.next_place.ensures c.in_ok-e.was c.requires.0 c.requires.2 c.requires.1 in
    record { fits = omega (arith, at, seg) }

pub overflow_cast-e-2 : goal.overflow_cast-e-2
overflow_cast-e-2 c =
    let at = at_small _ _ _ _ c.next_place.ensures c.in_ok-e.was c.requires.0 c.requires.2 in
    let seg = seg_small _ _ _ _ c.next_place.ensures c.in_ok-e.was c.requires.0 c.requires.2 c.requires.1 in
    record { fits = omega (arith, at, seg) }

pub skip_string-requires : goal.skip_string-requires
skip_string-requires c = place_inside _ _ _ _ c.next_place.ensures c.in_ok-e.was c.requires.0
