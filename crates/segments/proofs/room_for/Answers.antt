use Rattle.segments.proofs.Laws.{next_laws}
use Rattle.segments.proofs.room_for.Goals as goal

pub bounds-s-at : goal.bounds-s-at
bounds-s-at c = search (next_laws, c.in_ok-d.was)

pub overflow_add-at : goal.overflow_add-at
overflow_add-at c = search (next_laws, c.in_ok-d.was)

pub need_here-requires-then-flagged : goal.need_here-requires-then-flagged
need_here-requires-then-flagged c = search (next_laws, c.in_ok-d.was)

pub need_here-requires-2 : goal.need_here-requires-2
need_here-requires-2 c = search (next_laws, c.in_ok-d.was)
