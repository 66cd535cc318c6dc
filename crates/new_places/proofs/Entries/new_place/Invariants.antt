use Rattle.std.proofs.Common.{◌≡◌, ◌+◌, ◌-◌, ◌≤◌, length}
use Rattle.new_stream.specs.Entries.{entries_from}
use Rattle.new_places.specs.Places.{sizes, place_for}
use Rattle.new_places.proofs.Entries.new_place.Given as goal

abbrev pub invariant-loop-spot : goal.invariant-loop-spot
invariant-loop-spot l =
    (l.place + sizes l.table (entries_from l.self.stream.now l.spot) ≡ l.initial.place + sizes l.table (entries_from l.self.stream.now l.initial.spot))
    × (l.place + place_for l.table (entries_from l.self.stream.now l.spot) l.p ≡ l.initial.place + place_for l.table (entries_from l.self.stream.now l.initial.spot) l.p)
    × (l.spot.level ≤ l.spot.at) × (l.spot.at ≤ length l.self.stream.now)

abbrev pub decreases-loop-spot : goal.decreases-loop-spot
decreases-loop-spot l = l.p - l.spot.at
