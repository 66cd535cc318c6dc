use Rattle.std.proofs.Common.{◌≡◌, ◌/◌, true, false, rules, refl}
use lib.Dec.{leb}
use Rattle.std.specs.List.Sorted.{IsPartitionPoint}
use Rattle.std.proofs.lemmas.List.Sorted.{IsPartitionPoint-from_clause}
use Rattle.new_fields.proofs.Slots.{slots_ascend, found_some, found_sum, found_place}
use Rattle.new_fields.proofs.NewPlaces.of.Goals as goal
use Rattle.new_fields.proofs.NewPlaces.of.Goals.{After-partition_point-after}

point : (c : After-partition_point-after) → IsPartitionPoint (λ y. leb (y / 4294967296) c.args.p ≡ true) (λ y. leb (y / 4294967296) c.args.p ≡ false) c.args.self.now.words.now c.partition_point-after.result
point c =
    IsPartitionPoint-from_clause (λ y. leb (y / 4294967296) c.args.p) c.args.self.now.words.now c.partition_point-after.result c.partition_point-after.ensures.partitioned (slots_ascend c.args.self.now.words.now c.args.p c.args.self.now.slots) (λ a r f' k. search rules)

pub overflow_sub-word : goal.overflow_sub-word
overflow_sub-word c = let d = (goal.at.overflow_sub-word c).After-partition_point-after in found_some _ _ _ c.args.p _ c.args.self.now.slots c.partition_point-after.ensures.bound (point d)

pub new_place-requires : goal.new_place-requires
new_place-requires c = let d = (goal.at.new_place-requires c).After-partition_point-after in found_sum _ _ _ c.args.p _ c.args.self.now.slots c.partition_point-after.ensures.bound (point d) _ refl _ c.from_top-entries.ensures

pub returns : goal.returns
returns c = let d = (goal.at.returns c).After-partition_point-after in found_place _ _ _ c.args.p _ c.args.self.now.slots c.partition_point-after.ensures.bound (point d) _ refl _ c.from_top-entries.ensures _ c.new_place.ensures
