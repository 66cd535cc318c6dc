use Rattle.std.proofs.Common.{arith}
use Rattle.new_places.proofs.Places.{sizes_more, place_more}
use Rattle.new_places.proofs.Walking.{left_some, step_ahead}
use Rattle.new_places.proofs.Entries.new_place.Goals as goal

pub overflow_add-place : goal.overflow_add-place
overflow_add-place c =
    let some = left_some _ _ _ c.whole_step.ensures _ c.in-Some.is in
    let more = sizes_more c.args.table _ _ _ some in
    let all = c.loop-spot.invariant.0 in
    omega (arith, more, all)

pub loop-spot-smaller : goal.loop-spot-smaller
loop-spot-smaller c = let a = step_ahead _ _ _ c.whole_step.ensures _ c.in-Some.is in omega arith

pub loop-spot-preserved : goal.loop-spot-preserved
loop-spot-preserved c =
    let some = left_some _ _ _ c.whole_step.ensures _ c.in-Some.is in
    let a = step_ahead _ _ _ c.whole_step.ensures _ c.in-Some.is in
    let inv = c.loop-spot.invariant in
    let more = sizes_more c.args.table _ _ _ some in
    let on = place_more c.args.table _ _ _ some c.args.p (omega arith) in
    (omega arith, omega arith, omega arith, omega arith)
