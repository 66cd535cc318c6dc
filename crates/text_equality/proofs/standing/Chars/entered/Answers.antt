use mathlib.Core.Path.{refl}
use Rattle.text_equality.proofs.Segments.{stands_here, stands_next, next_byte, next_word}
use Rattle.text_equality.proofs.standing.Chars.entered.Goals as goal

pub returns-then-place : goal.returns-then-place
returns-then-place c =
    let x = c.args.self.now in record { count = refl; units = refl; here = stands_here _ _ _ _ x.inside x.some x.small x.passes c.requires c.if-place.true }

pub bounds-stream-at : goal.bounds-stream-at
bounds-stream-at c = let x = c.args.self.now in next_byte _ _ _ _ x.inside x.some x.small x.passes c.requires c.if-place.false

pub u16_at-requires : goal.u16_at-requires
u16_at-requires c = let x = c.args.self.now in next_word _ _ _ _ x.inside x.some x.small x.passes c.requires c.if-place.false

pub invariant_of-result : goal.invariant_of-result
invariant_of-result c =
    let x = c.args.self.now in
    let h = stands_next _ _ _ _ x.inside x.some x.small x.passes c.requires c.if-place.false _ _ _ c.width_of.ensures c.from.ensures c.u16_at.ensures in
    record { inside = h.d_inside; some = h.v_some; small = h.v_small; passes = h.d_passes }

pub returns : goal.returns
returns c =
    let x = c.args.self.now in
    let h = stands_next _ _ _ _ x.inside x.some x.small x.passes c.requires c.if-place.false _ _ _ c.width_of.ensures c.from.ensures c.u16_at.ensures in
    record { count = refl; units = h.units; here = h.here }
