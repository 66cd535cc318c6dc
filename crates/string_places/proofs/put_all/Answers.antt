use Rattle.string_places.proofs.Filling.{all_some, some_inside, some_segment, some_passes, some_done}
use Rattle.string_places.proofs.put_all.Goals as goal

pub put_places-requires : goal.put_places-requires
put_places-requires c =
    let some = c.if-n-eq0.false in
    let st = all_some _ _ _ c.requires.1 some in
    let is = c.u16_at.ensures in
    let wide = c.from-size.ensures in
    (some_inside _ _ _ st some _ _ is wide, some_segment _ _ _ st some _ _ is wide, c.requires.0, c.requires.2, some_passes _ _ _ st some _ _ is wide)

pub returns : goal.returns
returns c =
    let some = c.if-n-eq0.false in
    some_done _ _ _ (all_some _ _ _ c.requires.1 some) some _ _ c.u16_at.ensures c.from-size.ensures _ _ c.put_places.ensures
