use Rattle.compare.proofs.Laws.{Either, either_first, either_second, none_is, seen, both_ascend, listing_start, listing_full, listing_few, listing_nearer, listing_end, listing_turn}
use Rattle.compare.proofs.Together.list.Goals.{else-is_none-via-then-is_none+else-is_none-2, else-is_none-via-else-is_none}
use Rattle.compare.proofs.Together.list.Goals as goal

pub loop-j-init : goal.loop-j-init
loop-j-init c = listing_start _ _ _ _ _ _ _ _ c.first_sheet-a.ensures c.first_sheet-b.ensures

pub returns-then-is_none-2 : goal.returns-then-is_none-2
returns-then-is_none-2 c =
    let h =
    listing_end _ _ _ _ _ _ _ _ _ _ _ c.loop-j.invariant c.next_sheet-x.ensures c.next_sheet-y.ensures (none_is _ _ c.is_none.ensures c.if-is_none.true) (none_is _ _ c.is_none-then-is_none.ensures c.if-is_none-2.true)
    in record { value = h.0; out_after = h.1 }

pub put_sheet-j-requires : goal.put_sheet-j-requires
put_sheet-j-requires c =
    (both_ascend _ _ _ _ _ _ _ _ _ _ _ c.loop-j.invariant c.next_sheet-x.ensures c.next_sheet-y.ensures c.args.up c.requires.0, (seen _ _ c.next_sheet-x.ensures).narrow, (seen _ _ c.next_sheet-y.ensures).narrow, listing_few _ _ _ _ _ _ _ _ _ _ _ c.loop-j.invariant c.requires.1 c.requires.2)

pub loop-j-smaller : goal.loop-j-smaller
loop-j-smaller c =
    let h : Either c.next_sheet-x.result c.next_sheet-y.result = elim c.else-is_none.branch [
      | else-is_none-via-then-is_none+else-is_none-2 w ↦ either_second _ _ _ w.is_none-then-is_none.ensures w.if-is_none-2.false
      | else-is_none-via-else-is_none w ↦ either_first _ _ _ c.is_none.ensures w.if-is_none.false
    ]
    in listing_nearer _ _ _ _ _ _ _ _ _ _ _ c.loop-j.invariant c.next_sheet-x.ensures c.next_sheet-y.ensures h _ c.next_in-a.ensures _ c.next_in-b.ensures

pub loop-j-preserved : goal.loop-j-preserved
loop-j-preserved c =
    let h : Either c.next_sheet-x.result c.next_sheet-y.result = elim c.else-is_none.branch [
      | else-is_none-via-then-is_none+else-is_none-2 w ↦ either_second _ _ _ w.is_none-then-is_none.ensures w.if-is_none-2.false
      | else-is_none-via-else-is_none w ↦ either_first _ _ _ c.is_none.ensures w.if-is_none.false
    ]
    in listing_turn _ _ _ _ _ _ _ _ _ _ _ c.loop-j.invariant c.next_sheet-x.ensures c.next_sheet-y.ensures h _ c.next_in-a.ensures _ c.next_in-b.ensures _ _ c.put_sheet-j.ensures.value c.put_sheet-j.ensures.out_after

pub returns : goal.returns
returns c = let h = listing_full _ _ _ _ _ _ _ _ _ _ _ c.loop-j.invariant c.loop-j-test.false in record { value = h.0; out_after = h.1 }
