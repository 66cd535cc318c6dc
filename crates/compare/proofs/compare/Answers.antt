use mathlib.Core.Path.{ap, ◌∙◌}
use native.Mathlib.Omega.{arith}
use Rattle.std.proofs.lemmas.Grind.{common_steps}
use lib.ListN.{length}
use Rattle.cell_differences.specs.Merge.{puts, put_to}
use Rattle.compare.proofs.Laws.{refuses_first, refuses_second, twice_first, twice_second, all_listed, words_are, listed_answer, listed_buffer}
use Rattle.compare.proofs.compare.Goals as goal

pub returns-in_err-g : goal.returns-in_err-g
returns-in_err-g c = let r = refuses_first _ _ c.args.from c.checked.ensures _ c.in_err-g.was in record { value = let a = r.answer (length c.args.out.now) in grind (arith, common_steps, a); out_after = r.buffer _ }

pub returns-in_err-h : goal.returns-in_err-h
returns-in_err-h c = let r = refuses_second _ _ c.args.from c.checked.ensures _ c.in_ok-g.was c.checked-2.ensures _ c.in_err-h.was in record { value = let a = r.answer (length c.args.out.now) in grind (arith, common_steps, a); out_after = r.buffer _ }

pub returns-in_err-up : goal.returns-in_err-up
returns-in_err-up c = let r = twice_first _ _ c.args.from c.checked.ensures _ c.in_ok-g.was c.checked-2.ensures _ c.in_ok-h.was c.ascends_once.ensures _ c.in_err-up.was in record { value = let a = r.answer (length c.args.out.now) in grind (arith, common_steps, a); out_after = r.buffer _ }

pub returns-in_err-down : goal.returns-in_err-down
returns-in_err-down c = let r = twice_second _ _ c.args.from c.checked.ensures _ c.in_ok-g.was c.checked-2.ensures _ c.in_ok-h.was c.ascends_once.ensures _ c.in_ok-up.was c.ascends_once-2.ensures _ c.in_err-down.was in record { value = let a = r.answer (length c.args.out.now) in grind (arith, common_steps, a); out_after = r.buffer _ }

pub returns : goal.returns
returns c =
    let e = all_listed _ _ c.args.from c.checked.ensures _ c.in_ok-g.was c.checked-2.ensures _ c.in_ok-h.was c.ascends_once.ensures _ c.in_ok-up.was c.ascends_once-2.ensures _ c.in_ok-down.was in
    let b = words_are _ _ c.args.from c.table_of.result c.table_of-2.result _ _ c.table_of.ensures.table c.table_of-2.ensures.table in
    record {
      value = listed_answer _ _ e _ _ (c.list_both-found.ensures.value ∙ ap (put_to (length c.args.out.now) 0) b) _ c.min.ensures;
      out_after = listed_buffer _ _ e _ _ (c.list_both-found.ensures.out_after ∙ ap (puts c.args.out.now 0) b);
    }
