use native.Mathlib.Omega.{arith}
use Rattle.string_links.proofs.Laws.{texts_told}
use Rattle.string_links.proofs.tables.Tables.same_text.Goals as goal

pub returns-then-there-ne0 : goal.returns-then-there-ne0
returns-then-there-ne0 c =
    let x = c.args.self.now.first in
    let y = c.args.self.now.second in
    texts_told x.table x.marks.now y.table y.marks.now c.args.self.now.told _ _ _ _ c.link_of-here.ensures c.link_of-there.ensures (omega (arith, c.if-here-ne0.true)) (omega (arith, c.if-there-ne0.true))
