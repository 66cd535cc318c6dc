use Rattle.formula.specs.Parts.{left}
use Rattle.formula.proofs.OneToken.{data_good}
use Rattle.formula.proofs.after_token.Goals as goal

pub returns : goal.returns
returns c =
    let p = c.args.place in
    data_good p.bytes.now p.offset p.depth (left c.args.seen) c.data.result c.data.ensures c.in-Some.size c.astray_after.result c.in-Some.is c.astray_after.ensures
