use Rattle.reading.proofs.Scanning.{from_past}
use Rattle.reading.proofs.past_from.Goals as goal

pub returns : goal.returns
returns c = from_past c.args.s.now c.args.from c.if-from-ne0.false c.past_others.result c.past_others.ensures
