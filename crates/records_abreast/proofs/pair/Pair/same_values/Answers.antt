use Rattle.records_abreast.proofs.Pairs.{blank_says}
use Rattle.records_abreast.proofs.pair.Pair.same_values.Goals as goal

pub returns-in-513 : goal.returns-in-513
returns-in-513 c = blank_says c.args.self.now _ c.in-513.is
